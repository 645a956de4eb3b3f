use mathlib.Core.Path.{sym}
use Rattle.line_write.proofs.Folding.{width-0, width-1, width-2, width-3, width-4}
use Rattle.line_write.proofs.char_width.Goals as goal

pub returns-then-c-lt128 : goal.returns-then-c-lt128
returns-then-c-lt128 c = sym (width-1 _ c.if-c-lt128.true)

pub returns-then-c-lt192 : goal.returns-then-c-lt192
returns-then-c-lt192 c = sym (width-0 _ c.if-c-lt128.false c.if-c-lt192.true)

pub returns-then-c-lt224 : goal.returns-then-c-lt224
returns-then-c-lt224 c = sym (width-2 _ c.if-c-lt192.false c.if-c-lt224.true)

pub returns-then-c-lt240 : goal.returns-then-c-lt240
returns-then-c-lt240 c = sym (width-3 _ c.if-c-lt224.false c.if-c-lt240.true)

pub returns : goal.returns
returns c = sym (width-4 _ c.if-c-lt240.false)
