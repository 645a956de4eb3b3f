use native.Mathlib.Omega.{arith}
use borrow.Author.Tests.{eq-eqb, ne_eqb, le-leb, lt-leb}
use Rattle.line_text.specs.Split.{char_end}
use Rattle.line_text.proofs.char_end.Goals as goal

pub returns-then-e-s : goal.returns-then-e-s
unfolding char_end
returns-then-e-s c = rw (le-leb _ _ c.if-e-s.true)

pub returns-then-s-i-eq92 : goal.returns-then-s-i-eq92
unfolding char_end
returns-then-s-i-eq92 c = rw (lt-leb _ _ c.if-e-s.false, eq-eqb _ _ c.if-s-i-eq92.true) (omega arith)

pub returns : goal.returns
unfolding char_end
returns c = rw (lt-leb _ _ c.if-e-s.false, ne_eqb _ _ c.if-s-i-eq92.false)
