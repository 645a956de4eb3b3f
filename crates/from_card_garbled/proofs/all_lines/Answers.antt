use native.Mathlib.Omega.{arith}
use Rattle.from_card_garbled.proofs.Lines.{lines-whole, starts-long, scratch-long}
use Rattle.from_card_garbled.proofs.all_lines.Goals as goal

pub returns-then-starts-n : goal.returns-then-starts-n
returns-then-starts-n c = λ raw laid. absurd (omega (arith, starts-long laid, c.if-starts-n.true))

pub returns-then-scratch-end : goal.returns-then-scratch-end
returns-then-scratch-end c = λ raw laid. absurd (omega (arith, scratch-long laid, c.if-scratch-end.true))

pub returns : goal.returns
returns c = λ raw laid. lines-whole laid
