use native.Mathlib.Omega.{arith}
use mathlib.Core.Path.{sym, ◌∙◌}
use Rattle.text.proofs.Places.{passing-from, passing-in, passing-on, passing-end}
use Rattle.text.specs.Bytes.{is_digit}
use Rattle.json_text.proofs.Fine.{digit-256}
use Rattle.json_numbers.proofs.past_digits.Goals as goal

pub loop-i-init : goal.loop-i-init
loop-i-init c = passing-from is_digit c.args.s.now c.args.at c.requires

pub look-requires : goal.look-requires
look-requires c = c.loop-i.invariant.to

pub loop-i-smaller : goal.loop-i-smaller
loop-i-smaller c = let h = passing-in c.loop-i.invariant c.look.result c.look.ensures.0 digit-256 (sym c.is_digit.ensures ∙ c.loop-i-test.true) in omega arith

pub loop-i-preserved : goal.loop-i-preserved
loop-i-preserved c = passing-on c.loop-i.invariant c.look.result c.look.ensures.0 digit-256 (sym c.is_digit.ensures ∙ c.loop-i-test.true)

pub returns : goal.returns
returns c = passing-end c.loop-i.invariant c.look.result c.look.ensures.0 (sym c.is_digit.ensures ∙ c.loop-i-test.false)
