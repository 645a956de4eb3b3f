use native.Mathlib.Omega.{arith}
use mathlib.Core.Path.{sym, ◌∙◌}
use Rattle.text.specs.Reader.{bad}
use Rattle.text.specs.Bytes.{between}
use Rattle.text.proofs.Places.{Between-in, by-on, not_on, by-under, bad-here}
use Rattle.json_text.specs.Syntax.{following}
use Rattle.json_chars.proofs.wide_end.Goals as goal

pub tails_end-requires : goal.tails_end-requires
tails_end-requires c = let l = Between-in c.args.low c.args.high c.look-b.result (sym c.in_range.ensures ∙ c.if-in_range.true) in omega arith

pub returns-then-in_range : goal.returns-then-in_range
unfolding following
returns-then-in_range c = by-on (between c.args.low c.args.high) _ bad c.look-b.ensures.0 (sym c.in_range.ensures ∙ c.if-in_range.true) (by-under _ c.tails_end.ensures)

pub returns : goal.returns
unfolding following
returns c = not_on (between c.args.low c.args.high) _ bad c.look-b.ensures.0 (sym c.in_range.ensures ∙ c.if-in_range.false) (bad-here c.args.at c.requires)
