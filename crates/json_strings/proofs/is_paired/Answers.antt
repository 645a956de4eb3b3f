use native.Mathlib.Omega.{arith}
use mathlib.Core.Path.{refl, sym, ap, ◌∙◌}
use lib.ListN.{length}
use Rattle.text.specs.Choice.{is_some}
use Rattle.json_strings.proofs.Laws.{decoded-past, letter-in}
use Rattle.json_strings.proofs.Equal.{letter-alone, letter-end, letter-raw, letter-code}
use Rattle.json_strings.proofs.is_paired.Goals as goal

pub returns-then-at-s : goal.returns-then-at-s
returns-then-at-s c = sym (ap is_some (decoded-past c.args.s.now c.args.at c.if-at-s.true))

pub loop-b-init : goal.loop-b-init
loop-b-init c = (omega (arith, c.if-at-s.false), refl)

pub bare_end-from-requires : goal.bare_end-from-requires
bare_end-from-requires c = c.loop-b.invariant.0

pub letter_at-requires : goal.letter_at-requires
letter_at-requires c = c.bare_end-from.ensures.lower_bound.1

pub returns-in-Alone : goal.returns-in-Alone
returns-in-Alone c = sym (c.loop-b.invariant.1 ∙ c.bare_end-from.ensures.at_value ∙ letter-alone c.args.s.now c.letter_at.ensures.0 c.in-Alone.is)

pub returns-in-End : goal.returns-in-End
returns-in-End c = sym (c.loop-b.invariant.1 ∙ c.bare_end-from.ensures.at_value ∙ letter-end c.args.s.now c.letter_at.ensures.0 c.in-End.is)

pub loop-b-smaller-in-Raw : goal.loop-b-smaller-in-Raw
loop-b-smaller-in-Raw c = let h = letter-in c.bare_end-from.result (length c.args.s.now) c.letter_at.ensures.1 c.in-Raw.is in omega (arith, h.0, h.1, c.bare_end-from.ensures.lower_bound.0)

pub loop-b-preserved-in-Raw : goal.loop-b-preserved-in-Raw
loop-b-preserved-in-Raw c =
    let args = c.args in
    let loop = c.loop-b in
    let letter_at = c.letter_at in
    let s' = args.s.now in
    ((letter-in c.bare_end-from.result (length s') letter_at.ensures.1 c.in-Raw.is).1, loop.invariant.1 ∙ c.bare_end-from.ensures.at_value ∙ letter-raw s' letter_at.ensures.0 c.in-Raw.is)

pub loop-b-smaller : goal.loop-b-smaller
loop-b-smaller c = let h = letter-in c.bare_end-from.result (length c.args.s.now) c.letter_at.ensures.1 c.in-Code.is in omega (arith, h.0, h.1, c.bare_end-from.ensures.lower_bound.0)

pub loop-b-preserved : goal.loop-b-preserved
loop-b-preserved c =
    let args = c.args in
    let loop = c.loop-b in
    let letter_at = c.letter_at in
    let s' = args.s.now in
    ((letter-in c.bare_end-from.result (length s') letter_at.ensures.1 c.in-Code.is).1, loop.invariant.1 ∙ c.bare_end-from.ensures.at_value ∙ letter-code s' letter_at.ensures.0 c.in-Code.is)
