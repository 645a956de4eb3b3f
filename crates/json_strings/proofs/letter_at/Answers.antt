use native.Mathlib.Omega.{arith}
use mathlib.Core.Path.{sym, ◌∙◌}
use lib.ListN.{length}
use Rattle.json_strings.proofs.Laws.{wrong-is, end_is, raw-is, high_is, low-is, code_is, unit-in, letter-up}
use Rattle.json_strings.proofs.letter_at.Goals as goal

pub returns-then-u-lt256 : goal.returns-then-u-lt256
returns-then-u-lt256 c =
    let args = c.args in
    let unit-at = c.unit_at in
    let w = unit-in args.at (length args.s.now) unit-at.ensures.1 c.in-Of.is in
    (raw-is args.s.now args.at unit-at.ensures.0 _ _ c.in-Of.is c.if-u-lt256.true, (w.0, w.1))

pub pair_at-requires : goal.pair_at-requires
pair_at-requires c =
    let args = c.args in
    let unit-at = c.unit_at in
    let w = unit-in args.at (length args.s.now) unit-at.ensures.1 c.in-Of.is in
    record { at_in_bounds = w.1; high_value = sym c.within.ensures ∙ c.if-within.true }

pub returns-then-within : goal.returns-then-within
returns-then-within c =
    let args = c.args in
    let unit-at = c.unit_at in
    let if1 = c.if-u-lt256 in
    let w = unit-in args.at (length args.s.now) unit-at.ensures.1 c.in-Of.is in (
      high_is args.s.now args.at unit-at.ensures.0 _ _ c.in-Of.is if1.false (sym c.within.ensures ∙ c.if-within.true) ∙ c.pair_at.ensures.0,
      letter-up _ _ (length args.s.now) c.pair_at.result w.0 c.pair_at.ensures.1,
    )

pub returns-then-within-2 : goal.returns-then-within-2
returns-then-within-2 c =
    let args = c.args in
    let unit-at = c.unit_at in
    let if1 = c.if-u-lt256 in
    let within = c.within in (
      low-is args.s.now args.at unit-at.ensures.0 _ _ c.in-Of.is if1.false (sym within.ensures ∙ c.if-within.false) (sym c.within-in-Of.ensures ∙ c.if-within-2.true),
      tt,
    )

pub returns-in-Wrong : goal.returns-in-Wrong
returns-in-Wrong c = (wrong-is c.args.s.now c.args.at c.unit_at.ensures.0 c.in-Wrong.is, tt)

pub returns-in-End : goal.returns-in-End
returns-in-End c =
    let args = c.args in
    let unit-at = c.unit_at in
    let w = unit-in args.at (length args.s.now) unit-at.ensures.1 c.in-End.is in
    (end_is args.s.now args.at unit-at.ensures.0 c.in-End.is, omega (arith, w))

pub returns-else-within-2 : goal.returns-else-within-2
returns-else-within-2 c =
    let args = c.args in
    let unit-at = c.unit_at in
    let if1 = c.if-u-lt256 in
    let within = c.within in
    let w = unit-in args.at (length args.s.now) unit-at.ensures.1 c.in-Of.is in (
      code_is args.s.now args.at unit-at.ensures.0 _ _ c.in-Of.is if1.false (sym within.ensures ∙ c.if-within.false) (sym c.within-in-Of.ensures ∙ c.if-within-2.false),
      omega (arith, w),
    )
