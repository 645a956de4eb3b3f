use native.Mathlib.Omega.{arith}
use mathlib.Core.Path.{sym, ◌∙◌}
use lib.ListN.{length}
use Rattle.text.proofs.Places.{Between-in}
use Rattle.json_strings.proofs.Laws.{pair-wrong, pair_ends, pair-raw, pair-other, pair_is, unit-in}
use Rattle.json_strings.proofs.pair_at.Goals as goal

pub returns-then-u-lt256 : goal.returns-then-u-lt256
returns-then-u-lt256 c =
    let args = c.args in
    let unit-at = c.unit_at in (
      pair-raw args.s.now args.at unit-at.ensures.0 args.high (λ e. let h = Between-in 0xd800 0xdbff args.high c.requires.high_value in omega arith) _ _ c.in-Of.is c.if-u-lt256.true,
      tt,
    )

pub overflow_sub-result : goal.overflow_sub-result
overflow_sub-result c = let h = Between-in 0xd800 0xdbff c.args.high c.requires.high_value in h.0

pub overflow_mul-result : goal.overflow_mul-result
overflow_mul-result c = let h = Between-in 0xd800 0xdbff c.args.high c.requires.high_value in omega arith

pub overflow_add-result : goal.overflow_add-result
overflow_add-result c = let h = Between-in 0xd800 0xdbff c.args.high c.requires.high_value in omega arith

pub overflow_sub-result-then-within : goal.overflow_sub-result-then-within
overflow_sub-result-then-within c = let k = Between-in 0xdc00 0xdfff _ (sym c.within.ensures ∙ c.if-within.true) in k.0

pub overflow_add-result-then-within : goal.overflow_add-result-then-within
overflow_add-result-then-within c =
    let args = c.args in
    let h = Between-in 0xd800 0xdbff args.high c.requires.high_value in let k = Between-in 0xdc00 0xdfff _ (sym c.within.ensures ∙ c.if-within.true)
    in omega arith

pub returns-then-within : goal.returns-then-within
returns-then-within c =
    let args = c.args in
    let unit-at = c.unit_at in
    let within = c.within in
    let w = unit-in args.at (length args.s.now) unit-at.ensures.1 c.in-Of.is in let h = Between-in 0xd800 0xdbff args.high c.requires.high_value
    in let k = Between-in 0xdc00 0xdfff _ (sym within.ensures ∙ c.if-within.true) in (
      pair_is args.s.now args.at unit-at.ensures.0 args.high (λ e. let h = Between-in 0xd800 0xdbff args.high c.requires.high_value in omega arith) _ _ c.in-Of.is c.if-u-lt256.false (sym within.ensures ∙ c.if-within.true),
      omega (arith, w),
    )

pub returns-in-Wrong : goal.returns-in-Wrong
returns-in-Wrong c =
    let args = c.args in
    let unit-at = c.unit_at in (
      pair-wrong args.s.now args.at unit-at.ensures.0 args.high (λ e. let h = Between-in 0xd800 0xdbff args.high c.requires.high_value in omega arith) c.in-Wrong.is,
      tt,
    )

pub returns-in-End : goal.returns-in-End
returns-in-End c =
    let args = c.args in
    let unit-at = c.unit_at in (
      pair_ends args.s.now args.at unit-at.ensures.0 args.high (λ e. let h = Between-in 0xd800 0xdbff args.high c.requires.high_value in omega arith) c.in-End.is,
      tt,
    )

pub returns-else-within : goal.returns-else-within
returns-else-within c =
    let args = c.args in
    let unit-at = c.unit_at in (
      pair-other args.s.now args.at unit-at.ensures.0 args.high (λ e. let h = Between-in 0xd800 0xdbff args.high c.requires.high_value in omega arith) _ _ c.in-Of.is c.if-u-lt256.false (sym c.within.ensures ∙ c.if-within.false),
      tt,
    )
