use native.Mathlib.Omega.{arith}
use mathlib.Core.Path.{refl, sym, ap, ◌∙◌}
use mathlib.Core.Bool.{not}
use Rattle.text.specs.Bytes.{any}
use Rattle.line.specs.Class.{is_control}
use Rattle.from_card_garbled.proofs.Lines.{garbled_in, none_at_all, sought-on, sought-here, sought-end}
use Rattle.from_card_garbled.proofs.first_garbled.Goals as goal

pub returns-then-not-has_odd : goal.returns-then-not-has_odd
returns-then-not-has_odd c = none_at_all c.all_lines-all.result.now c.all_lines-all.ensures (sym c.has_odd.ensures ∙ c.if-not-has_odd.true)

pub loop-k-init : goal.loop-k-init
loop-k-init c = λ raw laid. refl

pub returns-then-is_garbled_in : goal.returns-then-is_garbled_in
returns-then-is_garbled_in c =
    let all_lines = c.all_lines-all in
    let line_at_lem = c.line_at in
    let is-garbled-in = c.is_garbled_in in
    sought-here c.loop-k.invariant all_lines.result.now all_lines.ensures c.loop-k-test.true is-garbled-in.result
    (is-garbled-in.ensures ∙ ap (λ x. garbled_in (not x) line_at_lem.result.now) c.has_control-clean.ensures ∙ ap
    (garbled_in (not (any is_control all_lines.result.now))) line_at_lem.ensures)
    c.if-is_garbled_in.true

pub loop-k-preserved : goal.loop-k-preserved
loop-k-preserved c =
    let all_lines = c.all_lines-all in
    let line_at_lem = c.line_at in
    let is-garbled-in = c.is_garbled_in in
    sought-on c.loop-k.invariant all_lines.result.now all_lines.ensures c.loop-k-test.true is-garbled-in.result
    (is-garbled-in.ensures ∙ ap (λ x. garbled_in (not x) line_at_lem.result.now) c.has_control-clean.ensures ∙ ap
    (garbled_in (not (any is_control all_lines.result.now))) line_at_lem.ensures)
    c.if-is_garbled_in.false

pub returns : goal.returns
returns c = sought-end c.loop-k.invariant (omega (arith, c.loop-k-test.false))
