use native.Mathlib.Omega.{arith}
use mathlib.Core.Path.{sym, ap, ◌∙◌}
use Rattle.text.proofs.Places.{Between-in}
use Rattle.text.specs.Reader.{under}
use Rattle.json_escapes.specs.Units.{push}
use Rattle.json_escapes.proofs.Laws.{tells_as}
use Rattle.json_escapes.proofs.UnitLaws.{unit-end, unit-escape, unit-plain, unit-none}
use Rattle.json_escapes.proofs.unit_at.Goals as goal

pub returns-then-b-eq-QUOTE : goal.returns-then-b-eq-QUOTE
returns-then-b-eq-QUOTE c = (unit-end c.args.s.now c.args.at c.look-b.result c.look-b.ensures.0 c.if-b-eq-QUOTE.true, omega arith)

pub returns-in-Err : goal.returns-in-Err
returns-in-Err c =
    let args = c.args in
    let look = c.look-b in
    let if1 = c.if-b-eq-QUOTE in
    let if2 = c.if-b-eq-BACKSLASH in
    let escape-at = c.escape_at in
    let w = tells_as escape-at.ensures c.in-Err.is in (
      unit-escape args.s.now args.at look.result look.ensures.0 if1.false if2.true ∙ ap (under push) w.is,
      omega (arith, w.within),
    )

pub returns-in-Ok : goal.returns-in-Ok
returns-in-Ok c =
    let args = c.args in
    let look = c.look-b in
    let if1 = c.if-b-eq-QUOTE in
    let if2 = c.if-b-eq-BACKSLASH in
    let escape-at = c.escape_at in
    let w = tells_as escape-at.ensures c.in-Ok.is in (
      unit-escape args.s.now args.at look.result look.ensures.0 if1.false if2.true ∙ ap (under push) w.is,
      omega (arith, w.within),
    )

pub returns-then-in_range : goal.returns-then-in_range
returns-then-in_range c =
    let args = c.args in
    let look = c.look-b in
    let if1 = c.if-b-eq-QUOTE in
    let in-range = c.in_range in
    let h = Between-in 32 255 look.result (sym in-range.ensures ∙ c.if-in_range.true) in (
      unit-plain args.s.now args.at look.result look.ensures.0 if1.false c.if-b-eq-BACKSLASH.false (sym in-range.ensures ∙ c.if-in_range.true),
      omega arith,
    )

pub returns : goal.returns
returns c =
    let args = c.args in
    let look = c.look-b in
    let if1 = c.if-b-eq-QUOTE in (
      unit-none args.s.now args.at look.result look.ensures.0 if1.false c.if-b-eq-BACKSLASH.false (sym c.in_range.ensures ∙ c.if-in_range.false),
      omega arith,
    )
