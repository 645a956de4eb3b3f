use Prim.Native.Nat.{◌+◌}
use native.Mathlib.Omega.{arith}
use Rattle.line.specs.Class.{is_quotable}
use Rattle.line_scan.proofs.Reading.{run-within}
use Rattle.line_scan.proofs.ValueTurns.{quoted, unclosed, bare}
use Rattle.line_scan.proofs.value_at.Goals as goal

pub look-requires-then-look-eq-QUOTE : goal.look-requires-then-look-eq-QUOTE
look-requires-then-look-eq-QUOTE c = run-within is_quotable c.args.s.now (c.args.at + 1) _ c.run_end-e.ensures (omega (arith, c.look.ensures.1))

pub returns-then-look-eq-QUOTE-2 : goal.returns-then-look-eq-QUOTE-2
returns-then-look-eq-QUOTE-2 c =
    let args = c.args in
    let look = c.look in
    let if1 = c.if-look-eq-QUOTE in
    let look2 = c.look-then-look-eq-QUOTE in
    quoted args.s.now args.at _ look.ensures.0 _ _ c.run_end-e.ensures look2.ensures.0 if1.true c.if-look-eq-QUOTE-2.true
    (omega (arith, look.ensures.1)) (omega (arith, look2.ensures.1))

pub returns-then-look-eq-QUOTE : goal.returns-then-look-eq-QUOTE
returns-then-look-eq-QUOTE c =
    let args = c.args in
    let look = c.look in
    let if1 = c.if-look-eq-QUOTE in
    unclosed args.s.now args.at _ look.ensures.0 _ _ c.run_end-e.ensures c.look-then-look-eq-QUOTE.ensures.0 if1.true
    c.if-look-eq-QUOTE-2.false

pub returns : goal.returns
returns c = bare c.args.s.now c.args.at _ c.look.ensures.0 _ c.run_end-e-2.ensures c.if-look-eq-QUOTE.false c.requires
