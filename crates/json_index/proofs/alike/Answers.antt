use mathlib.Core.Path.{refl, subst}
use native.Mathlib.Omega.{arith}
use Rattle.json_index.specs.Index.{Together}
use Rattle.json_index.proofs.Together.{raw-as, byte-same, together-first, together-on, skims-first, skims-on}
use Rattle.json_index.proofs.alike.Goals as goal

pub loop-k-init : goal.loop-k-init
loop-k-init c =
    let a = c.args in
    (omega arith, omega arith, together-first a.s.now a.at a.names.now a.a, skims-first a.s.now a.at)

pub returns-then-c-eq44 : goal.returns-then-c-eq44
returns-then-c-eq44 c =
    let a = c.args in
    let l = c.loop-k in
    record { from = l.invariant.0; skims = l.invariant.3; so_far = subst (Together a.s.now a.at a.names.now a.a l.i) l.invariant.1 l.invariant.2 }

pub returns-then-i-s : goal.returns-then-i-s
returns-then-i-s c =
    let a = c.args in
    let l = c.loop-k in
    record { from = l.invariant.0; skims = l.invariant.3; so_far = subst (Together a.s.now a.at a.names.now a.a l.i) l.invariant.1 l.invariant.2 }

pub returns-then-s-i : goal.returns-then-s-i
returns-then-s-i c =
    let a = c.args in
    let l = c.loop-k in
    record { from = l.invariant.0; skims = l.invariant.3; so_far = subst (Together a.s.now a.at a.names.now a.a l.i) l.invariant.1 l.invariant.2 }

pub returns-then-not-is_raw : goal.returns-then-not-is_raw
returns-then-not-is_raw c =
    let a = c.args in
    let l = c.loop-k in
    record { from = l.invariant.0; skims = l.invariant.3; so_far = subst (Together a.s.now a.at a.names.now a.a l.i) l.invariant.1 l.invariant.2 }

pub loop-k-preserved : goal.loop-k-preserved
loop-k-preserved c =
    let a = c.args in
    let l = c.loop-k in
    let w = c.is_raw in
    let q = c.if-not-is_raw.false in
    let i = c.if-i-s.false in
    let b = byte-same a.s.now l.i (omega (arith, i)) in
    let raw = raw-as _ {r = w.result} w.ensures q in (
      omega (arith, l.invariant.0),
      omega (arith, l.invariant.0, l.invariant.1),
      together-on a.s.now a.at a.names.now a.a l.i l.k l.invariant.2 c.loop-k-test.true _ _ b refl c.if-c-eq44.false c.if-s-i.false raw,
      skims-on a.s.now a.at l.i l.invariant.3 (omega (arith, i)) c.if-s-i.false raw,
    )

pub returns : goal.returns
returns c =
    let a = c.args in
    let l = c.loop-k in
    record { from = l.invariant.0; skims = l.invariant.3; so_far = subst (Together a.s.now a.at a.names.now a.a l.i) l.invariant.1 l.invariant.2 }
