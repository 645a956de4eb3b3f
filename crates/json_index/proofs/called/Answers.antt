use native.Mathlib.Omega.{arith}
use Rattle.json_strings.specs.Decoded.{decoded_at}
use Rattle.json_index.proofs.Names.{is-this, is_none, is_later}
use Rattle.json_index.proofs.Together.{tried-as, skims-first}
use Rattle.json_index.proofs.called.Goals as goal

pub loop-p-init : goal.loop-p-init
loop-p-init c = (omega arith, omega arith, omega arith)

pub try_name-requires : goal.try_name-requires
try_name-requires c = c.loop-p.invariant.0

pub returns-in-Ok : goal.returns-in-Ok
returns-in-Ok c =
    let a = c.args in
    let l = c.loop-p in
    let t = tried-as a.s.now a.at a.names.now l.a c.try_name.ensures c.in-Ok.is in
    record { number_value = is-this (decoded_at a.s.now a.at) a.names.now l.a t.1 t.2 l.k _ l.invariant.2 t.3; skims = t.0 }

pub overflow_add-k : goal.overflow_add-k
overflow_add-k c = omega (arith, c.loop-p.invariant.0, c.loop-p.invariant.1)

pub returns-then-e-names : goal.returns-then-e-names
returns-then-e-names c =
    let a = c.args in
    let l = c.loop-p in
    let t = tried-as a.s.now a.at a.names.now l.a c.try_name.ensures c.in-Err.is in
    record { number_value = is_none (decoded_at a.s.now a.at) a.names.now l.a _ t.0 l.k _ l.invariant.2 t.1 c.if-e-names.true; skims = skims-first a.s.now a.at }

pub overflow_add-a : goal.overflow_add-a
overflow_add-a c = omega (arith, c.if-e-names.false)

pub loop-p-smaller : goal.loop-p-smaller
loop-p-smaller c =
    let a = c.args in
    let t = tried-as a.s.now a.at a.names.now c.loop-p.a c.try_name.ensures c.in-Err.is in
    omega (arith, c.if-e-names.false, t.0.from)

pub loop-p-preserved : goal.loop-p-preserved
loop-p-preserved c =
    let a = c.args in
    let l = c.loop-p in
    let t = tried-as a.s.now a.at a.names.now l.a c.try_name.ensures c.in-Err.is in
    let s = c.if-e-names.false in (
      omega (arith, s),
      omega (arith, t.0.from, l.invariant.1),
      is_later (decoded_at a.s.now a.at) a.names.now l.a _ t.0 l.k _ l.invariant.2 t.1 s,
    )
