use native.Mathlib.Omega.{arith}
use Rattle.json_text.specs.Syntax.{hex4}
use Rattle.json_escapes.proofs.Laws.{tells-handed}
use Rattle.json_escapes.proofs.code_at.Goals as goal

pub returns-in_err-a : goal.returns-in_err-a
unfolding hex4
returns-in_err-a c =
    let w = c.in_err-a.ensures in
    tells-handed c.from_residual.ensures.1 (record { is = rw w.is; within = w.within })

pub returns-in_err-b : goal.returns-in_err-b
unfolding hex4
returns-in_err-b c =
    let p = c.in_ok-a.ensures in let w = c.in_err-b.ensures in
    tells-handed c.from_residual-in_err-b.ensures.1 (record { is = rw (p.is, w.is); within = omega (arith, p.within, w.within) })

pub returns-in_err-c : goal.returns-in_err-c
unfolding hex4
returns-in_err-c c =
    let p = c.in_ok-a.ensures in let q = c.in_ok-b.ensures in let w = c.in_err-c.ensures in
    tells-handed c.from_residual-in_err-c.ensures.1
    (record { is = rw (p.is, q.is, w.is); within = omega (arith, p.within, q.within, w.within) })

pub returns-in_err-d : goal.returns-in_err-d
unfolding hex4
returns-in_err-d c =
    let p = c.in_ok-a.ensures in let q = c.in_ok-b.ensures in let r = c.in_ok-c.ensures in let w = c.in_err-d.ensures in
    tells-handed c.from_residual-in_err-d.ensures.1
    (record { is = rw (p.is, q.is, r.is, w.is); within = omega (arith, p.within, q.within, r.within, w.within) })

pub returns : goal.returns
unfolding hex4
returns c =
    let p = c.in_ok-a.ensures in let q = c.in_ok-b.ensures in let r = c.in_ok-c.ensures in let t = c.in_ok-d.ensures in
    record { is = rw (p.is, q.is, r.is, t.is); within = omega (arith, p.within, q.within, r.within, t.within) }
