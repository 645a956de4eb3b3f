use native.Mathlib.Omega.{arith}
use mathlib.Core.Path.{refl}
use Rattle.json_index.proofs.Together.{byte-same, part-past, differs-first}
use Rattle.json_index.proofs.differs.Goals as goal

pub returns-then-at-s : goal.returns-then-at-s
returns-then-at-s c =
    let a = c.args in
    λ e h. part-past a.s.now a.at a.names.now a.a e c.if-at-s.true

pub returns : goal.returns
returns c =
    let a = c.args in
    let l = c.if-at-s.false in
    let m = c.if-a-names.false in
    let b = byte-same a.s.now a.at (omega (arith, l)) in
    differs-first a.s.now a.at a.names.now a.a (omega (arith, l)) (omega (arith, m)) _ b c.if-b-c.false c.if-b-eq92.false refl
