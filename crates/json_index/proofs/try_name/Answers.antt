use native.Mathlib.Omega.{arith}
use mathlib.Core.Path.{sym, ◌∙◌}
use Rattle.json_index.proofs.Together.{differs-as}
use Rattle.json_index.proofs.try_name.Goals as goal

pub returns-then-differs : goal.returns-then-differs
returns-then-differs c =
    let a = c.args in
    let d = c.differs in
    let n = c.name_stop in
    (n.ensures, differs-as a.s.now a.at a.names.now a.a {r = d.result} d.ensures c.if-differs.true n.result n.ensures)

pub overflow_add-m : goal.overflow_add-m
overflow_add-m c = omega (arith, c.alike-p.ensures.so_far.within c.requires)

pub is_part-requires : goal.is_part-requires
is_part-requires c =
    let n = c.name_stop-e.ensures in
    record { name_ends = n; e_in_bounds = n.within (c.alike-p.ensures.so_far.within c.requires) }

pub returns-then-is_part : goal.returns-then-is_part
returns-then-is_part c =
    let h = c.alike-p.ensures.so_far in
    let n = c.name_stop-e in
    (c.alike-p.ensures.skims, n.result, h.ends _ n.ensures, h.same _ n.ensures.from ∙ sym c.is_part.ensures ∙ c.if-is_part.true)

pub returns : goal.returns
returns c =
    let h = c.alike-p.ensures.so_far in
    let n = c.name_stop-e in
    (h.ends _ n.ensures, h.same _ n.ensures.from ∙ sym c.is_part.ensures ∙ c.if-is_part.false)
