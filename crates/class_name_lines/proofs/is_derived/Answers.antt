use mathlib.Core.Path.{sym, ◌∙◌}
use native.Mathlib.Omega.{arith}
use Rattle.convert_entry.proofs.Tests.{held_first}
use Rattle.class_name_lines.proofs.Derived.{derived-many, derived-others, derived-true}
use Rattle.class_name_lines.proofs.is_derived.Goals as goal

pub returns-then-rows-ne1 : goal.returns-then-rows-ne1
returns-then-rows-ne1 c =
    derived-many c.args.s.now c.args.t.now
    c.requires.row c.if-rows-ne1.true

pub returns-then-not-none_but_derived : goal.returns-then-not-none_but_derived
returns-then-not-none_but_derived c =
    derived-others c.args.s.now
    c.args.t.now
    c.requires.row (sym c.none_but_derived.ensures ∙ c.if-not-none_but_derived.true)

pub slice_bounds-is_named-count : goal.slice_bounds-is_named-count
slice_bounds-is_named-count c =
    let v = held_first (c.requires.row.held 5 (omega arith)) (λ e. omega arith) in omega
    (arith, v.ordered, v.within)

pub slice_bounds-is_named-start : goal.slice_bounds-is_named-start
slice_bounds-is_named-start c =
    let v = held_first (c.requires.row.held 5 (omega arith)) (λ e. omega arith) in omega
    (arith, v.ordered, v.within)

pub slice_bounds-is_named-end : goal.slice_bounds-is_named-end
slice_bounds-is_named-end c =
    let v = held_first (c.requires.row.held 5 (omega arith)) (λ e. omega arith) in omega
    (arith, v.ordered, v.within)

pub returns : goal.returns
returns c =
    derived-true c.args.s.now
    c.args.t.now
    c.requires.row
    c.if-rows-ne1.false
    (sym c.none_but_derived.ensures ∙ c.if-not-none_but_derived.false) ∙ sym
    c.is_named.ensures
