use mathlib.Core.Bool.{not}
use mathlib.Core.Path.{sym, ap, ◌∙◌}
use mathlib.Core.Bool.{false}
use native.Mathlib.Omega.{arith}
use Rattle.text.specs.Choice.{is_some}
use Rattle.text.proofs.Cases.{not-false}
use Rattle.convert.specs.Classify.{member_value}
use Rattle.convert_entry.proofs.Tests.{held_first}
use Rattle.table_entry.proofs.Entry.{value-is}
use Rattle.class_member.proofs.Members.{member-many, member-others, member-unbare, member-unpointed, member-head, member-section, member-invalid, member-at}
use Rattle.class_member.proofs.member_class.Goals as goal

pub returns-then-rows-ne1 : goal.returns-then-rows-ne1
returns-then-rows-ne1 c =
    member-many c.args.s.now
    c.args.t.now c.requires.0.row
    c.if-rows-ne1.true

pub returns-then-not-none_but_pointer : goal.returns-then-not-none_but_pointer
returns-then-not-none_but_pointer c =
    member-others c.args.s.now
    c.args.t.now
    c.requires.0.row (sym c.none_but_pointer.ensures ∙ c.if-not-none_but_pointer.true)

pub returns-then-not-is_bare : goal.returns-then-not-is_bare
returns-then-not-is_bare c =
    member-unbare c.args.s.now
    c.args.t.now
    c.requires.0.row
    (c.is_bare.ensures ∙ c.if-not-is_bare.true)

pub slice_bounds-is_pointer-count : goal.slice_bounds-is_pointer-count
slice_bounds-is_pointer-count c =
    let v = held_first (c.requires.0.row.held 4 (omega arith))
    (λ e. omega (arith, c.if-rows-ne1.false)) in omega (arith, v.ordered, v.within)

pub slice_bounds-is_pointer-start : goal.slice_bounds-is_pointer-start
slice_bounds-is_pointer-start c =
    let v = held_first (c.requires.0.row.held 4 (omega arith))
    (λ e. omega (arith, c.if-rows-ne1.false)) in omega (arith, v.ordered, v.within)

pub slice_bounds-is_pointer-end : goal.slice_bounds-is_pointer-end
slice_bounds-is_pointer-end c =
    let v = held_first (c.requires.0.row.held 4 (omega arith))
    (λ e. omega (arith, c.if-rows-ne1.false)) in omega (arith, v.ordered, v.within)

pub returns-then-not-is_pointer : goal.returns-then-not-is_pointer
returns-then-not-is_pointer c =
    member-unpointed
    c.args.s.now
    c.args.t.now
    c.requires.0.row
    c.if-rows-ne1.false
    (sym c.none_but_pointer.ensures ∙ c.if-not-none_but_pointer.false)
    (sym c.is_pointer.ensures ∙ c.if-not-is_pointer.true)

pub slice_bounds-is_head-count : goal.slice_bounds-is_head-count
slice_bounds-is_head-count c =
    let v = held_first
    (c.requires.0.row.held 4 (omega arith))
    (λ e. omega (arith, c.if-rows-ne1.false)) in omega (arith, v.ordered, v.within)

pub slice_bounds-is_head-start : goal.slice_bounds-is_head-start
slice_bounds-is_head-start c =
    let v = held_first
    (c.requires.0.row.held 4 (omega arith))
    (λ e. omega (arith, c.if-rows-ne1.false)) in omega (arith, v.ordered, v.within)

pub slice_bounds-is_head-end : goal.slice_bounds-is_head-end
slice_bounds-is_head-end c =
    let v = held_first
    (c.requires.0.row.held 4 (omega arith))
    (λ e. omega (arith, c.if-rows-ne1.false)) in omega (arith, v.ordered, v.within)

pub returns-then-is_head : goal.returns-then-is_head
returns-then-is_head c =
    member-head c.args.s.now
    c.args.t.now
    c.requires.0.row
    c.if-rows-ne1.false (sym
    c.none_but_pointer.ensures ∙ not-false _
    (ap not c.if-not-none_but_pointer.false)) (sym c.is_pointer.ensures ∙ not-false
    _ (ap not c.if-not-is_pointer.false)) c.is_head.result false c.is_head.ensures c.if-is_head.true

pub slice_bounds-is_section-count : goal.slice_bounds-is_section-count
slice_bounds-is_section-count c =
    let v = held_first
    (c.requires.0.row.held
    4 (omega arith)) (λ e. omega (arith, c.if-rows-ne1.false)) in omega (
      arith,
      v.ordered,
      v.within,
    )

pub slice_bounds-is_section-start : goal.slice_bounds-is_section-start
slice_bounds-is_section-start c =
    let v = held_first
    (c.requires.0.row.held
    4 (omega arith)) (λ e. omega (arith, c.if-rows-ne1.false)) in omega (
      arith,
      v.ordered,
      v.within,
    )

pub slice_bounds-is_section-end : goal.slice_bounds-is_section-end
slice_bounds-is_section-end c =
    let v = held_first
    (c.requires.0.row.held
    4 (omega arith)) (λ e. omega (arith, c.if-rows-ne1.false)) in omega (
      arith,
      v.ordered,
      v.within,
    )

pub returns-then-is_section : goal.returns-then-is_section
returns-then-is_section c =
    member-section c.args.s.now
    c.args.t.now
    c.requires.0.row
    c.if-rows-ne1.false (sym
    c.none_but_pointer.ensures ∙ not-false _
    (ap not c.if-not-none_but_pointer.false)) (sym
    c.is_pointer.ensures ∙ c.if-not-is_pointer.false)
    c.is_head.result c.is_section.result c.is_head.ensures
    c.if-is_head.false c.is_section.ensures c.if-is_section.true

pub returns-then-not-is_json : goal.returns-then-not-is_json
returns-then-not-is_json c =
    member-invalid c.args.s.now
    c.args.t.now
    c.requires.0.row
    c.if-rows-ne1.false
    (sym
    c.none_but_pointer.ensures
    ∙ not-false _
    (ap not c.if-not-none_but_pointer.false))
    (sym c.is_pointer.ensures ∙ not-false _
    (ap not c.if-not-is_pointer.false))
    c.is_head.result
    c.is_section.result
    c.is_head.ensures
    c.if-is_head.false
    c.is_section.ensures (ap (λ u. is_some (member_value u)) (value-is c.args.s.now
    c.args.t.now)
    ∙ sym c.is_json.ensures ∙ c.if-not-is_json.true)

pub returns : goal.returns
returns c =
    let v = held_first
    (c.requires.0.row.held
    4 (omega arith)) (λ e. omega (
      arith,
      c.if-rows-ne1.false,
    ))
    in member-at c.args.s.now
    c.args.t.now
    c.requires.0.row
    c.if-rows-ne1.false
    (sym
    c.none_but_pointer.ensures
    ∙ not-false _
    (ap not c.if-not-none_but_pointer.false))
    (sym c.is_pointer.ensures ∙ not-false _
    (ap not c.if-not-is_pointer.false))
    c.is_head.result
    c.is_section.result
    c.is_head.ensures
    c.if-is_head.false
    c.is_section.ensures
    c.if-is_section.false
    (c.is_bare.ensures
    ∙ not-false _
    (ap not c.if-not-is_bare.false))
    (ap (λ u. is_some (member_value u)) (value-is c.args.s.now
    c.args.t.now)
    ∙ sym c.is_json.ensures ∙ c.if-not-is_json.false) (record { ordered = v.ordered; within = v.within })
