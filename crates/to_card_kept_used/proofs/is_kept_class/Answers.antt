-- No loop: one answer for each class, which `kept-as` carries from the class that was matched to the one that was given. A line of class Kept is
-- kept; one that converts whatever was seen before it is not, by computing or by `kept_entry`. A PROP-ID is looked up among the keys of its map
-- (`kept-keyed`), a pointer among the card's members (`kept-member`): where it is used there, the line is kept. `ClassIn` says that the part of b
-- is a good one.
use mathlib.Core.Path.{refl, subst}
use Rattle.class_line.specs.Class.{ClassIn}
use Rattle.convert_pointer.proofs.Pointers.{is-pointing}
use Rattle.to_card_kept_used.proofs.Standing.{part-fits, kept-as, kept_entry, kept-keyed, kept-member}
use Rattle.to_card_kept_used.proofs.is_kept_class.Goals as goal

pub slice_bounds-id_used-count : goal.slice_bounds-id_used-count
slice_bounds-id_used-count c =
    let w = subst (ClassIn c.args.b.now) c.in-Keyed.is c.requires.map_slots_in_bounds.2 in
    w.1.ordered

pub slice_bounds-id_used-start : goal.slice_bounds-id_used-start
slice_bounds-id_used-start c =
    let w = subst (ClassIn c.args.b.now) c.in-Keyed.is c.requires.map_slots_in_bounds.2 in
    w.1.ordered

pub slice_bounds-id_used-end : goal.slice_bounds-id_used-end
slice_bounds-id_used-end c =
    let w = subst (ClassIn c.args.b.now) c.in-Keyed.is c.requires.map_slots_in_bounds.2 in
    w.1.within

pub id_used-requires : goal.id_used-requires
id_used-requires c =
    let w = subst (ClassIn c.args.b.now) c.in-Keyed.is c.requires.map_slots_in_bounds.2 in
    record { i_lt_map_count = (w.0, c.requires.map_slots_in_bounds.0); indexes = c.requires.indexes }

pub slice_bounds-pointer_used-count : goal.slice_bounds-pointer_used-count
slice_bounds-pointer_used-count c =
    let w = subst (ClassIn c.args.b.now) c.in-Member.is c.requires.map_slots_in_bounds.2 in
    w.span.ordered

pub slice_bounds-pointer_used-start : goal.slice_bounds-pointer_used-start
slice_bounds-pointer_used-start c =
    let w = subst (ClassIn c.args.b.now) c.in-Member.is c.requires.map_slots_in_bounds.2 in
    w.span.ordered

pub slice_bounds-pointer_used-end : goal.slice_bounds-pointer_used-end
slice_bounds-pointer_used-end c =
    let w = subst (ClassIn c.args.b.now) c.in-Member.is c.requires.map_slots_in_bounds.2 in
    w.span.within

pub pointer_used-requires : goal.pointer_used-requires
pointer_used-requires c =
    let w = subst (ClassIn c.args.b.now) c.in-Member.is c.requires.map_slots_in_bounds.2 in
    record {
      pointing = (is-pointing _ w.name w.is, part-fits c.args.b.now c.in-Member.start c.in-Member.end _ c.requires.map_slots_in_bounds.1, c.requires.map_slots_in_bounds.0);
      indexes = c.requires.indexes;
    }

pub returns-in-Kept : goal.returns-in-Kept
returns-in-Kept c = let a = c.args in kept-as a.s.now a.slots.now a.b.now _ c.in-Kept.is (λ k w u. refl)

pub returns-in-Dropped : goal.returns-in-Dropped
returns-in-Dropped c = let a = c.args in kept-as a.s.now a.slots.now a.b.now _ c.in-Dropped.is (λ k w u. refl)

pub returns-in-Version : goal.returns-in-Version
returns-in-Version c = let a = c.args in kept-as a.s.now a.slots.now a.b.now _ c.in-Version.is (λ k w u. refl)

pub returns-in-Uid : goal.returns-in-Uid
returns-in-Uid c = let a = c.args in kept-as a.s.now a.slots.now a.b.now _ c.in-Uid.is (λ k w u. refl)

pub returns-in-Kind : goal.returns-in-Kind
returns-in-Kind c = let a = c.args in kept-as a.s.now a.slots.now a.b.now _ c.in-Kind.is (λ k w u. refl)

pub returns-in-Full : goal.returns-in-Full
returns-in-Full c = let a = c.args in kept-as a.s.now a.slots.now a.b.now _ c.in-Full.is (λ k w u. refl)

pub returns-in-Parts : goal.returns-in-Parts
returns-in-Parts c = let a = c.args in kept-as a.s.now a.slots.now a.b.now _ c.in-Parts.is (λ k w u. refl)

pub returns-in-Entry : goal.returns-in-Entry
returns-in-Entry c =
    let w = subst (ClassIn c.args.b.now) c.in-Entry.is c.requires.map_slots_in_bounds.2 in
    kept-as c.args.s.now c.args.slots.now c.args.b.now _ c.in-Entry.is (kept_entry c.args.s.now c.args.slots.now c.args.b.now _ w)

pub returns-in-Keyed : goal.returns-in-Keyed
returns-in-Keyed c =
    let w = subst (ClassIn c.args.b.now) c.in-Keyed.is c.requires.map_slots_in_bounds.2 in
    kept-as c.args.s.now c.args.slots.now c.args.b.now _ c.in-Keyed.is (kept-keyed c.args.s.now c.args.slots.now c.args.b.now c.in-Keyed.map c.in-Keyed.start c.in-Keyed.end _ w.0 c.id_used.ensures)

pub returns-in-Member : goal.returns-in-Member
returns-in-Member c =
    let w = subst (ClassIn c.args.b.now) c.in-Member.is c.requires.map_slots_in_bounds.2 in
    kept-as c.args.s.now c.args.slots.now c.args.b.now _ c.in-Member.is (kept-member c.args.s.now c.args.slots.now c.args.b.now c.in-Member.start c.in-Member.end _ w c.pointer_used.ensures)
