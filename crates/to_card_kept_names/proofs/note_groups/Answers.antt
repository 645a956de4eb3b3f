use mathlib.Core.Path.{refl, sym, ◌∙◌}
use Prim.Native.Nat.{◌+◌, ◌-◌}
use native.Mathlib.Nat.{le_refl}
use native.Mathlib.Omega.{arith}
use lib.ListN.{length, length-set}
use borrow.Rule.Slice.PartMut.{same_len_mid}
use Rattle.to_card_kept_names.proofs.Groups.{mids-even, mid-long, filled_none, filled_on, indexed, rows_in, rows-noted}
use Rattle.to_card_kept_names.proofs.note_groups.Goals as goal

pub bounds-ends-0 : goal.bounds-ends-0
bounds-ends-0 c = omega (arith, c.requires.ends_len.0)

pub loop-i-init : goal.loop-i-init
loop-i-init c =
    let args = c.args in
    (c.requires.places_len, omega arith, length-set args.ends.now 0 0 ∙ c.requires.ends_len.0, omega arith, refl, refl, filled_none args.s.now args.slots.now args.places.now args.prints.now args.ends.now c.requires.ends_len.0)

pub offset_bounds-places-n : goal.offset_bounds-places-n
offset_bounds-places-n c = omega (arith, c.loop-i.invariant.1)

pub slice_bounds-note_group-count : goal.slice_bounds-note_group-count
slice_bounds-note_group-count c = c.loop-i.invariant.1

pub slice_bounds-note_group-start : goal.slice_bounds-note_group-start
slice_bounds-note_group-start c = c.loop-i.invariant.1

pub slice_bounds-note_group-end : goal.slice_bounds-note_group-end
slice_bounds-note_group-end c = le_refl _

pub offset_bounds-prints-n : goal.offset_bounds-prints-n
offset_bounds-prints-n c = omega (arith, c.loop-i.invariant.1, c.loop-i.invariant.0)

pub slice_bounds-note_group-count-in-loop-i : goal.slice_bounds-note_group-count-in-loop-i
slice_bounds-note_group-count-in-loop-i c = omega (arith, c.loop-i.invariant.1, c.loop-i.invariant.0)

pub slice_bounds-note_group-start-in-loop-i : goal.slice_bounds-note_group-start-in-loop-i
slice_bounds-note_group-start-in-loop-i c = omega (arith, c.loop-i.invariant.1, c.loop-i.invariant.0)

pub slice_bounds-note_group-end-in-loop-i : goal.slice_bounds-note_group-end-in-loop-i
slice_bounds-note_group-end-in-loop-i c = le_refl _

pub note_group-requires : goal.note_group-requires
note_group-requires c =
    let loop = c.loop-i in
    let loop-test = c.loop-i-test in
    record { i_lt_group_count = (loop-test.true, c.requires.ends_len.1); places_len = mids-even loop.n loop.places loop.prints loop.invariant.0 }

pub shape_of-places-in_default : goal.shape_of-places-in_default
shape_of-places-in_default c =
    let loop = c.loop-i in
    same_len_mid loop.n (length loop.places - loop.n) loop.places c.note_group.new.places c.note_group.auto.places ∙ loop.invariant.4

pub shape_of-prints-in_default : goal.shape_of-prints-in_default
shape_of-prints-in_default c =
    let loop = c.loop-i in
    same_len_mid loop.n (length loop.prints - loop.n) loop.prints c.note_group.new.prints c.note_group.auto.prints ∙ loop.invariant.5

pub shape_of-ends-in_default : goal.shape_of-ends-in_default
shape_of-ends-in_default c =
    let loop = c.loop-i in
    loop.invariant.2 ∙ sym c.requires.ends_len.0

pub returns-in_default : goal.returns-in_default
returns-in_default c = (omega arith, λ l. absurd (omega (arith, l)))

pub overflow_add-n : goal.overflow_add-n
overflow_add-n c =
    let loop = c.loop-i in
    omega (arith, rows_in c.note_group.ensures.noted_in c.in-Some.is, mid-long loop.n loop.places loop.invariant.1)

pub overflow_add-i : goal.overflow_add-i
overflow_add-i c = omega (arith, c.loop-i-test.true)

pub offset_bounds-ends-i : goal.offset_bounds-ends-i
offset_bounds-ends-i c = omega (arith, c.loop-i-test.true)

pub bounds-ends-i : goal.bounds-ends-i
bounds-ends-i c =
    let loop = c.loop-i in
    let loop-test = c.loop-i-test in
    omega (arith, loop-test.true, loop.invariant.2)

pub loop-i-smaller : goal.loop-i-smaller
loop-i-smaller c = omega (arith, c.loop-i-test.true)

pub loop-i-preserved : goal.loop-i-preserved
loop-i-preserved c =
    let args = c.args in
    let loop = c.loop-i in
    let loop-test = c.loop-i-test in
    let k = rows_in c.note_group.ensures.noted_in c.in-Some.is in
    let l = same_len_mid loop.n (length loop.places - loop.n) loop.places c.note_group.new.places c.note_group.auto.places in
    let m = same_len_mid loop.n (length loop.prints - loop.n) loop.prints c.note_group.new.prints c.note_group.auto.prints in (
      l ∙ loop.invariant.0 ∙ sym m,
      omega (arith, k, l, mid-long loop.n loop.places loop.invariant.1),
      length-set loop.ends (loop.i + 1) _ ∙ loop.invariant.2,
      omega (arith, loop-test.true),
      l ∙ loop.invariant.4,
      m ∙ loop.invariant.5,
      filled_on args.s.now args.slots.now loop.places loop.prints loop.ends loop.i loop.n loop.invariant.6 loop.invariant.0 loop.invariant.1 loop.invariant.2 loop-test.true
          _ c.note_group.new.places c.note_group.new.prints c.note_group.auto.places c.note_group.auto.prints
          (rows-noted args.s.now args.slots.now loop.i _ _ _ c.note_group.result c.note_group.ensures.notes_group c.in-Some.is) k,
    )

pub shape_of-places : goal.shape_of-places
shape_of-places c = c.loop-i.invariant.4

pub shape_of-prints : goal.shape_of-prints
shape_of-prints c = c.loop-i.invariant.5

pub shape_of-ends : goal.shape_of-ends
shape_of-ends c = c.loop-i.invariant.2 ∙ sym c.requires.ends_len.0

pub returns : goal.returns
returns c =
    let args = c.args in
    (omega arith, indexed args.s.now args.slots.now c.loop-i.places c.loop-i.prints c.loop-i.ends c.loop-i.i c.loop-i.n c.loop-i.invariant.6 c.loop-i.invariant.0 c.loop-i.invariant.2 (omega (arith, c.loop-i-test.false)))
