-- No loop. Where no row was noted, the same question is asked of the text itself. Else `index-there` gives the index, and its group i gives two
-- ends that are in order and within places and prints, which are equally long: so both slices are good (`ordered`, `within`, `even`). `has-noted`:
-- those rows note the names of group i, so what is_key_noted says of them is said of the group.
use native.Mathlib.Omega.{arith}
use Rattle.to_card_kept_names.proofs.Groups.{index-there, has-noted}
use Rattle.to_card_kept_names.proofs.has_name.Goals as goal

pub bounds-ends-i : goal.bounds-ends-i
bounds-ends-i c =
    let args = c.args in
    let x = index-there args.s.now args.slots.now args.places.now args.prints.now args.ends.now c.requires.indexes c.if-ends-eq0.false in
    let g = x.groups args.i c.requires.i_lt_group_count.0 in
    omega (arith, x.wide, c.requires.i_lt_group_count.0)

pub bounds-ends-i-2 : goal.bounds-ends-i-2
bounds-ends-i-2 c =
    let args = c.args in
    let if1 = c.if-ends-eq0 in
    let x = index-there args.s.now args.slots.now args.places.now args.prints.now args.ends.now c.requires.indexes if1.false in
    let g = x.groups args.i c.requires.i_lt_group_count.0 in
    omega (arith, x.wide, c.requires.i_lt_group_count.0)

pub offset_bounds-places-a : goal.offset_bounds-places-a
offset_bounds-places-a c =
    let args = c.args in
    let if1 = c.if-ends-eq0 in
    let x = index-there args.s.now args.slots.now args.places.now args.prints.now args.ends.now c.requires.indexes if1.false in
    let g = x.groups args.i c.requires.i_lt_group_count.0 in
    omega (arith, g.ordered, g.within)

pub slice_bounds-is_key_noted-count : goal.slice_bounds-is_key_noted-count
slice_bounds-is_key_noted-count c =
    let args = c.args in
    let if1 = c.if-ends-eq0 in
    let x = index-there args.s.now args.slots.now args.places.now args.prints.now args.ends.now c.requires.indexes if1.false in
    let g = x.groups args.i c.requires.i_lt_group_count.0 in
    g.ordered

pub slice_bounds-is_key_noted-start : goal.slice_bounds-is_key_noted-start
slice_bounds-is_key_noted-start c =
    let args = c.args in
    let if1 = c.if-ends-eq0 in
    let x = index-there args.s.now args.slots.now args.places.now args.prints.now args.ends.now c.requires.indexes if1.false in
    let g = x.groups args.i c.requires.i_lt_group_count.0 in
    g.ordered

pub slice_bounds-is_key_noted-end : goal.slice_bounds-is_key_noted-end
slice_bounds-is_key_noted-end c =
    let args = c.args in
    let if1 = c.if-ends-eq0 in
    let x = index-there args.s.now args.slots.now args.places.now args.prints.now args.ends.now c.requires.indexes if1.false in
    let g = x.groups args.i c.requires.i_lt_group_count.0 in
    g.within

pub offset_bounds-prints-a : goal.offset_bounds-prints-a
offset_bounds-prints-a c =
    let args = c.args in
    let if1 = c.if-ends-eq0 in
    let x = index-there args.s.now args.slots.now args.places.now args.prints.now args.ends.now c.requires.indexes if1.false in
    let g = x.groups args.i c.requires.i_lt_group_count.0 in
    omega (arith, g.ordered, g.within, x.even)

pub slice_bounds-is_key_noted-count-2 : goal.slice_bounds-is_key_noted-count-2
slice_bounds-is_key_noted-count-2 c =
    let args = c.args in
    let if1 = c.if-ends-eq0 in
    let x = index-there args.s.now args.slots.now args.places.now args.prints.now args.ends.now c.requires.indexes if1.false in
    let g = x.groups args.i c.requires.i_lt_group_count.0 in
    g.ordered

pub slice_bounds-is_key_noted-start-2 : goal.slice_bounds-is_key_noted-start-2
slice_bounds-is_key_noted-start-2 c =
    let args = c.args in
    let if1 = c.if-ends-eq0 in
    let x = index-there args.s.now args.slots.now args.places.now args.prints.now args.ends.now c.requires.indexes if1.false in
    let g = x.groups args.i c.requires.i_lt_group_count.0 in
    g.ordered

pub slice_bounds-is_key_noted-end-2 : goal.slice_bounds-is_key_noted-end-2
slice_bounds-is_key_noted-end-2 c =
    let args = c.args in
    let if1 = c.if-ends-eq0 in
    let x = index-there args.s.now args.slots.now args.places.now args.prints.now args.ends.now c.requires.indexes if1.false in
    let g = x.groups args.i c.requires.i_lt_group_count.0 in
    omega (arith, g.within, x.even)

pub returns : goal.returns
returns c =
    let args = c.args in
    let if1 = c.if-ends-eq0 in
    let x = index-there args.s.now args.slots.now args.places.now args.prints.now args.ends.now c.requires.indexes if1.false in
    let g = x.groups args.i c.requires.i_lt_group_count.0 in
    has-noted args.s.now args.slots.now args.i args.key.now c.is_key_noted.result g c.is_key_noted.ensures
