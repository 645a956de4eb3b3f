-- No loop: five pieces in a row, the property's name, PROP-ID=, the key, PREF and TYPE. `s1` to `s5` say after each call what is penned so far and
-- the column it ends at, which the next piece goes on from. `line-pieces` says that the five are the line's head as its contract names it. The key
-- is the string at its place, where that stands for bytes; there is no refusal.
use Rattle.to_card_entry.proofs.Lines.{line-pieces}
use Rattle.line_pen.proofs.Laws.{Here, first!, next!, in!, fit!, same!, pens-as}
use Rattle.to_card_params.specs.Params.{span_of}
use native.Mathlib.Nat.{le_refl}
use Rattle.to_card_entry.proofs.pen_head.Goals as goal
use Rattle.to_card_entry.proofs.pen_head.Goals.{After-slice_known-2-1, After-struct_known-1, After-struct_known-2-1, After-struct_known-3-1, After-struct_known-4-1}

abbrev s1 : After-slice_known-2-1 → Here
s1 c = first! c.pen_bytes-p.ensures

abbrev s2 : After-struct_known-1 → Here
s2 c = next! (s1 (goal.at.After-struct_known-1 c).After-slice_known-2-1) c.pen_bytes-q.ensures

abbrev s3 : After-struct_known-2-1 → Here
s3 c = next! (s2 (goal.at.After-struct_known-2-1 c).After-struct_known-1) c.pen_string-r.ensures.pens

abbrev s4 : After-struct_known-3-1 → Here
s4 c = next! (s3 (goal.at.After-struct_known-3-1 c).After-struct_known-2-1) c.pen_pref-t.ensures

abbrev s5 : After-struct_known-4-1 → Here
s5 c = next! (s4 (goal.at.After-struct_known-4-1 c).After-struct_known-3-1) c.pen_types-u.ensures

pub slice_bounds-pen_bytes-count : goal.slice_bounds-pen_bytes-count
slice_bounds-pen_bytes-count c = c.nth_name-h.ensures.ordered

pub slice_bounds-pen_bytes-end : goal.slice_bounds-pen_bytes-end
slice_bounds-pen_bytes-end c = c.nth_name-h.ensures.inside

pub slice_bounds-pen_bytes-count-2 : goal.slice_bounds-pen_bytes-count-2
slice_bounds-pen_bytes-count-2 c = in! (s1 c)

pub slice_bounds-pen_bytes-start-2 : goal.slice_bounds-pen_bytes-start-2
slice_bounds-pen_bytes-start-2 c = in! (s1 c)

pub slice_bounds-pen_bytes-end-2 : goal.slice_bounds-pen_bytes-end-2
slice_bounds-pen_bytes-end-2 c = le_refl _

pub overflow_add-n2 : goal.overflow_add-n2
overflow_add-n2 c = fit! (s2 c) c.well_formed.0.0

pub slice_bounds-pen_string-count : goal.slice_bounds-pen_string-count
slice_bounds-pen_string-count c = in! (s2 c)

pub slice_bounds-pen_string-start : goal.slice_bounds-pen_string-start
slice_bounds-pen_string-start c = in! (s2 c)

pub slice_bounds-pen_string-end : goal.slice_bounds-pen_string-end
slice_bounds-pen_string-end c = le_refl _

pub overflow_add-n3 : goal.overflow_add-n3
overflow_add-n3 c = fit! (s3 c) c.well_formed.0.0

pub slice_bounds-pen_pref-count : goal.slice_bounds-pen_pref-count
slice_bounds-pen_pref-count c = in! (s3 c)

pub slice_bounds-pen_pref-start : goal.slice_bounds-pen_pref-start
slice_bounds-pen_pref-start c = in! (s3 c)

pub slice_bounds-pen_pref-end : goal.slice_bounds-pen_pref-end
slice_bounds-pen_pref-end c = le_refl _

pub overflow_add-n4 : goal.overflow_add-n4
overflow_add-n4 c = fit! (s4 c) c.well_formed.0.0

pub slice_bounds-pen_types-count : goal.slice_bounds-pen_types-count
slice_bounds-pen_types-count c = in! (s4 c)

pub slice_bounds-pen_types-start : goal.slice_bounds-pen_types-start
slice_bounds-pen_types-start c = in! (s4 c)

pub slice_bounds-pen_types-end : goal.slice_bounds-pen_types-end
slice_bounds-pen_types-end c = le_refl _

pub pen_types-u-requires : goal.pen_types-u-requires
pen_types-u-requires c = c.requires

pub overflow_add-n5 : goal.overflow_add-n5
overflow_add-n5 c = fit! (s5 c) c.well_formed.0.0

pub shape_of-out : goal.shape_of-out
shape_of-out c = same! (s5 c)

pub returns : goal.returns
returns c =
    let args = c.args in
    let nth-name = c.nth_name-h in
    let pen-string = c.pen_string-r in
    record {
      key-text = pen-string.ensures.text;
      is-key = pen-string.ensures.is;
      pens = pens-as
          (line-pieces _ _ pen-string.ensures.text (span_of args.s.now args.a args.e) args.row.now nth-name.ensures.is)
          (s5 c).so;
    }
