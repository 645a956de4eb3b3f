use Rattle.output.proofs.Laws.{failed}
use native.Mathlib.Nat.{le_refl, lt_of_le_of_lt}
use Rattle.output.proofs.Laws.{first, first-full, next, stop, more, done, within, puts-as}
use Rattle.convert.specs.ToJson.{entry_json}
use Rattle.convert_put.specs.Pieces.{member_bytes}
use Rattle.to_json_entry.specs.Entry.{keyed}
use Rattle.to_json_maps.specs.Maps.{map_at}
use Rattle.to_json_maps.proofs.Turns.{piece_is, row_is, entry-puts}
use Rattle.to_json_maps.proofs.put_keyed.Goals as goal

pub kind_of_line-kind-requires : goal.kind_of_line-kind-requires
kind_of_line-kind-requires c = c.requires.rowed.sound

pub returns-in_err-a : goal.returns-in_err-a
returns-in_err-a c =
    let args = c.args in
    let put-map-head = c.put_map_head in
    λ e x. failed c.from_residual.ensures.0
    (puts-as (piece_is (map_at args.i) args.begun args.key.now e)
    (more (member_bytes (entry_json (map_at args.i) (keyed args.key.now e))) (first-full put-map-head.ensures c.in_err-a.was)))

pub slice_bounds-put_map_line-count : goal.slice_bounds-put_map_line-count
slice_bounds-put_map_line-count c = within (first c.put_map_head.ensures c.in_ok-a.was)

pub slice_bounds-put_map_line-start : goal.slice_bounds-put_map_line-start
slice_bounds-put_map_line-start c = within (first c.put_map_head.ensures c.in_ok-a.was)

pub slice_bounds-put_map_line-end : goal.slice_bounds-put_map_line-end
slice_bounds-put_map_line-end c = le_refl _

pub put_map_line-requires : goal.put_map_line-requires
put_map_line-requires c =
    let pre = c.requires in
    let types_of = c.types_of-types in
    let form_of = c.form_of-form in
    record {
      rowed = pre.rowed;
      seen = pre.converts.seen;
      slot = pre.converts.slot;
      entry = pre.entry;
      is = row_is pre.converts
          types_of.result form_of.result types_of.ensures form_of.ensures.0;
      converts = pre.converts.entry;
    }

pub returns-in_err-b : goal.returns-in_err-b
returns-in_err-b c =
    let args = c.args in
    let types_of = c.types_of-types in
    let form_of = c.form_of-form in
    let kind-of-line = c.kind_of_line-kind in
    let put-map-head = c.put_map_head in
    let put-map-line = c.put_map_line in
    λ e x. failed c.from_residual-in_err-b.ensures.0
    (puts-as (piece_is (map_at args.i) args.begun args.key.now e)
    (stop (first put-map-head.ensures c.in_ok-a.was)
    (entry-puts x types_of.result form_of.result types_of.ensures form_of.ensures.0 kind-of-line.result _
    args.key.now _ _ kind-of-line.ensures put-map-line.ensures)
    c.in_err-b.was))

pub overflow_add-ab : goal.overflow_add-ab
overflow_add-ab c =
    let args = c.args in
    let pre = c.requires in
    let good = c.well_formed in
    let types_of = c.types_of-types in
    let form_of = c.form_of-form in
    let kind-of-line = c.kind_of_line-kind in
    let put-map-head = c.put_map_head in
    let put-map-line = c.put_map_line in
    record {
      fits = lt_of_le_of_lt
          (next (first put-map-head.ensures c.in_ok-a.was)
          (entry-puts pre.converts types_of.result form_of.result types_of.ensures form_of.ensures.0
          kind-of-line.result _ args.key.now _ _ kind-of-line.ensures put-map-line.ensures)
          c.in_ok-b.was).fits
          good.0.0;
    }

pub shape_of-out : goal.shape_of-out
shape_of-out c =
    let args = c.args in
    let pre = c.requires in
    let types_of = c.types_of-types in
    let form_of = c.form_of-form in
    let kind-of-line = c.kind_of_line-kind in
    let put-map-head = c.put_map_head in
    let put-map-line = c.put_map_line in
    (next (first put-map-head.ensures c.in_ok-a.was)
    (entry-puts pre.converts types_of.result form_of.result types_of.ensures form_of.ensures.0 kind-of-line.result _
    args.key.now _ _ kind-of-line.ensures put-map-line.ensures)
    c.in_ok-b.was).same

pub returns : goal.returns
returns c =
    let args = c.args in
    let types_of = c.types_of-types in
    let form_of = c.form_of-form in
    let kind-of-line = c.kind_of_line-kind in
    let put-map-head = c.put_map_head in
    let put-map-line = c.put_map_line in
    λ e x. puts-as (piece_is (map_at args.i) args.begun args.key.now e)
    (done
    (next (first put-map-head.ensures c.in_ok-a.was)
    (entry-puts x types_of.result form_of.result types_of.ensures form_of.ensures.0 kind-of-line.result _
    args.key.now _ _ kind-of-line.ensures put-map-line.ensures)
    c.in_ok-b.was))
