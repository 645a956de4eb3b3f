use Rattle.output.proofs.Laws.{failed}
use mathlib.Core.Path.{sym, ◌∙◌}
use mathlib.Core.List.{[]}
use native.Mathlib.Nat.{le_refl, lt_of_le_of_lt}
use Rattle.json_text.specs.Compact.{written}
use Rattle.convert.specs.ToJson.{kept_json}
use Rattle.output.proofs.Laws.{first, first-full, next, stop, more, done, within, puts-as}
use Rattle.output.proofs.Rows.{length-puts}
use Rattle.text.proofs.Choices.{none-some}
use Rattle.to_json_maps.proofs.Marking.{filled-holds, filled_none}
use Rattle.to_json_sections.proofs.Props.{piece_is}
use Rattle.to_json_sections.proofs.Lines.{held_kept}
use Rattle.to_json_sections.proofs.put_prop.Goals as goal

pub fill-requires : goal.fill-requires
fill-requires c = c.requires.0

pub returns-then-not-fill : goal.returns-then-not-fill
returns-then-not-fill c = λ k x. none-some (sym (filled_none _ _ c.fill.result c.fill.ensures c.if-not-fill.true) ∙ x.read)

pub returns-in_err-a : goal.returns-in_err-a
returns-in_err-a c =
    let args = c.args in
    let put-prop-head = c.put_prop_head in
    λ k x. failed c.from_residual.ensures.0
    (puts-as (piece_is args.begun k) (more (written (kept_json k) []) (first-full put-prop-head.ensures c.in_err-a.was)))

pub slice_bounds-put_kept-count : goal.slice_bounds-put_kept-count
slice_bounds-put_kept-count c = within (first c.put_prop_head.ensures c.in_ok-a.was)

pub slice_bounds-put_kept-start : goal.slice_bounds-put_kept-start
slice_bounds-put_kept-start c = within (first c.put_prop_head.ensures c.in_ok-a.was)

pub slice_bounds-put_kept-end : goal.slice_bounds-put_kept-end
slice_bounds-put_kept-end c = le_refl _

pub put_kept-requires : goal.put_kept-requires
put_kept-requires c =
    let fill = c.fill in
    (filled-holds fill.result fill.ensures c.if-not-fill.false).sound

pub returns-in_err-b : goal.returns-in_err-b
returns-in_err-b c =
    let args = c.args in
    let fill = c.fill in
    let put-prop-head = c.put_prop_head in
    let put-kept = c.put_kept in
    λ k x. failed c.from_residual-in_err-b.ensures.0
    (puts-as (piece_is args.begun k)
    (stop (first put-prop-head.ensures c.in_ok-a.was)
    (held_kept (filled-holds fill.result fill.ensures c.if-not-fill.false) x put-kept.ensures) c.in_err-b.was))

pub overflow_add-ab : goal.overflow_add-ab
overflow_add-ab c =
    let pre = c.requires in
    let good = c.well_formed in
    let fill = c.fill in
    let put-prop-head = c.put_prop_head in
    let put-kept = c.put_kept in
    record {
      fits = lt_of_le_of_lt
          (next (first put-prop-head.ensures c.in_ok-a.was)
          (held_kept (filled-holds fill.result fill.ensures c.if-not-fill.false) pre.1.1 put-kept.ensures)
          c.in_ok-b.was).fits
          good.0.0;
    }

pub shape_of-out : goal.shape_of-out
shape_of-out c =
    let pre = c.requires in
    let fill = c.fill in
    let put-prop-head = c.put_prop_head in
    let put-kept = c.put_kept in
    (next (first put-prop-head.ensures c.in_ok-a.was)
    (held_kept (filled-holds fill.result fill.ensures c.if-not-fill.false) pre.1.1 put-kept.ensures) c.in_ok-b.was).same

pub returns : goal.returns
returns c =
    let args = c.args in
    let fill = c.fill in
    let put-prop-head = c.put_prop_head in
    let put-kept = c.put_kept in
    λ k x. puts-as (piece_is args.begun k)
    (done
    (next (first put-prop-head.ensures c.in_ok-a.was)
    (held_kept (filled-holds fill.result fill.ensures c.if-not-fill.false) x put-kept.ensures) c.in_ok-b.was))
