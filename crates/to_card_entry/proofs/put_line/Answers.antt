use Rattle.to_card_entry.proofs.Putting.{put_in, bounds, all_in, line-none, line-all}
use Rattle.to_card_pen.proofs.Refusal.{refused}
use Rattle.line_pen.proofs.Laws.{pens-in, pens-length}
use native.Mathlib.Omega.{arith}
use Rattle.to_card_entry.proofs.put_line.Goals as goal

pub returns-in_err-value : goal.returns-in_err-value
returns-in_err-value c =
    let args = c.args in
    let e = refused c.from_residual.result c.from_residual.ensures.0 in
    record {
      put_in = rw e tt;
      out_len_unchanged = (bounds c.pen_head-p.result.bytes 0 args.out.now c.pen_head-p.new.out c.put_value.new.out (pens-length c.pen_head-p.ensures.pens)
          (pens-in c.pen_head-p.ensures.pens) (omega arith) c.put_value.ensures.out_len_unchanged).1;
      tells_line = rw e (line-none args.s.now args.heads.now args.which args.key args.row.now args.a args.e args.content
          args.units args.form _ _ c.pen_head-p.result c.pen_head-p.ensures _ c.put_value.result c.put_value.ensures.tells_value _
          c.in_err-value.was);
    }

pub overflow_add-nm : goal.overflow_add-nm
overflow_add-nm c =
    let args = c.args in
    let good = c.well_formed in
    let b = bounds c.pen_head-p.result.bytes c.in_ok-value.value.bytes args.out.now c.pen_head-p.new.out c.put_value.new.out
    (pens-length c.pen_head-p.ensures.pens) (pens-in c.pen_head-p.ensures.pens) (put_in c.put_value.ensures.put_in c.in_ok-value.was)
    c.put_value.ensures.out_len_unchanged in record { fits = omega (arith, b.0, b.1, good.0.0) }

pub slice_bounds-fill-count : goal.slice_bounds-fill-count
slice_bounds-fill-count c =
    let args = c.args in
    (bounds c.pen_head-p.result.bytes c.in_ok-value.value.bytes args.out.now c.pen_head-p.new.out c.put_value.new.out
    (pens-length c.pen_head-p.ensures.pens) (pens-in c.pen_head-p.ensures.pens) (put_in c.put_value.ensures.put_in c.in_ok-value.was)
    c.put_value.ensures.out_len_unchanged).0

pub slice_bounds-fill-start : goal.slice_bounds-fill-start
slice_bounds-fill-start c =
    let args = c.args in
    (bounds c.pen_head-p.result.bytes c.in_ok-value.value.bytes args.out.now c.pen_head-p.new.out c.put_value.new.out
    (pens-length c.pen_head-p.ensures.pens) (pens-in c.pen_head-p.ensures.pens) (put_in c.put_value.ensures.put_in c.in_ok-value.was)
    c.put_value.ensures.out_len_unchanged).0

pub overflow_add-t : goal.overflow_add-t
overflow_add-t c =
    let good = c.well_formed in
    let args = c.args in
    let x = all_in c.pen_head-p.result.bytes c.in_ok-value.value.bytes args.out.now c.pen_head-p.new.out c.put_value.new.out
    (pens-length c.pen_head-p.ensures.pens) (pens-in c.pen_head-p.ensures.pens) (put_in c.put_value.ensures.put_in c.in_ok-value.was)
    c.put_value.ensures.out_len_unchanged c.fill-z.ensures in record { fits = omega (arith, x.0, good.0.0) }

pub shape_of-out : goal.shape_of-out
shape_of-out c =
    let args = c.args in
    (all_in c.pen_head-p.result.bytes c.in_ok-value.value.bytes args.out.now c.pen_head-p.new.out c.put_value.new.out
    (pens-length c.pen_head-p.ensures.pens) (pens-in c.pen_head-p.ensures.pens) (put_in c.put_value.ensures.put_in c.in_ok-value.was)
    c.put_value.ensures.out_len_unchanged c.fill-z.ensures).1

pub returns : goal.returns
returns c =
    let args = c.args in
    let fill = c.fill-z in record {
      put_in = (all_in c.pen_head-p.result.bytes c.in_ok-value.value.bytes args.out.now c.pen_head-p.new.out c.put_value.new.out (pens-length c.pen_head-p.ensures.pens) (pens-in c.pen_head-p.ensures.pens) (put_in c.put_value.ensures.put_in c.in_ok-value.was) c.put_value.ensures.out_len_unchanged fill.ensures).0;
      out_len_unchanged = (all_in c.pen_head-p.result.bytes c.in_ok-value.value.bytes args.out.now c.pen_head-p.new.out c.put_value.new.out
          (pens-length c.pen_head-p.ensures.pens) (pens-in c.pen_head-p.ensures.pens) (put_in c.put_value.ensures.put_in c.in_ok-value.was)
          c.put_value.ensures.out_len_unchanged fill.ensures).1;
      tells_line = line-all args.s.now args.heads.now args.which args.key args.row.now args.a args.e args.content args.units
          args.form _ _ c.pen_head-p.result c.pen_head-p.ensures _ c.put_value.result c.put_value.ensures.tells_value _ _ c.in_ok-value.was _ _
          fill.ensures;
    }
