use Rattle.to_card_pen.proofs.Refusal.{refused}
use borrow.Rule.Slice.PartMut.{mid_of}
use Rattle.to_card_maps.proofs.Laws.{going-first, maps-wrong, maps-on, maps-all, in-part}
use Rattle.to_card_map.proofs.Laws.{lines-in}
use lib.ListN.{length}
use Prim.Native.Nat.{◌-◌}
use mathlib.Core.Path.{refl}
use native.Mathlib.Nat.{le_refl}
use native.Mathlib.Omega.{arith}
use Rattle.to_card_maps.proofs.put_maps.Goals as goal

pub loop-k-init : goal.loop-k-init
loop-k-init c = (omega arith, omega arith, refl, omega arith, going-first c.args.s.now c.args.slots.now c.args.out.now)

pub overflow_add-i : goal.overflow_add-i
overflow_add-i c = omega (arith, c.loop-k-test.true)

pub slice_bounds-put_nth-count : goal.slice_bounds-put_nth-count
slice_bounds-put_nth-count c = c.loop-k.invariant.1

pub slice_bounds-put_nth-start : goal.slice_bounds-put_nth-start
slice_bounds-put_nth-start c = c.loop-k.invariant.1

pub slice_bounds-put_nth-end : goal.slice_bounds-put_nth-end
slice_bounds-put_nth-end c = le_refl _

pub offset_bounds-slots-i : goal.offset_bounds-slots-i
offset_bounds-slots-i c = record { fits = omega (arith, c.loop-k-test.true) }

pub bounds-slots-i : goal.bounds-slots-i
bounds-slots-i c = omega (arith, c.requires.map_slots_in_bounds, c.loop-k-test.true)

pub shape_of-out-in_err-map : goal.shape_of-out-in_err-map
shape_of-out-in_err-map c =
    let args = c.args in
    let loop = c.loop-k in
    (in-part loop.n args.out.now loop.out c.put_nth.new.out {m = 0} loop.invariant.1 loop.invariant.2 (omega arith) c.put_nth.ensures.out_len_unchanged).1

pub returns-in_err-map : goal.returns-in_err-map
returns-in_err-map c =
    let args = c.args in
    let loop = c.loop-k in
    let loop-test = c.loop-k-test in
    let e = refused c.from_residual.result c.from_residual.ensures.0 in
    record {
      lines_in = rw e tt;
      out_len_unchanged = (in-part loop.n args.out.now loop.out c.put_nth.new.out {m = 0} loop.invariant.1 loop.invariant.2 (omega arith) c.put_nth.ensures.out_len_unchanged).1;
      puts_maps = rw e (maps-wrong args.s.now args.slots.now args.out.now loop.k loop.n loop.lines loop.ok loop.out loop.invariant.4 loop-test.true c.put_nth.result _ c.put_nth.ensures.puts_nth _ c.in_err-map.was);
    }

pub overflow_add-n : goal.overflow_add-n
overflow_add-n c =
    let args = c.args in
    let good = c.well_formed in
    let loop = c.loop-k in
    let l = lines-in (length (mid_of loop.n (length loop.out - loop.n) loop.out)) (length args.s.now) c.put_nth.ensures.lines_in
    c.in_ok-map.was in let p = in-part loop.n args.out.now loop.out c.put_nth.new.out loop.invariant.1 loop.invariant.2 l.0
    c.put_nth.ensures.out_len_unchanged in record { fits = omega (arith, p.0, p.1, good.0.0) }

pub overflow_add-lines : goal.overflow_add-lines
overflow_add-lines c =
    let args = c.args in
    let loop = c.loop-k in
    let loop-test = c.loop-k-test in
    let l = lines-in (length (mid_of loop.n (length loop.out - loop.n) loop.out)) (length args.s.now) c.put_nth.ensures.lines_in
    c.in_ok-map.was in record { fits = omega (arith, l.1, c.requires.s_len_bound, loop.invariant.3, loop-test.true) }

pub loop-k-preserved : goal.loop-k-preserved
loop-k-preserved c =
    let args = c.args in
    let loop = c.loop-k in
    let loop-test = c.loop-k-test in
    let l = lines-in (length (mid_of loop.n (length loop.out - loop.n) loop.out)) (length args.s.now) c.put_nth.ensures.lines_in
    c.in_ok-map.was in let p = in-part loop.n args.out.now loop.out c.put_nth.new.out loop.invariant.1 loop.invariant.2 l.0
    c.put_nth.ensures.out_len_unchanged in (
      omega (arith, loop-test.true),
      p.0,
      p.1,
      omega (arith, l.1, c.requires.s_len_bound, loop.invariant.3),
      maps-on args.s.now args.slots.now args.out.now loop.k loop.n loop.lines loop.ok loop.out loop.invariant.4 loop-test.true c.put_nth.result _ c.put_nth.ensures.puts_nth _ _ _ c.in_ok-map.was,
    )

pub shape_of-out : goal.shape_of-out
shape_of-out c = c.loop-k.invariant.2

pub returns : goal.returns
returns c =
    let args = c.args in
    let loop = c.loop-k in record {
      lines_in = (omega (arith, loop.invariant.1, loop.invariant.2), omega (arith, loop.invariant.3, loop.invariant.0));
      out_len_unchanged = loop.invariant.2;
      puts_maps = maps-all args.s.now args.slots.now args.out.now loop.k loop.n loop.lines loop.ok loop.out loop.invariant.4 c.loop-k-test.false loop.invariant.0;
    }
