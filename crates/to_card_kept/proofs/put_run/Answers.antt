use mathlib.Core.Path.{refl, ap, ◌∙◌}
use Prim.Native.Nat.{◌-◌}
use native.Mathlib.Omega.{arith}
use native.Mathlib.Nat.{le_refl}
use Rattle.text.proofs.Places.{turn-as}
use Rattle.to_card_lines.proofs.Laws.{part_length, part_in}
use Rattle.to_card_entry.proofs.Putting.{entered-in}
use Rattle.to_card_kept.specs.Puts.{as_entered, as_lines}
use Rattle.to_card_kept.proofs.Entry.{lent-as}
use Rattle.to_card_kept.proofs.Runs.{asked-once}
use Rattle.to_card_kept.proofs.Loop.{going-first, puts-wrong, going_on, puts-all, run_more}
use Rattle.to_card_kept.proofs.put_run.Goals as goal

pub loop-line-init : goal.loop-line-init
loop-line-init c =
    let args = c.args in (
      c.requires.at_in_bounds,
      omega arith,
      refl,
      omega arith,
      c.requires.lent.all,
      refl,
      refl,
      refl,
      going-first args.s.now args.slots.now args.at args.full args.parts args.out.now,
      omega arith,
    )

pub slice_bounds-put_entry-count : goal.slice_bounds-put_entry-count
slice_bounds-put_entry-count c = c.loop-line.invariant.1

pub slice_bounds-put_entry-start : goal.slice_bounds-put_entry-start
slice_bounds-put_entry-start c = c.loop-line.invariant.1

pub slice_bounds-put_entry-end : goal.slice_bounds-put_entry-end
slice_bounds-put_entry-end c = le_refl _

pub put_entry-requires : goal.put_entry-requires
put_entry-requires c =
    let loop = c.loop-line in
    record { lent = record { all = loop.invariant.4; index = c.requires.lent.index }; indexes = c.requires.indexes; at_in_bounds = omega (arith, loop.invariant.0) }

pub shape_of-out-in_default : goal.shape_of-out-in_default
shape_of-out-in_default c =
    let loop = c.loop-line in
    part_length loop.n loop.out c.put_entry.new.out loop.invariant.1 c.put_entry.ensures.out_len_unchanged ∙ loop.invariant.2

pub shape_of-b-in_default : goal.shape_of-b-in_default
shape_of-b-in_default c =
    let loop = c.loop-line in
    c.put_entry.auto.b ∙ loop.invariant.5

pub shape_of-t-in_default : goal.shape_of-t-in_default
shape_of-t-in_default c =
    let loop = c.loop-line in
    c.put_entry.auto.t ∙ loop.invariant.6

pub shape_of-scratch-in_default : goal.shape_of-scratch-in_default
shape_of-scratch-in_default c =
    let loop = c.loop-line in
    c.put_entry.auto.scratch ∙ loop.invariant.7

pub returns-in_default : goal.returns-in_default
returns-in_default c =
    let args = c.args in
    let loop = c.loop-line in
    record {
      run_in = tt;
      out_len_unchanged = part_length loop.n loop.out c.put_entry.new.out loop.invariant.1 c.put_entry.ensures.out_len_unchanged ∙ loop.invariant.2;
      puts_run = puts-wrong args.s.now args.slots.now args.at args.full args.parts args.out.now loop.i loop.n loop.lines loop.ok loop.out loop.invariant.8 (as_lines (as_entered c.put_entry.result)) _ c.put_entry.ensures.puts_entry _ (ap as_lines (ap as_entered c.in_default.is));
    }

pub overflow_add-n : goal.overflow_add-n
overflow_add-n c =
    let args = c.args in
    let good = c.well_formed in
    let loop = c.loop-line in
    let e = entered-in args.s.now loop.i c.put_entry.ensures.entered_in (ap as_entered c.in-Some.is) in
    record {
      fits = omega (
        arith,
        part_in loop.n loop.out loop.invariant.1 e.0,
        loop.invariant.2,
        good.0.0,
      );
    }

pub overflow_add-lines : goal.overflow_add-lines
overflow_add-lines c =
    let loop = c.loop-line in
    omega (arith, loop.invariant.3, loop.invariant.0)

pub overflow_add-asked : goal.overflow_add-asked
overflow_add-asked c =
    let loop = c.loop-line in
    record { fits = omega (arith, loop.invariant.9, loop.invariant.3, loop.invariant.0, loop.invariant.4.small, asked-once c.put_entry.ensures.asked_once c.in-Some.is) }

pub separator-requires : goal.separator-requires
separator-requires c =
    let args = c.args in
    let loop = c.loop-line in
    let e = entered-in args.s.now loop.i c.put_entry.ensures.entered_in (ap as_entered c.in-Some.is) in
    record { at_in_bounds = e.1.within; close_bound = omega arith }

pub shape_of-out-then-asked-most : goal.shape_of-out-then-asked-most
shape_of-out-then-asked-most c =
    let loop = c.loop-line in
    part_length loop.n loop.out c.put_entry.new.out loop.invariant.1 c.put_entry.ensures.out_len_unchanged ∙ loop.invariant.2

pub shape_of-b-then-asked-most : goal.shape_of-b-then-asked-most
shape_of-b-then-asked-most c =
    let loop = c.loop-line in
    c.put_entry.auto.b ∙ loop.invariant.5

pub shape_of-t-then-asked-most : goal.shape_of-t-then-asked-most
shape_of-t-then-asked-most c =
    let loop = c.loop-line in
    c.put_entry.auto.t ∙ loop.invariant.6

pub shape_of-scratch-then-asked-most : goal.shape_of-scratch-then-asked-most
shape_of-scratch-then-asked-most c =
    let loop = c.loop-line in
    c.put_entry.auto.scratch ∙ loop.invariant.7

pub returns-then-asked-most : goal.returns-then-asked-most
returns-then-asked-most c =
    let args = c.args in
    let loop = c.loop-line in
    let separator = c.separator in
    let h = turn-as separator.ensures c.in-Continue.is in
    let e = entered-in args.s.now loop.i c.put_entry.ensures.entered_in (ap as_entered c.in-Some.is) in
    let l = part_length loop.n loop.out c.put_entry.new.out loop.invariant.1 c.put_entry.ensures.out_len_unchanged in record {
      run_in = (omega (arith, part_in loop.n loop.out loop.invariant.1 e.0, loop.invariant.2), omega (arith, loop.invariant.3, h.within.0, e.1.from), h.within.1, omega (arith, c.if-asked-most.true, loop.invariant.9, asked-once c.put_entry.ensures.asked_once c.in-Some.is));
      out_len_unchanged = l ∙ loop.invariant.2;
      puts_run = run_more args.s.now args.slots.now args.at args.full args.parts args.out.now _ _ _ _ _ (going_on args.s.now args.slots.now args.at args.full args.parts args.out.now loop.i loop.n loop.lines loop.ok loop.out loop.invariant.8
          (as_lines (as_entered c.put_entry.result)) _ c.put_entry.ensures.puts_entry _ _ _ (ap as_lines (ap as_entered c.in-Some.is)) _ e.1.ends _ h);
    }

pub loop-line-smaller : goal.loop-line-smaller
loop-line-smaller c =
    let args = c.args in
    let loop = c.loop-line in
    let separator = c.separator in
    let h = turn-as separator.ensures c.in-Continue.is in
    let e = entered-in args.s.now loop.i c.put_entry.ensures.entered_in (ap as_entered c.in-Some.is) in
    omega (arith, h.within.0, h.within.1, e.1.from)

pub loop-line-preserved : goal.loop-line-preserved
loop-line-preserved c =
    let args = c.args in
    let loop = c.loop-line in
    let separator = c.separator in
    let h = turn-as separator.ensures c.in-Continue.is in
    let e = entered-in args.s.now loop.i c.put_entry.ensures.entered_in (ap as_entered c.in-Some.is) in
    let l = part_length loop.n loop.out c.put_entry.new.out loop.invariant.1 c.put_entry.ensures.out_len_unchanged in (
      h.within.1,
      omega (arith, l, part_in loop.n loop.out loop.invariant.1 e.0),
      l ∙ loop.invariant.2,
      omega (arith, loop.invariant.3, h.within.0, e.1.from),
      lent-as loop.invariant.4 c.put_entry.auto.b c.put_entry.auto.t c.put_entry.auto.scratch,
      c.put_entry.auto.b ∙ loop.invariant.5,
      c.put_entry.auto.t ∙ loop.invariant.6,
      c.put_entry.auto.scratch ∙ loop.invariant.7,
      going_on args.s.now args.slots.now args.at args.full args.parts args.out.now loop.i loop.n loop.lines loop.ok loop.out loop.invariant.8 (as_lines (as_entered c.put_entry.result)) _ c.put_entry.ensures.puts_entry _ _ _ (ap as_lines (ap as_entered c.in-Some.is)) _ e.1.ends _ h,
      omega (arith, loop.invariant.9, asked-once c.put_entry.ensures.asked_once c.in-Some.is),
    )

pub shape_of-out-in-Break : goal.shape_of-out-in-Break
shape_of-out-in-Break c =
    let loop = c.loop-line in
    part_length loop.n loop.out c.put_entry.new.out loop.invariant.1 c.put_entry.ensures.out_len_unchanged ∙ loop.invariant.2

pub shape_of-b-in-Break : goal.shape_of-b-in-Break
shape_of-b-in-Break c =
    let loop = c.loop-line in
    c.put_entry.auto.b ∙ loop.invariant.5

pub shape_of-t-in-Break : goal.shape_of-t-in-Break
shape_of-t-in-Break c =
    let loop = c.loop-line in
    c.put_entry.auto.t ∙ loop.invariant.6

pub shape_of-scratch-in-Break : goal.shape_of-scratch-in-Break
shape_of-scratch-in-Break c =
    let loop = c.loop-line in
    c.put_entry.auto.scratch ∙ loop.invariant.7

pub returns-in-Break : goal.returns-in-Break
returns-in-Break c =
    let args = c.args in
    let loop = c.loop-line in
    let separator = c.separator in
    let e = entered-in args.s.now loop.i c.put_entry.ensures.entered_in (ap as_entered c.in-Some.is) in record {
      run_in = (omega (arith, part_in loop.n loop.out loop.invariant.1 e.0, loop.invariant.2), omega (arith, loop.invariant.3, e.1.from, e.1.within));
      out_len_unchanged = part_length loop.n loop.out c.put_entry.new.out loop.invariant.1 c.put_entry.ensures.out_len_unchanged ∙ loop.invariant.2;
      puts_run = puts-all args.s.now args.slots.now args.at args.full args.parts args.out.now loop.i loop.n loop.lines
          loop.ok loop.out loop.invariant.8 (as_lines (as_entered c.put_entry.result)) _ c.put_entry.ensures.puts_entry _ _ _ (ap as_lines (ap as_entered c.in-Some.is)) _
          e.1.ends _ (turn-as separator.ensures c.in-Break.is);
    }
