use native.Mathlib.Omega.{arith}
use Rattle.to_card_pen.proofs.Refusal.{refused}
use native.Mathlib.Nat.{le_refl}
use mathlib.Core.Path.{refl, ap, ◌∙◌}
use Prim.Native.Nat.{◌-◌}
use Rattle.text.proofs.Places.{turn-as}
use Rattle.to_card_value.proofs.Whole.{part_length, part_in}
use Rattle.to_card_entry.specs.Rows.{line_of}
use Rattle.to_card_entry.proofs.Putting.{entered-in}
use Rattle.to_card_map.proofs.Laws.{going-first, puts-wrong, going_on, puts-all}
use Rattle.to_card_map.proofs.put_from.Goals as goal

pub loop-entry-init : goal.loop-entry-init
loop-entry-init c =
    let a = c.args in
    (c.requires.at_in_bounds, omega arith, refl, omega arith, going-first a.s.now a.at a.names.now a.kinds.now a.count a.heads.now a.form a.out.now)

pub slice_bounds-put_entry-count : goal.slice_bounds-put_entry-count
slice_bounds-put_entry-count c = c.loop-entry.invariant.1

pub slice_bounds-put_entry-start : goal.slice_bounds-put_entry-start
slice_bounds-put_entry-start c = c.loop-entry.invariant.1

pub slice_bounds-put_entry-end : goal.slice_bounds-put_entry-end
slice_bounds-put_entry-end c = le_refl _

pub put_entry-requires : goal.put_entry-requires
put_entry-requires c = record { value_in_bounds = c.head_at-m.ensures.at_le_start.1; names_len = c.requires.names_len }

pub shape_of-out-in_err-entry : goal.shape_of-out-in_err-entry
shape_of-out-in_err-entry c =
    let l = c.loop-entry in
    part_length l.n l.out c.put_entry.new.out l.invariant.1 c.put_entry.ensures.out_len_unchanged ∙ l.invariant.2

pub returns-in_err-entry : goal.returns-in_err-entry
returns-in_err-entry c =
    let e = refused c.from_residual.result c.from_residual.ensures.0 in
    let a = c.args in
    let l = c.loop-entry in
    let n = part_length l.n l.out c.put_entry.new.out l.invariant.1 c.put_entry.ensures.out_len_unchanged in
    record {
      lines_in = rw e tt;
      out_len_unchanged = n ∙ l.invariant.2;
      puts_from = rw e (puts-wrong a.s.now a.at a.names.now a.kinds.now a.count a.heads.now a.form a.out.now l.i l.n l.lines l.ok l.out l.invariant.4 c.head_at-m.result c.head_at-m.ensures.tells_head (line_of c.put_entry.result) _ c.put_entry.ensures.puts _ (ap line_of c.in_err-entry.was));
    }

pub overflow_add-n : goal.overflow_add-n
overflow_add-n c =
    let a = c.args in
    let l = c.loop-entry in
    let e = entered-in a.s.now c.head_at-m.result.start c.put_entry.ensures.entered_in c.in_ok-entry.was in
    record { fits = omega (arith, part_in l.n l.out l.invariant.1 e.0, l.invariant.2, c.well_formed.0.0) }

pub overflow_add-lines : goal.overflow_add-lines
overflow_add-lines c = omega (arith, c.loop-entry.invariant.3, c.loop-entry.invariant.0)

pub separator-requires : goal.separator-requires
separator-requires c =
    let a = c.args in
    let l = c.loop-entry in
    let e = entered-in a.s.now c.head_at-m.result.start c.put_entry.ensures.entered_in c.in_ok-entry.was in
    record { at_in_bounds = e.1.within; close_bound = omega arith }

pub loop-entry-smaller : goal.loop-entry-smaller
loop-entry-smaller c =
    let a = c.args in
    let l = c.loop-entry in
    let e = entered-in a.s.now c.head_at-m.result.start c.put_entry.ensures.entered_in c.in_ok-entry.was in
    let h = turn-as c.separator.ensures c.in-Continue.is in
    omega (arith, h.within.0, h.within.1, c.head_at-m.ensures.at_le_start.0 l.invariant.0, e.1.from)

pub loop-entry-preserved : goal.loop-entry-preserved
loop-entry-preserved c =
    let a = c.args in
    let l = c.loop-entry in
    let n = part_length l.n l.out c.put_entry.new.out l.invariant.1 c.put_entry.ensures.out_len_unchanged in
    let e = entered-in a.s.now c.head_at-m.result.start c.put_entry.ensures.entered_in c.in_ok-entry.was in
    let h = turn-as c.separator.ensures c.in-Continue.is in (
      h.within.1,
      omega (arith, n, part_in l.n l.out l.invariant.1 e.0),
      n ∙ l.invariant.2,
      omega (arith, l.invariant.3, h.within.0, c.head_at-m.ensures.at_le_start.0 l.invariant.0, e.1.from),
      going_on a.s.now a.at a.names.now a.kinds.now a.count a.heads.now a.form a.out.now l.i l.n l.lines l.ok l.out l.invariant.4 c.head_at-m.result c.head_at-m.ensures.tells_head (line_of c.put_entry.result) _ c.put_entry.ensures.puts _ _ (ap line_of c.in_ok-entry.was) _ e.1.ends _ h,
    )

pub shape_of-out-in-Break : goal.shape_of-out-in-Break
shape_of-out-in-Break c =
    let l = c.loop-entry in
    part_length l.n l.out c.put_entry.new.out l.invariant.1 c.put_entry.ensures.out_len_unchanged ∙ l.invariant.2

pub returns-in-Break : goal.returns-in-Break
returns-in-Break c =
    let a = c.args in
    let l = c.loop-entry in
    let n = part_length l.n l.out c.put_entry.new.out l.invariant.1 c.put_entry.ensures.out_len_unchanged in
    let e = entered-in a.s.now c.head_at-m.result.start c.put_entry.ensures.entered_in c.in_ok-entry.was in
    let h = turn-as c.separator.ensures c.in-Break.is in record {
      lines_in = (omega (arith, part_in l.n l.out l.invariant.1 e.0, l.invariant.2), omega (arith, l.invariant.3, l.invariant.0));
      out_len_unchanged = n ∙ l.invariant.2;
      puts_from = puts-all a.s.now a.at a.names.now a.kinds.now a.count a.heads.now a.form a.out.now l.i l.n l.lines l.ok l.out l.invariant.4 c.head_at-m.result c.head_at-m.ensures.tells_head (line_of c.put_entry.result) _ c.put_entry.ensures.puts _ _ (ap line_of c.in_ok-entry.was) _ e.1.ends _ h;
    }
