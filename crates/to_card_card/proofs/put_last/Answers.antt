-- No loop: the other members, then the kept lines on the room that is left. `last-all` joins the two as `last_parts` does: bytes one after the
-- other, `few` of the sum of the lines, carried where both are. 12 comes from the members (`last-first`) or from the kept lines (`last-second`).
-- `part_in` and `part_length` say that the second writes within the first one's rest, so that no byte and no count is lost.
use native.Mathlib.Omega.{arith}
use Rattle.to_card_pen.proofs.Refusal.{refused}
use Rattle.to_card_lines.specs.Lines.{laid}
use mathlib.Core.Path.{sym, ap, subst, ◌∙◌}
use borrow.Rule.Slice.PartMut.{put_mid}
use Prim.Native.Nat.{ℕ, ◌+◌, ◌-◌, ◌≤◌}
use lib.ListN.{length}
use Rattle.to_card_lines.proofs.Laws.{lines-in, part_length, part_in}
use mathlib.Core.Bool.{◌&&◌}
use Rattle.to_card_card.specs.Whole.{few, PutsLast}
use Rattle.to_card_card.proofs.Steps.{last-first, last-second, last-all}
use Rattle.to_card_card.proofs.put_last.Goals as goal

pub returns-in_err-others : goal.returns-in_err-others
returns-in_err-others c =
    let e = refused c.from_residual.result c.from_residual.ensures.0 in
    let args = c.args in
    record {
      few_in = rw e tt;
      out_len_unchanged = c.put_others.ensures.out_len_unchanged;
      puts_last = rw e (last-first args.s.now args.slots.now args.full args.parts args.out.now c.put_others.result c.put_others.new.out c.put_others.ensures.puts_others c.in_err-others.was c.put_others.new.out);
    }

pub slice_bounds-put_kept-count : goal.slice_bounds-put_kept-count
slice_bounds-put_kept-count c =
    omega (arith, lines-in c.put_others.ensures.lines_in c.in_ok-others.was, c.put_others.ensures.out_len_unchanged)

pub slice_bounds-put_kept-start : goal.slice_bounds-put_kept-start
slice_bounds-put_kept-start c =
    omega (arith, lines-in c.put_others.ensures.lines_in c.in_ok-others.was, c.put_others.ensures.out_len_unchanged)

pub returns-in_err-kept : goal.returns-in_err-kept
returns-in_err-kept c =
    let e = refused c.from_residual-in_err-kept.result c.from_residual-in_err-kept.ensures.0 in
    let args = c.args in
    let s = args.s.now in
    let slots = args.slots.now in
    let out = args.out.now in
    let inside : c.in_ok-others.others.bytes ≤ length c.put_others.new.out = omega (arith, lines-in c.put_others.ensures.lines_in c.in_ok-others.was, c.put_others.ensures.out_len_unchanged) in
    let as_long = part_length c.in_ok-others.others.bytes c.put_others.new.out c.put_kept.new.out inside c.put_kept.ensures.out_len_unchanged in record {
      few_in = rw e tt;
      out_len_unchanged = as_long ∙ c.put_others.ensures.out_len_unchanged;
      puts_last = rw e (last-second s slots args.full args.parts out c.put_others.result c.put_others.new.out c.put_others.ensures.puts_others
          c.in_ok-others.others.bytes c.in_ok-others.others.lines c.in_ok-others.others.carries c.in_ok-others.was
          c.put_kept.result c.put_kept.new.out c.put_kept.ensures.puts_kept c.in_err-kept.was _);
    }

pub overflow_add-bytes : goal.overflow_add-bytes
overflow_add-bytes c =
    let good = c.well_formed in
    record {
      fits = omega (
        arith,
        part_in c.in_ok-others.others.bytes c.put_others.new.out (omega (arith, lines-in c.put_others.ensures.lines_in c.in_ok-others.was, c.put_others.ensures.out_len_unchanged)) (lines-in c.put_kept.ensures.lines_in c.in_ok-kept.was),
        c.put_others.ensures.out_len_unchanged,
        good.0.0,
      );
    }

pub returns : goal.returns
returns c =
    let args = c.args in
    let up-to2 = c.up_to-2 in
    let counted = c.up_to-lines.ensures ∙ ap (λ (k : ℕ). few (k + up-to2.result)) c.up_to.ensures ∙ ap
    (λ (k : ℕ). few (few c.in_ok-others.others.lines + k)) up-to2.ensures in
    let s = args.s.now in
    let slots = args.slots.now in
    let out = args.out.now in
    let inside : c.in_ok-others.others.bytes ≤ length c.put_others.new.out = omega (arith, lines-in c.put_others.ensures.lines_in c.in_ok-others.was, c.put_others.ensures.out_len_unchanged) in
    let as_long = part_length c.in_ok-others.others.bytes c.put_others.new.out c.put_kept.new.out inside c.put_kept.ensures.out_len_unchanged in
    let written = put_mid c.in_ok-others.others.bytes (length c.put_others.new.out - c.in_ok-others.others.bytes) c.put_others.new.out c.put_kept.new.out in record {
      few_in = (omega (arith, part_in c.in_ok-others.others.bytes c.put_others.new.out inside (lines-in c.put_kept.ensures.lines_in c.in_ok-kept.was), c.put_others.ensures.out_len_unchanged), omega (arith, c.up_to-lines.ensures));
      out_len_unchanged = as_long ∙ c.put_others.ensures.out_len_unchanged;
      puts_last = subst (λ (lines : ℕ). PutsLast s slots args.full args.parts out (laid (c.in_ok-others.others.bytes + c.in_ok-kept.kept.bytes) lines (c.in_ok-others.others.carries && c.in_ok-kept.kept.carries)) written) (sym counted)
          (last-all s slots args.full args.parts out c.put_others.result c.put_others.new.out c.put_others.ensures.puts_others
          c.in_ok-others.others.bytes c.in_ok-others.others.lines c.in_ok-others.others.carries c.in_ok-others.was
          c.put_kept.result c.put_kept.new.out c.put_kept.ensures.puts_kept c.in_ok-kept.kept.bytes c.in_ok-kept.kept.lines c.in_ok-kept.kept.carries c.in_ok-kept.was);
    }
