-- No loop: the maps, then put_last on the room that is left. `rest_all` joins the two as `rest_parts` does: the entries that the maps came to are
-- also what the kept lines are judged by. 12 comes from a map (`rest-first`) or from what follows (`rest-second`). Each count goes through up_to
-- before it is added (`few`), so no sum wraps, however many lines there are.
use native.Mathlib.Omega.{arith}
use Rattle.to_card_pen.proofs.Refusal.{refused}
use Rattle.to_card_lines.specs.Lines.{laid}
use mathlib.Core.Path.{sym, ap, subst, ◌∙◌}
use borrow.Rule.Slice.PartMut.{put_mid}
use Prim.Native.Nat.{ℕ, ◌+◌, ◌-◌, ◌≤◌}
use lib.ListN.{length}
use Rattle.to_card_lines.proofs.Laws.{part_length, part_in}
use mathlib.Core.Bool.{◌&&◌}
use Rattle.to_card_card.specs.Whole.{few, PutsRest}
use Rattle.to_card_card.proofs.Joining.{few-at, maps-at}
use Rattle.to_card_card.proofs.Steps.{rest-first, rest-second, rest_all}
use Rattle.to_card_card.proofs.put_rest.Goals as goal

pub returns-in_err-maps : goal.returns-in_err-maps
returns-in_err-maps c =
    let e = refused c.from_residual.result c.from_residual.ensures.0 in
    let args = c.args in
    record {
      few_in = rw e tt;
      out_len_unchanged = c.put_maps.ensures.out_len_unchanged;
      puts_rest = rw e (rest-first args.s.now args.slots.now args.full args.parts args.out.now c.put_maps.result c.put_maps.new.out c.put_maps.ensures.puts_maps c.in_err-maps.was c.put_maps.new.out);
    }

pub slice_bounds-put_last-count : goal.slice_bounds-put_last-count
slice_bounds-put_last-count c =
    omega (arith, (maps-at 458758 c.put_maps.ensures.lines_in c.in_ok-maps.was).0, c.put_maps.ensures.out_len_unchanged)

pub slice_bounds-put_last-start : goal.slice_bounds-put_last-start
slice_bounds-put_last-start c =
    omega (arith, (maps-at 458758 c.put_maps.ensures.lines_in c.in_ok-maps.was).0, c.put_maps.ensures.out_len_unchanged)

pub returns-in_err-last : goal.returns-in_err-last
returns-in_err-last c =
    let e = refused c.from_residual-in_err-last.result c.from_residual-in_err-last.ensures.0 in
    let args = c.args in
    let s = args.s.now in
    let slots = args.slots.now in
    let out = args.out.now in
    let inside : c.in_ok-maps.maps.bytes ≤ length c.put_maps.new.out = omega (arith, (maps-at 458758 c.put_maps.ensures.lines_in c.in_ok-maps.was).0, c.put_maps.ensures.out_len_unchanged) in
    let as_long = part_length c.in_ok-maps.maps.bytes c.put_maps.new.out c.put_last.new.out inside c.put_last.ensures.out_len_unchanged in record {
      few_in = rw e tt;
      out_len_unchanged = as_long ∙ c.put_maps.ensures.out_len_unchanged;
      puts_rest = rw e (rest-second s slots args.full args.parts out c.put_maps.result c.put_maps.new.out c.put_maps.ensures.puts_maps
          c.in_ok-maps.maps.bytes c.in_ok-maps.maps.lines c.in_ok-maps.maps.carries c.in_ok-maps.was
          c.put_last.result c.put_last.new.out c.put_last.ensures.puts_last c.in_err-last.was _);
    }

pub overflow_add-bytes : goal.overflow_add-bytes
overflow_add-bytes c =
    let good = c.well_formed in
    record {
      fits = omega (
        arith,
        part_in c.in_ok-maps.maps.bytes c.put_maps.new.out (omega (arith, (maps-at 458758 c.put_maps.ensures.lines_in c.in_ok-maps.was).0, c.put_maps.ensures.out_len_unchanged)) (few-at c.put_last.ensures.few_in c.in_ok-last.was).0,
        c.put_maps.ensures.out_len_unchanged,
        good.0.0,
      );
    }

pub overflow_add-up_to : goal.overflow_add-up_to
overflow_add-up_to c =
    record { fits = omega (arith, c.up_to.ensures, (few-at c.put_last.ensures.few_in c.in_ok-last.was).1) }

pub returns : goal.returns
returns c =
    let args = c.args in
    let counted = c.up_to-lines.ensures ∙ ap (λ (k : ℕ). few (k + c.in_ok-last.last.lines)) c.up_to.ensures in
    let s = args.s.now in
    let slots = args.slots.now in
    let out = args.out.now in
    let inside : c.in_ok-maps.maps.bytes ≤ length c.put_maps.new.out = omega (arith, (maps-at 458758 c.put_maps.ensures.lines_in c.in_ok-maps.was).0, c.put_maps.ensures.out_len_unchanged) in
    let as_long = part_length c.in_ok-maps.maps.bytes c.put_maps.new.out c.put_last.new.out inside c.put_last.ensures.out_len_unchanged in
    let written = put_mid c.in_ok-maps.maps.bytes (length c.put_maps.new.out - c.in_ok-maps.maps.bytes) c.put_maps.new.out c.put_last.new.out in record {
      few_in = (omega (arith, part_in c.in_ok-maps.maps.bytes c.put_maps.new.out inside (few-at c.put_last.ensures.few_in c.in_ok-last.was).0, c.put_maps.ensures.out_len_unchanged), omega (arith, c.up_to-lines.ensures));
      out_len_unchanged = as_long ∙ c.put_maps.ensures.out_len_unchanged;
      puts_rest = subst (λ (lines : ℕ). PutsRest s slots args.full args.parts out (laid (c.in_ok-maps.maps.bytes + c.in_ok-last.last.bytes) lines (c.in_ok-maps.maps.carries && c.in_ok-last.last.carries)) written) (sym counted)
          (rest_all s slots args.full args.parts out c.put_maps.result c.put_maps.new.out c.put_maps.ensures.puts_maps
          c.in_ok-maps.maps.bytes c.in_ok-maps.maps.lines c.in_ok-maps.maps.carries c.in_ok-maps.was
          c.put_last.result c.put_last.new.out c.put_last.ensures.puts_last c.in_ok-last.last.bytes c.in_ok-last.last.lines c.in_ok-last.last.carries c.in_ok-last.was);
    }
