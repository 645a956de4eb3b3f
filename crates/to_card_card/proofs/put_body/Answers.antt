-- No loop: the name, then put_rest on the room that is left. `body-all` joins the two as `body_parts` does; bytes add up, and counts of lines as
-- `few` does. That N is among the lines is told by their number, two, and whether there is a full name by `SaysFull`: put_rest is told both. 12
-- comes from the name (`body-first`) or from the rest (`body-second`).
use native.Mathlib.Omega.{arith}
use Rattle.to_card_pen.proofs.Refusal.{refused}
use Rattle.to_card_lines.specs.Lines.{laid}
use mathlib.Core.Path.{sym, ap, subst, ◌∙◌}
use borrow.Rule.Slice.PartMut.{put_mid}
use Prim.Native.Nat.{ℕ, ◌+◌, ◌-◌, ◌≤◌}
use lib.ListN.{length, get_or}
use Rattle.to_card_lines.proofs.Laws.{lines-in, part_length, part_in}
use mathlib.Core.Bool.{◌&&◌}
use Rattle.to_card_name.specs.Name.{as_lines, SaysFull}
use Rattle.to_card_card.specs.Whole.{few, PutsBody}
use Rattle.to_card_card.proofs.Joining.{few-at}
use Rattle.to_card_card.proofs.Steps.{body-first, body-second, body-all}
use Rattle.to_card_card.proofs.put_body.Goals as goal

pub returns-in_err-name : goal.returns-in_err-name
returns-in_err-name c =
    let e = refused c.from_residual.result c.from_residual.ensures.0 in
    let args = c.args in
    record {
      few_in = rw e tt;
      out_len_unchanged = c.put_name.ensures.out_len_unchanged;
      puts_body = rw e (body-first args.s.now args.slots.now args.out.now (as_lines c.put_name.result) c.put_name.new.out c.put_name.ensures.puts_name (ap as_lines c.in_err-name.was) c.put_name.new.out);
    }

pub slice_bounds-put_rest-count : goal.slice_bounds-put_rest-count
slice_bounds-put_rest-count c =
    omega (arith, lines-in c.put_name.ensures.lines_in (ap as_lines c.in_ok-name.was), c.put_name.ensures.out_len_unchanged)

pub slice_bounds-put_rest-start : goal.slice_bounds-put_rest-start
slice_bounds-put_rest-start c =
    omega (arith, lines-in c.put_name.ensures.lines_in (ap as_lines c.in_ok-name.was), c.put_name.ensures.out_len_unchanged)

pub returns-in_err-rest : goal.returns-in_err-rest
returns-in_err-rest c =
    let e = refused c.from_residual-in_err-rest.result c.from_residual-in_err-rest.ensures.0 in
    let args = c.args in
    let s = args.s.now in
    let slots = args.slots.now in
    let out = args.out.now in
    let full = subst (SaysFull s (get_or slots 4 0)) c.in_ok-name.was c.put_name.ensures.says_full in
    let inside : c.in_ok-name.name.lines.bytes ≤ length c.put_name.new.out = omega (arith, lines-in c.put_name.ensures.lines_in (ap as_lines c.in_ok-name.was), c.put_name.ensures.out_len_unchanged) in
    let as_long = part_length c.in_ok-name.name.lines.bytes c.put_name.new.out c.put_rest.new.out inside c.put_rest.ensures.out_len_unchanged in record {
      few_in = rw e tt;
      out_len_unchanged = as_long ∙ c.put_name.ensures.out_len_unchanged;
      puts_body = rw e (body-second s slots out (as_lines c.put_name.result) c.put_name.new.out c.put_name.ensures.puts_name
          c.in_ok-name.name.lines.bytes c.in_ok-name.name.lines.lines c.in_ok-name.name.lines.carries (ap as_lines c.in_ok-name.was) c.in_ok-name.name.full full
          c.put_rest.result c.put_rest.new.out c.put_rest.ensures.puts_rest c.in_err-rest.was _);
    }

pub overflow_add-bytes : goal.overflow_add-bytes
overflow_add-bytes c =
    let good = c.well_formed in
    record {
      fits = omega (
        arith,
        part_in c.in_ok-name.name.lines.bytes c.put_name.new.out (omega (arith, lines-in c.put_name.ensures.lines_in (ap as_lines c.in_ok-name.was), c.put_name.ensures.out_len_unchanged)) (few-at c.put_rest.ensures.few_in c.in_ok-rest.was).0,
        c.put_name.ensures.out_len_unchanged,
        good.0.0,
      );
    }

pub overflow_add-up_to : goal.overflow_add-up_to
overflow_add-up_to c =
    record { fits = omega (arith, c.up_to.ensures, (few-at c.put_rest.ensures.few_in c.in_ok-rest.was).1) }

pub returns : goal.returns
returns c =
    let args = c.args in
    let counted = c.up_to-lines.ensures ∙ ap (λ (k : ℕ). few (k + c.in_ok-rest.rest.lines)) c.up_to.ensures in
    let s = args.s.now in
    let slots = args.slots.now in
    let out = args.out.now in
    let full = subst (SaysFull s (get_or slots 4 0)) c.in_ok-name.was c.put_name.ensures.says_full in
    let inside : c.in_ok-name.name.lines.bytes ≤ length c.put_name.new.out = omega (arith, lines-in c.put_name.ensures.lines_in (ap as_lines c.in_ok-name.was), c.put_name.ensures.out_len_unchanged) in
    let as_long = part_length c.in_ok-name.name.lines.bytes c.put_name.new.out c.put_rest.new.out inside c.put_rest.ensures.out_len_unchanged in
    let written = put_mid c.in_ok-name.name.lines.bytes (length c.put_name.new.out - c.in_ok-name.name.lines.bytes) c.put_name.new.out c.put_rest.new.out in record {
      few_in = (omega (arith, part_in c.in_ok-name.name.lines.bytes c.put_name.new.out inside (few-at c.put_rest.ensures.few_in c.in_ok-rest.was).0, c.put_name.ensures.out_len_unchanged), omega (arith, c.up_to-lines.ensures));
      out_len_unchanged = as_long ∙ c.put_name.ensures.out_len_unchanged;
      puts_body = subst (λ (lines : ℕ). PutsBody s slots out (laid (c.in_ok-name.name.lines.bytes + c.in_ok-rest.rest.bytes) lines (c.in_ok-name.name.lines.carries && c.in_ok-rest.rest.carries)) written) (sym counted)
          (body-all s slots out (as_lines c.put_name.result) c.put_name.new.out c.put_name.ensures.puts_name
          c.in_ok-name.name.lines.bytes c.in_ok-name.name.lines.lines c.in_ok-name.name.lines.carries (ap as_lines c.in_ok-name.was) c.in_ok-name.name.full full
          c.put_rest.result c.put_rest.new.out c.put_rest.ensures.puts_rest c.in_ok-rest.rest.bytes c.in_ok-rest.rest.lines c.in_ok-rest.rest.carries c.in_ok-rest.was);
    }
