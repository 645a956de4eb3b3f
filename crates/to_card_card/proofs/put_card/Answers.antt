-- No loop: the head, then put_body on the room that is left, then END on what is left of that. `whole-all` says that these are the bytes of
-- `print_card`, with the count and the verdict of its lines; 12 comes from the head (`whole-first`) or from the body (`whole-second`). Each of these
-- is about slots that index the object; `card-whole` carries it over to the text, whose tree is that object.
use native.Mathlib.Omega.{arith}
use Rattle.to_card_pen.proofs.Refusal.{refused}
use Rattle.to_card_lines.specs.Lines.{laid}
use mathlib.Core.Path.{refl, sym, ap, subst, ◌∙◌}
use mathlib.Core.Bool.{true, ◌&&◌}
use borrow.Rule.Slice.PartMut.{put_mid}
use Prim.Native.Nat.{ℕ, ◌+◌, ◌-◌, ◌≤◌}
use lib.ListN.{length}
use Rattle.to_card_lines.proofs.Laws.{lines-in, part_length, part_in, fills-in, fills-length}
use Rattle.to_card_card.specs.Whole.{few, PutsWhole}
use Rattle.to_card_card.proofs.Joining.{few-at}
use Rattle.to_card_card.proofs.Names.{card-whole}
use Rattle.to_card_card.proofs.Whole.{whole-first, whole-second, whole-all}
use Rattle.to_card_card.proofs.put_card.Goals as goal

pub returns-in_err-head : goal.returns-in_err-head
returns-in_err-head c =
    let e = refused c.from_residual.result c.from_residual.ensures.0 in
    let index = c.requires.indexes in
    let args = c.args in
    record {
      few_in = rw e tt;
      out_len_unchanged = c.put_head.ensures.out_len_unchanged;
      puts_card = rw e (card-whole args.s.now args.out.now args.slots.now true index _ _ refl
          (whole-first args.s.now args.slots.now args.out.now c.put_head.result c.put_head.new.out c.put_head.ensures.puts_head c.in_err-head.was c.put_head.new.out));
    }

pub slice_bounds-put_body-count : goal.slice_bounds-put_body-count
slice_bounds-put_body-count c =
    omega (arith, lines-in c.put_head.ensures.lines_in c.in_ok-head.was, c.put_head.ensures.out_len_unchanged)

pub slice_bounds-put_body-start : goal.slice_bounds-put_body-start
slice_bounds-put_body-start c =
    omega (arith, lines-in c.put_head.ensures.lines_in c.in_ok-head.was, c.put_head.ensures.out_len_unchanged)

pub returns-in_err-body : goal.returns-in_err-body
returns-in_err-body c =
    let e = refused c.from_residual-in_err-body.result c.from_residual-in_err-body.ensures.0 in
    let index = c.requires.indexes in
    let args = c.args in
    let s = args.s.now in
    let slots = args.slots.now in
    let out = args.out.now in
    let inside : c.in_ok-head.head.bytes ≤ length c.put_head.new.out = omega (arith, lines-in c.put_head.ensures.lines_in c.in_ok-head.was, c.put_head.ensures.out_len_unchanged) in
    let as_long = part_length c.in_ok-head.head.bytes c.put_head.new.out c.put_body.new.out inside c.put_body.ensures.out_len_unchanged in record {
      few_in = rw e tt;
      out_len_unchanged = as_long ∙ c.put_head.ensures.out_len_unchanged;
      puts_card = rw e (card-whole s out slots true index _ _ refl
          (whole-second s slots out c.put_head.result c.put_head.new.out c.put_head.ensures.puts_head c.in_ok-head.head.bytes c.in_ok-head.head.lines c.in_ok-head.head.carries c.in_ok-head.was
          c.put_body.result c.put_body.new.out c.put_body.ensures.puts_body c.in_err-body.was _));
    }

pub overflow_add-e : goal.overflow_add-e
overflow_add-e c =
    let good = c.well_formed in
    let inside : c.in_ok-head.head.bytes ≤ length c.put_head.new.out = omega (arith, lines-in c.put_head.ensures.lines_in c.in_ok-head.was, c.put_head.ensures.out_len_unchanged) in
    let both-in = part_in c.in_ok-head.head.bytes c.put_head.new.out inside (few-at c.put_body.ensures.few_in c.in_ok-body.was).0 in
    record { fits = omega (arith, both-in, c.put_head.ensures.out_len_unchanged, good.0.0) }

pub slice_bounds-fill-count : goal.slice_bounds-fill-count
slice_bounds-fill-count c =
    let inside : c.in_ok-head.head.bytes ≤ length c.put_head.new.out = omega (arith, lines-in c.put_head.ensures.lines_in c.in_ok-head.was, c.put_head.ensures.out_len_unchanged) in
    let as_long = part_length c.in_ok-head.head.bytes c.put_head.new.out c.put_body.new.out inside c.put_body.ensures.out_len_unchanged in
    let both-in = part_in c.in_ok-head.head.bytes c.put_head.new.out inside (few-at c.put_body.ensures.few_in c.in_ok-body.was).0 in
    omega (arith, both-in, as_long)

pub slice_bounds-fill-start : goal.slice_bounds-fill-start
slice_bounds-fill-start c =
    let inside : c.in_ok-head.head.bytes ≤ length c.put_head.new.out = omega (arith, lines-in c.put_head.ensures.lines_in c.in_ok-head.was, c.put_head.ensures.out_len_unchanged) in
    let as_long = part_length c.in_ok-head.head.bytes c.put_head.new.out c.put_body.new.out inside c.put_body.ensures.out_len_unchanged in
    let both-in = part_in c.in_ok-head.head.bytes c.put_head.new.out inside (few-at c.put_body.ensures.few_in c.in_ok-body.was).0 in
    omega (arith, both-in, as_long)

pub overflow_add-bytes : goal.overflow_add-bytes
overflow_add-bytes c =
    let good = c.well_formed in
    let inside : c.in_ok-head.head.bytes ≤ length c.put_head.new.out = omega (arith, lines-in c.put_head.ensures.lines_in c.in_ok-head.was, c.put_head.ensures.out_len_unchanged) in
    let as_long = part_length c.in_ok-head.head.bytes c.put_head.new.out c.put_body.new.out inside c.put_body.ensures.out_len_unchanged in
    let both-in = part_in c.in_ok-head.head.bytes c.put_head.new.out inside (few-at c.put_body.ensures.few_in c.in_ok-body.was).0 in
    let written = put_mid c.in_ok-head.head.bytes (length c.put_head.new.out - c.in_ok-head.head.bytes) c.put_head.new.out c.put_body.new.out in
    let room : c.in_ok-head.head.bytes + c.in_ok-body.body.bytes ≤ length written = omega (arith, both-in, as_long) in
    record { fits = omega (arith, part_in (c.in_ok-head.head.bytes + c.in_ok-body.body.bytes) written room (fills-in c.fill-z.ensures), as_long, c.put_head.ensures.out_len_unchanged, good.0.0) }

pub overflow_add-up_to : goal.overflow_add-up_to
overflow_add-up_to c =
    record { fits = omega (arith, c.up_to.ensures, (few-at c.put_body.ensures.few_in c.in_ok-body.was).1) }

pub returns : goal.returns
returns c =
    let index = c.requires.indexes in
    let args = c.args in
    let counted = c.up_to-lines.ensures ∙ ap (λ (k : ℕ). few (k + c.in_ok-body.body.lines)) c.up_to.ensures in
    let s = args.s.now in
    let slots = args.slots.now in
    let out = args.out.now in
    let inside : c.in_ok-head.head.bytes ≤ length c.put_head.new.out = omega (arith, lines-in c.put_head.ensures.lines_in c.in_ok-head.was, c.put_head.ensures.out_len_unchanged) in
    let as_long = part_length c.in_ok-head.head.bytes c.put_head.new.out c.put_body.new.out inside c.put_body.ensures.out_len_unchanged in
    let both-in = part_in c.in_ok-head.head.bytes c.put_head.new.out inside (few-at c.put_body.ensures.few_in c.in_ok-body.was).0 in
    let written = put_mid c.in_ok-head.head.bytes (length c.put_head.new.out - c.in_ok-head.head.bytes) c.put_head.new.out c.put_body.new.out in
    let room : c.in_ok-head.head.bytes + c.in_ok-body.body.bytes ≤ length written = omega (arith, both-in, as_long) in
    let ended = put_mid (c.in_ok-head.head.bytes + c.in_ok-body.body.bytes) (length written - (c.in_ok-head.head.bytes + c.in_ok-body.body.bytes)) written c.fill-z.new.out in record {
      few_in = (omega (arith, part_in (c.in_ok-head.head.bytes + c.in_ok-body.body.bytes) written room (fills-in c.fill-z.ensures), as_long, c.put_head.ensures.out_len_unchanged), omega (arith, c.up_to-lines.ensures));
      out_len_unchanged = part_length (c.in_ok-head.head.bytes + c.in_ok-body.body.bytes) written c.fill-z.new.out room (fills-length c.fill-z.ensures) ∙ (as_long ∙ c.put_head.ensures.out_len_unchanged);
      puts_card = card-whole s out slots true index _ _ refl
          (subst (λ (lines : ℕ). PutsWhole s slots out (laid (c.in_ok-head.head.bytes + c.in_ok-body.body.bytes + c.fill-z.result) lines (c.in_ok-head.head.carries && c.in_ok-body.body.carries)) ended) (sym counted)
          (whole-all s slots out c.put_head.result c.put_head.new.out c.put_head.ensures.puts_head c.in_ok-head.head.bytes c.in_ok-head.head.lines c.in_ok-head.head.carries c.in_ok-head.was
          c.put_body.result c.put_body.new.out c.put_body.ensures.puts_body c.in_ok-body.body.bytes c.in_ok-body.body.lines c.in_ok-body.body.carries c.in_ok-body.was
          c.fill-z.result c.fill-z.new.out c.fill-z.ensures));
    }
