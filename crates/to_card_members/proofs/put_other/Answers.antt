use mathlib.Core.Path.{refl}
use native.Mathlib.Omega.{arith}
use Rattle.to_card_lines.proofs.Laws.{fills-in, fills-length}
use Rattle.to_card_members.proofs.Others.{is-reserved, other-said, other-empty, other-line}
use Rattle.to_card_members.proofs.put_other.Goals as goal

pub returns-then-k-ne-OTHER : goal.returns-then-k-ne-OTHER
returns-then-k-ne-OTHER c =
    let args = c.args in
    let which-name = c.which_name-k in record {
      one_in = (omega arith, omega arith);
      out_len_unchanged = refl;
      buffer_len_unchanged = refl;
      puts_other = other-said args.s.now args.name args.a args.e args.out.now which-name.result _ is-reserved which-name.ensures c.if-k-ne-OTHER.true;
    }

pub returns-then-not-is_filled : goal.returns-then-not-is_filled
returns-then-not-is_filled c =
    let args = c.args in
    let which-name = c.which_name-k in
    let is-filled = c.is_filled in record {
      one_in = tt;
      out_len_unchanged = refl;
      buffer_len_unchanged = refl;
      puts_other = other-empty args.s.now args.name args.a args.e args.out.now which-name.result _ is-reserved which-name.ensures c.if-k-ne-OTHER.false is-filled.result is-filled.ensures c.if-not-is_filled.true _;
    }

pub put_member-p-requires : goal.put_member-p-requires
put_member-p-requires c =
    record { a_le_e = c.requires.a_le_e; e_in_bounds = c.requires.e_in_bounds; out_in_bounds = c.requires.out_in_bounds }

pub shape_of-out : goal.shape_of-out
shape_of-out c = fills-length c.put_member-p.ensures.member_line.fills

pub shape_of-buffer : goal.shape_of-buffer
shape_of-buffer c = c.put_member-p.ensures.buffer_len_unchanged

pub returns : goal.returns
returns c =
    let args = c.args in
    let which-name = c.which_name-k in
    let if1 = c.if-k-ne-OTHER in
    let is-filled = c.is_filled in
    record {
      one_in = (fills-in c.put_member-p.ensures.member_line.fills, omega arith);
      out_len_unchanged = fills-length c.put_member-p.ensures.member_line.fills;
      buffer_len_unchanged = c.put_member-p.ensures.buffer_len_unchanged;
      puts_other = other-line args.s.now args.name args.a args.e args.out.now which-name.result _ is-reserved which-name.ensures if1.false is-filled.result is-filled.ensures c.if-not-is_filled.false c.put_member-p.result _ c.put_member-p.ensures.member_line;
    }
