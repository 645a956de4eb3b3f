use Rattle.to_card_value.proofs.Whole.{name-absent, name-wrong, name-there}
use Rattle.line_pen.proofs.Laws.{pens-in, pens-length}
use mathlib.Core.Path.{refl}
use Rattle.to_card_value.proofs.put_name.Goals as goal

pub returns-then-slot-eq0 : goal.returns-then-slot-eq0
returns-then-slot-eq0 c =
    let args = c.args in
    let if1 = c.if-slot-eq0 in
    let pen-bytes = c.pen_bytes-p in record {
      ink_in = pens-in pen-bytes.ensures;
      out_len_unchanged = pens-length pen-bytes.ensures;
      tells_name = name-absent args.s.now args.slot _ _ _ if1.true pen-bytes.ensures;
    }

pub returns-then-q-eq0 : goal.returns-then-q-eq0
returns-then-q-eq0 c = record {
  ink_in = tt;
  out_len_unchanged = refl;
  tells_name = name-wrong c.args.s.now c.args.slot _ _ _ c.if-slot-eq0.false c.string_in-q.result c.string_in-q.ensures c.if-q-eq0.true;
}

pub returns : goal.returns
returns c =
    let args = c.args in
    let if1 = c.if-slot-eq0 in
    let string-in = c.string_in-q in
    let if2 = c.if-q-eq0 in
    let pen-text = c.pen_text-t in record {
      ink_in = pens-in pen-text.ensures.pens;
      out_len_unchanged = pens-length pen-text.ensures.pens;
      tells_name = name-there args.s.now args.slot _ _ _ if1.false string-in.result string-in.ensures if2.false pen-text.ensures c.is_blank-blank.ensures;
    }
