use Rattle.to_card_lines.proofs.Laws.{fills-in, fills-length}
use Rattle.to_card_name.proofs.Rows.{alone-derived, alone-full}
use Rattle.to_card_name.proofs.put_alone.Goals as goal

pub shape_of-out-then-full-eq0 : goal.shape_of-out-then-full-eq0
shape_of-out-then-full-eq0 c = fills-length c.fill-n.ensures

pub returns-then-full-eq0 : goal.returns-then-full-eq0
returns-then-full-eq0 c =
    let args = c.args in
    let if1 = c.if-full-eq0 in
    let fill = c.fill-n in record {
      lines_in = fills-in fill.ensures;
      out_len_unchanged = fills-length fill.ensures;
      puts_alone = alone-derived args.s.now args.full args.out.now if1.true _ _ fill.ensures;
    }

pub shape_of-out : goal.shape_of-out
shape_of-out c = fills-length c.put_string_line-p.ensures.fills

pub returns : goal.returns
returns c =
    let args = c.args in
    let if1 = c.if-full-eq0 in
    let put-string-line = c.put_string_line-p in record {
      lines_in = fills-in put-string-line.ensures.fills;
      out_len_unchanged = fills-length put-string-line.ensures.fills;
      puts_alone = alone-full args.s.now args.full args.out.now if1.false put-string-line.result _ put-string-line.ensures;
    }
