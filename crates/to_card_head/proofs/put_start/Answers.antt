use Rattle.to_card_head.proofs.Head.{starts}
use Rattle.to_card_head.proofs.put_start.Goals as goal

pub returns : goal.returns
returns c =
    let args = c.args in
    let fill = c.fill-n in
    let put-string-line = c.put_string_line-p in
    starts args.s.now args.uid args.out.now _ _ fill.ensures put-string-line.result _ put-string-line.ensures
