use Rattle.to_card_parts.proofs.Values.{one-unwanted, one_wanted}
use Rattle.to_card_parts.proofs.pen_value.Goals as goal

pub returns-then-wanted : goal.returns-then-wanted
returns-then-wanted c =
    let args = c.args in
    let if1 = c.if-wanted in
    let pen-wanted = c.pen_wanted in
    one_wanted args.s.now args.at args.style args.mark args.wanted args.begun args.out.now args.column if1.true pen-wanted.ensures

pub returns : goal.returns
returns c =
    let args = c.args in
    one-unwanted args.s.now args.at args.style args.mark args.wanted args.begun args.out.now args.column c.if-wanted.false
