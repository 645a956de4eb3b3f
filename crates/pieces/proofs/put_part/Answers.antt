use Rattle.output.proofs.Laws.{puts-as}
use Rattle.pieces.proofs.Writing.{written-0, written-1, written_2, written-3, written_4, written-other}
use Rattle.pieces.proofs.put_part.Goals as goal

pub returns-then-writer-eq-READ : goal.returns-then-writer-eq-READ
returns-then-writer-eq-READ c = puts-as (written-0 c.args.writer c.args.part.now c.if-writer-eq-READ.true) c.read_text.ensures

pub returns-then-writer-eq-FOLD : goal.returns-then-writer-eq-FOLD
returns-then-writer-eq-FOLD c = puts-as (written-1 c.args.writer c.args.part.now c.if-writer-eq-FOLD.true) c.put_folded.ensures

pub returns-then-writer-eq-STRING : goal.returns-then-writer-eq-STRING
returns-then-writer-eq-STRING c = puts-as (written_2 c.args.writer c.args.part.now c.if-writer-eq-STRING.true) c.put_string.ensures

pub returns-then-writer-eq-DECODE : goal.returns-then-writer-eq-DECODE
returns-then-writer-eq-DECODE c = puts-as (written-3 c.args.writer c.args.part.now c.if-writer-eq-DECODE.true) c.decode_into.ensures

pub returns-then-writer-eq-REQUOTE : goal.returns-then-writer-eq-REQUOTE
returns-then-writer-eq-REQUOTE c = puts-as (written_4 c.args.writer c.args.part.now c.if-writer-eq-REQUOTE.true) c.put_requoted.ensures

pub returns : goal.returns
returns c =
    puts-as
    (written-other c.args.writer c.args.part.now c.if-writer-eq-READ.false c.if-writer-eq-FOLD.false c.if-writer-eq-STRING.false c.if-writer-eq-DECODE.false c.if-writer-eq-REQUOTE.false)
    c.put_compact.ensures.puts
