use native.Mathlib.Omega.{arith}
use Rattle.json_to_card.proofs.Making.{made-wrong, made-uncarried, made-many, made-full, made-card}
use Rattle.json_to_card.proofs.convert.Goals as goal

pub returns-in_default : goal.returns-in_default
returns-in_default c =
    let a = c.args in
    made-wrong a.json.now a.res.now c.put_card.result c.put_card.new.out c.requires.reads c.put_card.ensures.puts_card c.in_default.is

pub returns-then-not-ok : goal.returns-then-not-ok
returns-then-not-ok c =
    let a = c.args in
    made-uncarried a.json.now a.res.now c.put_card.result c.put_card.new.out c.requires.reads c.put_card.ensures.puts_card _ _ _ c.in-Ok.is c.if-not-ok.true

pub returns-then-k-gt-LINES : goal.returns-then-k-gt-LINES
returns-then-k-gt-LINES c =
    let a = c.args in
    made-many a.json.now a.res.now c.put_card.result c.put_card.new.out c.requires.reads c.put_card.ensures.puts_card _ _ _ c.in-Ok.is c.if-not-ok.false (omega (arith, c.if-k-gt-LINES.true))

pub returns-then-n-res : goal.returns-then-n-res
returns-then-n-res c =
    let a = c.args in
    made-full a.json.now a.res.now c.put_card.result c.put_card.new.out c.requires.reads c.put_card.ensures.puts_card _ _ _ c.in-Ok.is c.if-not-ok.false (omega (arith, c.if-k-gt-LINES.false)) (omega (arith, c.if-n-res.true, c.put_card.ensures.out_len_unchanged))

pub returns : goal.returns
returns c =
    let a = c.args in
    made-card a.json.now a.res.now c.put_card.result c.put_card.new.out c.requires.reads c.put_card.ensures.puts_card _ _ _ c.in-Ok.is c.if-not-ok.false (omega (arith, c.if-k-gt-LINES.false)) (omega (arith, c.if-n-res.false, c.put_card.ensures.out_len_unchanged))
