use Rattle.output.proofs.Laws.{puts-as, done, start}
use Rattle.to_json_maps.proofs.Heads.{prefix-at, prefix-none, prefix0, prefix1, prefix2, prefix3, prefix4, prefix5, prefix6}
use Rattle.to_json_maps.proofs.put_prefix.Goals as goal

pub returns-then-i-eq-MAP : goal.returns-then-i-eq-MAP
returns-then-i-eq-MAP c = puts-as (prefix-at c.args.i 0 c.if-i-eq-MAP.true prefix0) c.put_text.ensures

pub returns-then-i-eq-MAP-2 : goal.returns-then-i-eq-MAP-2
returns-then-i-eq-MAP-2 c = puts-as (prefix-at c.args.i 1 c.if-i-eq-MAP-2.true prefix1) c.put_text-then-i-eq-MAP-2.ensures

pub returns-then-i-eq-MAP-3 : goal.returns-then-i-eq-MAP-3
returns-then-i-eq-MAP-3 c = puts-as (prefix-at c.args.i 2 c.if-i-eq-MAP-3.true prefix2) c.put_text-then-i-eq-MAP-3.ensures

pub returns-then-i-eq-MAP-4 : goal.returns-then-i-eq-MAP-4
returns-then-i-eq-MAP-4 c = puts-as (prefix-at c.args.i 3 c.if-i-eq-MAP-4.true prefix3) c.put_text-then-i-eq-MAP-4.ensures

pub returns-then-i-eq-MAP-5 : goal.returns-then-i-eq-MAP-5
returns-then-i-eq-MAP-5 c = puts-as (prefix-at c.args.i 4 c.if-i-eq-MAP-5.true prefix4) c.put_text-then-i-eq-MAP-5.ensures

pub returns-then-i-eq-MAP-6 : goal.returns-then-i-eq-MAP-6
returns-then-i-eq-MAP-6 c = puts-as (prefix-at c.args.i 5 c.if-i-eq-MAP-6.true prefix5) c.put_text-then-i-eq-MAP-6.ensures

pub returns-then-i-eq-MAP-7 : goal.returns-then-i-eq-MAP-7
returns-then-i-eq-MAP-7 c = puts-as (prefix-at c.args.i 6 c.if-i-eq-MAP-7.true prefix6) c.put_text-then-i-eq-MAP-7.ensures

pub returns : goal.returns
returns c =
    let args = c.args in
    let if1 = c.if-i-eq-MAP in
    let if2 = c.if-i-eq-MAP-2 in
    let if3 = c.if-i-eq-MAP-3 in
    let if4 = c.if-i-eq-MAP-4 in
    puts-as
    (prefix-none args.i if1.false if2.false if3.false if4.false c.if-i-eq-MAP-5.false c.if-i-eq-MAP-6.false c.if-i-eq-MAP-7.false)
    (done (start _))
