use Rattle.to_json_kept_values.specs.Kept.{item_piece}
use Rattle.output.proofs.Laws.{puts-as, start, done}
use Rattle.to_json_kept_values.proofs.Lists.{item_on, item-first, item-none}
use Rattle.to_json_kept_values.proofs.put_item.Goals as goal

pub returns-then-not-on : goal.returns-then-not-on
returns-then-not-on c = puts-as (item-none c.args.on (item_piece c.args.begun c.args.v.now) c.if-not-on.true) (done (start _))

pub returns-then-begun : goal.returns-then-begun
returns-then-begun c =
    let args = c.args in
    let if2 = c.if-begun in
    puts-as (item_on args.on args.begun args.v.now c.if-not-on.false if2.true) c.put_after.ensures

pub returns : goal.returns
returns c =
    let args = c.args in
    let if2 = c.if-begun in
    puts-as (item-first args.on args.begun args.v.now c.if-not-on.false if2.false)
    c.put_string.ensures
