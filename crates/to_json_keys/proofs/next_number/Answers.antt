use Rattle.to_json_keys.proofs.Marked.{no-ids, with-ids}
use Rattle.to_json_keys.proofs.next_number.Goals as goal

pub returns-then-not-taken : goal.returns-then-not-taken
returns-then-not-taken c = no-ids c.args.row.now c.args.taken c.args.from c.if-not-taken.true

pub returns : goal.returns
returns c = with-ids c.args.row.now c.args.taken c.args.from c.next_free.result c.if-not-taken.false c.next_free.ensures
