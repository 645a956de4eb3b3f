use Rattle.output.proofs.Laws.{puts-as}
use Rattle.to_json_head.proofs.Uids.{uid-given, uid-made}
use Rattle.to_json_head.proofs.put_uid.Goals as goal

pub returns-then-given : goal.returns-then-given
returns-then-given c =
    puts-as (uid-given c.args.given c.args.uid.now c.args.stem.now c.args.number c.if-given.true) c.put_string.ensures

pub returns : goal.returns
returns c =
    puts-as (uid-made c.args.given c.args.uid.now c.args.stem.now c.args.number c.if-given.false) c.put_made_uid.ensures
