use Rattle.to_card_kept_entry.proofs.writing.Rows.{follows_is}
use Rattle.to_card_kept_entry.proofs.writing.is_more.Goals as goal

pub returns : goal.returns
returns c = follows_is c.args.t.now c.args.i c.if-i-eq0.false
