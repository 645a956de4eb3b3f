use lib.ListN.{replicate}
use Rattle.json_to_card.specs.Inner.{becomes}
use Rattle.json_to_card.proofs.Serving.{of-card}
use borrow.Author.Rules.{rules}
use Rattle.json_to_card.proofs.served_in.Goals as goal

pub returns-in-Ok : goal.returns-in-Ok
returns-in-Ok g c =
    let a = c.args in
    let p = c.put_served in
    of-card a.out.now (becomes a.json.now) (replicate g.row.BYTES 0) c.make.result c.make.new.res c.make.ensures _ c.in-Ok.is p.result _ (search rules) p.ensures
