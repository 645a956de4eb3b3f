use Rattle.output.proofs.Laws.{puts-as, start, done}
use Rattle.line_text.specs.Read.{plain_text}
use Rattle.to_json_items.specs.Items.{item_piece}
use Rattle.to_json_items.proofs.Pieces.{piece-on, piece-off}
use Rattle.to_json_items.proofs.put_item_if.Goals as goal

pub put_item-requires : goal.put_item-requires
put_item-requires c = c.requires

pub returns-then-on : goal.returns-then-on
returns-then-on c =
    puts-as (piece-on c.args.on (item_piece c.args.begun c.args.k (plain_text c.args.u.now)) c.if-on.true) c.put_item.ensures

pub returns : goal.returns
returns c = puts-as (piece-off c.args.on (item_piece c.args.begun c.args.k (plain_text c.args.u.now)) c.if-on.false) (done (start _))
