use Rattle.text.specs.Reader.{loop}
use Rattle.text.proofs.Places.{turn-as}
use Rattle.json_text.specs.Tree.{mnil}
use Rattle.json_text.specs.Syntax.{pair, value}
use Rattle.json_scan.proofs.After.{later-go, later-stop}
use Rattle.json_scan.proofs.members_after.Goals as goal

pub members_from-requires : goal.members_from-requires
members_from-requires c = (turn-as c.separator.ensures c.in-Continue.is).within.1

pub returns-in-Break : goal.returns-in-Break
returns-in-Break c = later-stop mnil (loop (pair (value c.args.depth))) 125 c.args.s.now c.args.at (turn-as c.separator.ensures c.in-Break.is)

pub returns-in-Continue : goal.returns-in-Continue
returns-in-Continue c = later-go mnil (loop (pair (value c.args.depth))) 125 c.args.s.now c.args.at (turn-as c.separator.ensures c.in-Continue.is) c.members_from.ensures
