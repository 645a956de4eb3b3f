use Rattle.text.specs.Reader.{loop}
use Rattle.text.proofs.Places.{turn-as}
use Rattle.json_text.specs.Tree.{enil}
use Rattle.json_text.specs.Syntax.{item, value}
use Rattle.json_scan.proofs.After.{later-go, later-stop}
use Rattle.json_scan.proofs.elements_after.Goals as goal

pub elements_from-requires : goal.elements_from-requires
elements_from-requires c = (turn-as c.separator.ensures c.in-Continue.is).within.1

pub returns-in-Break : goal.returns-in-Break
returns-in-Break c = later-stop enil (loop (item (value c.args.depth))) 93 c.args.s.now c.args.at (turn-as c.separator.ensures c.in-Break.is)

pub returns-in-Continue : goal.returns-in-Continue
returns-in-Continue c = later-go enil (loop (item (value c.args.depth))) 93 c.args.s.now c.args.at (turn-as c.separator.ensures c.in-Continue.is) c.elements_from.ensures
