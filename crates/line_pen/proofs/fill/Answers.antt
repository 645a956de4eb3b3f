use Rattle.line_pen.proofs.Copying.{fills-front}
use Rattle.line_pen.proofs.fill.Goals as goal

pub returns : goal.returns
returns c = fills-front c.args.s.now c.if-s-n.false c.copy-2.ensures
