use Rattle.std.specs.Prelude.{Ok, Err}
use Rattle.pieces.proofs.Reading.{read_as}
use Rattle.pieces.proofs.pieces_read.Goals as goal

pub returns-in-Ok : goal.returns-in-Ok
returns-in-Ok c = read_as c.args.json.now c.read.result (Ok _) c.read.ensures.value c.in-Ok.is

pub returns-in-Err : goal.returns-in-Err
returns-in-Err c = read_as c.args.json.now c.read.result (Err _) c.read.ensures.value c.in-Err.is
