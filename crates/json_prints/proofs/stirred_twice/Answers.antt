use Rattle.json_prints.proofs.Prints.{stir-twice}
use Rattle.json_prints.proofs.stirred_twice.Goals as goal

pub returns : goal.returns
returns c = stir-twice c.args.p c.args.b c.args.c
