use mathlib.Core.Path.{sym}
use Rattle.json_prints.proofs.Prints.{absent-as}
use Rattle.from_card_seen.proofs.Prints.{unprinted}
use Rattle.from_card_seen.proofs.is_used.Goals as goal

pub returns-then-not-any_print : goal.returns-then-not-any_print
returns-then-not-any_print c =
    sym (unprinted c.requires.0 c.args.i c.args.p c.args.key.now c.requires.1 (absent-as c.args.prints.now c.args.p 0 c.args.n c.any_print.ensures c.if-not-any_print.true))
