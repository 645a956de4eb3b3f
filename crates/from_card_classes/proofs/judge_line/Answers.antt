use mathlib.Core.Path.{◌∙◌}
use Prim.Native.Nat.{◌+◌}
use Rattle.from_card_classes.proofs.Passing.{judged-same}
use Rattle.from_card_classes.proofs.judge_line.Goals as goal

pub returns : goal.returns
returns c =
    c.judge.ensures ∙ judged-same c.args.j (c.args.k + 1) c.args.code c.is_misused-misused.ensures c.is_emptied-emptied.ensures c.is_version_line-version.ensures
