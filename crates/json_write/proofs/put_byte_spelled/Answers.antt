use mathlib.Core.Path.{sym, ◌∙◌}
use Rattle.output.proofs.Laws.{puts-as}
use Rattle.json_write.proofs.Spelling.{bare-one}
use Rattle.json_write.proofs.put_byte_spelled.Goals as goal

pub returns-then-is_bare : goal.returns-then-is_bare
returns-then-is_bare c = puts-as (bare-one c.args.c (sym c.is_bare.ensures ∙ c.if-is_bare.true)) c.put_byte.ensures
