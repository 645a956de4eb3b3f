use mathlib.Core.Path.{sym, ap, ◌∙◌}
use mathlib.Core.List.{[]}
use Rattle.text.specs.Choice.{is_some, pick}
use Rattle.line.specs.Text.{read_text}
use Rattle.output.proofs.Laws.{puts-as}
use Rattle.convert_put.proofs.Writing.{raw-value, text-value}
use Rattle.convert_put.proofs.put_value.Goals as goal

pub returns-then-raw : goal.returns-then-raw
returns-then-raw c = puts-as (raw-value _ _ c.if-raw.true) c.put_string.ensures

pub put_plain-requires : goal.put_plain-requires
put_plain-requires c = sym (ap (λ b. is_some (read_text (pick b [] c.args.v.now))) c.if-raw.false) ∙ c.requires

pub returns : goal.returns
returns c = puts-as (text-value _ _ c.if-raw.false) c.put_plain.ensures
