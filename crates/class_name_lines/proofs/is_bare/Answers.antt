use mathlib.Core.Path.{ap, ◌∙◌}
use mathlib.Core.Bool.{not}
use Rattle.line_table.specs.Table.{line_in}
use Rattle.class_name_lines.proofs.Full.{grouped, bare-kind}
use Rattle.class_name_lines.proofs.is_bare.Goals as goal

pub returns-then-has_group : goal.returns-then-has_group
returns-then-has_group c =
    grouped (line_in c.args.s.now c.args.t.now)
    (c.has_group.ensures ∙ ap not c.if-has_group.true)

pub returns : goal.returns
returns c =
    bare-kind (line_in c.args.s.now
    c.args.t.now) c.value_kind.result (c.has_group.ensures ∙ ap not
    c.if-has_group.false) (c.value_kind.ensures
    (line_in c.args.s.now c.args.t.now).params
    c.requires.row)
