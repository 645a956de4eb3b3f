use mathlib.Core.Path.{sym, ◌∙◌}
use Rattle.text.specs.Bytes.{lowered}
use Rattle.line.specs.Params.{values_named}
use Rattle.line_table.specs.Table.{part, line_in}
use Rattle.output.proofs.Laws.{puts-as}
use Rattle.to_json_kept_values.proofs.Lists.{values_one, values-many}
use Rattle.to_json_kept_values.proofs.put_values.Goals as goal

pub returns-then-count_named-eq1 : goal.returns-then-count_named-eq1
returns-then-count_named-eq1 c =
    let args = c.args in
    let count-named = c.count_named in
    let if1 = c.if-count_named-eq1 in
    puts-as
    (values_one (values_named (lowered (part args.s.now args.a args.b)) (line_in args.s.now args.t.now).params)
    (sym count-named.ensures ∙ if1.true))
    c.put_list.ensures

pub returns : goal.returns
returns c =
    let args = c.args in
    let count-named = c.count_named in
    let if1 = c.if-count_named-eq1 in
    puts-as
    (values-many (values_named (lowered (part args.s.now args.a args.b)) (line_in args.s.now args.t.now).params)
    (λ e. if1.false (count-named.ensures ∙ e)))
    c.put_array.ensures
