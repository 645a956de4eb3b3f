use mathlib.Core.Path.{sym, ◌∙◌}
use Rattle.line_table.proofs.Filling.{frame_refused, params-refused, line-held}
use borrow.Author.Rules.{rules}
use Rattle.line_table.proofs.fill_rest.Goals as goal

pub returns-then-is_frame_name : goal.returns-then-is_frame_name
returns-then-is_frame_name c =
    let args = c.args in
    frame_refused args.s.now args.group args.name args.end c.requires.read_from (sym c.is_frame_name.ensures ∙ c.if-is_frame_name.true)

pub returns-in_default : goal.returns-in_default
returns-in_default c =
    let args = c.args in
    let fill-params = c.fill_params in
    params-refused args.s.now args.group args.name args.end c.requires.read_from args.t.now _ _ fill-params.ensures c.in_default.is

pub returns : goal.returns
returns c =
    let args = c.args in
    let is-frame-name = c.is_frame_name in
    let if1 = c.if-is_frame_name in
    let fill-params = c.fill_params in
    line-held args.s.now args.group args.name args.end c.requires.read_from (sym is-frame-name.ensures ∙ if1.false) c.requires.table_length_in_bounds.1 c.requires.table_length_in_bounds.2
    args.t.now _ _ c.requires.table_length_in_bounds.0 (search rules) _ fill-params.ensures c.in-Some.is c.put_head.ensures
