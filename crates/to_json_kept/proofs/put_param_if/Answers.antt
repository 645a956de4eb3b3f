use Rattle.output.proofs.Laws.{puts-as, start, done}
use Rattle.line_table.specs.Table.{part}
use Rattle.to_json_kept.specs.Entry.{param_piece}
use Rattle.to_json_kept.proofs.Whole.{piece-on, piece-off}
use Rattle.to_json_kept.proofs.put_param_if.Goals as goal

pub put_param-requires : goal.put_param-requires
put_param-requires c = c.requires

pub returns-then-on : goal.returns-then-on
returns-then-on c =
    let s = c.args.s.now in puts-as (piece-on c.args.on (param_piece c.args.begun s c.args.t.now (part s c.args.a c.args.b)) c.if-on.true) c.put_param.ensures

pub returns : goal.returns
returns c = let s = c.args.s.now in puts-as (piece-off c.args.on (param_piece c.args.begun s c.args.t.now (part s c.args.a c.args.b)) c.if-on.false) (done (start _))
