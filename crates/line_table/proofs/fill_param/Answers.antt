use Rattle.line.specs.Class.{is_name}
use Rattle.line_scan.proofs.Reading.{run-within}
use Rattle.line_table.proofs.Filling.{param-unnamed, param-other, param-filled}
use Rattle.line_table.proofs.fill_param.Goals as goal

pub returns-then-e-at : goal.returns-then-e-at
returns-then-e-at c =
    let args = c.args in
    param-unnamed args.s.now args.at _ c.run_end-e.ensures args.n c.if-e-at.true

pub look-requires : goal.look-requires
look-requires c =
    let args = c.args in
    run-within is_name args.s.now args.at _ c.run_end-e.ensures c.requires.1

pub returns-then-look-ne-EQUALS : goal.returns-then-look-ne-EQUALS
returns-then-look-ne-EQUALS c =
    let args = c.args in
    param-other args.s.now args.at _ c.run_end-e.ensures c.if-e-at.false c.look.ensures.0 args.n c.if-look-ne-EQUALS.true

pub returns : goal.returns
returns c =
    let args = c.args in
    let run-end = c.run_end-e in
    let if1 = c.if-e-at in
    let look = c.look in
    let if2 = c.if-look-ne-EQUALS in
    let fill-values = c.fill_values in
    param-filled args.s.now args.at _ run-end.ensures if1.false look.ensures.0 if2.false args.t.now args.n _
    fill-values.result fill-values.ensures
