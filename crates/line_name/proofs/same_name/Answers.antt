use Rattle.line_name.proofs.Names.{same-by-std}
use Rattle.line_name.proofs.same_name.Goals as goal

pub returns : goal.returns
returns c = same-by-std _ c.args.a.now c.args.b.now c.eq_ignore_ascii_case.ensures.test
