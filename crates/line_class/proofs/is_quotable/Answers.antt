use borrow.Author.Rules.{rules}
use borrow.Author.Tests.{lt-ltb}
use Rattle.line.specs.Class.{is_quotable}
use Rattle.line_class.proofs.is_quotable.Goals as goal

pub returns : goal.returns
unfolding is_quotable
returns c = rw (lt-ltb c.args.b 256 (search rules))
