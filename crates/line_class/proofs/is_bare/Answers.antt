use borrow.Author.Rules.{rules}
use borrow.Author.Tests.{lt-ltb}
use Rattle.line.specs.Class.{is_bare}
use Rattle.line_class.proofs.is_bare.Goals as goal

pub returns : goal.returns
unfolding is_bare
returns c = rw (lt-ltb c.args.b 256 (search rules))
