use mathlib.Core.Path.{sym, ap}
use Rattle.class_member.specs.Member.{points_on}
use Rattle.class_member.proofs.points_on.Goals as goal

pub returns-then-tilde : goal.returns-then-tilde
returns-then-tilde c = sym (ap (λ b. points_on b c.args.c) c.if-tilde.true)

pub returns : goal.returns
returns c = sym (ap (λ b. points_on b c.args.c) c.if-tilde.false)
