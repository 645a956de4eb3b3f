use native.Mathlib.Omega.{arith}
use mathlib.Core.Path.{sym, ap, ◌∙◌}
use borrow.Author.Rules.{rules}
use Rattle.utf8.specs.Due.{due_of}
use Rattle.utf8.proofs.Steps.{Two, first_step, first-cut, first-met, first-bad, one_more}
use Rattle.utf8.proofs.character_end.Goals as goal
use Rattle.utf8.proofs.character_end.Goals.{Else-not-is_next}

-- the second byte stands there
two : (c : Else-not-is_next) → Two c.args.s.now c.args.at c.in-Byte.n
two c =
    first-met c.args.s.now c.args.at c.requires (sym (ap due_of c.in-Byte.is) ∙ c.due_after.ensures) c.is_next.ensures
    c.if-not-is_next.false

pub returns-in-Start : goal.returns-in-Start
returns-in-Start c = (omega arith, search rules, first_step c.args.s.now c.args.at c.requires (sym (ap due_of c.in-Start.is) ∙ c.due_after.ensures))

pub returns-then-not-is_next : goal.returns-then-not-is_next
returns-then-not-is_next c =
    first-cut c.args.s.now c.args.at c.requires (sym (ap due_of c.in-Byte.is) ∙ c.due_after.ensures) c.is_next.ensures
    c.if-not-is_next.true

pub overflow_add-second-in-Byte : goal.overflow_add-second-in-Byte
overflow_add-second-in-Byte c = omega (arith, (two c).0)

pub tails_end-requires : goal.tails_end-requires
tails_end-requires c = omega (arith, (two c).0)

pub returns-in-Byte : goal.returns-in-Byte
returns-in-Byte c = one_more c.args.s.now c.args.at c.in-Byte.n c.tails_end.result (two (goal.at.returns-in-Byte c).Else-not-is_next) c.tails_end.ensures

pub returns-in-Broken : goal.returns-in-Broken
returns-in-Broken c = first-bad c.args.s.now c.args.at c.requires (sym (ap due_of c.in-Broken.is) ∙ c.due_after.ensures)
