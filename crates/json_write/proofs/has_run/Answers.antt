use mathlib.Core.Path.{refl}
use borrow.Author.Rules.{rules}
use Rattle.text.proofs.Cases.{not-both}
use Rattle.json_write.proofs.has_run.Goals as goal

pub returns-then-room-lt16 : goal.returns-then-room-lt16
returns-then-room-lt16 c = λ e. not-both e refl

pub returns-then-s-at : goal.returns-then-s-at
returns-then-s-at c = λ e. not-both e refl

pub returns-then-s-at-lt16 : goal.returns-then-s-at-lt16
returns-then-s-at-lt16 c = λ e. not-both e refl

pub returns : goal.returns
returns c = λ e. (search rules, search rules, c.are_bare.ensures e)
