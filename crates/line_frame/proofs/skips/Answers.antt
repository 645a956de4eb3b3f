use mathlib.Core.Path.{refl}
use borrow.Author.Rules.{rules}
use borrow.Author.Tests.{not-true}
use Rattle.text.proofs.Cases.{not-both}
use Rattle.line_frame.proofs.skips.Goals as goal

pub returns-then-s-at : goal.returns-then-s-at
returns-then-s-at c = λ e. not-both e refl

pub returns-then-s-at-lt16 : goal.returns-then-s-at-lt16
returns-then-s-at-lt16 c = λ e. not-both e refl

pub returns : goal.returns
returns c = λ e. (search rules, c.has_lf.ensures (not-true _ e))
