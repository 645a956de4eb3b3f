use Rattle.std.proofs.Common.{sym, ◌∙◌}
use borrow.Author.Tests.{ne_eqb}
use Rattle.line_name.proofs.Names.{named-by-pairs, same-longer, lowered-length}
use Rattle.line_name.proofs.is_named.Goals as goal

pub returns-then-s-name : goal.returns-then-s-name
returns-then-s-name c = c.agrees.ensures ∙ named-by-pairs _ _ c.if-s-name.true

pub returns-else-s-name : goal.returns-else-s-name
returns-else-s-name c = ne_eqb _ _ c.if-s-name.false ∙ sym (same-longer _ _ (λ e. c.if-s-name.false (sym (lowered-length _) ∙ e)))
