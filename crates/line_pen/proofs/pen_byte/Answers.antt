use mathlib.Core.Path.{sym, ◌∙◌}
use Rattle.line_pen.proofs.Laws.{pen-folded, pen-plain}
use Rattle.line_pen.proofs.pen_byte.Goals as goal

pub returns-then-folds_before : goal.returns-then-folds_before
returns-then-folds_before c = pen-folded _ _ (sym c.folds_before.ensures ∙ c.if-folds_before.true) c.fill-n.ensures

pub returns : goal.returns
returns c = pen-plain _ _ (sym c.folds_before.ensures ∙ c.if-folds_before.false) c.fill_byte-n.ensures c.next_column-k.ensures
