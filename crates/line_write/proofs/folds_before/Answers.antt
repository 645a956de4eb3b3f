use mathlib.Core.Path.{sym, ap, ◌∙◌}
use Rattle.line.specs.Write.{breaks}
use Rattle.line_write.proofs.Folding.{breaks-not, breaks-wide, breaks-late}
use Rattle.line_write.proofs.folds_before.Goals as goal

pub returns-then-w-eq0 : goal.returns-then-w-eq0
returns-then-w-eq0 c = sym (breaks-not c.args.column _ c.if-w-eq0.true) ∙ ap (breaks c.args.column) c.char_width-w.ensures

pub returns-then-w-gt75 : goal.returns-then-w-gt75
returns-then-w-gt75 c = sym (breaks-wide c.args.column _ c.if-w-eq0.false c.if-w-gt75.true) ∙ ap (breaks c.args.column) c.char_width-w.ensures

pub returns : goal.returns
returns c = breaks-late c.args.column _ c.if-w-eq0.false c.if-w-gt75.false ∙ ap (breaks c.args.column) c.char_width-w.ensures
