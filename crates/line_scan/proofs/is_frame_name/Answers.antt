use mathlib.Core.Path.{sym, ◌∙◌}
use Rattle.line_scan.proofs.WholeLines.{frame-begin, frame-end}
use Rattle.line_scan.proofs.is_frame_name.Goals as goal

pub returns-then-is_named : goal.returns-then-is_named
returns-then-is_named c = sym (frame-begin c.args.name.now (sym c.is_named.ensures ∙ c.if-is_named.true))

pub returns : goal.returns
returns c = c.is_named-2.ensures ∙ sym (frame-end c.args.name.now (sym c.is_named.ensures ∙ c.if-is_named.false))
