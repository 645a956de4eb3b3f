use mathlib.Core.Path.{sym, ◌∙◌}
use Rattle.line_frame.proofs.Frames.{no-card, not-begun, not-ended, one-card}
use Rattle.line_frame.proofs.frame_of.Goals as goal

pub returns-then-s-eq0 : goal.returns-then-s-eq0
returns-then-s-eq0 c = no-card c.args.s.now c.if-s-eq0.true

pub returns-then-not-is_begin : goal.returns-then-not-is_begin
returns-then-not-is_begin c = not-begun c.args.s.now _ c.next_line-first.ensures (sym c.is_begin.ensures ∙ c.if-not-is_begin.true)

pub returns-in_err-stop : goal.returns-in_err-stop
returns-in_err-stop c =
    let args = c.args in
    let next-line = c.next_line-first in
    rw c.from_residual.ensures
    (not-ended args.s.now _ next-line.ensures (sym c.is_begin.ensures ∙ c.if-not-is_begin.false)
    (rw c.in_err-stop.was at c.end_from.ensures))

pub returns : goal.returns
returns c =
    let args = c.args in
    let next-line = c.next_line-first in
    let is-begin = c.is_begin in
    let end-from = c.end_from in
    one-card args.s.now _ next-line.ensures _ (sym is-begin.ensures ∙ c.if-not-is_begin.false)
    (rw c.in_ok-stop.was at end-from.ensures)
