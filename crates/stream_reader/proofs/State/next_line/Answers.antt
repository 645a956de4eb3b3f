use mathlib.Core.Path.{sym, ◌∙◌}
use Rattle.stream_reader.specs.Machine.{line_next}
use Rattle.stream_reader.proofs.State.next_line.Goals as goal

pub returns-then-self : goal.returns-then-self
unfolding line_next
returns-then-self c = simp (sym c.is_begin.ensures ∙ c.if-is_begin.true, c.if-self.true) c.opened.ensures

pub returns-then-is_begin : goal.returns-then-is_begin
unfolding line_next
returns-then-is_begin c = rw (← c.is_begin.ensures, c.if-is_begin.true, c.if-self.false) (c.start.ensures ∙ rw (c.bump.ensures, c.bump-then-is_begin.ensures))

pub returns-then-is_end : goal.returns-then-is_end
unfolding line_next
returns-then-is_end c = rw (← c.is_begin.ensures, c.if-is_begin.false, ← c.is_end.ensures, c.if-is_end.true) c.start-then-is_end.ensures

pub returns-then-self-2 : goal.returns-then-self-2
unfolding line_next
returns-then-self-2 c = rw (← c.is_begin.ensures, c.if-is_begin.false, ← c.is_end.ensures, c.if-is_end.false, c.if-self-2.true) (c.start-then-self-2.ensures ∙ rw c.bump-then-self-2.ensures)

pub returns : goal.returns
unfolding line_next
returns c = rw (← c.is_begin.ensures, c.if-is_begin.false, ← c.is_end.ensures, c.if-is_end.false, c.if-self-2.false) c.start-2.ensures
