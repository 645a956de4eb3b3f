-- Each time round: no value before row k is what u stands for (`Clear`). The rows that next_print passes over have another print, so they hold
-- another value (`clear-to`); row k has u's print, and where its bytes differ it is clear too (`clear-more`). n - k falls. Where they are the same,
-- u is one of the values (`found-row`); after the last row it is none of those that are filled (`found_none`).
use Prim.Native.Nat.{◌≤◌, ◌-◌}
use Rattle.line_text.specs.Read.{plain_text}
use Rattle.convert_values.proofs.Noting.{Clear}
use Rattle.convert_values.proofs.is_noted.Given as goal

abbrev pub invariant-loop-k : goal.invariant-loop-k
invariant-loop-k l = (l.k ≤ l.n) × Clear (plain_text l.u) l.o l.places l.k

abbrev pub decreases-loop-k : goal.decreases-loop-k
decreases-loop-k l = l.n - l.k
