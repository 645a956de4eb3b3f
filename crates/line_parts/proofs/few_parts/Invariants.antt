use mathlib.Core.Path.{◌≡◌}
use Prim.Native.Nat.{◌+◌, ◌-◌, ◌≤◌}
use lib.ListN.{length, drop}
use Rattle.line.specs.Text.{split_text}
use Rattle.line_parts.proofs.few_parts.Given as goal

abbrev pub invariant-loop : goal.invariant-loop
invariant-loop l = (l.at ≤ length l.s) × (length (split_text l.d l.s) ≡ l.counter + length (split_text l.d (drop l.at l.s))) × (l.counter ≤ l.n)

abbrev pub decreases-loop : goal.decreases-loop
decreases-loop l = l.n - l.counter
