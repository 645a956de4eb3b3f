use Prim.Native.Nat.{◌-◌, ◌≤◌}
use mathlib.Core.Path.{◌≡◌}
use lib.ListN.{length, drop}
use Rattle.text.specs.Choice.{is_some}
use Rattle.line.specs.Text.{read_text}
use Rattle.line_text.proofs.is_text.Given as goal

abbrev pub invariant-loop-e : goal.invariant-loop-e
invariant-loop-e l = (l.i ≤ length l.s) × (is_some (read_text (drop l.i l.s)) ≡ is_some (read_text l.s))

abbrev pub decreases-loop-e : goal.decreases-loop-e
decreases-loop-e l = length l.s - l.i
