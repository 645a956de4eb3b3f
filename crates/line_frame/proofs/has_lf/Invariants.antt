use Prim.Native.Nat.{◌+◌, ◌-◌, ◌≤◌}
use mathlib.Core.Path.{◌≡◌}
use mathlib.Core.Bool.{false}
use Rattle.line_frame.specs.Lines.{SameLf}
use Rattle.line_frame.proofs.has_lf.Given as goal

abbrev pub invariant-loop-k : goal.invariant-loop-k
invariant-loop-k l = (l.k ≤ 16) × (l.found ≡ false → SameLf l.s l.at (l.at + l.k))
