use Prim.Native.Nat.{◌+◌, ◌-◌, ◌≤◌}
use mathlib.Core.Path.{◌≡◌}
use mathlib.Core.Bool.{false}
use Rattle.line_text.specs.Read.{Plain}
use Rattle.line_text.proofs.has_backslash.Given as goal

abbrev pub invariant-loop-k : goal.invariant-loop-k
invariant-loop-k l = (l.k ≤ 16) × (l.found ≡ false → Plain l.s l.at (l.at + l.k))
