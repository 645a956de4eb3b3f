use mathlib.Core.Path.{◌≡◌}
use Prim.Native.Nat.{◌≤◌}
use lib.ListN.{length, drop}
use Rattle.text.specs.Bytes.{any}
use Rattle.line_parts.specs.Parts.{other_than}
use Rattle.line_parts.proofs.has_other.Given as goal

abbrev pub invariant-loop-c : goal.invariant-loop-c
invariant-loop-c l = (l.c-index ≤ length l.s) × (any (other_than l.d l.e) (drop l.c-index l.s) ≡ any (other_than l.d l.e) l.s)
