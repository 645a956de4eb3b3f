use Rattle.stream_reader.specs.Machine.{agrees_all}
use lib.ListN.{length, drop}
use mathlib.Core.Bool.{true}
use Prim.Native.Nat.{◌-◌, ◌≤◌}
use mathlib.Core.Path.{◌≡◌}
use Rattle.stream_reader.proofs.agrees.Given as goal

abbrev pub invariant-loop-j : goal.invariant-loop-j
invariant-loop-j l = (l.j ≤ length l.run) × (agrees_all l.pat true l.c (drop l.j l.run) ≡ agrees_all l.pat l.on l.col l.run)
