use mathlib.Core.Path.{◌≡◌}
use Prim.Native.Nat.{◌-◌, ◌≤◌}
use lib.ListN.{length}
use Rattle.to_card_kept.specs.Kept.{LentText}
use Rattle.to_card_kept.proofs.Loop.{Going}
use Rattle.to_card_kept.proofs.put_run.Given as goal

abbrev pub invariant-loop-line : goal.invariant-loop-line
invariant-loop-line l =
    (l.i ≤ length l.s) × (l.n ≤ length l.out) × (length l.out ≡ length l.initial.out) × (l.lines ≤ l.i) × LentText l.b l.t l.scratch l.s × (length l.b ≡ length l.initial.b) × (length l.t ≡ length l.initial.t) × (length l.scratch ≡ length l.initial.scratch)
    × Going l.s l.slots l.at l.full l.parts l.initial.out l.i l.n l.lines l.ok l.out × (l.asked ≤ l.lines)

abbrev pub decreases-loop-line : goal.decreases-loop-line
decreases-loop-line l = length l.s - l.i
