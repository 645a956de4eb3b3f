use Prim.Native.Nat.{◌+◌, ◌*◌, ◌-◌, ◌≤◌}
use mathlib.Core.Path.{◌≡◌}
use lib.ListN.{length}
use Rattle.json_sound.proofs.Walk.{ToElems}
use Rattle.json_sound.proofs.Walk.{ToMembers}
use Rattle.json_sound.proofs.+sound_array_sound_object_sound_value.Given as goal

abbrev pub decreases-sound_array : goal.decreases-sound_array
decreases-sound_array l = l.depth + l.depth + 1

abbrev pub decreases-sound_object : goal.decreases-sound_object
decreases-sound_object l = l.depth + l.depth + 1

abbrev pub decreases-sound_value : goal.decreases-sound_value
decreases-sound_value l = l.depth + l.depth

abbrev pub invariant-sound_array-loop-e : goal.invariant-sound_array-loop-e
invariant-sound_array-loop-e l = (l.at ≤ l.i) × (l.i ≤ length l.s) × (length l.places ≡ length l.initial.places) × ToElems l.depth l.s l.at l.i × (length l.prints ≡ length l.initial.prints)

abbrev pub decreases-sound_array-loop-e : goal.decreases-sound_array-loop-e
decreases-sound_array-loop-e l = length l.s - l.i

abbrev pub invariant-sound_object-loop-v : goal.invariant-sound_object-loop-v
invariant-sound_object-loop-v l = (l.at + 4 * l.k ≤ l.i) × (l.i ≤ length l.s) × (length l.places ≡ length l.initial.places) × ToMembers l.depth l.s l.at l.i l.places l.prints l.k × (length l.prints ≡ length l.initial.prints)

abbrev pub decreases-sound_object-loop-v : goal.decreases-sound_object-loop-v
decreases-sound_object-loop-v l = length l.s - l.i
