use Rattle.to_card_value.proofs.Pieces.{tel_seen}
use Rattle.to_card_value.specs.Values.{tel_of}
use Rattle.json_strings.specs.Decoded.{decoded_at, left, weight}
use lib.ListN.{length}
use Prim.Native.Nat.{◌≤◌}
use mathlib.Core.Path.{◌≡◌}
use Rattle.to_card_value.proofs.is_tel.Given as goal

abbrev pub invariant-loop-b : goal.invariant-loop-b
invariant-loop-b l = (l.i ≤ length l.s) × (tel_of (decoded_at l.s l.at) ≡ tel_seen l.k (left l.s l.i l.h))

abbrev pub decreases-loop-b : goal.decreases-loop-b
decreases-loop-b l = weight l.s l.i l.h
