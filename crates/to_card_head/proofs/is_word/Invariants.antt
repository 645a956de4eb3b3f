use mathlib.Core.Path.{◌≡◌}
use Prim.Native.Nat.{◌≤◌}
use lib.ListN.{length}
use Rattle.json_strings.specs.Decoded.{decoded_at, left, weight}
use Rattle.to_card_head.specs.Head.{word_of, word_from}
use Rattle.to_card_head.proofs.is_word.Given as goal

abbrev pub invariant-loop-b : goal.invariant-loop-b
invariant-loop-b l = (l.i ≤ length l.s) × (word_of (decoded_at l.s l.at) ≡ word_from l.begun (left l.s l.i l.h))

abbrev pub decreases-loop-b : goal.decreases-loop-b
decreases-loop-b l = weight l.s l.i l.h
