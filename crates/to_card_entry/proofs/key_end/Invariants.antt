use mathlib.Core.Path.{◌≡◌}
use Prim.Native.Nat.{◌-◌, ◌≤◌}
use lib.ListN.{length}
use Rattle.json_strings.specs.Decoded.{decoded_at}
use Rattle.to_card_entry.specs.Rows.{key_of, key_from}
use Rattle.to_card_entry.proofs.key_end.Given as goal

abbrev pub invariant-loop-i : goal.invariant-loop-i
invariant-loop-i l = (l.at ≤ l.i) × (l.i ≤ length l.s) × (key_of (decoded_at l.s l.at) ≡ key_from (l.i - l.at) (decoded_at l.s l.i))
