-- An entry of vCardProps that a table holds.
use Rattle.std.specs.Prelude.{Bool, true, false, ℕ}
use Rattle.text.specs.Bytes.{Bytes}
use Rattle.json_index.specs.Index.{ValueEnds}
use Rattle.std.specs.Prelude.{Option as Maybe, Some, None}

-- the place after an entry
abbrev pub Held : Type 0
Held = Maybe ℕ

abbrev pub is_entry : Held → Bool
is_entry (Some e) = true
is_entry None = false

-- the entry at a place ends there
abbrev pub HeldIn : Bytes → ℕ → Held → Type 0
HeldIn s at (Some e) = ValueEnds 13 s at e
HeldIn s at None = Unit {0}
