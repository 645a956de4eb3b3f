-- A pointer's name, byte by byte, as JSON.
use mathlib.Core.Path.{◌≡◌, ap}
use mathlib.Core.List.{[], ◌++◌}
use Prim.Native.Nat.{ℕ, ◌≤◌, ◌<◌}
use lib.ListN.{length, drop}
use Rattle.text.specs.Bytes.{Bytes}
use Rattle.json_text.specs.Compact.{spelled, spelled_all}
use Rattle.convert_pointer.specs.Name.{name_in, Pointing, pointer_byte, pointer_next}
use Rattle.convert_pointer.proofs.Pointers.{name-to, name-end}

pub spelled-end : (p : Bytes) (i : ℕ) → length p ≤ i → spelled_all (name_in (drop i p)) ≡ []
unfolding spelled_all
spelled-end p i h = ap spelled_all (name-end p i h)

-- the byte that is written
pub spelled-to : (p : Bytes) (i : ℕ) → Pointing (drop i p) → i < length p → (b : ℕ) → b ≡ pointer_byte p i
    → spelled_all (name_in (drop i p)) ≡ spelled b ++ spelled_all (name_in (drop (pointer_next p i) p))
unfolding spelled_all
spelled-to p i g l b e = ap spelled_all (name-to p i g l b e)
