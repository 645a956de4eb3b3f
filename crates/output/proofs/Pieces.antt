-- One turn of a loop that copies byte by byte.
use mathlib.Core.Path.{◌≡◌}
use Prim.Native.Nat.{ℕ, ◌+◌, ◌<◌}
use mathlib.Core.List.{[], ◌∷◌, ◌++◌}
use native.Mathlib.Numerals.{add-one}
use lib.ListN.{length, take, drop, get_or, take-append-drop}
use lib.Seq.{take-suc}
use Rattle.text.specs.Bytes.{Bytes}

pub one_more : (s : Bytes) (i : ℕ) → i < length s → take i s ++ (get_or s i 0 ∷ []) ≡ take (i + 1) s
one_more s i h = rw (add-one, take-suc s i 0)

pub whole : (s : Bytes) (i : ℕ) → i < length s → take i s ++ (get_or s i 0 ∷ []) ++ drop (i + 1) s ≡ s
whole s i h = rw (one_more s i h, take-append-drop)
