-- Strings of a text noted by their places and their prints.
use Rattle.std.specs.Prelude.{◌≡◌, Bool, true, false, List, [], ◌∷◌, map, ℕ, ◌+◌, ◌*◌, ◌%◌, ◌≤◌, ◌<◌, get_or, take}
use Rattle.std.proofs.Math.Option.{Option, none, some}
use Rattle.text.specs.Bytes.{Bytes, any, among}
use Rattle.json_strings.specs.Decoded.{decoded_at, agree}

-- a string agrees with one of those at these places
unfoldable pub meets : Bytes → Option Bytes → List ℕ → Bool
meets s o ps = any (λ p. agree o (decoded_at s p)) ps

-- The print of a name. Equal names have equal prints, and that is all that is asked of it: a poor print costs time only.
abbrev pub stir : ℕ → ℕ → ℕ
stir p b = (p * 40503 + b) % 65536

unfoldable pub printed : ℕ → Bytes → ℕ
printed p [] = p
printed p (b ∷ bs) = printed (stir p b) bs

abbrev pub print_of : ℕ → Option Bytes → ℕ
print_of p none = 65536
print_of p (some n) = printed p n

-- the print noted beside a place is that of the string there
abbrev pub Told : Bytes → List ℕ → List ℕ → ℕ → Type 0
Told s ps fs k = print_of 0 (decoded_at s (get_or ps k 0)) ≡ get_or fs k 0

-- no string from one of these places to another agrees
abbrev pub Clear : Bytes → Option Bytes → List ℕ → List ℕ → ℕ → ℕ → Type 0
Clear s o ps fs from to = (k : ℕ) → from ≤ k → k < to → Told s ps fs k → agree o (decoded_at s (get_or ps k 0)) ≡ false

abbrev pub Absent : List ℕ → ℕ → ℕ → ℕ → Bool → Type 0
Absent fs p from to true = Unit {0}
Absent fs p from to false = (k : ℕ) → from ≤ k → k < to → get_or fs k 0 ≡ p → ⊥

-- what the strings at these places stand for, and their prints
unfoldable pub Names : Bytes → List ℕ → List ℕ → List Bytes → Type 0
Names s ps fs ns = (map (decoded_at s) ps ≡ map some ns) × (map (printed 0) ns ≡ fs)

abbrev pub Sought : Bytes → Option Bytes → List ℕ → List ℕ → ℕ → Bool → Type 0
Sought s o ps fs n r = (ns : List Bytes) → Names s (take n ps) (take n fs) ns → r ≡ meets s o (take n ps)

-- whether some bytes are one of the names noted
abbrev pub SoughtKey : Bytes → Bytes → List ℕ → List ℕ → Bool → Type 0
SoughtKey s key ps fs r = (ns : List Bytes) → Names s ps fs ns → r ≡ among key ns
