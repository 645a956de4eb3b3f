-- Numbers of made keys that the PROP-IDs of a map take, as marks in a row. A map has at most 512 entries, so that no made key has a number over 1024.
use Rattle.std.specs.Prelude.{◌≡◌, Bool, true, false, List, [], ◌∷◌, ◌++◌, ℕ, ◌≤◌, ◌<◌, eqb, length, get_or}
use Rattle.text.specs.Bytes.{Bytes, same, among}
use Rattle.text.specs.Decimal.{decimal}
use Rattle.convert.specs.Keys.{numbered}

-- r is the number from 1 to 1024 with those digits, and 0 where there is none
pub record Spells (d : Bytes) (r : ℕ) : Type 0 where
  pub low : r < 1025
  pub says : (j : ℕ) → 1 ≤ j → j < 1025 → same (decimal j) d ≡ eqb j r

-- r is the number from 1 to 1024 of that made key, and 0 where there is none
pub record Numbers (prefix key : Bytes) (r : ℕ) : Type 0 where
  pub low : r < 1025
  pub says : (j : ℕ) → 1 ≤ j → j < 1025 → same (numbered prefix j) key ≡ eqb j r

-- the row has a mark for exactly the numbers that these PROP-IDs take
pub record Taken (prefix : Bytes) (ids : List Bytes) (row : List ℕ) : Type 0 where
  pub wide : 1025 ≤ length row
  pub marks : (j : ℕ) → 1 ≤ j → j < 1025 → eqb (get_or row j 0) 1 ≡ among (numbered prefix j) ids

-- a row of the map's PROP-IDs is one of those and the key
abbrev pub Marks : Bytes → Bytes → List ℕ → List ℕ → Type 0
Marks prefix key row after = (length after ≡ length row) × ((ids : List Bytes) → Taken prefix ids row → Taken prefix (ids ++ (key ∷ [])) after)

-- there is no PROP-ID, or the row has their marks
abbrev pub Blocked : Bytes → List Bytes → Bool → List ℕ → Type 0
Blocked prefix ids true row = Taken prefix ids row
Blocked prefix ids false row = ids ≡ []

pub record NextFree (row : List ℕ) (from r : ℕ) : Type 0 where
  pub on : from ≤ r
  pub marked : (j : ℕ) → from ≤ j → j < r → eqb (get_or row j 0) 1 ≡ true
  pub free : r < length row → eqb (get_or row r 0) 1 ≡ false

-- r is the first number from there on that the PROP-IDs do not take (as long as it is one of 1 to 1024)
pub record Next (prefix : Bytes) (ids : List Bytes) (from r : ℕ) : Type 0 where
  pub on : from ≤ r
  pub taken : (j : ℕ) → from ≤ j → j < r → j < 1025 → among (numbered prefix j) ids ≡ true
  pub free : r < 1025 → among (numbered prefix r) ids ≡ false

abbrev pub Nexts : List ℕ → Bool → ℕ → ℕ → Type 0
Nexts row taken from r = (prefix : Bytes) (ids : List Bytes) → Blocked prefix ids taken row → 1 ≤ from → Next prefix ids from r

-- ---- one counter a map

-- ids: the PROP-IDs of the map; used: these and the keys so far; m: a number above all that were made
pub record Going (p : Bytes) (ids used : List Bytes) (m : ℕ) : Type 0 where
  pub from : 1 ≤ m
  pub low : (j : ℕ) → 1 ≤ j → j < m → among (numbered p j) used ≡ true
  pub high : (j : ℕ) → m ≤ j → among (numbered p j) used ≡ among (numbered p j) ids
