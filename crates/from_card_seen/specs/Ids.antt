-- What the converted lines so far leave behind, as a table of three numbers each: the place of the map, and where the PROP-ID stands in the bytes of
-- the lines. A pointer of JSPROP is kept in the same table, with 7: there are seven maps, 0 to 6. The last stands first, as in `Seen`.
use Rattle.std.specs.Prelude.{◌≡◌, Bool, true, false, List, [], ◌∷◌, ◌++◌, ℕ, zero, suc, ◌+◌, ◌*◌, ◌≤◌, ◌<◌, length, get_or, set}
use Rattle.std.proofs.Math.Option.{some}
use Rattle.text.specs.Bytes.{Bytes, any, among}
use Rattle.json_prints.specs.Prints.{printed}
use Rattle.convert.specs.Pointer.{pointed}
use Rattle.convert.specs.Classify.{Id, id, is_id, Seen}
use Rattle.line_table.specs.Table.{part, Span}
use Rattle.card_table.specs.Numbers.{map_count}

abbrev pub pointers : ℕ
pointers = map_count

abbrev pub key_at : Bytes → List ℕ → ℕ → Bytes
key_at bytes ids k = part bytes (get_or ids (3 * k + 1) 0) (get_or ids (3 * k + 2) 0)

unfoldable pub ids_at : Bytes → List ℕ → ℕ → List Id
ids_at bytes ids zero = []
ids_at bytes ids (suc n) = id (get_or ids (3 * n) 0) (key_at bytes ids n) ∷ ids_at bytes ids n

-- n of them, all within the bytes
pub record Listed (bytes ids : List ℕ) (n : ℕ) : Type 0 where
  pub wide : 3 * n ≤ length ids
  pub span : (k : ℕ) → k < n → Span bytes (get_or ids (3 * k + 1) 0) (get_or ids (3 * k + 2) 0)

-- and their prints beside them: the print of a key begins with its map
pub record IdTable (bytes ids prints : List ℕ) (n : ℕ) : Type 0 where
  pub listed : Listed bytes ids n
  pub long : n ≤ length prints
  pub print : (k : ℕ) → k < n → get_or prints k 0 ≡ printed (get_or ids (3 * k) 0) (key_at bytes ids k)

-- there is room for one more
pub record Unfilled (ids prints : List ℕ) (n : ℕ) : Type 0 where
  pub wide : 3 * n + 3 ≤ length ids
  pub long : n < length prints

-- one more
unfoldable pub with_id : List ℕ → ℕ → ℕ → ℕ → ℕ → List ℕ
with_id ids n i a b = set (set (set ids (3 * n) i) (3 * n + 1) a) (3 * n + 2) b

-- the table answers both questions to what was seen
pub record Remembers (bytes ids : List ℕ) (n : ℕ) (seen : Seen) : Type 0 where
  pub keys : (i : ℕ) (key : Bytes) → i < pointers → any (is_id i key) (ids_at bytes ids n) ≡ any (is_id i key) seen.ids
  pub names : (p name : Bytes) → pointed p ≡ some name → any (is_id pointers p) (ids_at bytes ids n) ≡ among name seen.members

-- the line s stands in the bytes from `at` on
pub record Cut (bytes s : Bytes) (at : ℕ) : Type 0 where
  pub before : Bytes
  pub after : Bytes
  pub is : bytes ≡ before ++ (s ++ after)
  pub begins : length before ≡ at
