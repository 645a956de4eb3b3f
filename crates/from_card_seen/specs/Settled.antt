-- A line's class settled by what was seen before: its number, and what is seen with it.
use Rattle.std.specs.Prelude.{◌≡◌, Bool, true, false, List, ◌∷◌, ℕ, ◌+◌, ◌≤◌}
use Rattle.text.specs.Bytes.{Bytes, any}
use Rattle.convert.specs.Classify.{id, is_id, Seen}
use Rattle.line_table.specs.Table.{part}
use Rattle.class_line.specs.declared.Class.{Class as Answer}
use Rattle.class_line.specs.Class.{number_of, seen_with}
use Rattle.from_card_seen.specs.Ids.{ids_at, IdTable, Remembers}
use Rattle.from_card_seen.specs.declared.Settled.{Settled}

-- the key from a to b is used in the map i, and nothing changes; or it is not, and is the last of one more
pub record Notes (bytes s ids : List ℕ) (n i a b : ℕ) (ids' prints' : List ℕ) (r : ℕ) : Type 0 where
  pub table : IdTable bytes ids' prints' r
  pub few : r ≤ n + 1
  pub stays : any (is_id i (part s a b)) (ids_at bytes ids n) ≡ true → (r ≡ n) × (ids' ≡ ids)
  pub grows : any (is_id i (part s a b)) (ids_at bytes ids n) ≡ false → (r ≡ n + 1) × (ids_at bytes ids' r ≡ id i (part s a b) ∷ ids_at bytes ids n)

-- of everything seen before: with the number, what is seen after has these flags and this table
pub record Follows (bytes s ids' : List ℕ) (class : Answer) (r : Settled) (seen : Seen) : Type 0 where
  pub code : number_of seen s class ≡ r.code
  pub full : (seen_with seen s class).full ≡ r.full
  pub parts : (seen_with seen s class).parts ≡ r.parts
  pub remembers : Remembers bytes ids' r.count (seen_with seen s class)

pub record Settles (bytes s ids : List ℕ) (n : ℕ) (full parts : Bool) (class : Answer) (ids' prints' : List ℕ) (r : Settled) : Type 0 where
  pub table : IdTable bytes ids' prints' r.count
  pub few : r.count ≤ n + 1
  pub says : (seen : Seen) → seen.full ≡ full → seen.parts ≡ parts → Remembers bytes ids n seen → Follows bytes s ids' class r seen
