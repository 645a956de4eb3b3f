-- Whether a line converts after all lines of a JSON card (01's "in its place"): its PROP-ID or its member's name may be used there. What was seen is
-- looked up in the JSON text itself.
use Rattle.std.specs.Prelude.{◌≡◌, Bool, false, List, map, ℕ, eqb}
use Rattle.std.proofs.Math.Option.{some}
use Rattle.text.specs.Bytes.{Bytes, any, among, each}
use Rattle.json_text.specs.Tree.{Json, Member, name_of, as_object}
use Rattle.json_index.specs.Index.{json_at, Indexed}
use Rattle.line_table.specs.Table.{part}
use Rattle.convert.specs.Table.{maps, reserved}
use Rattle.convert.specs.Model.{Entry, Card}
use Rattle.convert.specs.Pointer.{pointed}
use Rattle.convert.specs.Classify.{is_id}
use Rattle.convert.specs.FromJson.{map_from, other_members, ids_from, seen_in}
use Rattle.class_line.specs.Class.{number_of}
use Rattle.class_line.specs.declared.Class.{Class as Answer}
use Rattle.class_line.specs.declared.Class.TheVariants.{Kept, Dropped, Version, Uid, Kind, Full, Parts, Entry as InMap, Keyed, Member as AsMember}

-- an entry of the map i has the key; the slots are those of the top-level members, by the reserved names
abbrev pub IdUsed : Bytes → List ℕ → ℕ → Bytes → Bool → Type 0
IdUsed s slots i key r = (ms : List Member) (ess : List (List Entry)) → Indexed 15 s reserved slots ms → each (map_from ms) maps ≡ some ess
    → r ≡ any (is_id i key) (ids_from 0 ess)

-- the member that the pointer points at is there, and is none of the table's
abbrev pub PointerUsed : Bytes → Bytes → Bool → Type 0
PointerUsed s p r = (n : Bytes) → pointed p ≡ some n → among n reserved ≡ false
    → (v : Json) (ms : List Member) → json_at 16 s 0 ≡ some v → as_object v ≡ some ms → r ≡ among n (map name_of (other_members ms))

-- s holds the JSON of a card with these maps and other members
pub record CardIn (s : Bytes) (slots : List ℕ) (c : Card) : Type 0 where
  pub value : Json
  pub object : List Member
  pub text : json_at 16 s 0 ≡ some value
  pub is : as_object value ≡ some object
  pub slotted : Indexed 15 s reserved slots object
  pub entries : each (map_from object) maps ≡ some c.maps
  pub others : c.members ≡ other_members object

-- a pointer points at no member of the table
abbrev pub Unreserved : Bytes → Answer → Type 0
Unreserved b Kept = Unit {0}
Unreserved b Dropped = Unit {0}
Unreserved b Version = Unit {0}
Unreserved b Uid = Unit {0}
Unreserved b Kind = Unit {0}
Unreserved b Full = Unit {0}
Unreserved b Parts = Unit {0}
Unreserved b (InMap i) = Unit {0}
Unreserved b (Keyed i x y) = Unit {0}
Unreserved b (AsMember x y) = (n : Bytes) → pointed (part b x y) ≡ some n → among n reserved ≡ false

-- the number of the class of the line in b is that of a kept one, for the card that s holds
abbrev pub KeptIn : Bytes → List ℕ → Bytes → Answer → Bool → Type 0
KeptIn s slots b class r = (c : Card) → CardIn s slots c → Unreserved b class → r ≡ eqb 16 (number_of (seen_in c) b class)
