-- The names of a card's maps and members in groups, and rows that note them: group after group in one table of places and one of prints.
use Rattle.std.specs.Prelude.{◌≡◌, Bool, true, false, List, [], ◌∷◌, ◌++◌, map, ℕ, suc, ◌+◌, ◌-◌, ◌≤◌, ◌<◌, eqb, length, get_or, take, drop}
use Rattle.std.proofs.Math.Option
use Rattle.std.proofs.Math.Option.{Option, some}
use Rattle.text.specs.Choice.{pick, with-some}
use Rattle.text.specs.Bytes.{Bytes, among}
use Rattle.json_text.specs.Tree.{Json, name_of, as_object}
use Rattle.json_strings.specs.Decoded.{decoded_at}
use Rattle.json_prints.specs.Prints.{Names}
use Rattle.json_walk.specs.Walk.{json_at}
use Rattle.card_table.specs.Numbers.{group_count, map_count}
use Rattle.std.specs.Prelude.{Option as Maybe, Some, None}

-- ---- names

-- the names of an object's members; none of another value
abbrev pub names_of : Json → List Bytes
names_of v = with-some (as_object v) (map name_of) []

-- of whatever value stands at a place
abbrev pub names_at : ℕ → Bytes → ℕ → Option (List Bytes)
names_at d s at = Option.map names_of (json_at d s at)

-- of a map's slot: none where it is empty
abbrev pub slot_names : Bytes → ℕ → Option (List Bytes)
slot_names s at = pick (eqb at 0) (some []) (names_at 15 s at)

-- The groups: the seven maps, whose slots are the sixth to the twelfth, and the members of the card itself.
unfoldable pub group_names : Bytes → List ℕ → ℕ → Option (List Bytes)
group_names s slots i = pick (eqb i map_count) (names_at 16 s 0) (slot_names s (get_or slots (i + 5) 0))

-- a group has a name
abbrev pub HasName : Bytes → List ℕ → ℕ → Bytes → Bool → Type 0
HasName s slots i key r = (ns : List Bytes) → group_names s slots i ≡ some ns → r ≡ among key ns

-- ---- names noted

-- one name more, in the row k after others
abbrev pub NotesName : Bytes → ℕ → ℕ → List ℕ → List ℕ → Bool → List ℕ → List ℕ → Type 0
NotesName s at k ps fs true after afters =
    (k < length ps) × ((ns : List Bytes) (n : Bytes) → Names s (take k ps) (take k fs) ns → decoded_at s at ≡ some n → Names s (take (k + 1) after) (take (k + 1) afters) (ns ++ (n ∷ [])))
NotesName s at k ps fs false after afters = Unit {0}

-- how many rows names took, where each was noted
abbrev pub Noted : Type 0
Noted = Maybe ℕ

abbrev pub NotedIn : ℕ → Noted → Type 0
NotedIn room (Some n) = n ≤ room
NotedIn room None = Unit {0}

-- the first rows note these names
abbrev pub NotesAll : Bytes → List Bytes → Noted → List ℕ → List ℕ → Type 0
NotesAll s ns (Some n) ps fs = Names s (take n ps) (take n fs) ns
NotesAll s ns None ps fs = Unit {0}

-- of whatever value stands at a place
abbrev pub NotesNames : ℕ → Bytes → ℕ → Noted → List ℕ → List ℕ → Type 0
NotesNames d s at r ps fs = (v : Json) → json_at (suc d) s at ≡ some v → NotesAll s (names_of v) r ps fs

abbrev pub NotesGroup : Bytes → List ℕ → ℕ → Noted → List ℕ → List ℕ → Type 0
NotesGroup s slots i r ps fs = (ns : List Bytes) → group_names s slots i ≡ some ns → NotesAll s ns r ps fs

-- ---- the index

-- the rows of a table from one to just before another
abbrev pub rows : List ℕ → ℕ → ℕ → List ℕ
rows xs a e = take (e - a) (drop a xs)

-- the rows from a to e note the names of the group i
pub record Group (s : Bytes) (slots : List ℕ) (places prints : List ℕ) (i a e : ℕ) : Type 0 where
  pub ordered : a ≤ e
  pub within : e ≤ length places
  pub names : (ns : List Bytes) → group_names s slots i ≡ some ns → Names s (rows places a e) (rows prints a e) ns

-- each group's rows begin where those of the group before end
pub record NameIndex (s : Bytes) (slots : List ℕ) (places prints ends : List ℕ) : Type 0 where
  pub even : length places ≡ length prints
  pub wide : length ends ≡ 9
  pub groups : (i : ℕ) → i < group_count → Group s slots places prints i (get_or ends i 0) (get_or ends (i + 1) 0)

-- what is noted, if anything is
abbrev pub Indexes : Bytes → List ℕ → List ℕ → List ℕ → List ℕ → Type 0
Indexes s slots places prints ends = 0 < length ends → NameIndex s slots places prints ends
