-- A map's member, written entry by entry: its name before the first, a comma before each other, a brace after the last.
use Rattle.std.specs.Prelude.{◌≡◌, Bool, true, false, not, List, [], ◌∷◌, ◌++◌, map, ℕ, ◌≤◌, ◌<◌, length, get_or}
use Rattle.std.proofs.Math.Option.{some}
use Prim.Native.Char.{code}
use Rattle.text.specs.Choice.{pick}
use Rattle.text.specs.Bytes.{Bytes, empty, flat, keep, among, lowered}
use Rattle.json_text.specs.Tree.{Member, member, object}
use Rattle.json_text.specs.Compact.{quoted}
use Rattle.line.specs.Grammar.{Line, read_line}
use Rattle.output.specs.Put.{Wrote, full}
use Rattle.output.specs.Put.{Puts}
use Rattle.convert.specs.Table.{Map, maps, text, Slot, slot_of}
use Rattle.convert.specs.Model.{Entry}
use Rattle.convert.specs.Classify.{Seen, Classed, entry_of}
use Rattle.convert.specs.Keys.{key_or}
use Rattle.convert.specs.FromCard.{Gives, gathered, in_map, keyed_entries, maps_from}
use Rattle.convert.specs.ToJson.{where', entry_json, maps_json}
use Rattle.to_json_entry.specs.Entry.{keyed}
use Rattle.line_table.specs.Table.{line_in}
use Rattle.from_card_lines.specs.Classified.{Classified}
use Rattle.to_json_keys.specs.Taken.{Taken, Blocked, Going}
use Rattle.convert_put.specs.Pieces.{member_bytes, after, closing}
use Rattle.convert_params.specs.declared.Rows.{Rows}
use Rattle.table_entry.specs.Key.{Rowed}
use Rattle.card_table.specs.Numbers.{map_count}
use Rattle.std.specs.Prelude.{Result, Ok, Err}
use Rattle.output.specs.declared.Full.{Full}
use Rattle.to_json_maps.specs.declared.Put.{Put}

-- ---- the table's rows by their places

abbrev pub no_map : Map
no_map = record { member = []; prefix = []; properties = []; kinds = []; content = []; form = text; parameters = []; types = 0 }

unfoldable pub map_at : ℕ → Map
map_at i = get_or maps i no_map

unfoldable pub prefix_of : ℕ → Bytes
prefix_of i = (map_at i).prefix

-- ---- entries

-- those of the map i among these lines, not yet keyed
unfoldable pub entries_of : ℕ → List Classed → List Entry
entries_of i cs = in_map i (gathered (λ (g : Gives). g.entry) cs)

-- the PROP-IDs of entries
unfoldable pub ids_of : List Entry → List Bytes
ids_of es = keep (λ k. not (empty k)) (map (λ (e : Entry). e.key) es)

-- a map's member, where it has entries
unfoldable pub map_member : Map → List Entry → List Member
map_member m es = where' (not (empty es)) (member m.member (object (map (entry_json m) es)))

-- ---- piece by piece

-- what comes before an entry
unfoldable pub head_piece : Map → Bool → Bytes
head_piece m begun = pick begun (code "," ∷ []) (code "," ∷ quoted m.member (code ":" ∷ code "{" ∷ []))

-- an entry with that key
unfoldable pub entry_piece : Map → Bool → Bytes → Entry → Bytes
entry_piece m begun k e = flat (head_piece m begun ∷ member_bytes (entry_json m (keyed k e)) ∷ [])

-- the entries that are left, where these keys are used
unfoldable pub map_from : Map → List Bytes → Bool → List Entry → Bytes
map_from m used begun [] = closing begun
map_from m used begun (e ∷ es) = entry_piece m begun (key_or m.prefix used e.key) e ++ map_from m (key_or m.prefix used e.key ∷ used) true es

-- ---- a line

-- the line is read, and converts as that entry of the map i
pub record Enters (s : Bytes) (i : ℕ) (e : Entry) : Type 0 where
  pub line : Line
  pub read : read_line s ≡ some line
  pub seen : Seen
  pub slot : Slot
  pub named : slot_of (lowered line.name) ≡ some slot
  pub index : slot.index ≡ i
  pub entry : entry_of seen slot line ≡ some e

-- one of some map
abbrev pub Entering : Bytes → Type 0
Entering s = (i : ℕ) × (e : Entry) × Enters s i e

-- the same of a line that stands in a table
pub record Converts (s : Bytes) (t : List ℕ) (i : ℕ) (e : Entry) : Type 0 where
  pub seen : Seen
  pub slot : Slot
  pub named : slot_of (lowered (line_in s t).name) ≡ some slot
  pub index : slot.index ≡ i
  pub entry : entry_of seen slot (line_in s t) ≡ some e

pub record HasEntry (s : Bytes) (t : List ℕ) (R : Rows) (i : ℕ) : Type 0 where
  pub rowed : Rowed s t R
  pub entry : Entry
  pub converts : Converts s t i entry

-- ---- PROP-IDs

-- the row with the marks of one line more, and whether it has a PROP-ID
pub record MarksLine (prefix s : Bytes) (row after : List ℕ) (r : Bool) : Type 0 where
  pub same : length after ≡ length row
  pub has : (i : ℕ) (e : Entry) → Enters s i e → r ≡ not (empty e.key)
  pub marks : (i : ℕ) (e : Entry) → Enters s i e → (ids : List Bytes) → Taken prefix ids row → Taken prefix (ids ++ ids_of (e ∷ [])) after

-- a row without marks
pub record Unmarked (row : List ℕ) : Type 0 where
  pub wide : 1025 ≤ length row
  pub zero : (j : ℕ) → get_or row j 0 ≡ 0

-- ---- all lines

abbrev pub HasLines : List ℕ → List ℕ → List ℕ → ℕ → Type 0
HasLines scratch starts codes n = (cs : List Classed) × Classified scratch starts codes n cs

-- no line of the map i has a PROP-ID
abbrev pub NoIds : List ℕ → List ℕ → List ℕ → ℕ → ℕ → Type 0
NoIds scratch starts codes n i = (cs : List Classed) → Classified scratch starts codes n cs → ids_of (entries_of i cs) ≡ []

-- the marks of all PROP-IDs of the map i
abbrev pub MarksIds : Bytes → List ℕ → List ℕ → List ℕ → ℕ → ℕ → List ℕ → Bool → Type 0
MarksIds prefix scratch starts codes n i row r = (cs : List Classed) → Classified scratch starts codes n cs → Blocked prefix (ids_of (entries_of i cs)) r row

-- ---- writing

-- the entry with that key, after what comes before it
abbrev pub PutsKeyed : Bytes → Bytes → List ℕ → ℕ → Bool → Bytes → Wrote → Bytes → Type 0
PutsKeyed room s t i begun key r out = (e : Entry) → Converts s t i e → Puts room (entry_piece (map_at i) begun key e) r out

-- a line of the map, where these keys are used and the next made key has a number from there on
pub record Turning (s prefix : Bytes) (row : List ℕ) (i : ℕ) (taken : Bool) (from : ℕ) (ids used : List Bytes) (e : Entry) : Type 0 where
  pub enters : Enters s i e
  pub going : Going prefix ids used from
  pub blocked : Blocked prefix ids taken row
  pub few : length used ≤ 1023
  pub own : empty e.key ≡ false → among e.key ids ≡ true

pub record HasTurn (s prefix : Bytes) (row : List ℕ) (i : ℕ) (taken : Bool) (from : ℕ) : Type 0 where
  pub ids : List Bytes
  pub used : List Bytes
  pub entry : Entry
  pub turning : Turning s prefix row i taken from ids used entry
  pub short : length prefix ≤ 16

-- how much was written
abbrev pub wrote_of : Result Put Full → Wrote
wrote_of (Ok p) = Ok p.bytes
wrote_of (Err e) = Err full

-- where the next made number is sought
abbrev pub Goes : Bytes → List Bytes → List Bytes → Result Put Full → Type 0
Goes prefix ids used (Ok p) = Going prefix ids used p.next
Goes prefix ids used (Err e) = Unit {0}

abbrev pub PutsTurn : Bytes → Bytes → Bytes → List ℕ → ℕ → Bool → Bool → ℕ → Result Put Full → Bytes → Type 0
PutsTurn room s prefix row i begun taken from r out =
    (ids used : List Bytes) (e : Entry) → Turning s prefix row i taken from ids used e
    → Puts room (entry_piece (map_at i) begun (key_or prefix used e.key) e) (wrote_of r) out × Goes prefix ids (key_or prefix used e.key ∷ used) r

-- the map's member, by its classified lines
abbrev pub map_bytes : ℕ → List Classed → Bytes
map_bytes i cs = after (map_member (map_at i) (keyed_entries (map_at i) (entries_of i cs)))

abbrev pub PutsMap : Bytes → List ℕ → List ℕ → List ℕ → ℕ → ℕ → Wrote → Bytes → Type 0
PutsMap room scratch starts codes n i r out = (cs : List Classed) → Classified scratch starts codes n cs → Puts room (map_bytes i cs) r out

-- what there is to write a map's entries from
pub record HasMap (scratch starts codes : List ℕ) (n i : ℕ) (prefix : Bytes) (row : List ℕ) (taken : Bool) : Type 0 where
  pub lines : HasLines scratch starts codes n
  pub small : i < map_count
  pub is : prefix ≡ prefix_of i
  pub ids : MarksIds prefix scratch starts codes n i row taken

abbrev pub PutsMaps : Bytes → List ℕ → List ℕ → List ℕ → ℕ → Wrote → Bytes → Type 0
PutsMaps room scratch starts codes n r out =
    (cs : List Classed) → Classified scratch starts codes n cs → Puts room (after (maps_json maps (maps_from 0 maps (gathered (λ (g : Gives). g.entry) cs)))) r out
