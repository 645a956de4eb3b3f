-- vCardProps as kept lines.
use Rattle.std.specs.Prelude.{◌≡◌, Bool, true, false, List, [], ◌∷◌, map, ℕ, ◌≤◌, length}
use Rattle.std.proofs.Math.Option.{Option, none, some}
use Rattle.text.specs.Choice.{with-some, is_some, chain, provided}
use Rattle.text.specs.Bytes.{Bytes, ascii, each}
use Rattle.json_text.specs.Tree.{Json, jobj, Members, members_of, Member, name_of, field, as_array}
use Rattle.json_text.specs.Strings.{distinct_names}
use Rattle.json_index.specs.Index.{json_at, Indexed}
use Rattle.convert.specs.Table.{maps, reserved}
use Rattle.convert.specs.Model.{Entry, Kept, has_parts}
use Rattle.convert.specs.Classify.{Seen}
use Rattle.convert.specs.FromJson.{Name, map_from, kept_from, kept_as_line, kept_stands, ids_from, other_members}
use Rattle.convert.specs.Carry.{carried_kept}
use Rattle.to_card_lines.specs.Lines.{Part, PartAs, no_lines, parts_of, Laid}
use Rattle.card_table.specs.Numbers.{card_slots}
use Rattle.line_table.specs.Table.{table_length}
use Rattle.json_text.specs.Lookup.{room}

-- ---- what an entry comes to

abbrev pub kept_part : Kept → Part
kept_part k = record { lines = kept_as_line k ∷ []; carried = carried_kept k }

-- an entry of vCardProps: 12 where no kept line gives it in its place
unfoldable pub entry_part : Seen → Json → Option Part
entry_part seen j = chain (kept_from j) λ k. provided (kept_stands seen k) (some (kept_part k))

-- vCardProps, where it is there
unfoldable pub kept_parts : Seen → Option Json → Option Part
kept_parts seen o = with-some o (λ v. chain (as_array v) (parts_of (entry_part seen))) (some no_lines)

-- what converted lines leave behind (`seen_in` of the card)
abbrev pub seen_of : Name → List (List Entry) → List Member → Seen
seen_of n ess ms = record { full = is_some n.full; parts = has_parts n.parts; ids = ids_from 0 ess; members = map name_of (other_members ms) }

-- ---- what is lent

-- A buffer for the strings of an entry, a table of its places and a scratch for a JSPROP value. An entry of a text has fewer bytes than the text.
pub record LentText (b : Bytes) (t : List ℕ) (scratch s : Bytes) : Type 0 where
  pub small : length s ≤ room
  pub buffer : length b ≡ length s
  pub table : table_length ≤ length t
  pub text : length s ≤ length scratch

-- and the slots of the top-level members, by the reserved names
pub record Lent (b : Bytes) (t : List ℕ) (scratch s : Bytes) (slots : List ℕ) : Type 0 where
  pub all : LentText b t scratch s
  pub index : card_slots ≤ length slots

-- ---- what is promised

-- what is known of the text when its kept lines are written: it is an object with these slots, whose names differ, and its maps are read
pub record Known (s : Bytes) (slots : List ℕ) (mm : Members) (ess : List (List Entry)) : Type 0 where
  pub object : json_at 16 s 0 ≡ some (jobj mm)
  pub distinct : distinct_names (jobj mm) ≡ true
  pub indexed : Indexed 15 s reserved slots (members_of mm)
  pub read : each (map_from (members_of mm)) maps ≡ some ess

-- 12, or the lines of vCardProps, as far as there is room, how many they are, and whether they can carry it
abbrev pub PutsKept : Bytes → List ℕ → Bool → Bool → Bytes → Laid → Bytes → Type 0
PutsKept s slots full parts room r after = (mm : Members) (ess : List (List Entry)) → Known s slots mm ess → (n : Name) → is_some n.full ≡ full → has_parts n.parts ≡ parts
    → PartAs room r after (kept_parts (seen_of n ess (members_of mm)) (field (ascii "vCardProps") (members_of mm)))
