-- The whole card from JSON: its sections one after the other, with BEGIN and END.
use Rattle.std.specs.Prelude.{◌≡◌, Bool, true, List, ℕ, min, ◌≤◌, length, Err, Ok}
use Rattle.to_card_pen.specs.Refusal.{no_card}
use Rattle.std.proofs.Math.Option.{Option, none, some}
use Rattle.text.specs.Choice.{is_some}
use Rattle.text.specs.Bytes.{Bytes, ascii}
use Rattle.json_text.specs.Tree.{Json, jobj, Members, members_of}
use Rattle.json_text.specs.Strings.{distinct_names}
use Rattle.json_index.specs.Index.{json_at, Indexed}
use Rattle.line_pen.specs.Pen.{Fills}
use Rattle.convert.specs.Table.{reserved}
use Rattle.convert.specs.Model.{Entry, Card, has_parts}
use Rattle.convert.specs.FromJson.{Name, card_from_json}
use Rattle.convert.specs.Carry.{carried}
use Rattle.convert.specs.ToCard.{card_lines, print_card}
use Rattle.to_card_lines.specs.Lines.{lines_bytes, Part, PartAs, Laid, laid}
use Rattle.to_card_members.specs.Members.{members_part}
use Rattle.to_card_kept.specs.Kept.{Known, seen_of}
use Rattle.to_card_sections.specs.Sections.{rest_parts, last_parts, body_parts, sections}

-- the names of a card's members that have their own slots, in the order of the slots
abbrev pub card_names : Bytes
card_names = ascii "@type,version,uid,kind,name,nicknames,emails,phones,links,notes,titles,organizations,vCardProps"

-- 512 lines are 01's room for a card: 513 stands for every greater number
abbrev pub few : ℕ → ℕ
few n = min n 513

-- 12; or the lines of a part, as far as there is room, how many they are (513 for more), and whether lines can carry it
abbrev pub FewAs : Bytes → Laid → Bytes → Option Part → Type 0
FewAs room r after none = r ≡ Err no_card
FewAs room r after (some p) = (n : ℕ) × (r ≡ laid n (few (length p.lines)) p.carried) × Fills room (lines_bytes p.lines) n after

-- what is written is in the room, and no count is over 513
abbrev pub FewIn : ℕ → Laid → Type 0
FewIn room (Ok l) = (l.bytes ≤ room) × (l.lines ≤ 513)
FewIn room (Err e) = Unit {0}

-- the text is an object with these slots, whose names differ
pub record Object (s : Bytes) (slots : List ℕ) (mm : Members) : Type 0 where
  pub object : json_at 16 s 0 ≡ some (jobj mm)
  pub distinct : distinct_names (jobj mm) ≡ true
  pub indexed : Indexed 15 s reserved slots (members_of mm)

-- the members that no other part of the card says
abbrev pub PutsOthers : Bytes → List ℕ → Bytes → Laid → Bytes → Type 0
PutsOthers s slots room r after = (mm : Members) → json_at 16 s 0 ≡ some (jobj mm) → Indexed 15 s reserved slots (members_of mm)
    → PartAs room r after (members_part (members_of mm))

abbrev pub PutsLast : Bytes → List ℕ → Bool → Bool → Bytes → Laid → Bytes → Type 0
PutsLast s slots full parts room r after = (mm : Members) (ess : List (List Entry)) → Known s slots mm ess → (n : Name) → is_some n.full ≡ full → has_parts n.parts ≡ parts
    → FewAs room r after (last_parts (seen_of n ess (members_of mm)) (members_of mm))

abbrev pub PutsRest : Bytes → List ℕ → Bool → Bool → Bytes → Laid → Bytes → Type 0
PutsRest s slots full parts room r after = (mm : Members) → Object s slots mm → (n : Name) → is_some n.full ≡ full → has_parts n.parts ≡ parts
    → FewAs room r after (rest_parts n (members_of mm))

abbrev pub PutsBody : Bytes → List ℕ → Bytes → Laid → Bytes → Type 0
PutsBody s slots room r after = (mm : Members) → Object s slots mm → FewAs room r after (body_parts (members_of mm))

-- 12; or the card, as much of it as fits, how many lines it has (513 for more), and whether they can carry what it says
abbrev pub CardAs : Bytes → Laid → Bytes → Option Card → Type 0
CardAs room r after none = r ≡ Err no_card
CardAs room r after (some c) = (n : ℕ) × (r ≡ laid n (few (length (card_lines c))) (carried c)) × Fills room (print_card c) n after

abbrev pub PutsWhole : Bytes → List ℕ → Bytes → Laid → Bytes → Type 0
PutsWhole s slots room r after = (mm : Members) → Object s slots mm → CardAs room r after (card_from_json (jobj mm))

-- of a text whose tree has no equal names in one object
abbrev pub PutsCard : Bytes → Bytes → Laid → Bytes → Type 0
PutsCard s room r after = (v : Json) → json_at 16 s 0 ≡ some v → distinct_names v ≡ true → CardAs room r after (card_from_json v)
