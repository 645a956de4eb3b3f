-- name, the members of JSPROP, and the whole JSON of a card's classified lines.
use Rattle.std.specs.Prelude.{◌≡◌, List, [], ◌∷◌, ◌++◌, ℕ, ◌≤◌, length}
use Rattle.std.proofs.Math.Option.{some}
use Prim.Native.Char.{code}
use Rattle.text.specs.Bytes.{Bytes, flat}
use Rattle.json_text.specs.Tree.{Json, Member, member}
use Rattle.line.specs.Grammar.{Line, read_line}
use Rattle.output.specs.Put.{Wrote}
use Rattle.output.specs.Put.{Puts}
use Rattle.convert.specs.Classify.{Seen, as_member, Classed, classify}
use Rattle.convert.specs.Table.{maps}
use Rattle.convert.specs.FromCard.{Gives, gathered, maps_from, card_of_classed}
use Rattle.convert.specs.ToJson.{maps_json, print_json}
use Rattle.convert_put.specs.Pieces.{member_bytes, after}
use Rattle.from_card_lines.specs.Classified.{Classified}
use Rattle.to_json_maps.specs.Maps.{HasLines}
use Rattle.to_json_head.specs.Head.{start_bytes}
use Rattle.to_json_sections.specs.Sections.{uid_in, kind_in, kind_member, name_in, members_in, kept_of, props_bytes}
use Rattle.line_table.specs.Table.{table_length}

-- the value of a line that is read
abbrev pub ValueOf : Bytes → Bytes → Type 0
ValueOf s v = (l : Line) → read_line s ≡ some l → v ≡ l.value

abbrev pub PutsName : Bytes → List ℕ → List ℕ → List ℕ → ℕ → Wrote → Bytes → Type 0
PutsName room scratch starts codes n r out = (cs : List Classed) → Classified scratch starts codes n cs → Puts room (name_in cs) r out

-- the line is read, and converts as that member
pub record IsMember (s : Bytes) (m : Member) : Type 0 where
  pub line : Line
  pub read : read_line s ≡ some line
  pub seen : Seen
  pub name : Bytes
  pub value : Json
  pub turn : classify seen line ≡ as_member name value
  pub is : member name value ≡ m

abbrev pub HasMember : Bytes → Type 0
HasMember s = (m : Member) × IsMember s m

abbrev pub PutsMemberTurn : Bytes → Bytes → Wrote → Bytes → Type 0
PutsMemberTurn room s r out = (m : Member) → IsMember s m → Puts room ((code "," ∷ []) ++ member_bytes m) r out

abbrev pub PutsMembers : Bytes → List ℕ → List ℕ → List ℕ → ℕ → Wrote → Bytes → Type 0
PutsMembers room scratch starts codes n r out = (cs : List Classed) → Classified scratch starts codes n cs → Puts room (members_in cs) r out

-- a table for one line, lines, and a scratch for the TEXT of a line
pub record Lent (t text scratch starts codes : List ℕ) (n : ℕ) : Type 0 where
  pub parts : table_length ≤ length t
  pub room : length scratch ≤ length text
  pub lines : HasLines scratch starts codes n

-- the sections in three groups
abbrev pub top_pieces : Bytes → ℕ → List Classed → List Bytes
top_pieces stem number cs = start_bytes (uid_in stem number cs) ∷ kind_member (kind_in cs) ∷ name_in cs ∷ []

abbrev pub middle_pieces : List Classed → List Bytes
middle_pieces cs = after (maps_json maps (maps_from 0 maps (gathered (λ (g : Gives). g.entry) cs))) ∷ members_in cs ∷ []

abbrev pub end_pieces : List Classed → List Bytes
end_pieces cs = props_bytes (kept_of cs) ∷ (code "}" ∷ []) ∷ []

abbrev pub PutsTop : Bytes → Bytes → ℕ → List ℕ → List ℕ → List ℕ → ℕ → Wrote → Bytes → Type 0
PutsTop room stem number scratch starts codes n r out = (cs : List Classed) → Classified scratch starts codes n cs → Puts room (flat (top_pieces stem number cs)) r out

abbrev pub PutsMiddle : Bytes → List ℕ → List ℕ → List ℕ → ℕ → Wrote → Bytes → Type 0
PutsMiddle room scratch starts codes n r out = (cs : List Classed) → Classified scratch starts codes n cs → Puts room (flat (middle_pieces cs)) r out

abbrev pub PutsEnd : Bytes → List ℕ → List ℕ → List ℕ → ℕ → Wrote → Bytes → Type 0
PutsEnd room scratch starts codes n r out = (cs : List Classed) → Classified scratch starts codes n cs → Puts room (flat (end_pieces cs)) r out

abbrev pub rest_pieces : List Classed → List Bytes
rest_pieces cs = flat (middle_pieces cs) ∷ flat (end_pieces cs) ∷ []

abbrev pub PutsRest : Bytes → List ℕ → List ℕ → List ℕ → ℕ → Wrote → Bytes → Type 0
PutsRest room scratch starts codes n r out = (cs : List Classed) → Classified scratch starts codes n cs → Puts room (flat (rest_pieces cs)) r out

abbrev pub PutsCard : Bytes → Bytes → ℕ → List ℕ → List ℕ → List ℕ → ℕ → Wrote → Bytes → Type 0
PutsCard room stem number scratch starts codes n r out =
    (cs : List Classed) → Classified scratch starts codes n cs → Puts room (print_json (card_of_classed stem number cs)) r out
