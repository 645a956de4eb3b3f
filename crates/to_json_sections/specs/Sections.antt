-- The sections of a card's JSON besides the maps, line by line.
use Rattle.std.specs.Prelude.{◌≡◌, Bool, true, false, not, ◌||◌, List, [], ◌∷◌, ◌++◌, map, ℕ, ◌≤◌, ◌<◌, get_or}
use Rattle.std.proofs.Math.Option.{Option, some}
use Prim.Native.Char.{code}
use Rattle.text.specs.Choice.{pick, is_some}
use Rattle.text.specs.Bytes.{Bytes, ascii, empty, flat}
use Rattle.json_text.specs.Tree.{member, array, jstr}
use Rattle.json_text.specs.Compact.{written}
use Rattle.line.specs.Grammar.{Line, read_line}
use Rattle.output.specs.Put.{Wrote}
use Rattle.output.specs.Put.{Puts}
use Rattle.convert.specs.Value.{filled}
use Rattle.to_json_head.specs.Head.{start_bytes}
use Rattle.convert.specs.Table.{maps}
use Rattle.convert.specs.Model.{Kept, no_parts, has_parts}
use Rattle.convert.specs.Classify.{Classed}
use Rattle.convert.specs.FromCard.{Gives, gathered, kept_line, first_of, or_else, made_uid, maps_from}
use Rattle.convert.specs.ToJson.{where', kept_json, name_json, maps_json}
use Rattle.convert_put.specs.Pieces.{after}
use Rattle.from_card_lines.specs.Classified.{Classified}

-- ---- vCardProps

unfoldable pub kept_of : List Classed → List Kept
kept_of cs = gathered (λ (g : Gives). g.kept) cs

-- what comes before a kept line
unfoldable pub prop_head : Bool → Bytes
prop_head begun = pick begun (code "," ∷ []) (ascii ",\"vCardProps\":[")

unfoldable pub prop_piece : Bool → Kept → Bytes
prop_piece begun k = flat (prop_head begun ∷ written (kept_json k) [] ∷ [])

unfoldable pub props_end : Bool → Bytes
props_end begun = pick begun (code "]" ∷ []) []

-- the kept lines that are left
unfoldable pub props_from : Bool → List Kept → Bytes
props_from begun [] = props_end begun
props_from begun (k ∷ ks) = prop_piece begun k ++ props_from true ks

-- the member, where there is a kept line
unfoldable pub props_bytes : List Kept → Bytes
props_bytes ks = after (where' (not (empty ks)) (member (ascii "vCardProps") (array (map kept_json ks))))

-- the line is read, and kept as that
pub record IsKept (s : Bytes) (k : Kept) : Type 0 where
  pub line : Line
  pub read : read_line s ≡ some line
  pub is : kept_line line ≡ k

abbrev pub HasKept : Bytes → Type 0
HasKept s = (k : Kept) × IsKept s k

abbrev pub PutsProp : Bytes → Bytes → Bool → Wrote → Bytes → Type 0
PutsProp room s begun r out = (k : Kept) → IsKept s k → Puts room (prop_piece begun k) r out

abbrev pub PutsProps : Bytes → List ℕ → List ℕ → List ℕ → ℕ → Wrote → Bytes → Type 0
PutsProps room scratch starts codes n r out = (cs : List Classed) → Classified scratch starts codes n cs → Puts room (props_bytes (kept_of cs)) r out

-- ---- the first line of a number

pub record FirstOf (codes : List ℕ) (n q r : ℕ) : Type 0 where
  pub within : r ≤ n
  pub before : (k : ℕ) → k < r → get_or codes k 0 ≡ q → ⊥
  pub here : r < n → get_or codes r 0 ≡ q

-- ---- uid and kind

-- the first UID, else the stem, a hyphen and the card's number
unfoldable pub uid_in : Bytes → ℕ → List Classed → Bytes
uid_in stem number cs = or_else (first_of (gathered (λ (g : Gives). g.uid) cs)) (made_uid stem number)

-- the first KIND, else empty
unfoldable pub kind_in : List Classed → Bytes
kind_in cs = or_else (first_of (gathered (λ (g : Gives). g.kind) cs)) []

-- the member of a kind, where there is one
unfoldable pub kind_member : Bytes → Bytes
kind_member k = after (where' (filled k) (member (ascii "kind") (jstr k)))

abbrev pub PutsStart : Bytes → Bytes → ℕ → List ℕ → List ℕ → List ℕ → ℕ → Wrote → Bytes → Type 0
PutsStart room stem number scratch starts codes n r out = (cs : List Classed) → Classified scratch starts codes n cs → Puts room (start_bytes (uid_in stem number cs)) r out

abbrev pub PutsKind : Bytes → List ℕ → List ℕ → List ℕ → ℕ → Wrote → Bytes → Type 0
PutsKind room scratch starts codes n r out = (cs : List Classed) → Classified scratch starts codes n cs → Puts room (kind_member (kind_in cs)) r out

-- ---- the whole

unfoldable pub full_in : List Classed → Option Bytes
full_in cs = first_of (gathered (λ (g : Gives). g.full) cs)

unfoldable pub parts_in : List Classed → List (List Bytes)
parts_in cs = or_else (first_of (gathered (λ (g : Gives). g.parts) cs)) no_parts

unfoldable pub name_in : List Classed → Bytes
name_in cs = after (where' (is_some (full_in cs) || has_parts (parts_in cs)) (member (ascii "name") (name_json (full_in cs) (parts_in cs))))

unfoldable pub members_in : List Classed → Bytes
members_in cs = after (gathered (λ (g : Gives). g.member) cs)

-- the sections in their order
abbrev pub sections : Bytes → ℕ → List Classed → List Bytes
sections stem number cs =
    start_bytes (uid_in stem number cs) ∷ kind_member (kind_in cs) ∷ name_in cs ∷ after (maps_json maps (maps_from 0 maps (gathered (λ (g : Gives). g.entry) cs))) ∷ members_in cs
    ∷ props_bytes (kept_of cs) ∷ (code "}" ∷ []) ∷ []
