-- The answer of JSON to card in two steps: what a text becomes, and whether that has room.
use Rattle.std.specs.Prelude.{◌≡◌, not, [], ◌∷◌, ℕ, length, ltb}
use Rattle.text.specs.Choice.{pick, with-some}
use Rattle.text.specs.Bytes.{Bytes}
use Rattle.json_text.specs.Tree.{Json}
use Rattle.json_text.specs.Read.{Reading, tree, refused, reading}
use Rattle.json_text.specs.Lookup.{depth}
use Rattle.convert.specs.Model.{Card}
use Rattle.convert.specs.FromJson.{card_from_json}
use Rattle.convert.specs.Carry.{carried}
use Rattle.convert.specs.ToCard.{card_lines, print_card}
use Rattle.convert.specs.Answers.{Answer, no, yes, seek, given, fitted, line_room, card_room, json_room}

-- the text is JSON
pub record Reads (s : Bytes) : Type 0 where
  pub value : Json
  pub is : reading 16 s ≡ tree value

-- refusals 13 and 3 (lines), else the card however long it is
unfoldable pub of_card : Card → Answer
of_card c = seek (given 13 (not (carried c)) ∷ given 3 (ltb line_room (length (card_lines c))) ∷ []) (yes (print_card c))

-- refusals 11 and 12, then these
abbrev pub inner : Reading → Answer
inner (refused p) = no 11 p
inner (tree j) = with-some (card_from_json j) of_card (no 12 0)

-- 3 (bytes), then these
unfoldable pub becomes : Bytes → Answer
becomes s = pick (ltb json_room (length s)) (no 3 0) (inner (reading depth s))

-- refusals 3 (result) and 14
abbrev pub fit : ℕ → Answer → Answer
fit lent (no n p) = no n p
fit lent (yes r) = fitted card_room lent r
