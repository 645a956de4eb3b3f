-- DEMAND 2, as a statement about any two converters: what goes out comes home. `normal_card` and `normal_json` are 01's section 'Normal forms' (convert/specs); what
-- must stand is said apart from them and from the converter's tables in `Allowed`, `Turns`, `Members`, `StandsFor`, `Reasons`; which JSON is a card in `CardJson`; how lines
-- may be spelled in `Spelled`. The lines of a card, answers, rooms and the proved cases are convert's words.
use Rattle.std.specs.Prelude.{◌≡◌, true, false, List, [], ◌∷◌, map, ◌⊎◌, ℕ, length, ltb}
use Rattle.text.specs.Choice.{pick}
use Rattle.text.specs.Bytes.{Bytes, lowered}
use Rattle.line.specs.Grammar.{Line}
use Rattle.line.specs.Physical.{size_of}
use Rattle.line.specs.Upper.{upper_line}
use Rattle.line.specs.Write.{write_card}
use Rattle.convert.specs.Classify.{classed}
use Rattle.convert.specs.NormalCard.{normal_lines, normal_card}
use Rattle.convert.specs.NormalJson.{normal_json}
use Rattle.convert.specs.Answers.{Answer, no, yes, seek, given, card_room, line_room, json_room, is_stem_text, is_card_number, raw_lines, lines_of, or_none, fitted}
use Rattle.convert.specs.Worked.{given_by, wanted}
use Rattle.convert.specs.ProvedCases.{proved-cases}
use Rattle.home.specs.Allowed.{new_lines}
use Rattle.home.specs.CardJson.{NoCard}
use Rattle.home.specs.JsonStands.{JsonStands}
use Rattle.home.specs.Members.{TextStands}
use Rattle.home.specs.Spelled.{Spells}
use Rattle.home.specs.Turns.{LinesStand, InTurn}

-- ---- words

-- the lines of a card, unfolded and read
abbrev pub lines : Bytes → List Line
lines s = lines_of (or_none (raw_lines s))

-- the lines of a card's normal form
abbrev pub normal_of : Bytes → ℕ → Bytes → List Line
normal_of stem n s = normal_lines stem n (classed (lines s))

-- a card of these lines, or 3 where they or their bytes are over their room, or 14 where the bytes are longer than the lent output
abbrev pub written : ℕ → List Line → Answer
written lent ls = seek (given 3 (ltb line_room (length ls)) ∷ []) (fitted card_room lent (write_card ls))

-- a line with its group in lower case, and names in upper case: what is left of its letter case
abbrev pub lower_group : Line → Line
lower_group l = record { group = lowered l.group; name = l.name; params = l.params; value = l.value }

abbrev pub caseless : Line → Line
caseless l = upper_line (lower_group l)

-- ---- the demand; lent lengths are any, so nothing asks for a full room

pub record Demand2 (to_json : (stem : Bytes) (n lent : ℕ) (card : Bytes) → Answer) (to_card : (lent : ℕ) (json : Bytes) → Answer) : Type 0 where
  -- 01's twelve proved cases: a converter that keeps every line, or gives one fixed card, does not meet them.
  pub cases : map (given_by to_json to_card) proved-cases ≡ map wanted proved-cases
  -- A card's JSON gives exactly the card's normal form; 3 where that is over its room, else 14 where it is longer than the output.
  pub card-normal : (stem : Bytes) (n lent lent' : ℕ) (s j : Bytes) → to_json stem n lent s ≡ yes j → to_card lent' j ≡ written lent' (normal_of stem n s)
  -- A JSON's card gives exactly the JSON's normal form, with any valid stem and number; 3 and 14 likewise.
  pub json-normal : (stem : Bytes) (n lent lent' : ℕ) (s b : Bytes) → is_stem_text stem ≡ true → is_card_number n ≡ true → to_card lent s ≡ yes b
      → to_json stem n lent' b ≡ fitted json_room lent' (normal_json s)
  -- With all of its room lent, the way home is refused only by 3.
  pub card-only-3 : (stem : Bytes) (n lent : ℕ) (s j : Bytes) → to_json stem n lent s ≡ yes j
      → (to_card card_room j ≡ yes (normal_card stem n s)) ⊎ (to_card card_room j ≡ no 3 0)
  pub json-only-3 : (stem : Bytes) (n lent : ℕ) (s b : Bytes) → is_stem_text stem ≡ true → is_card_number n ≡ true → to_card lent s ≡ yes b
      → (to_json stem n json_room b ≡ yes (normal_json s)) ⊎ (to_json stem n json_room b ≡ no 3 0)
  -- What stands for each line in the JSON is what 01's table says (`StandsFor`), a line is kept exactly where 01 has a reason (`Reasons`), and nothing else is in the JSON.
  pub json-stands : (stem : Bytes) (n lent : ℕ) (s j : Bytes) → to_json stem n lent s ≡ yes j → JsonStands stem n (lines s) j
  -- Every line of the card stands in the card that comes home, as often as it came, changed only as `Allowed` says; no other is there but the new ones. Kept lines are
  -- those that 01 keeps, by what stands for each in the JSON, and no other.
  pub every-line : (stem : Bytes) (n lent lent' : ℕ) (s j b : Bytes) → to_json stem n lent s ≡ yes j → to_card lent' j ≡ yes b
      → (h : JsonStands stem n (lines s) j) → LinesStand (new_lines stem n (lines s)) (lines s) h.stands (lines b)
  -- They come home in 01's order of sections, and in each section in their own.
  pub in-turn : (stem : Bytes) (n lent lent' : ℕ) (s j b : Bytes) → to_json stem n lent s ≡ yes j → to_card lent' j ≡ yes b
      → (h : JsonStands stem n (lines s) j) → InTurn (lines s) h.stands (lines b)
  -- The other way: in the same sense the JSON's normal form is what stands for the lines of the card that it gives, whatever stem and number (the card has a UID). With
  -- `own-normal` this fixes the card (proofs/OneCard).
  pub lines-stand : (stem : Bytes) (n lent : ℕ) (s b : Bytes) → to_card lent s ≡ yes b → JsonStands stem n (lines b) (normal_json s)
  -- Every member of the JSON, at every level, stands in its normal form, and so in the JSON that comes home, and no other, but for what 01 lets go or come (`Members`).
  pub members-stand : (lent : ℕ) (s b : Bytes) → to_card lent s ≡ yes b → TextStands s (normal_json s)
  pub every-member : (stem : Bytes) (n lent lent' : ℕ) (s b r : Bytes) → to_card lent s ≡ yes b → to_json stem n lent' b ≡ yes r → TextStands s r
  -- What came home stays: it gives the same JSON, and comes home as it is, whatever the stem and number; every card that is written is its own normal form.
  pub same-json : (stem : Bytes) (n lent lent' : ℕ) (s j b : Bytes) → to_json stem n lent s ≡ yes j → to_card lent' j ≡ yes b
      → (stem' : Bytes) (n' room : ℕ) → is_stem_text stem' ≡ true → is_card_number n' ≡ true → ltb room (length j) ≡ false → to_json stem' n' room b ≡ yes j
  pub home-again : (stem : Bytes) (n lent lent' : ℕ) (s j b : Bytes) → to_json stem n lent s ≡ yes j → to_card lent' j ≡ yes b
      → (stem' : Bytes) (n' room : ℕ) (k : Bytes) → to_json stem' n' room b ≡ yes k → to_card lent' k ≡ yes b
  pub own-normal : (stem : Bytes) (n lent : ℕ) (s b : Bytes) → to_card lent s ≡ yes b → normal_card stem n b ≡ b
  pub same-card : (lent lent' : ℕ) (s b : Bytes) → to_card lent s ≡ yes b
      → to_card lent' (normal_json s) ≡ pick (ltb json_room (length (normal_json s))) (no 3 0) (to_card lent' s)
  -- 12 is given exactly where the JSON is no card of 01 (`CardJson`): JSON that 01 accepts is not refused by it, and all other JSON that reads is.
  pub twelve : (lent : ℕ) (s : Bytes) → NoCard s → to_card lent s ≡ no 12 0
  pub only-twelve : (lent place : ℕ) (s : Bytes) → to_card lent s ≡ no 12 place → NoCard s
  -- Refolding, other line ends and other letter case in names and groups change no byte.
  pub refolded : (stem : Bytes) (n lent : ℕ) (ls : List Bytes) (s t : Bytes) → Spells ls s → Spells ls t → ltb card_room (size_of s) ≡ ltb card_room (size_of t)
      → to_json stem n lent s ≡ to_json stem n lent t
  pub respelled : (stem : Bytes) (n lent lent' : ℕ) (ls ms : List Bytes) (s t j k : Bytes) → Spells ls s → Spells ms t
      → map caseless (lines_of ls) ≡ map caseless (lines_of ms) → to_json stem n lent s ≡ yes j → to_json stem n lent' t ≡ yes k → j ≡ k
