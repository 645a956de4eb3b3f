-- DEMAND 1, as a statement about any two services: what they give is what document 01 gives, number, place, length and lent bytes afterwards, refusals
-- included. Here 01's refusals stand once more as two lists in 01's order, each with the condition under which it is "given exactly when" no earlier one is.
use Rattle.std.specs.Prelude.{◌≡◌, Bool, true, false, ◌&&◌, not, List, [], ◌∷◌, ℕ, length, ltb}
use Rattle.std.proofs.Math.Option.{Option, none}
use Rattle.text.specs.Choice.{pick, with-some, is_some}
use Rattle.text.specs.Bytes.{Bytes, ascii, any}
use Rattle.json_text.specs.Read.{Reading, tree, refused, reading}
use Rattle.line.specs.Physical.{size_of}
use Rattle.convert.specs.Model.{Card}
use Rattle.convert.specs.FromCard.{card_of_lines}
use Rattle.convert.specs.FromJson.{card_from_json}
use Rattle.convert.specs.Carry.{carried}
use Rattle.convert.specs.ToJson.{print_json}
use Rattle.convert.specs.ToCard.{card_lines, print_card}
use Rattle.convert.specs.Answers.{Answer, no, yes, card_room, line_room, json_room, is_stem_text, is_card_number, garbled, ungrammatical, version_first, misused, second_from, emptied, is_named, raw_lines, lines_of, or_none, first_from}
use Rattle.convert.specs.Served.{Served, served}

-- ---- grounds of refusal

pub record Ground : Type 0 where
  pub number : ℕ
  pub holds : Bool
  pub place : ℕ

-- the first ground that holds, else the result
unfoldable pub decided : List Ground → (result : Bytes) → Answer
decided [] r = yes r
decided (g ∷ gs) r = pick g.holds (no g.number g.place) (decided gs r)

abbrev pub ground : ℕ → Bool → Ground
ground n b = record { number = n; holds = b; place = 0 }

abbrev pub or_zero : Option ℕ → ℕ
or_zero o = with-some o (λ p. p) 0

-- with "the first offending unfolded line (VERSION is 1)" as its place
abbrev pub ground_at : {A : Type 0} → ℕ → (A → Bool) → List A → Ground
ground_at n p ls = record { number = n; holds = any p ls; place = or_zero (first_from 1 p ls) }

-- ---- a card. "Order for a card: 16, 15, 3 (input bytes, number), 1, 3 (lines), 4 to 10, 3 (result), 14." (16, and 3 for a number, are the stream's.)

-- The JSON of a card's unfolded lines. (No lines where there is no frame: 1 comes before they are asked for.)
abbrev pub json_result : (stem : Bytes) (n : ℕ) (unfolded : Option (List Bytes)) → Bytes
json_result stem n o = print_json (card_of_lines stem n (lines_of (or_none o)))

abbrev pub card_grounds : (stem : Bytes) (n lent : ℕ) (s : Bytes) (unfolded : Option (List Bytes)) → List Ground
card_grounds stem n lent s o =
    ground 15 (not (is_stem_text stem && is_card_number n))
    ∷ ground 3 (ltb card_room (size_of s))
    ∷ ground 1 (not (is_some o))
    ∷ ground 3 (ltb line_room (length (or_none o)))
    ∷ ground_at 4 garbled (or_none o)
    ∷ ground_at 5 ungrammatical (or_none o)
    ∷ ground 6 (not (version_first (lines_of (or_none o))))
    ∷ ground_at 7 misused (lines_of (or_none o))
    ∷ record { number = 8; holds = is_some (second_from 1 [] (lines_of (or_none o))); place = or_zero (second_from 1 [] (lines_of (or_none o))) }
    ∷ ground_at 9 emptied (lines_of (or_none o))
    ∷ ground 10 (not (any (is_named (ascii "fn")) (lines_of (or_none o))))
    ∷ ground 3 (ltb json_room (length (json_result stem n o)))
    ∷ ground 14 (ltb lent (length (json_result stem n o)))
    ∷ []

unfoldable pub card_answer : (stem : Bytes) (n lent : ℕ) (s : Bytes) → Answer
card_answer stem n lent s = decided (card_grounds stem n lent s (raw_lines s)) (json_result stem n (raw_lines s))

-- ---- JSON. "For JSON: 3, 11, 12, 13, 3, 14."

abbrev pub is_refused : Reading → Bool
is_refused (tree j) = false
is_refused (refused p) = true

abbrev pub place_in : Reading → ℕ
place_in (tree j) = 0
place_in (refused p) = p

-- the card that a tree is, by 01's section 'To vCard'
abbrev pub card_in : Reading → Option Card
card_in (tree j) = card_from_json j
card_in (refused p) = none

-- its text
abbrev pub card_result : Option Card → Bytes
card_result c = with-some c print_card []

abbrev pub json_grounds : (lent : ℕ) (s : Bytes) (read : Reading) (card : Option Card) → List Ground
json_grounds lent s x c =
    ground 3 (ltb json_room (length s))
    ∷ record { number = 11; holds = is_refused x; place = place_in x }
    ∷ ground 12 (not (is_some c))
    ∷ ground 13 (with-some c (λ c. not (carried c)) false)
    ∷ ground 3 (with-some c (λ c. ltb line_room (length (card_lines c))) false)
    ∷ ground 3 (ltb card_room (length (card_result c)))
    ∷ ground 14 (ltb lent (length (card_result c)))
    ∷ []

unfoldable pub json_answer : (lent : ℕ) (s : Bytes) → Answer
json_answer lent s = decided (json_grounds lent s (reading 16 s) (card_in (reading 16 s))) (card_result (card_in (reading 16 s)))

-- ---- the demand, of a service from cards to JSON and of one from JSON to cards; each is lent an output

pub record Demand1 (to_json : (stem : Bytes) (n : ℕ) (card lent : Bytes) → Served) (to_card : (json lent : Bytes) → Served) : Type 0 where
  pub cards : (stem : Bytes) (n : ℕ) (s out : Bytes) → to_json stem n s out ≡ served out (card_answer stem n (length out) s)
  pub jsons : (s out : Bytes) → to_card s out ≡ served out (json_answer (length out) s)
