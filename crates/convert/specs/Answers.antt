-- The answers of card to JSON and of JSON to card: 01's refusal numbers in 01's order, each with its place, else the result.
use Rattle.std.specs.Prelude.{Bool, true, false, ◌&&◌, ◌||◌, not, List, [], ◌∷◌, ℕ, suc, length, ltb, leb}
use Rattle.std.proofs.Math.Option.{Option, none, some}
use Rattle.text.specs.Choice.{pick, with-some, is_some}
use Rattle.text.specs.Bytes.{Bytes, ascii, empty, any, all, same, among, lowered, each}
use Rattle.text.specs.Utf8.{utf8}
use Rattle.json_text.specs.Read.{Reading, tree, refused, reading}
use Rattle.json_text.specs.Lookup.{room, depth}
use Rattle.line.specs.Class.{is_name, is_stem, is_control}
use Rattle.line.specs.Physical.{physical, size_of, framed}
use Rattle.line.specs.Unfold.{unfold'}
use Rattle.line.specs.Grammar.{Param, Line, read_line}
use Rattle.line.specs.Params.{named, values_named, besides_value, value_type}
use Rattle.convert.specs.Model.{Card}
use Rattle.convert.specs.FromCard.{card_of_lines}
use Rattle.convert.specs.ToJson.{print_json}
use Rattle.convert.specs.FromJson.{card_from_json}
use Rattle.convert.specs.Carry.{carried}
use Rattle.convert.specs.ToCard.{card_lines, print_card}
use Rattle.convert.specs.Value.{filled}

-- a refusal has a number and a place; a result is its bytes
pub data Answer : Type 0 where
  no : (number place : ℕ) → Answer
  yes : Bytes → Answer

-- ---- room

abbrev pub card_room : ℕ
card_room = 32768

abbrev pub line_room : ℕ
line_room = 512

-- the same as the look-up's
abbrev pub json_room : ℕ
json_room = room

-- of a given card, and of a stream's
abbrev pub last_number : ℕ
last_number = 999999

-- ---- refusals in order

pub data Test : Type 0 where
  fine : Test
  fails : (number place : ℕ) → Test

-- the first test that fails, else the answer
unfoldable pub seek : List Test → Answer → Answer
seek [] a = a
seek (fine ∷ ts) a = seek ts a
seek (fails n p ∷ ts) a = no n p

-- given where the condition holds, with place 0
abbrev pub given : ℕ → Bool → Test
given n true = fails n 0
given n false = fine

-- given at the first line for which the condition holds; VERSION is line 1
unfoldable pub first_from : {A : Type 0} → ℕ → (A → Bool) → List A → Option ℕ
first_from i p [] = none
first_from i p (x ∷ xs) = pick (p x) (some i) (first_from (suc i) p xs)

abbrev pub given_at : ℕ → Option ℕ → Test
given_at n (some i) = fails n i
given_at n none = fine

abbrev pub at_line : {A : Type 0} → ℕ → (A → Bool) → List A → Test
at_line n p ls = given_at n (first_from 1 p ls)

-- ---- the conditions for a card

-- 15: a stem of 1 to 200 characters of A-Z a-z 0-9 : - _
unfoldable pub is_stem_text : Bytes → Bool
is_stem_text s = filled s && leb (length s) 200 && all is_stem s

-- 15: a given card number from 1 to 999,999
unfoldable pub is_card_number : ℕ → Bool
is_card_number n = leb 1 n && leb n last_number

-- 4: not UTF-8 after unfolding, or a control
unfoldable pub garbled : Bytes → Bool
garbled l = not (utf8 l) || any is_control l

-- 5: off the grammar or over its counts, or named BEGIN or END
unfoldable pub ungrammatical : Bytes → Bool
ungrammatical l = not (is_some (read_line l))

abbrev pub is_named : Bytes → Line → Bool
is_named n l = same (lowered l.name) n

-- 6: VERSION:4.0, the name in any case, nothing else
unfoldable pub is_version_line : Line → Bool
is_version_line l = empty l.group && is_named (ascii "version") l && empty l.params && same l.value (ascii "4.0")

abbrev pub version_first : List Line → Bool
version_first [] = false
version_first (l ∷ ls) = is_version_line l

-- 7: the parameters that UID may have: one VALUE=uri
unfoldable pub only_uri : List Param → Bool
only_uri ps = empty ps || (empty (besides_value ps) && same (value_type ps) (ascii "uri"))

-- 7: no VALUE, or one that is a name
abbrev pub value_fits : List Bytes → Bool
value_fits [] = true
value_fits (v ∷ []) = filled v && all is_name v
value_fits (v ∷ (w ∷ ws)) = false

unfoldable pub misused : Line → Bool
misused l =
    (is_named (ascii "uid") l && not (empty l.group && only_uri l.params))
    || (is_named (ascii "kind") l && not (empty l.group && empty l.params))
    || any (named (ascii "group")) l.params
    || not (value_fits (values_named (ascii "value") l.params))

-- 8: a second VERSION, UID or KIND; the list: names of lines before
unfoldable pub second_from : ℕ → List Bytes → List Line → Option ℕ
second_from i before [] = none
second_from i before (l ∷ ls) =
    let n : Bytes = lowered l.name in
    let later : Option ℕ = second_from (suc i) (n ∷ before) ls in
    pick (among n (ascii "version" ∷ ascii "uid" ∷ ascii "kind" ∷ []) && among n before) (some i) later

-- 9: UID empty; KIND empty or not of name characters
unfoldable pub emptied : Line → Bool
emptied l = (is_named (ascii "uid") l && empty l.value) || (is_named (ascii "kind") l && (empty l.value || not (all is_name l.value)))

-- ---- card to JSON

-- the unfolded lines between BEGIN and END, none where the bytes are not one card
unfoldable pub raw_lines : Bytes → Option (List Bytes)
raw_lines s = with-some (framed (physical s)) (λ ls. some (unfold' ls)) none

abbrev pub or_none : {A : Type 0} → Option (List A) → List A
or_none (some l) = l
or_none none = []

-- refusals 3 (lines) and 4 to 10, over the unfolded lines and over these read by the grammar
unfoldable pub line_tests : List Bytes → List Line → List Test
line_tests raw ls =
    given 3 (ltb line_room (length raw))
    ∷ at_line 4 garbled raw
    ∷ at_line 5 ungrammatical raw
    ∷ given 6 (not (version_first ls))
    ∷ at_line 7 misused ls
    ∷ given_at 8 (second_from 1 [] ls)
    ∷ at_line 9 emptied ls
    ∷ given 10 (not (any (is_named (ascii "fn")) ls))
    ∷ []

-- refusals 3 (result) and 14: a result over its room, or longer than the lent output
unfoldable pub fitted : ℕ → ℕ → Bytes → Answer
fitted full lent r = seek (given 3 (ltb full (length r)) ∷ given 14 (ltb lent (length r)) ∷ []) (yes r)

-- the lines of a card, where all are by the grammar
unfoldable pub lines_of : List Bytes → List Line
lines_of raw = or_none (each read_line raw)

unfoldable pub convert_lines : Bytes → ℕ → ℕ → List Bytes → List Line → Answer
convert_lines stem n lent raw ls = seek (line_tests raw ls) (fitted json_room lent (print_json (card_of_lines stem n ls)))

unfoldable pub convert_card : Bytes → ℕ → ℕ → Option (List Bytes) → Answer
convert_card stem n lent none = no 1 0
convert_card stem n lent (some raw) = convert_lines stem n lent raw (lines_of raw)

-- Card to JSON: stem, card number, length of the lent output, the card.
unfoldable pub card_to_json : Bytes → ℕ → ℕ → Bytes → Answer
card_to_json stem n lent s =
    let converted : Answer = convert_card stem n lent (raw_lines s) in
    pick (not (is_stem_text stem && is_card_number n)) (no 15 0) (pick (ltb card_room (size_of s)) (no 3 0) converted)

-- ---- JSON to card

unfoldable pub convert_model : ℕ → Card → Answer
convert_model lent c =
    seek (given 13 (not (carried c)) ∷ given 3 (ltb line_room (length (card_lines c))) ∷ []) (fitted card_room lent (print_card c))

abbrev pub convert_tree : ℕ → Reading → Answer
convert_tree lent (refused p) = no 11 p
convert_tree lent (tree j) = with-some (card_from_json j) (convert_model lent) (no 12 0)

-- JSON to card: length of the lent output, the JSON.
unfoldable pub json_to_card : ℕ → Bytes → Answer
json_to_card lent s =
    let converted : Answer = convert_tree lent (reading depth s) in
    pick (ltb json_room (length s)) (no 3 0) converted
