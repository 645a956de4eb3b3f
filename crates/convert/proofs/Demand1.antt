-- Demand 1 of the definitions: `card_to_json` and `json_to_card` give the first of 01's grounds that holds, else the result.
use mathlib.Core.Path.{◌≡◌, refl, ap}
use mathlib.Core.Bool.{Bool, true, false, ◌&&◌, not}
use mathlib.Core.List.{List, [], ◌∷◌}
use mathlib.Core.Option.{Option, none, some}
use Prim.Native.Nat.{ℕ, suc}
use lib.ListN.{length}
use lib.Dec.{ltb}
use Rattle.text.specs.Choice.{pick, with-some, is_some}
use Rattle.text.specs.Bytes.{Bytes, ascii, any}
use Rattle.text.proofs.Cases.{by_bool}
use Rattle.json_text.specs.Read.{Reading, tree, refused, reading}
use Rattle.line.specs.Grammar.{Line}
use Rattle.line.specs.Physical.{size_of}
use Rattle.convert.specs.Model.{Card}
use Rattle.convert.specs.FromCard.{card_of_lines}
use Rattle.convert.specs.FromJson.{card_from_json}
use Rattle.convert.specs.Carry.{carried}
use Rattle.convert.specs.ToJson.{print_json}
use Rattle.convert.specs.ToCard.{card_lines, print_card}
use Rattle.convert.specs.Answers.{Answer, no, yes, Test, seek, given, given_at, at_line, first_from, fitted, card_room, line_room, json_room, is_stem_text, is_card_number, garbled, ungrammatical, version_first, misused, second_from, emptied, is_named, raw_lines, lines_of, line_tests, convert_lines, convert_card, card_to_json, convert_model, convert_tree, json_to_card}
use Rattle.convert.specs.Served.{served}
use Rattle.convert.specs.Demand1.{decided, or_zero, json_result, card_grounds, card_in, card_result, json_grounds, card_answer, json_answer, Demand1}

-- ---- a test is a ground

seek-given : (k : ℕ) (b : Bool) (ts : List Test) (a : Answer) → seek (given k b ∷ ts) a ≡ pick b (no k 0) (seek ts a)
unfolding seek
seek-given k true ts a = refl
seek-given k false ts a = refl

seek_found : (k : ℕ) (o : Option ℕ) (ts : List Test) (a : Answer) → seek (given_at k o ∷ ts) a ≡ pick (is_some o) (no k (or_zero o)) (seek ts a)
unfolding seek
seek_found k none ts a = refl
seek_found k (some p) ts a = refl

any_found : {A : Type 0} (i : ℕ) (p : A → Bool) (xs : List A) → is_some (first_from i p xs) ≡ any p xs
unfolding first_from any
any_found i p [] = refl
any_found i p (x ∷ xs) = by_bool (p x) (λ e. rw e) (λ e. rw e (any_found (suc i) p xs))

seek-at : {A : Type 0} (k : ℕ) (p : A → Bool) (xs : List A) (ts : List Test) (a : Answer) → seek (at_line k p xs ∷ ts) a ≡ pick (any p xs) (no k (or_zero (first_from 1 p xs))) (seek ts a)
seek-at k p xs ts a = rw (seek_found k (first_from 1 p xs) ts a, any_found 1 p xs)

seek-end : (a : Answer) → seek [] a ≡ a
unfolding seek
seek-end a = refl

pub fitted-grounds : (full lent : ℕ) (r : Bytes) → fitted full lent r ≡ pick (ltb full (length r)) (no 3 0) (pick (ltb lent (length r)) (no 14 0) (yes r))
unfolding fitted seek
fitted-grounds full lent r = rw (seek-given 3 (ltb full (length r)), seek-given 14 (ltb lent (length r)))

-- ---- a card

tested : (stem : Bytes) (n lent : ℕ) (raw : List Bytes) (ls : List Line)
    → convert_lines stem n lent raw ls
    ≡ pick (ltb line_room (length raw)) (no 3 0)
    (pick (any garbled raw) (no 4 (or_zero (first_from 1 garbled raw)))
    (pick (any ungrammatical raw) (no 5 (or_zero (first_from 1 ungrammatical raw)))
    (pick (not (version_first ls)) (no 6 0)
    (pick (any misused ls) (no 7 (or_zero (first_from 1 misused ls)))
    (pick (is_some (second_from 1 [] ls)) (no 8 (or_zero (second_from 1 [] ls)))
    (pick (any emptied ls) (no 9 (or_zero (first_from 1 emptied ls)))
    (pick (not (any (is_named (ascii "fn")) ls)) (no 10 0)
    (pick (ltb json_room (length (print_json (card_of_lines stem n ls)))) (no 3 0)
    (pick (ltb lent (length (print_json (card_of_lines stem n ls)))) (no 14 0) (yes (print_json (card_of_lines stem n ls))))))))))))
unfolding convert_lines line_tests
tested stem n lent raw ls =
    rw (
      seek-given 3 (ltb line_room (length raw)),
      seek-at 4 garbled raw,
      seek-at 5 ungrammatical raw,
      seek-given 6 (not (version_first ls)),
      seek-at 7 misused ls,
      seek_found 8 (second_from 1 [] ls),
      seek-at 9 emptied ls,
      seek-given 10 (not (any (is_named (ascii "fn")) ls)),
      seek-end,
      fitted-grounds json_room lent (print_json (card_of_lines stem n ls)),
    )

lines_are : (stem : Bytes) (n lent : ℕ) (s : Bytes) (o : Option (List Bytes))
    → pick (not (is_stem_text stem && is_card_number n)) (no 15 0) (pick (ltb card_room (size_of s)) (no 3 0) (convert_card stem n lent o))
    ≡ decided (card_grounds stem n lent s o) (json_result stem n o)
unfolding convert_card decided
lines_are stem n lent s none = refl
lines_are stem n lent s (some raw) =
    ap (λ (a : Answer). pick (not (is_stem_text stem && is_card_number n)) (no 15 0) (pick (ltb card_room (size_of s)) (no 3 0) a)) (tested stem n lent raw (lines_of raw))

card-is : (stem : Bytes) (n lent : ℕ) (s : Bytes) → card_to_json stem n lent s ≡ card_answer stem n lent s
unfolding card_to_json card_answer
card-is stem n lent s = lines_are stem n lent s (raw_lines s)

-- ---- JSON

pub model_is : (lent : ℕ) (c : Card)
    → convert_model lent c
    ≡ pick (not (carried c)) (no 13 0) (pick (ltb line_room (length (card_lines c))) (no 3 0)
    (pick (ltb card_room (length (print_card c))) (no 3 0) (pick (ltb lent (length (print_card c))) (no 14 0) (yes (print_card c)))))
unfolding convert_model
model_is lent c =
    rw (seek-given 13 (not (carried c)), seek-given 3 (ltb line_room (length (card_lines c))), seek-end, fitted-grounds card_room lent (print_card c))

tree_is : (lent : ℕ) (s : Bytes) (x : Reading) → pick (ltb json_room (length s)) (no 3 0) (convert_tree lent x) ≡ decided (json_grounds lent s x (card_in x)) (card_result (card_in x))
unfolding decided
tree_is lent s (refused p) = refl
tree_is lent s (tree j) = by (card_from_json j)
  where
    by : (o : Option Card) → pick (ltb json_room (length s)) (no 3 0) (with-some o (convert_model lent) (no 12 0)) ≡ decided (json_grounds lent s (tree j) o) (card_result o)
    by none = refl
    by (some c) = rw (model_is lent c)

json-is : (lent : ℕ) (s : Bytes) → json_to_card lent s ≡ json_answer lent s
unfolding json_to_card json_answer
json-is lent s = tree_is lent s (reading 16 s)

pub demand-1 : Demand1 (λ stem n s out. served out (card_to_json stem n (length out) s)) (λ s out. served out (json_to_card (length out) s))
demand-1 = record { cards = λ stem n s out. ap (served out) (card-is stem n (length out) s); jsons = λ s out. ap (served out) (json-is (length out) s) }
