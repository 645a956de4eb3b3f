-- The definition of JSON to card goes by these two steps.
use mathlib.Core.Path.{◌≡◌, refl, ap, ◌∙◌}
use mathlib.Core.Bool.{Bool, true, false, not}
use mathlib.Core.List.{List, [], ◌∷◌}
use mathlib.Core.Option.{Option, none, some}
use Prim.Native.Nat.{ℕ, ◌≤◌, ◌<◌}
use lib.Dec.{ltb}
use lib.ListN.{length}
use borrow.Author.Tests.{lt-ltb, le-ltb}
use Rattle.text.specs.Choice.{pick, with-some}
use Rattle.text.specs.Bytes.{Bytes}
use Rattle.json_text.specs.Read.{Reading, tree, refused, reading}
use Rattle.convert.specs.Model.{Card}
use Rattle.convert.specs.FromJson.{card_from_json}
use Rattle.convert.specs.Carry.{carried}
use Rattle.convert.specs.ToCard.{card_lines, print_card}
use Rattle.convert.specs.Answers.{Answer, no, yes, Test, fine, fails, seek, given, fitted, line_room, card_room, json_room, convert_model, convert_tree, json_to_card}
use Rattle.served_put.specs.Lent.{fit_lent}
use Rattle.json_to_card.specs.Inner.{of_card, inner, becomes, fit}

seek-fit : (lent : ℕ) (ts : List Test) (r : Bytes) → seek ts (fitted card_room lent r) ≡ fit lent (seek ts (yes r))
unfolding seek
seek-fit lent [] r = refl
seek-fit lent (fine ∷ ts) r = seek-fit lent ts r
seek-fit lent (fails n p ∷ ts) r = refl

card-fit : (lent : ℕ) (o : Option Card) → with-some o (convert_model lent) (no 12 0) ≡ fit lent (with-some o of_card (no 12 0))
unfolding convert_model of_card
card-fit lent none = refl
card-fit lent (some c) = seek-fit lent (given 13 (not (carried c)) ∷ given 3 (ltb line_room (length (card_lines c))) ∷ []) (print_card c)

tree-fit : (lent : ℕ) (x : Reading) → convert_tree lent x ≡ fit lent (inner x)
tree-fit lent (refused p) = refl
tree-fit lent (tree j) = card-fit lent (card_from_json j)

pick-fit : (lent : ℕ) (b : Bool) (a : Answer) → pick b (no 3 0) (fit lent a) ≡ fit lent (pick b (no 3 0) a)
pick-fit lent true a = refl
pick-fit lent false a = refl

-- what the text becomes, and whether that has room
pub answer-is : (lent : ℕ) (s : Bytes) → json_to_card lent s ≡ fit lent (becomes s)
unfolding json_to_card becomes
answer-is lent s =
    let long : Bool = ltb json_room (length s) in
    ap (λ a. pick long (no 3 0) a) (tree-fit lent (reading 16 s)) ∙ pick-fit lent long (inner (reading 16 s))

pub too_long : (s : Bytes) → json_room < length s → becomes s ≡ no 3 0
unfolding becomes
too_long s h = ap (λ b. pick b (no 3 0) (inner (reading 16 s))) (lt-ltb json_room (length s) h)

pub the_rest : (s : Bytes) → length s ≤ json_room → becomes s ≡ inner (reading 16 s)
unfolding becomes
the_rest s h = ap (λ b. pick b (no 3 0) (inner (reading 16 s))) (le-ltb json_room (length s) h)

-- ---- 13 and 3 (lines)

pub not_carried : (c : Card) → carried c ≡ false → of_card c ≡ no 13 0
unfolding of_card seek
not_carried c e = rw e

pub many-lines : (c : Card) → carried c ≡ true → line_room < length (card_lines c) → of_card c ≡ no 3 0
unfolding of_card seek
many-lines c e h = rw (e, lt-ltb line_room (length (card_lines c)) h)

pub converts : (c : Card) → carried c ≡ true → length (card_lines c) ≤ line_room → of_card c ≡ yes (print_card c)
unfolding of_card seek
converts c e h = rw (e, le-ltb line_room (length (card_lines c)) h)

-- ---- room

-- 3: the card is over its room
pub fit-large : (lent : ℕ) (r : Bytes) → card_room < length r → fit lent (yes r) ≡ no 3 0
unfolding fitted seek
fit-large lent r h = rw (lt-ltb card_room (length r) h)

pub fit-lent : (lent : ℕ) (r : Bytes) → length r ≤ card_room → fit lent (yes r) ≡ fit_lent lent r
unfolding fitted seek
fit-lent lent r h = rw (le-ltb card_room (length r) h)
