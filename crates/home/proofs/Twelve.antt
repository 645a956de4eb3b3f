-- Refusal 12 of JSON to card: given exactly where the JSON is no card.
use mathlib.Core.Path.{◌≡◌, refl, sym, ap, ◌∙◌}
use mathlib.Core.Bool.{Bool, true, false, not}
use mathlib.Core.Option.{Option, none, some}
use Prim.Native.Nat.{ℕ}
use lib.ListN.{length}
use lib.Dec.{eqb, ltb}
use Rattle.text.specs.Choice.{with-some, is_some}
use Rattle.text.specs.Bytes.{Bytes}
use Rattle.text.proofs.Cases.{by_bool, not-both}
use Rattle.json_text.specs.Tree.{Json}
use Rattle.json_text.specs.Read.{Reading, tree, refused, reading}
use Rattle.convert.specs.Model.{Card}
use Rattle.convert.specs.FromJson.{card_from_json}
use Rattle.convert.specs.Carry.{carried}
use Rattle.convert.specs.ToCard.{card_lines, print_card}
use Rattle.convert.specs.Answers.{Answer, no, yes, seek, fitted, card_room, line_room, json_room, convert_model, convert_tree, json_to_card}
use Rattle.home.specs.CardJson.{is_card, NoCard}
use Rattle.home.specs.Demand2.{Demand2}
use Rattle.home.proofs.CardJsonWhole.{card-json}

abbrev is_twelve : Answer → Bool
is_twelve (no n p) = eqb n 12
is_twelve (yes b) = false

-- what comes after 12 gives other numbers
model-other : (lent : ℕ) (c : Card) → is_twelve (convert_model lent c) ≡ false
unfolding convert_model seek fitted
model-other lent c =
    by_bool (not (carried c)) (λ a. rw a) λ a.
    by_bool (ltb line_room (length (card_lines c))) (λ b. rw (a, b)) λ b.
    by_bool (ltb card_room (length (print_card c))) (λ d. rw (a, b, d)) λ d.
    by_bool (ltb lent (length (print_card c))) (λ e. rw (a, b, d, e)) (λ e. rw (a, b, d, e))

no-model : (lent : ℕ) (o : Option Card) → is_some o ≡ false → with-some o (convert_model lent) (no 12 0) ≡ no 12 0
no-model lent none e = refl
no-model lent (some c) e = not-both refl e

some-model : (lent : ℕ) (o : Option Card) → is_twelve (with-some o (convert_model lent) (no 12 0)) ≡ true → is_some o ≡ false
some-model lent none e = refl
some-model lent (some c) e = not-both e (model-other lent c)

pub twelve : (lent : ℕ) (s : Bytes) → NoCard s → json_to_card lent s ≡ no 12 0
unfolding json_to_card
twelve lent s h = rw (h.within, h.read) (no-model lent (card_from_json h.json) (card-json h.json ∙ h.no-card))

pub only-twelve : (lent place : ℕ) (s : Bytes) → json_to_card lent s ≡ no 12 place → NoCard s
unfolding json_to_card
only-twelve lent place s e =
    by_bool (ltb json_room (length s)) (λ o. not-both (ap is_twelve (rw o at e)) refl) (λ o. by (reading 16 s) refl (ap is_twelve (rw o at e)) o)
  where
    by : (r : Reading) → reading 16 s ≡ r → is_twelve (convert_tree lent r) ≡ true → ltb json_room (length s) ≡ false → NoCard s
    by (refused p) q t o = not-both t refl
    by (tree j) q t o = record { within = o; json = j; read = q; no-card = sym (card-json j) ∙ some-model lent (card_from_json j) t }

-- So for any converters that meet demand 2: JSON that 01 takes for a card is not refused by 12.
pub card-taken : (to_json : (stem : Bytes) (n lent : ℕ) (card : Bytes) → Answer) (to_card : (lent : ℕ) (json : Bytes) → Answer) → Demand2 to_json to_card
    → (lent place : ℕ) (s : Bytes) (j : Json) → reading 16 s ≡ tree j → is_card j ≡ true → to_card lent s ≡ no 12 place → ⊥
card-taken f g d lent place s j r c e =
    let n = d.only-twelve lent place s e in
    not-both c (ap is_card (same-tree (sym r ∙ n.read)) ∙ n.no-card)
  where
    same-tree : {i j : Json} → tree i ≡ tree j → i ≡ j
    same-tree q = cc
