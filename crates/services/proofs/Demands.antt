-- Demands 1 and 2 hold of any two functions that keep the services' promises: so of the code.
use mathlib.Core.Path.{◌≡◌, refl, sym, ap, subst, ◌∙◌, fun_ext}
use Prim.Native.Nat.{ℕ}
use lib.ListN.{length, drop}
use lib.Seq.{take_at}
use Rattle.text.specs.Bytes.{Bytes}
use Rattle.convert.specs.Answers.{Answer, no, yes, card_to_json, json_to_card}
use Rattle.convert.specs.Served.{left_by, served}
use Rattle.convert.specs.Demand1.{Demand1}
use Rattle.convert.proofs.Demand1.{demand-1}
use Rattle.served.specs.Served.{Outcome, outcome_of, Serves}
use Rattle.home.specs.Demand2.{Demand2}
use Rattle.home.proofs.Demand2.{demand-2}
use Rattle.services.specs.Promises.{Call, CardService, JsonService, CardPromises, JsonPromises, shown, seen, read_from, answered, Lends}

-- ---- one call

shown-is : (out : Bytes) (a : Answer) → shown (outcome_of a) (left_by out a) ≡ served out a
shown-is out (no n p) = refl
shown-is out (yes bs) = refl

read_is : (out : Bytes) (a : Answer) → read_from (outcome_of a) (left_by out a) ≡ a
read_is out (no n p) = refl
read_is out (yes bs) = ap yes (take_at bs (drop (length bs) out) (length bs) refl)

module _ (out : Bytes) (a : Answer) (c : Call) (gives : Serves out a c.outcome c.output) where
  call-seen : seen c ≡ served out a
  call-seen = ap (λ (o : Outcome). shown o c.output) gives.said ∙ ap (shown (outcome_of a)) gives.left ∙ shown-is out a

  call-answered : answered c ≡ a
  call-answered = ap (λ (o : Outcome). read_from o c.output) gives.said ∙ ap (read_from (outcome_of a)) gives.left ∙ read_is out a

module _ (f : CardService) (g : JsonService) (cards : CardPromises f) (jsons : JsonPromises g) where
  card-call : (stem : Bytes) (n : ℕ) (card out : Bytes) → seen (f stem n card out) ≡ served out (card_to_json stem n (length out) card)
  card-call stem n card out = call-seen out (card_to_json stem n (length out) card) (f stem n card out) (cards stem n card out)

  json-call : (json out : Bytes) → seen (g json out) ≡ served out (json_to_card (length out) json)
  json-call json out = call-seen out (json_to_card (length out) json) (g json out) (jsons json out)

  -- DEMAND 1 of the services: number, place, length and every byte of the lent output are those of 01's grounds in 01's order
  pub services-demand-1 : Demand1 (λ stem n card out. seen (f stem n card out)) (λ json out. seen (g json out))
  services-demand-1 = record {
    cards = λ stem n card out. card-call stem n card out ∙ demand-1.cards stem n card out;
    jsons = λ json out. json-call json out ∙ demand-1.jsons json out;
  }

  -- ---- with an output for every length

  module _ (room : ℕ → Bytes) (lends : Lends room) where
    abbrev to_json : (stem : Bytes) (n lent : ℕ) (card : Bytes) → Answer
    to_json stem n lent card = answered (f stem n card (room lent))

    abbrev to_card : (lent : ℕ) (json : Bytes) → Answer
    to_card lent json = answered (g json (room lent))

    card-answer : (stem : Bytes) (n lent : ℕ) (card : Bytes) → to_json stem n lent card ≡ card_to_json stem n lent card
    card-answer stem n lent card =
        call-answered (room lent) (card_to_json stem n (length (room lent)) card) (f stem n card (room lent)) (cards stem n card (room lent))
        ∙ ap (λ (l : ℕ). card_to_json stem n l card) (lends.long lent)

    json-answer : (lent : ℕ) (json : Bytes) → to_card lent json ≡ json_to_card lent json
    json-answer lent json =
        call-answered (room lent) (json_to_card (length (room lent)) json) (g json (room lent)) (jsons json (room lent))
        ∙ ap (λ (l : ℕ). json_to_card l json) (lends.long lent)

    to-json : card_to_json ≡ to_json
    to-json = fun_ext (λ stem. fun_ext (λ n. fun_ext (λ lent. fun_ext (λ card. sym (card-answer stem n lent card)))))

    to-card : json_to_card ≡ to_card
    to-card = fun_ext (λ lent. fun_ext (λ json. sym (json-answer lent json)))

    -- DEMAND 2 of the services: what goes out comes home
    pub services-demand-2 : Demand2 to_json to_card
    services-demand-2 = subst (λ h. Demand2 to_json h) to-card (subst (λ h. Demand2 h json_to_card) to-json demand-2)
