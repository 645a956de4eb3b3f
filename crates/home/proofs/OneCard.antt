-- What stands for a card's lines fixes the card, down to its normal form: two cards for whose lines one JSON stands have one normal form. So `lines-stand` and `own-normal` of
-- demand 2 leave nothing open about the card that a JSON gives.
use mathlib.Core.Path.{◌≡◌, sym, ap, ◌∙◌}
use mathlib.Core.List.{List}
use mathlib.Core.Option.{Option, some}
use Prim.Native.Nat.{ℕ}
use Rattle.text.specs.Bytes.{Bytes}
use Rattle.text.proofs.Choices.{some_same}
use Rattle.json_text.specs.Read.{reading}
use Rattle.line.specs.Grammar.{Line}
use Rattle.line.specs.Write.{write_card}
use Rattle.convert.specs.Model.{Card}
use Rattle.convert.specs.Classify.{classed}
use Rattle.convert.specs.FromCard.{card_of_lines}
use Rattle.convert.specs.ToJson.{print_json}
use Rattle.convert.specs.ToCard.{card_lines, print_card}
use Rattle.convert.specs.NormalCard.{normal_lines, normal_card}
use Rattle.convert.specs.NormalJson.{normal_json}
use Rattle.convert.specs.Demand1.{card_in}
use Rattle.convert.specs.Answers.{Answer, yes, lines_of, or_none, card_to_json, json_to_card}
use Rattle.home.specs.JsonStands.{JsonStands}
use Rattle.home.specs.Demand2.{lines, Demand2}
use Rattle.home.proofs.Proper.{ProperCard}
use Rattle.home.proofs.Accepted.{AcceptedCard, accepted-card, accepted-json}
use Rattle.home.proofs.JsonHome.{json-read, json-home}
use Rattle.home.proofs.JsonProper.{json-proper}
use Rattle.home.proofs.NormalJson.{compact-normal}
use Rattle.home.proofs.NormalCard.{lines-normal}
use Rattle.home.proofs.WayHome.{card-is-proper}
use Rattle.home.proofs.JsonStands.{card-stands}
use Rattle.home.proofs.StandsOnce.{one-json}

-- a proper card is read back from its JSON
read_back : (c : Card) → ProperCard c → card_in (reading 16 (print_json c)) ≡ some c
read_back c p = ap card_in (json-read c p) ∙ json-home c p

-- b is a card that 01 accepts, and j stands for its lines: j is the JSON of a proper card, and that card's lines are b's normal form
module _ (stem : Bytes) (n lent : ℕ) (b i j : Bytes) (out : card_to_json stem n lent b ≡ yes i) (h : JsonStands stem n (lines b) j) where
  accepted : AcceptedCard stem n b i
  accepted = accepted-card stem n lent b i out

  abbrev card : Card
  card = card_of_lines stem n (lines_of accepted.raw)

  proper : ProperCard card
  proper = card-is-proper stem n accepted.raw accepted.stem-fits accepted.good

  read-from : card_in (reading 16 j) ≡ some card
  read-from = ap (λ (x : Bytes). card_in (reading 16 x)) (one-json stem n (lines b) j i h (card-stands stem n lent b i out) ∙ accepted.result) ∙ read_back card proper

  written-so : normal_card stem n b ≡ write_card (card_lines card)
  unfolding normal_card
  written-so =
      let ls : List Line = lines_of accepted.raw in
      let l : lines b ≡ ls = ap (λ (o : Option (List Bytes)). lines_of (or_none o)) accepted.raws in
      ap write_card (ap (λ (x : List Line). normal_lines stem n (classed x)) l
      ∙ sym (lines-normal stem n ls (record { once = accepted.good.once; valued = accepted.good.filled })))

-- THE LAW: cards that 01 accepts, and one JSON that stands for the lines of both: one normal form
pub one-normal : (stem stem' : Bytes) (n n' lent lent' : ℕ) (b c i k j : Bytes) → card_to_json stem n lent b ≡ yes i → card_to_json stem' n' lent' c ≡ yes k
    → JsonStands stem n (lines b) j → JsonStands stem' n' (lines c) j → normal_card stem n b ≡ normal_card stem' n' c
one-normal stem stem' n n' lent lent' b c i k j p q g h =
    let same : card stem n lent b i j p g ≡ card stem' n' lent' c k j q h = some_same (sym (read-from stem n lent b i j p g) ∙ read-from stem' n' lent' c k j q h) in
    written-so stem n lent b i j p g ∙ ap (λ (x : Card). write_card (card_lines x)) same ∙ sym (written-so stem' n' lent' c k j q h)

-- so they are equal, where each is its own normal form
pub one-card : (stem stem' : Bytes) (n n' lent lent' : ℕ) (b c i k j : Bytes) → card_to_json stem n lent b ≡ yes i → card_to_json stem' n' lent' c ≡ yes k
    → JsonStands stem n (lines b) j → JsonStands stem' n' (lines c) j → normal_card stem n b ≡ b → normal_card stem' n' c ≡ c → b ≡ c
one-card stem stem' n n' lent lent' b c i k j p q g h d e = sym d ∙ one-normal stem stem' n n' lent lent' b c i k j p q g h ∙ e

-- Whatever two converters meet demand 2: where the second gives, for a JSON of which 01 gives a card, a card that 01 accepts, it is 01's.
pub only-card : (f : (stem : Bytes) (n lent : ℕ) (card : Bytes) → Answer) (g : (lent : ℕ) (json : Bytes) → Answer) → Demand2 f g
    → (stem : Bytes) (n lent lent' room : ℕ) (s b c i : Bytes) → json_to_card lent s ≡ yes b → g lent' s ≡ yes c → card_to_json stem n room c ≡ yes i → c ≡ b
unfolding print_card
only-card f g d stem n lent lent' room s b c i p q u =
    let a = accepted-json lent s b p in
    let h : JsonStands stem n (lines c) (normal_json s) = d.lines-stand stem n lent' s c q in
    let from : card_in (reading 16 (normal_json s)) ≡ some a.card =
    ap (λ (x : Bytes). card_in (reading 16 x)) (sym (compact-normal s a.json a.card a.read a.from))
    ∙ read_back a.card (json-proper s a.json a.card a.read a.from a.carries) in
    let same : card stem n room c i (normal_json s) u h ≡ a.card = some_same (sym (read-from stem n room c i (normal_json s) u h) ∙ from) in
    sym (d.own-normal stem n lent' s c q) ∙ written-so stem n room c i (normal_json s) u h ∙ ap (λ (x : Card). write_card (card_lines x)) same ∙ sym a.result
