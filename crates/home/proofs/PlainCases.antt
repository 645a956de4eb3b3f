-- Demand 2 in plain cases. With all of its room lent, the way home is refused only by 3. Every card that is written is its own normal form. JSON and its
-- normal form give the same card.
use mathlib.Core.Path.{◌≡◌, sym, ap, ◌∙◌}
use mathlib.Core.Bool.{true}
use mathlib.Core.List.{List, map}
use mathlib.Core.Logic.{◌⊎◌, inl, inr}
use mathlib.Core.Option.{Option}
use Prim.Native.Nat.{ℕ}
use lib.ListN.{length}
use lib.Dec.{ltb}
use Rattle.text.specs.Choice.{pick}
use Rattle.text.specs.Bytes.{Bytes}
use Rattle.text.proofs.Cases.{by_bool}
use Rattle.line.specs.Grammar.{Line}
use Rattle.line.specs.Write.{write_card}
use Rattle.line.proofs.Lines.{upper_line}
use Rattle.convert.specs.Model.{Card}
use Rattle.convert.specs.Classify.{classed}
use Rattle.convert.specs.ToCard.{card_lines, print_card}
use Rattle.convert.specs.NormalCard.{normal_lines, normal_card}
use Rattle.convert.specs.NormalJson.{normal_json}
use Rattle.convert.specs.Answers.{no, yes, seek, card_room, line_room, json_room, is_stem_text, is_card_number, raw_lines, lines_of, or_none, fitted, card_to_json, json_to_card}
use Rattle.convert.proofs.Seeking.{at-line-none}
use Rattle.home.proofs.Proper.{ProperCard}
use Rattle.home.proofs.Accepted.{accepted-json}
use Rattle.home.proofs.JsonHome.{json-read, json-home}
use Rattle.home.proofs.JsonProper.{json-proper}
use Rattle.home.proofs.CardLines.{card-unfolded, card-read}
use Rattle.home.proofs.CardTests.{no_second, none-emptied}
use Rattle.home.proofs.CardHome.{card-home}
use Rattle.home.proofs.NormalCard.{lines-normal}
use Rattle.home.proofs.NormalJson.{compact-normal}
use Rattle.home.proofs.WayHome.{normal_of, card-comes-home, json-comes-home}

-- ---- refused only by 3, where all of the room is lent

-- a card's JSON gives its normal form, or 3
pub card-or-3 : (stem : Bytes) (n lent : ℕ) (s j : Bytes) → card_to_json stem n lent s ≡ yes j
    → (json_to_card card_room j ≡ yes (normal_card stem n s)) ⊎ (json_to_card card_room j ≡ no 3 0)
unfolding normal_card seek fitted
card-or-3 stem n lent s j e =
    let h = card-comes-home stem n lent card_room s j e in
    by_bool (ltb line_room (length (normal_of stem n s))) (λ l. inr (h ∙ rw l))
    (λ l. by_bool (ltb card_room (length (write_card (normal_of stem n s)))) (λ r. inr (h ∙ rw (l, r))) (λ r. inl (h ∙ rw (l, r))))

-- a JSON's card gives its normal form, or 3
pub json-or-3 : (stem : Bytes) (n lent : ℕ) (s b : Bytes) → is_stem_text stem ≡ true → is_card_number n ≡ true → json_to_card lent s ≡ yes b
    → (card_to_json stem n json_room b ≡ yes (normal_json s)) ⊎ (card_to_json stem n json_room b ≡ no 3 0)
unfolding seek fitted
json-or-3 stem n lent s b a k e =
    let h = json-comes-home stem n lent json_room s b a k e in
    by_bool (ltb json_room (length (normal_json s))) (λ r. inr (h ∙ rw r)) (λ r. inl (h ∙ rw r))

-- ---- every card that is written is its own normal form

proper-normal : (c : Card) → ProperCard c → (stem : Bytes) (n : ℕ) → normal_card stem n (print_card c) ≡ print_card c
unfolding normal_card print_card
proper-normal c p stem n =
    let ls : List Line = map upper_line (card_lines c) in
    let l : lines_of (or_none (raw_lines (print_card c))) ≡ ls =
    ap (λ (o : Option (List Bytes)). lines_of (or_none o)) (card-unfolded c p) ∙ card-read c p in
    ap write_card (ap (λ (x : List Line). normal_lines stem n (classed x)) l
    ∙ sym (lines-normal stem n ls (record { once = no_second c p; valued = at-line-none 9 _ ls (none-emptied c p) }))
    ∙ ap card_lines (card-home c p stem n))

-- whatever stem and number: a card that JSON gave has a UID
pub own-normal : (stem : Bytes) (n lent : ℕ) (s b : Bytes) → json_to_card lent s ≡ yes b → normal_card stem n b ≡ b
own-normal stem n lent s b e =
    let i = accepted-json lent s b e in
    let p : ProperCard i.card = json-proper s i.json i.card i.read i.from i.carries in
    ap (normal_card stem n) i.result ∙ proper-normal i.card p stem n ∙ sym i.result

-- ---- JSON and its normal form

-- the same card, or the same 14 in a shorter output; 3 where the normal form is over its room
pub same-card-from-normal : (lent lent' : ℕ) (s b : Bytes) → json_to_card lent s ≡ yes b
    → json_to_card lent' (normal_json s) ≡ pick (ltb json_room (length (normal_json s))) (no 3 0) (json_to_card lent' s)
unfolding json_to_card
same-card-from-normal lent lent' s b e =
    let i = accepted-json lent s b e in
    let c : Card = i.card in
    let p : ProperCard c = json-proper s i.json c i.read i.from i.carries in
    rw (i.input, i.read, i.from, ← compact-normal s i.json c i.read i.from, json-read c p, json-home c p)
