-- Demand 2: what goes out and comes home is the normal form, whatever output is lent; the way home is refused only by 3, exactly when the normal
-- form is over its room, and else by 14, exactly when it is longer than the lent output.
use mathlib.Core.Path.{◌≡◌, sym, ap, ◌∙◌}
use mathlib.Core.Bool.{Bool, true, false}
use mathlib.Core.List.{List}
use mathlib.Core.Option.{Option}
use Prim.Native.Nat.{ℕ}
use lib.ListN.{length}
use lib.Dec.{ltb, leb}
use Rattle.text.specs.Bytes.{Bytes}
use Rattle.text.proofs.Cases.{by_bool, and-true, testing}
use Rattle.text.proofs.Lists.{each-length}
use Rattle.line.specs.Grammar.{Line, read_line}
use Rattle.convert.specs.Model.{Card}
use Rattle.convert.specs.Classify.{classed}
use Rattle.convert.specs.FromCard.{card_of_lines}
use Rattle.convert.specs.ToJson.{print_json}
use Rattle.convert.specs.ToCard.{card_lines, print_card}
use Rattle.convert.specs.NormalCard.{normal_lines, normal_card}
use Rattle.convert.specs.NormalJson.{normal_json}
use Rattle.convert.specs.Answers.{no, yes, seek, card_room, line_room, json_room, is_stem_text, is_card_number, raw_lines, lines_of, or_none, fitted, card_to_json, convert_model, json_to_card}
pub use Rattle.home.specs.Demand2.{written, normal_of}
use Rattle.home.proofs.Proper.{ProperCard}
use Rattle.home.proofs.Accepted.{GoodLines, accepted-card, accepted-json}
use Rattle.home.proofs.JsonHome.{json-read, json-home}
use Rattle.home.proofs.JsonProper.{json-proper}
use Rattle.home.proofs.CardProper.{card-proper}
use Rattle.home.proofs.CardAnswer.{card-to-json}
use Rattle.home.proofs.NormalJson.{compact-normal}
use Rattle.home.proofs.NormalCard.{lines-normal}

-- ---- JSON to a card and home again

-- For every JSON and whatever output is lent: where it gives a card, that card gives the JSON's normal form with any valid stem and number, or 3
-- where the normal form is over its room, else 14 where it is longer than the output.
pub json-comes-home : (stem : Bytes) (n lent lent' : ℕ) (s b : Bytes) → is_stem_text stem ≡ true → is_card_number n ≡ true → json_to_card lent s ≡ yes b → card_to_json stem n lent' b ≡ fitted json_room lent' (normal_json s)
json-comes-home stem n lent lent' s b a k e =
    let i = accepted-json lent s b e in
    let p : ProperCard i.card = json-proper s i.json i.card i.read i.from i.carries in
    ap (card_to_json stem n lent') i.result
    ∙ card-to-json i.card p i.lines stem n lent' (and-true a k) (ap (λ (x : Bytes). ltb card_room (length x)) (sym i.result) ∙ i.room)
    ∙ ap (fitted json_room lent') (compact-normal s i.json i.card i.read i.from)

-- ---- a card to JSON and home again

proper-json : (lent : ℕ) (c : Card) → ProperCard c → ltb json_room (length (print_json c)) ≡ false → json_to_card lent (print_json c) ≡ written lent (card_lines c)
unfolding json_to_card convert_model print_card seek
proper-json lent c p r = rw (r, json-read c p, json-home c p, p.carries)

-- an accepted card is proper
pub card-is-proper : (stem : Bytes) (n : ℕ) (raw : List Bytes) → is_stem_text stem ≡ true → GoodLines raw (lines_of raw) → ProperCard (card_of_lines stem n (lines_of raw))
card-is-proper stem n raw h g =
    card-proper stem n raw (lines_of raw) h g.read g.clean g.used g.once g.filled (few (length raw) (length (lines_of raw)) (each-length read_line raw (lines_of raw) g.read) g.few)
  where
    few : (m k : ℕ) → k ≡ m → ltb line_room m ≡ false → leb k 512 ≡ true
    few m k e h = omega testing

-- For every card, stem and number, and whatever output is lent: where it gives JSON, that JSON gives exactly the card's normal form, or 3 where
-- the normal form is over its room (lines or bytes), else 14 where it is longer than the output.
pub card-comes-home : (stem : Bytes) (n lent lent' : ℕ) (s j : Bytes) → card_to_json stem n lent s ≡ yes j → json_to_card lent' j ≡ written lent' (normal_of stem n s)
card-comes-home stem n lent lent' s j e =
    let i = accepted-card stem n lent s j e in
    let c : Card = card_of_lines stem n (lines_of i.raw) in
    let p : ProperCard c = card-is-proper stem n i.raw i.stem-fits i.good in
    let l : lines_of (or_none (raw_lines s)) ≡ lines_of i.raw = ap (λ (o : Option (List Bytes)). lines_of (or_none o)) i.raws in
    ap (json_to_card lent') i.result
    ∙ proper-json lent' c p (ap (λ (x : Bytes). ltb json_room (length x)) (sym i.result) ∙ i.room)
    ∙ ap (written lent') (lines-normal stem n (lines_of i.raw) (record { once = i.good.once; valued = i.good.filled }) ∙ ap (λ (ls : List Line). normal_lines stem n (classed ls)) (sym l))

-- ---- the same in plain cases

module _ (stem : Bytes) (n lent lent' : ℕ) (s j : Bytes) (out : card_to_json stem n lent s ≡ yes j) where
  abbrev many : Bool
  many = ltb line_room (length (normal_of stem n s))

  abbrev long : ℕ → Bool
  long room = ltb room (length (normal_card stem n s))

  -- the normal form comes home where it fits its room and the output
  pub normal-comes-home : many ≡ false → long card_room ≡ false → long lent' ≡ false → json_to_card lent' j ≡ yes (normal_card stem n s)
  unfolding normal_card seek fitted
  normal-comes-home l r o = card-comes-home stem n lent lent' s j out ∙ rw (l, r, o)

  -- 3 where it has too many lines or bytes
  pub too-many-lines : many ≡ true → json_to_card lent' j ≡ no 3 0
  unfolding seek
  too-many-lines l = card-comes-home stem n lent lent' s j out ∙ rw l

  pub too-many-bytes : long card_room ≡ true → json_to_card lent' j ≡ no 3 0
  unfolding normal_card seek fitted
  too-many-bytes r = card-comes-home stem n lent lent' s j out ∙ by_bool many (λ l. rw l) (λ l. rw (l, r))

  -- and else 14 where the output is too short
  pub output-short : many ≡ false → long card_room ≡ false → long lent' ≡ true → json_to_card lent' j ≡ no 14 0
  unfolding normal_card seek fitted
  output-short l r o = card-comes-home stem n lent lent' s j out ∙ rw (l, r, o)
