-- What demand 2 says of a card that came home, in plain words: every line stands in it, and it comes home again unchanged.
use mathlib.Core.Path.{◌≡◌, sym, ap, ◌∙◌}
use mathlib.Core.Bool.{true, false}
use mathlib.Core.List.{List, [], map}
use mathlib.Core.Option.{Option}
use Prim.Native.Nat.{ℕ}
use lib.ListN.{length}
use lib.Dec.{ltb}
use Rattle.text.specs.Bytes.{Bytes, any}
use Rattle.text.proofs.Cases.{and-true}
use Rattle.line.specs.Grammar.{Line}
use Rattle.line.specs.Write.{write_card}
use Rattle.line.proofs.Lines.{upper_line}
use Rattle.convert.specs.Model.{Card}
use Rattle.convert.specs.Classify.{nothing, classed_after, classed}
use Rattle.convert.specs.FromCard.{card_of_lines}
use Rattle.convert.specs.ToJson.{print_json}
use Rattle.convert.specs.ToCard.{card_lines, print_card}
use Rattle.convert.specs.NormalCard.{normal_lines}
use Rattle.convert.specs.Answers.{yes, seek, given, card_room, line_room, json_room, is_stem_text, is_card_number, misused, lines_of, or_none, fitted, card_to_json, json_to_card}
use Rattle.home.proofs.Proper.{ProperCard}
use Rattle.home.specs.Allowed.{new_lines}
use Rattle.home.specs.JsonStands.{JsonStands}
use Rattle.home.specs.Turns.{LinesStand, InTurn}
use Rattle.convert.proofs.Seeking.{seek-fine, given-false, fitted-inv}
use Rattle.home.proofs.Accepted.{AcceptedCard, accepted-card}
use Rattle.home.proofs.CardLines.{card-unfolded, card-read}
use Rattle.home.proofs.CardAnswer.{card-to-json}
use Rattle.home.proofs.NormalCard.{lines-normal}
use Rattle.home.proofs.WayHome.{written, normal_of, card-is-proper, card-comes-home}
use Rattle.home.proofs.Respelled.{lines}
use Rattle.home.proofs.EveryLine.{every-line, every-turn}
use Rattle.home.proofs.InTurn.{lines-upper, turn-upper}
use Rattle.home.proofs.SectionsStand.{new_of}
use Rattle.home.proofs.NewLines.{new-lines}
use Rattle.home.proofs.PairedLines.{stands_of}
use Rattle.home.proofs.StandsOnce.{the-stands}

written-inv : (lent : ℕ) (ls : List Line) (b : Bytes) → written lent ls ≡ yes b → (ltb line_room (length ls) ≡ false) × (ltb card_room (length b) ≡ false) × (b ≡ write_card ls)
unfolding seek
written-inv lent ls b e =
    let i = seek-fine (given 3 (ltb line_room (length ls))) [] (fitted card_room lent (write_card ls)) b e in
    let f = fitted-inv card_room lent (write_card ls) b i.1 in
    (given-false 3 (ltb line_room (length ls)) i.0, ap (λ (x : Bytes). ltb card_room (length x)) f.2 ∙ f.0, f.2)

json-fits : (lent : ℕ) (r : Bytes) → ltb json_room (length r) ≡ false → ltb lent (length r) ≡ false → fitted json_room lent r ≡ yes r
unfolding fitted seek
json-fits lent r h l = rw (h, l)

-- a card that goes to JSON j and comes home as b: the model between them
record Way (stem : Bytes) (n : ℕ) (s j b : Bytes) : Type 0 where
  card : Card
  proper : ProperCard card
  json : j ≡ print_json card
  fits : ltb json_room (length j) ≡ false
  normal : card_lines card ≡ normal_of stem n s
  few : ltb line_room (length (card_lines card)) ≡ false
  room : ltb card_room (length b) ≡ false
  home : b ≡ print_card card

module _ (stem : Bytes) (n lent lent' : ℕ) (s j b : Bytes) (out : card_to_json stem n lent s ≡ yes j) (back : json_to_card lent' j ≡ yes b) where
  accepted : AcceptedCard stem n s j
  accepted = accepted-card stem n lent s j out

  the-lines : lines s ≡ lines_of accepted.raw
  the-lines = ap (λ (o : Option (List Bytes)). lines_of (or_none o)) accepted.raws

  way : Way stem n s j b
  unfolding print_card
  way =
      let ls : List Line = lines_of accepted.raw in
      let normal : card_lines (card_of_lines stem n ls) ≡ normal_of stem n s = lines-normal stem n ls (record { once = accepted.good.once; valued = accepted.good.filled }) ∙ ap (λ (x : List Line). normal_lines stem n (classed x)) (sym the-lines) in
      let w = written-inv lent' (normal_of stem n s) b (sym (card-comes-home stem n lent lent' s j out) ∙ back) in
      record {
        card = card_of_lines stem n ls;
        proper = card-is-proper stem n accepted.raw accepted.stem-fits accepted.good;
        json = accepted.result;
        fits = accepted.room;
        normal = normal;
        few = ap (λ (x : List Line). ltb line_room (length x)) normal ∙ w.0;
        room = w.1;
        home = w.2 ∙ ap write_card (sym normal);
      }

  -- ---- every line stands in the card that comes home

  home-lines : lines b ≡ map upper_line (normal_of stem n s)
  home-lines =
      let c : Card = way.card in
      ap lines way.home
      ∙ ap (λ (o : Option (List Bytes)). lines_of (or_none o)) (card-unfolded c way.proper)
      ∙ card-read c way.proper
      ∙ ap (map upper_line) way.normal

  -- what stands for the lines in the JSON is what their classes say
  own-stands : (h : JsonStands stem n (lines s) j) → h.stands ≡ stands_of (classed_after nothing (lines_of accepted.raw))
  own-stands h = the-stands stem n (lines s) j h (ap (any misused) the-lines ∙ accepted.good.used) ∙ ap (λ (x : List Line). stands_of (classed_after nothing x)) the-lines

  pub every-line-comes-home : (h : JsonStands stem n (lines s) j) → LinesStand (new_lines stem n (lines s)) (lines s) h.stands (lines b)
  every-line-comes-home h =
      let ls : List Line = lines_of accepted.raw in
      rw (home-lines, own-stands h, the-lines, ← new-lines stem n ls)
      (lines-upper (new_of stem n (classed ls)) ls (stands_of (classed_after nothing ls)) (normal_lines stem n (classed ls)) (every-line stem n accepted.raw ls accepted.good))

  -- in 01's order, each section in the order in which its lines came
  pub lines-come-home-in-turn : (h : JsonStands stem n (lines s) j) → InTurn (lines s) h.stands (lines b)
  lines-come-home-in-turn h =
      let ls : List Line = lines_of accepted.raw in
      rw (home-lines, own-stands h, the-lines) (turn-upper ls (stands_of (classed_after nothing ls)) (normal_lines stem n (classed ls)) (every-turn stem n accepted.raw ls accepted.good))

  -- ---- a card that came home comes home unchanged, whatever the stem and number, in any output that is long enough

  pub same-json-again : (stem' : Bytes) (n' room : ℕ) → is_stem_text stem' ≡ true → is_card_number n' ≡ true → ltb room (length j) ≡ false → card_to_json stem' n' room b ≡ yes j
  same-json-again stem' n' room p q o =
      let c : Card = way.card in
      let f : ltb json_room (length (print_json c)) ≡ false = ap (λ (x : Bytes). ltb json_room (length x)) (sym way.json) ∙ way.fits in
      ap (card_to_json stem' n' room) way.home
      ∙ card-to-json c way.proper way.few stem' n' room (and-true p q) (ap (λ (x : Bytes). ltb card_room (length x)) (sym way.home) ∙ way.room)
      ∙ json-fits room (print_json c) f (ap (λ (x : Bytes). ltb room (length x)) (sym way.json) ∙ o)
      ∙ ap yes (sym way.json)

  pub home-again : (stem' : Bytes) (n' room : ℕ) (k : Bytes) → card_to_json stem' n' room b ≡ yes k → json_to_card lent' k ≡ yes b
  home-again stem' n' room k e =
      let a = accepted-card stem' n' room b k e in
      let c : Card = way.card in
      let r : fitted json_room room (print_json c) ≡ yes k =
      sym (card-to-json c way.proper way.few stem' n' room (and-true a.stem-fits a.number_fits) (ap (λ (x : Bytes). ltb card_room (length x)) (sym way.home) ∙ way.room)) ∙ ap (card_to_json stem' n' room) (sym way.home) ∙ e in
      ap (json_to_card lent') ((fitted-inv json_room room (print_json c) k r).2 ∙ sym way.json) ∙ back
