-- What stands for a card's lines, both ways: the JSON that an accepted card gives is what stands for its lines, and the normal form of an accepted JSON is what stands for
-- the lines of the card that it gives. Each line is kept exactly where it has a reason.
use mathlib.Core.Path.{◌≡◌, sym, ap, subst, ◌∙◌}
use mathlib.Core.Bool.{true, false}
use mathlib.Core.List.{List, [], map}
use mathlib.Core.Option.{Option, none}
use Prim.Native.Nat.{ℕ}
use Rattle.text.specs.Bytes.{Bytes, any}
use Rattle.json_text.specs.Tree.{Member, object}
use Rattle.json_text.specs.Strings.{distinct_names}
use Rattle.json_text.specs.Compact.{compact}
use Rattle.json_text.specs.Read.{tree, reading}
use Rattle.json_text.proofs.Sound.{sound-names}
use Rattle.json_text.proofs.Given.{reading-sound}
use Rattle.line.specs.Grammar.{Line}
use Rattle.line.proofs.Lines.{upper_line}
use Rattle.convert.specs.Model.{Card}
use Rattle.convert.specs.Classify.{nothing, classed_after}
use Rattle.convert.specs.FromCard.{card_of_lines}
use Rattle.convert.specs.ToJson.{print_json}
use Rattle.convert.specs.ToCard.{card_lines, print_card}
use Rattle.convert.specs.NormalJson.{normal_tree, normal_json}
use Rattle.convert.specs.Answers.{yes, misused, emptied, second_from, lines_of, or_none, card_to_json, json_to_card}
use Rattle.convert.proofs.Seeking.{at-line-none}
use Rattle.home.specs.Members.{TextStands}
use Rattle.home.specs.JsonStands.{JsonStands}
use Rattle.home.specs.Demand2.{lines}
use Rattle.home.proofs.Proper.{ProperCard}
use Rattle.home.proofs.Accepted.{AcceptedJson, accepted-card, accepted-json}
use Rattle.home.proofs.JsonHome.{json-read}
use Rattle.home.proofs.JsonProper.{json-proper}
use Rattle.home.proofs.CardLines.{card-unfolded, card-read}
use Rattle.home.proofs.CardTests.{no_second, none-emptied, none-misused}
use Rattle.home.proofs.CardHome.{card-home}
use Rattle.home.proofs.NormalJson.{tree-normal, compact-normal}
use Rattle.home.proofs.EveryMember.{tree-stands}
use Rattle.home.proofs.PairedLines.{stands_of, lines-stand}
use Rattle.home.proofs.PairedWhole.{map_members, maps-stand, members-are}
use Rattle.home.proofs.ReasonsSeen.{nothing_known}
use Rattle.home.proofs.ReasonsLines.{lines-by}

json-stands : (stem : Bytes) (n : ℕ) (ls : List Line) → second_from 1 [] ls ≡ none → any emptied ls ≡ false → any misused ls ≡ false → JsonStands stem n ls (print_json (card_of_lines stem n ls))
unfolding print_json
json-stands stem n ls once valued used =
    record {
      stands = stands_of (classed_after nothing ls);
      each_line = lines-stand nothing ls;
      reasons = lines-by nothing [] nothing_known ls used;
      maps = map_members stem n ls once valued;
      maps-are = maps-stand (classed_after nothing ls);
      text = ap (λ (ms : List Member). compact (object ms)) (members-are stem n ls once valued);
    }

-- ---- a card to JSON

pub card-stands : (stem : Bytes) (n lent : ℕ) (s j : Bytes) → card_to_json stem n lent s ≡ yes j → JsonStands stem n (lines s) j
card-stands stem n lent s j e =
    let a = accepted-card stem n lent s j e in
    let ls : List Line = lines_of a.raw in
    let i : lines s ≡ ls = ap (λ (o : Option (List Bytes)). lines_of (or_none o)) a.raws in
    subst (λ (x : Bytes). JsonStands stem n (lines s) x) (sym a.result)
    (subst (λ (x : List Line). JsonStands stem n x (print_json (card_of_lines stem n ls))) (sym i) (json-stands stem n ls a.good.once a.good.filled a.good.used))

-- ---- JSON to a card

-- the lines of a written card, and what stands for them
proper-stands : (c : Card) → ProperCard c → (stem : Bytes) (n : ℕ) → JsonStands stem n (lines (print_card c)) (print_json c)
proper-stands c p stem n =
    let ls : List Line = map upper_line (card_lines c) in
    let l : lines (print_card c) ≡ ls = ap (λ (o : Option (List Bytes)). lines_of (or_none o)) (card-unfolded c p) ∙ card-read c p in
    subst (λ (x : List Line). JsonStands stem n x (print_json c)) (sym l)
    (subst (λ (x : Card). JsonStands stem n ls (print_json x)) (card-home c p stem n)
    (json-stands stem n ls (no_second c p) (at-line-none 9 emptied ls (none-emptied c p)) (at-line-none 7 misused ls (none-misused c p))))

module _ (lent : ℕ) (s b : Bytes) (out : json_to_card lent s ≡ yes b) where
  accepted : AcceptedJson s b
  accepted = accepted-json lent s b out

  proper : ProperCard accepted.card
  proper = json-proper s accepted.json accepted.card accepted.read accepted.from accepted.carries

  normal : print_json accepted.card ≡ normal_json s
  normal = compact-normal s accepted.json accepted.card accepted.read accepted.from

  -- whatever stem and number: the card has a UID
  pub json-gives-stands : (stem : Bytes) (n : ℕ) → JsonStands stem n (lines b) (normal_json s)
  json-gives-stands stem n =
      subst (λ (x : Bytes). JsonStands stem n (lines b) x) normal
      (subst (λ (x : Bytes). JsonStands stem n (lines x) (print_json accepted.card)) (sym accepted.result) (proper-stands accepted.card proper stem n))

  -- every member of the JSON stands in its normal form, whatever its length
  pub members-stand : TextStands s (normal_json s)
  members-stand =
      let c : Card = accepted.card in
      let u : distinct_names accepted.json ≡ true = sound-names accepted.json 16 (reading-sound 16 s accepted.json accepted.read) in
      record {
        came = accepted.json;
        home = normal_tree accepted.json;
        came-is = accepted.read;
        home-is = ap (reading 16) (sym normal) ∙ json-read c proper ∙ ap tree (tree-normal accepted.json c u accepted.from);
        stand = tree-stands accepted.json c u accepted.from;
      }
