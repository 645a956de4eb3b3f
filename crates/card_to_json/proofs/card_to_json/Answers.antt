use mathlib.Core.Path.{◌≡◌, refl, sym, ◌∙◌}
use Prim.Native.Nat.{◌≤◌}
use native.Mathlib.Omega.{arith}
use lib.ListN.{length}
use Rattle.text.specs.Bytes.{Bytes}
use Rattle.convert.specs.Answers.{card_room, card_to_json as answer}
use Rattle.served.specs.Served.{Outcome, Serves as Answered}
use Rattle.card_to_json.specs.Inner.{inner, Serves}
use Rattle.card_to_json.proofs.Serving.{no-stem, no_number, too_long, size-length, served-there, kept-there, too-small, seen-refused, seen-past}
use Rattle.card_to_json.proofs.card_to_json.Goals.{After-size_of, After-served_in-2, then-card-le-SMALL+in_default, else-card-le-SMALL}
use Rattle.card_to_json.proofs.card_to_json.Goals.{then-card-le-MEDIUM+in_default-served_in, else-card-le-MEDIUM}
use Rattle.card_to_json.proofs.card_to_json.Goals as goal

pub returns-then-not-is_stem : goal.returns-then-not-is_stem
returns-then-not-is_stem c =
    seen-refused c.args.out.now _ 15 0 (no-stem c.args.stem.now c.args.number (length c.args.out.now) c.args.card.now (sym c.is_stem.ensures ∙ c.if-not-is_stem.true))

pub returns-then-not-is_card_number : goal.returns-then-not-is_card_number
returns-then-not-is_card_number c =
    seen-refused c.args.out.now _ 15 0 (no_number c.args.stem.now c.args.number (length c.args.out.now) c.args.card.now (sym c.is_card_number.ensures ∙ c.if-not-is_card_number.true))

pub returns-then-size_of-gt-CARD : goal.returns-then-size_of-gt-CARD
returns-then-size_of-gt-CARD c =
    let stems = sym c.is_stem.ensures ∙ c.if-not-is_stem.false in
    let numbers = sym c.is_card_number.ensures ∙ c.if-not-is_card_number.false in
    seen-refused c.args.out.now _ 3 0 (too_long c.args.stem.now c.args.number (length c.args.out.now) c.args.card.now stems numbers (omega (arith, c.size_of.ensures, c.if-size_of-gt-CARD.true)))

-- 15 and 3 (bytes) are not given: what a scratch serves is the answer, where the lent output was still as it came
served : (c : After-size_of) → c.size_of.result ≤ card_room → (out : Bytes) → out ≡ c.args.out.now → (r : Outcome) (after : Bytes)
    → Serves out (inner c.args.stem.now c.args.number c.args.card.now) r after → Answered c.args.out.now (answer c.args.stem.now c.args.number (length c.args.out.now) c.args.card.now) r after
served c h out is r after s =
    let stems = sym c.is_stem.ensures ∙ c.if-not-is_stem.false in
    let numbers = sym c.is_card_number.ensures ∙ c.if-not-is_card_number.false in
    seen-past c.args.stem.now c.args.number c.args.card.now c.args.out.now out r after stems numbers (omega (arith, c.size_of.ensures, h)) is s

-- neither of the smaller scratches wrote there
unwritten : (c : After-served_in-2) → c.if-card-le-MEDIUM.out ≡ c.args.out.now
unwritten c =
    let first : c.if-card-le-SMALL.out ≡ c.args.out.now = elim c.if-card-le-SMALL.branch [
      | then-card-le-SMALL+in_default w ↦ w.out-is ∙ kept-there c.args.stem.now c.args.number c.args.card.now _ _ _ _ _ w.served_in.ensures w.in_default.is
      | else-card-le-SMALL w ↦ w.out-is
    ] in
    elim c.if-card-le-MEDIUM.branch [
      | then-card-le-MEDIUM+in_default-served_in w ↦ w.out-is ∙ kept-there c.args.stem.now c.args.number c.args.card.now _ _ _ _ _ w.served_in-then-card-le-MEDIUM.ensures w.in_default-served_in.is ∙ first
      | else-card-le-MEDIUM w ↦ w.out-is ∙ first
    ]

pub returns-in-Some : goal.returns-in-Some
returns-in-Some c =
    served (goal.at.returns-in-Some c).After-size_of c.if-size_of-gt-CARD.false _ refl _ _ (served-there c.args.stem.now c.args.number c.args.card.now _ _ _ _ _ c.served_in.ensures _ c.in-Some.is)

pub returns-in-Some-served_in : goal.returns-in-Some-served_in
returns-in-Some-served_in c =
    let first : c.if-card-le-SMALL.out ≡ c.args.out.now = elim c.if-card-le-SMALL.branch [
      | then-card-le-SMALL+in_default w ↦ w.out-is ∙ kept-there c.args.stem.now c.args.number c.args.card.now _ _ _ _ _ w.served_in.ensures w.in_default.is
      | else-card-le-SMALL w ↦ w.out-is
    ] in
    let there = served-there c.args.stem.now c.args.number c.args.card.now _ _ _ _ _ c.served_in-then-card-le-MEDIUM.ensures _ c.in-Some-served_in.is in
    served (goal.at.returns-in-Some-served_in c).After-size_of c.if-size_of-gt-CARD.false _ first _ _ there

pub served_in-requires-2-clause-card_fits : goal.served_in-requires-2-clause-card_fits
served_in-requires-2-clause-card_fits c = size-length c.args.card.now (omega (arith, c.size_of.ensures, c.if-size_of-gt-CARD.false))

pub returns-in_default-served_in-2 : goal.returns-in_default-served_in-2
returns-in_default-served_in-2 c =
    let at = goal.at.returns-in_default-served_in-2 c in
    let none = too-small c.args.stem.now c.args.number c.args.card.now _ _ _ _ _ c.served_in-2.ensures (omega arith) (omega arith) c.in_default-served_in-2.is in
    served at.After-size_of c.if-size_of-gt-CARD.false _ (unwritten at.After-served_in-2) _ _ none

pub returns : goal.returns
returns c =
    let at = goal.at.returns c in
    let there = served-there c.args.stem.now c.args.number c.args.card.now _ _ _ _ _ c.served_in-2.ensures _ c.in-Some-served_in-2.is in
    served at.After-size_of c.if-size_of-gt-CARD.false _ (unwritten at.After-served_in-2) _ _ there
