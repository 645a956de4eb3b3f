use Rattle.output.proofs.Laws.{failed}
use borrow.Author.Rules.{rules}
use mathlib.Core.List.{List, [], ◌∷◌}
use native.Mathlib.Nat.{le_refl}
use Rattle.output.proofs.Rows.{Here, first!, next!, none, stop!, all, in!, fit!, same!, length-puts}
use Rattle.convert.specs.Classify.{Classed}
use Rattle.from_card_lines.specs.Classified.{Classified}
use Rattle.text.specs.Bytes.{flat}
use Rattle.output.proofs.Laws.{puts-as}
use Rattle.to_json_card.specs.Card.{rest_pieces}
use Rattle.to_json_card.proofs.Groups.{groups-print}
use Rattle.to_json_card.proofs.put_card.Goals as goal
use Rattle.to_json_card.proofs.put_card.Goals.{In_ok-a1, In_ok-a2}

-- the card's classified lines, as they came
abbrev Lines : In_ok-a1 → List Classed → Type 0
Lines c cs =
    let args = c.args in
    Classified args.lines.scratch.now args.lines.starts.now args.lines.codes.now args.lines.count cs

abbrev s₁ : (c : In_ok-a1) (cs : List Classed) → Lines c cs → Here
s₁ c cs h = first! (flat (rest_pieces cs) ∷ []) (c.put_top.ensures cs h) c.in_ok-a1.was

abbrev told₁ : In_ok-a2 → In_ok-a1
told₁ c = (goal.at.In_ok-a2 c).In_ok-a1

abbrev s₂ : (c : In_ok-a2) (cs : List Classed) → Lines (told₁ c) cs → Here
s₂ c cs h = next! (s₁ (told₁ c) cs h) (c.put_rest.ensures cs h) c.in_ok-a2.was

pub put_top-requires : goal.put_top-requires
put_top-requires c = (c.requires.parts, c.requires.lines)

pub returns-in_err-a1 : goal.returns-in_err-a1
returns-in_err-a1 c =
    let args = c.args in
    let put-top = c.put_top in
    λ cs h. failed c.from_residual.ensures.0
    (puts-as (groups-print args.stem.now args.number cs)
    (none (flat (rest_pieces cs) ∷ []) (put-top.ensures cs h) c.in_err-a1.was))

pub slice_bounds-put_rest-count : goal.slice_bounds-put_rest-count
slice_bounds-put_rest-count c =
    let pre = c.requires in
    in! (s₁ c pre.lines.0 pre.lines.1)

pub slice_bounds-put_rest-start : goal.slice_bounds-put_rest-start
slice_bounds-put_rest-start c =
    let pre = c.requires in
    in! (s₁ c pre.lines.0 pre.lines.1)

pub slice_bounds-put_rest-end : goal.slice_bounds-put_rest-end
slice_bounds-put_rest-end c = le_refl _

pub put_rest-requires : goal.put_rest-requires
put_rest-requires c = record { parts = search rules; room = search rules; lines = c.requires.lines }

pub returns-in_err-a2 : goal.returns-in_err-a2
returns-in_err-a2 c =
    let args = c.args in
    let put_rest = c.put_rest in
    λ cs h. failed c.from_residual-in_err-a2.ensures.0
    (puts-as (groups-print args.stem.now args.number cs)
    (stop! (s₁ (goal.at.returns-in_err-a2 c).In_ok-a1 cs h)
    (put_rest.ensures cs h) c.in_err-a2.was))

pub overflow_add-b2 : goal.overflow_add-b2
overflow_add-b2 c =
    let pre = c.requires in
    let good = c.well_formed in
    fit! (s₂ c pre.lines.0 pre.lines.1) good.0.0

pub shape_of-out : goal.shape_of-out
shape_of-out c =
    let pre = c.requires in
    same! (s₂ c pre.lines.0 pre.lines.1)

pub returns : goal.returns
returns c =
    let args = c.args in
    λ cs h. puts-as (groups-print args.stem.now args.number cs) (all (s₂ c cs h).left)
