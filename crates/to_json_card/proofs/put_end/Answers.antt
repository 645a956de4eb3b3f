use Rattle.output.proofs.Laws.{failed}
use mathlib.Core.List.{List, [], ◌∷◌}
use native.Mathlib.Nat.{le_refl}
use Rattle.output.proofs.Rows.{Here, first!, next!, none, stop!, all, in!, fit!, same!, length-puts}
use Rattle.convert.specs.Classify.{Classed}
use Rattle.from_card_lines.specs.Classified.{Classified}
use Rattle.to_json_card.proofs.put_end.Goals as goal
use Rattle.to_json_card.proofs.put_end.Goals.{In_ok-a1, In_ok-a2}

-- the card's classified lines, as they came
abbrev Lines : In_ok-a1 → List Classed → Type 0
Lines c cs =
    let args = c.args in
    Classified args.lines.scratch.now args.lines.starts.now args.lines.codes.now args.lines.count cs

abbrev s₁ : (c : In_ok-a1) (cs : List Classed) → Lines c cs → Here
s₁ c cs h = first! ((125 ∷ []) ∷ []) (c.put_props.ensures cs h) c.in_ok-a1.was

abbrev told₁ : In_ok-a2 → In_ok-a1
told₁ c = (goal.at.In_ok-a2 c).In_ok-a1

abbrev s₂ : (c : In_ok-a2) (cs : List Classed) → Lines (told₁ c) cs → Here
s₂ c cs h = next! (s₁ (told₁ c) cs h) c.put_byte.ensures c.in_ok-a2.was

pub put_props-requires : goal.put_props-requires
put_props-requires c = c.requires

pub returns-in_err-a1 : goal.returns-in_err-a1
returns-in_err-a1 c =
    λ cs h. failed c.from_residual.ensures.0
    (none ((125 ∷ []) ∷ []) (c.put_props.ensures cs h) c.in_err-a1.was)

pub slice_bounds-put_byte-count : goal.slice_bounds-put_byte-count
slice_bounds-put_byte-count c = in! (s₁ c c.requires.1.0 c.requires.1.1)

pub slice_bounds-put_byte-start : goal.slice_bounds-put_byte-start
slice_bounds-put_byte-start c =
    let pre = c.requires in
    in! (s₁ c pre.1.0 pre.1.1)

pub slice_bounds-put_byte-end : goal.slice_bounds-put_byte-end
slice_bounds-put_byte-end c = le_refl _

pub returns-in_err-a2 : goal.returns-in_err-a2
returns-in_err-a2 c =
    λ cs h. failed c.from_residual-in_err-a2.ensures.0
    (stop! (s₁ (goal.at.returns-in_err-a2 c).In_ok-a1 cs h) c.put_byte.ensures c.in_err-a2.was)

pub overflow_add-b2 : goal.overflow_add-b2
overflow_add-b2 c =
    let pre = c.requires in
    let good = c.well_formed in
    fit! (s₂ c pre.1.0 pre.1.1) good.0.0

pub shape_of-out : goal.shape_of-out
shape_of-out c =
    let pre = c.requires in
    same! (s₂ c pre.1.0 pre.1.1)

pub returns : goal.returns
returns c = λ cs h. all (s₂ c cs h).left
