use Rattle.output.proofs.Laws.{failed}
use borrow.Author.Rules.{rules}
use mathlib.Core.List.{List, [], ◌∷◌}
use native.Mathlib.Nat.{le_refl}
use Rattle.output.proofs.Rows.{Here, first!, next!, none, stop!, all, in!, fit!, same!, length-puts}
use Rattle.convert.specs.Classify.{Classed}
use Rattle.from_card_lines.specs.Classified.{Classified}
use Rattle.to_json_sections.specs.Sections.{kind_member, kind_in, name_in}
use Rattle.to_json_card.proofs.put_top.Goals as goal
use Rattle.to_json_card.proofs.put_top.Goals.{In_ok-a1, In_ok-a2, In_ok-a3}

-- the card's classified lines, as they came
abbrev Lines : In_ok-a1 → List Classed → Type 0
Lines c cs =
    let args = c.args in
    Classified args.lines.scratch.now args.lines.starts.now args.lines.codes.now args.lines.count cs

abbrev s₁ : (c : In_ok-a1) (cs : List Classed) → Lines c cs → Here
s₁ c cs h = first! (kind_member (kind_in cs) ∷ name_in cs ∷ []) (c.put_start_of.ensures cs h) c.in_ok-a1.was

abbrev told₁ : In_ok-a2 → In_ok-a1
told₁ c = (goal.at.In_ok-a2 c).In_ok-a1

abbrev s₂ : (c : In_ok-a2) (cs : List Classed) → Lines (told₁ c) cs → Here
s₂ c cs h = next! (s₁ (told₁ c) cs h) (c.put_kind_of.ensures cs h) c.in_ok-a2.was

abbrev told₂ : In_ok-a3 → In_ok-a2
told₂ c = (goal.at.In_ok-a3 c).In_ok-a2

abbrev s₃ : (c : In_ok-a3) (cs : List Classed) → Lines (told₁ (told₂ c)) cs → Here
s₃ c cs h = next! (s₂ (told₂ c) cs h) (c.put_name_of.ensures cs h) c.in_ok-a3.was

pub put_start_of-requires : goal.put_start_of-requires
put_start_of-requires c = c.requires

pub returns-in_err-a1 : goal.returns-in_err-a1
returns-in_err-a1 c =
    λ cs h. failed c.from_residual.ensures.0
    (none (kind_member (kind_in cs) ∷ name_in cs ∷ []) (c.put_start_of.ensures cs h) c.in_err-a1.was)

pub slice_bounds-put_kind_of-count : goal.slice_bounds-put_kind_of-count
slice_bounds-put_kind_of-count c =
    let pre = c.requires in
    in! (s₁ c pre.1.0 pre.1.1)

pub slice_bounds-put_kind_of-start : goal.slice_bounds-put_kind_of-start
slice_bounds-put_kind_of-start c =
    let pre = c.requires in
    in! (s₁ c pre.1.0 pre.1.1)

pub slice_bounds-put_kind_of-end : goal.slice_bounds-put_kind_of-end
slice_bounds-put_kind_of-end c = le_refl _

pub put_kind_of-requires : goal.put_kind_of-requires
put_kind_of-requires c = (search rules, c.requires.1)

pub returns-in_err-a2 : goal.returns-in_err-a2
returns-in_err-a2 c =
    λ cs h. failed c.from_residual-in_err-a2.ensures.0
    (stop! (s₁ (goal.at.returns-in_err-a2 c).In_ok-a1 cs h) (c.put_kind_of.ensures cs h) c.in_err-a2.was)

pub overflow_add-b2 : goal.overflow_add-b2
overflow_add-b2 c =
    let pre = c.requires in
    let good = c.well_formed in
    fit! (s₂ c pre.1.0 pre.1.1) good.0.0

pub slice_bounds-put_name_of-count : goal.slice_bounds-put_name_of-count
slice_bounds-put_name_of-count c =
    let pre = c.requires in
    in! (s₂ c pre.1.0 pre.1.1)

pub slice_bounds-put_name_of-start : goal.slice_bounds-put_name_of-start
slice_bounds-put_name_of-start c =
    let pre = c.requires in
    in! (s₂ c pre.1.0 pre.1.1)

pub slice_bounds-put_name_of-end : goal.slice_bounds-put_name_of-end
slice_bounds-put_name_of-end c = le_refl _

pub put_name_of-requires : goal.put_name_of-requires
put_name_of-requires c = (search rules, c.requires.1)

pub returns-in_err-a3 : goal.returns-in_err-a3
returns-in_err-a3 c =
    λ cs h. failed c.from_residual-in_err-a3.ensures.0
    (stop! (s₂ (goal.at.returns-in_err-a3 c).In_ok-a2 cs h) (c.put_name_of.ensures cs h) c.in_err-a3.was)

pub overflow_add-b3 : goal.overflow_add-b3
overflow_add-b3 c =
    let pre = c.requires in
    let good = c.well_formed in
    fit! (s₃ c pre.1.0 pre.1.1) good.0.0

pub shape_of-out : goal.shape_of-out
shape_of-out c =
    let pre = c.requires in
    same! (s₃ c pre.1.0 pre.1.1)

pub returns : goal.returns
returns c = λ cs h. all (s₃ c cs h).left
