use Rattle.output.proofs.Laws.{failed}
use Rattle.json_text.specs.Compact.{spelled_all}
use Rattle.json_compact.specs.Squeezed.{squeezed}
use Rattle.convert_pointer.specs.Name.{name_in}
use native.Mathlib.Nat.{le_refl}
use mathlib.Core.List.{[], ◌∷◌}
use Rattle.output.proofs.Rows.{Here, first!, next!, none, stop!, all, in!, fit!, same! }
use Rattle.to_json_member.proofs.put_pointed.Goals as goal
use Rattle.to_json_member.proofs.put_pointed.Goals.{In_ok-a, In_ok-d, In_ok-c, In_ok-b}

abbrev s₁ : In_ok-a → Here
s₁ c =
    let args = c.args in
    let put_byte = c.put_byte in
    first! (spelled_all (name_in args.p.now) ∷ (34 ∷ 58 ∷ []) ∷ squeezed args.text.now ∷ []) put_byte.ensures c.in_ok-a.was

abbrev s₂ : In_ok-b → Here
s₂ c =
    next! (s₁ (goal.at.In_ok-b c).In_ok-a) c.spell_pointer.ensures c.in_ok-b.was

abbrev s₃ : In_ok-c → Here
s₃ c =
    next! (s₂ (goal.at.In_ok-c c).In_ok-b) c.put_text.ensures c.in_ok-c.was

abbrev s₄ : In_ok-d → Here
s₄ c =
    next! (s₃ (goal.at.In_ok-d c).In_ok-c) c.put_compact.ensures.puts c.in_ok-d.was

pub returns-in_err-a : goal.returns-in_err-a
returns-in_err-a c =
    failed c.from_residual.ensures.0
    (none _ c.put_byte.ensures c.in_err-a.was)

pub slice_bounds-spell_pointer-count : goal.slice_bounds-spell_pointer-count
slice_bounds-spell_pointer-count c = in! (s₁ c)

pub slice_bounds-spell_pointer-start : goal.slice_bounds-spell_pointer-start
slice_bounds-spell_pointer-start c = in! (s₁ c)

pub slice_bounds-spell_pointer-end : goal.slice_bounds-spell_pointer-end
slice_bounds-spell_pointer-end c = le_refl _

pub spell_pointer-requires : goal.spell_pointer-requires
spell_pointer-requires c = c.requires

pub returns-in_err-b : goal.returns-in_err-b
returns-in_err-b c =
    failed c.from_residual-in_err-b.ensures.0
    (stop! (s₁ (goal.at.returns-in_err-b c).In_ok-a) c.spell_pointer.ensures c.in_err-b.was)

pub overflow_add-ab : goal.overflow_add-ab
overflow_add-ab c = fit! (s₂ c) c.well_formed.0.0

pub slice_bounds-put_text-count : goal.slice_bounds-put_text-count
slice_bounds-put_text-count c = in! (s₂ c)

pub slice_bounds-put_text-start : goal.slice_bounds-put_text-start
slice_bounds-put_text-start c = in! (s₂ c)

pub slice_bounds-put_text-end : goal.slice_bounds-put_text-end
slice_bounds-put_text-end c = le_refl _

pub returns-in_err-c : goal.returns-in_err-c
returns-in_err-c c =
    failed c.from_residual-in_err-c.ensures.0
    (stop! (s₂ (goal.at.returns-in_err-c c).In_ok-b) c.put_text.ensures c.in_err-c.was)

pub overflow_add-ac : goal.overflow_add-ac
overflow_add-ac c = fit! (s₃ c) c.well_formed.0.0

pub slice_bounds-put_compact-count : goal.slice_bounds-put_compact-count
slice_bounds-put_compact-count c = in! (s₃ c)

pub slice_bounds-put_compact-start : goal.slice_bounds-put_compact-start
slice_bounds-put_compact-start c = in! (s₃ c)

pub slice_bounds-put_compact-end : goal.slice_bounds-put_compact-end
slice_bounds-put_compact-end c = le_refl _

pub returns-in_err-d : goal.returns-in_err-d
returns-in_err-d c =
    failed c.from_residual-in_err-d.ensures.0
    (stop! (s₃ (goal.at.returns-in_err-d c).In_ok-c) c.put_compact.ensures.puts c.in_err-d.was)

pub overflow_add-ad : goal.overflow_add-ad
overflow_add-ad c = fit! (s₄ c) c.well_formed.0.0

pub shape_of-out : goal.shape_of-out
shape_of-out c = same! (s₄ c)

pub returns : goal.returns
returns c = all (s₄ c).left
