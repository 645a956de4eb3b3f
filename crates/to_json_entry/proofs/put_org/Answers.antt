use Rattle.output.proofs.Laws.{failed}
use Rattle.to_json_entry.proofs.Org.{org-parts}
use Rattle.to_json_entry.specs.Entry.{org_name}
use Rattle.convert_values.proofs.Texts.{part-good}
use Rattle.output.proofs.Laws.{puts-as}
use Rattle.text.specs.Bytes.{flat}
use lib.ListN.{take}
use native.Mathlib.Omega.{arith}
use Prim.Native.Nat.{◌-◌}
use mathlib.Core.Path.{ap, ◌∙◌}
use Rattle.to_json_entry.specs.Entry.{units_after, units_piece}
use native.Mathlib.Nat.{le_refl}
use mathlib.Core.List.{[], ◌∷◌}
use Rattle.output.proofs.Rows.{Here, first!, next!, none, stop!, all, in!, fit!, same! }
use Rattle.to_json_entry.proofs.put_org.Goals as goal
use Rattle.to_json_entry.proofs.put_org.Goals.{In_ok-a, In_ok-b}

abbrev s₁ : In_ok-a → Here
s₁ c =
    first! (units_piece c.unit_kind-k.result (units_after c.args.v.now c.part_end-e.result) ∷ []) c.put_org_name.ensures c.in_ok-a.was

abbrev s₂ : In_ok-b → Here
s₂ c =
    next! (s₁ (goal.at.In_ok-b c).In_ok-a) c.put_units_after.ensures c.in_ok-b.was

pub slice_bounds-put_org_name-count : goal.slice_bounds-put_org_name-count
slice_bounds-put_org_name-count c = omega (arith, c.part_end-e.ensures.within (omega arith))

pub slice_bounds-put_org_name-start : goal.slice_bounds-put_org_name-start
slice_bounds-put_org_name-start c = omega (arith, c.part_end-e.ensures.within (omega arith))

pub slice_bounds-put_org_name-end : goal.slice_bounds-put_org_name-end
slice_bounds-put_org_name-end c = omega (arith, c.part_end-e.ensures.within (omega arith))

pub put_org_name-requires : goal.put_org_name-requires
put_org_name-requires c = part-good 59 c.args.v.now 0 _ c.part_end-e.ensures c.requires

pub returns-in_err-a : goal.returns-in_err-a
returns-in_err-a c =
    failed c.from_residual.ensures.0
    (puts-as
    (ap
    (λ k. flat
    (org_name c.args.i (take (c.part_end-e.result - 0) c.args.v.now) ∷ units_piece k
    (units_after c.args.v.now c.part_end-e.result) ∷ []))
    c.unit_kind-k.ensures ∙ org-parts c.args.i c.args.v.now c.part_end-e.result c.part_end-e.ensures)
    (none _ c.put_org_name.ensures c.in_err-a.was))

pub slice_bounds-put_units_after-count : goal.slice_bounds-put_units_after-count
slice_bounds-put_units_after-count c = in! (s₁ c)

pub slice_bounds-put_units_after-start : goal.slice_bounds-put_units_after-start
slice_bounds-put_units_after-start c = in! (s₁ c)

pub slice_bounds-put_units_after-end : goal.slice_bounds-put_units_after-end
slice_bounds-put_units_after-end c = le_refl _

pub put_units_after-requires : goal.put_units_after-requires
put_units_after-requires c = (c.requires, c.part_end-e.ensures)

pub returns-in_err-b : goal.returns-in_err-b
returns-in_err-b c =
    failed c.from_residual-in_err-b.ensures.0
    (puts-as
    (ap
    (λ k. flat
    (org_name c.args.i (take (c.part_end-e.result - 0) c.args.v.now) ∷ units_piece k
    (units_after c.args.v.now c.part_end-e.result) ∷ []))
    c.unit_kind-k.ensures ∙ org-parts c.args.i c.args.v.now c.part_end-e.result c.part_end-e.ensures)
    (stop! (s₁ (goal.at.returns-in_err-b c).In_ok-a) c.put_units_after.ensures c.in_err-b.was))

pub overflow_add-ab : goal.overflow_add-ab
overflow_add-ab c = fit! (s₂ c) c.well_formed.0.0

pub shape_of-out : goal.shape_of-out
shape_of-out c = same! (s₂ c)

pub returns : goal.returns
returns c =
    puts-as
    (ap
    (λ k. flat
    (org_name c.args.i (take (c.part_end-e.result - 0) c.args.v.now) ∷ units_piece k
    (units_after c.args.v.now c.part_end-e.result) ∷ []))
    c.unit_kind-k.ensures ∙ org-parts c.args.i c.args.v.now c.part_end-e.result c.part_end-e.ensures)
    (all (s₂ c).left)
