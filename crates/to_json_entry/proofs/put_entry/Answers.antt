use Rattle.output.proofs.Laws.{failed}
use native.Mathlib.Omega.{arith}
use Rattle.convert_put.specs.Pieces.{flags_from, kind_piece, pref_piece}
use Rattle.to_json_entry.specs.Entry.{strings_piece}
use mathlib.Core.Bool.{false}
use native.Mathlib.Nat.{le_refl}
use mathlib.Core.List.{[], ◌∷◌}
use Rattle.output.proofs.Rows.{Here, first!, next!, none, stop!, all, in!, fit!, same! }
use Rattle.to_json_entry.proofs.put_entry.Goals as goal
use Rattle.to_json_entry.proofs.put_entry.Goals.{In_ok-a1, In_ok-a2, In_ok-a8, In_ok-a5, In_ok-a6, In_ok-a3, In_ok-a7, In_ok-a4}

abbrev s₁ : In_ok-a1 → Here
s₁ c =
    first!
    ((123 ∷ []) ∷ kind_piece c.args.kind ∷ strings_piece c.args.i c.args.form c.args.raw c.args.v.now ∷ flags_from 2
    c.args.row.now 0 false ∷ flags_from 7 c.args.row.now 2 false ∷ pref_piece c.args.p.now ∷ (125 ∷ []) ∷ [])
    c.put_name.ensures c.in_ok-a1.was

abbrev s₂ : In_ok-a2 → Here
s₂ c =
    next! (s₁ (goal.at.In_ok-a2 c).In_ok-a1) c.put_byte.ensures c.in_ok-a2.was

abbrev s₃ : In_ok-a3 → Here
s₃ c =
    next! (s₂ (goal.at.In_ok-a3 c).In_ok-a2) c.put_kind.ensures c.in_ok-a3.was

abbrev s₄ : In_ok-a4 → Here
s₄ c =
    next! (s₃ (goal.at.In_ok-a4 c).In_ok-a3) c.put_strings.ensures c.in_ok-a4.was

abbrev s₅ : In_ok-a5 → Here
s₅ c =
    next! (s₄ (goal.at.In_ok-a5 c).In_ok-a4) c.put_flags.ensures c.in_ok-a5.was

abbrev s₆ : In_ok-a6 → Here
s₆ c =
    next! (s₅ (goal.at.In_ok-a6 c).In_ok-a5) c.put_flags-2.ensures c.in_ok-a6.was

abbrev s₇ : In_ok-a7 → Here
s₇ c =
    next! (s₆ (goal.at.In_ok-a7 c).In_ok-a6) c.put_pref.ensures c.in_ok-a7.was

abbrev s₈ : In_ok-a8 → Here
s₈ c =
    next! (s₇ (goal.at.In_ok-a8 c).In_ok-a7) c.put_byte-2.ensures c.in_ok-a8.was

pub returns-in_err-a1 : goal.returns-in_err-a1
returns-in_err-a1 c =
    failed c.from_residual.ensures.0
    (none _ c.put_name.ensures c.in_err-a1.was)

pub slice_bounds-put_byte-count : goal.slice_bounds-put_byte-count
slice_bounds-put_byte-count c = in! (s₁ c)

pub slice_bounds-put_byte-start : goal.slice_bounds-put_byte-start
slice_bounds-put_byte-start c = in! (s₁ c)

pub slice_bounds-put_byte-end : goal.slice_bounds-put_byte-end
slice_bounds-put_byte-end c = le_refl _

pub returns-in_err-a2 : goal.returns-in_err-a2
returns-in_err-a2 c =
    failed c.from_residual-in_err-a2.ensures.0
    (stop! (s₁ (goal.at.returns-in_err-a2 c).In_ok-a1) c.put_byte.ensures c.in_err-a2.was)

pub overflow_add-b2 : goal.overflow_add-b2
overflow_add-b2 c = fit! (s₂ c) c.well_formed.0.0

pub slice_bounds-put_kind-count : goal.slice_bounds-put_kind-count
slice_bounds-put_kind-count c = in! (s₂ c)

pub slice_bounds-put_kind-start : goal.slice_bounds-put_kind-start
slice_bounds-put_kind-start c = in! (s₂ c)

pub slice_bounds-put_kind-end : goal.slice_bounds-put_kind-end
slice_bounds-put_kind-end c = le_refl _

pub returns-in_err-a3 : goal.returns-in_err-a3
returns-in_err-a3 c =
    failed c.from_residual-in_err-a3.ensures.0
    (stop! (s₂ (goal.at.returns-in_err-a3 c).In_ok-a2) c.put_kind.ensures c.in_err-a3.was)

pub overflow_add-b3 : goal.overflow_add-b3
overflow_add-b3 c = fit! (s₃ c) c.well_formed.0.0

pub slice_bounds-put_strings-count : goal.slice_bounds-put_strings-count
slice_bounds-put_strings-count c = in! (s₃ c)

pub slice_bounds-put_strings-start : goal.slice_bounds-put_strings-start
slice_bounds-put_strings-start c = in! (s₃ c)

pub slice_bounds-put_strings-end : goal.slice_bounds-put_strings-end
slice_bounds-put_strings-end c = le_refl _

pub put_strings-requires : goal.put_strings-requires
put_strings-requires c = c.requires.1

pub returns-in_err-a4 : goal.returns-in_err-a4
returns-in_err-a4 c =
    failed c.from_residual-in_err-a4.ensures.0
    (stop! (s₃ (goal.at.returns-in_err-a4 c).In_ok-a3) c.put_strings.ensures c.in_err-a4.was)

pub overflow_add-b4 : goal.overflow_add-b4
overflow_add-b4 c =
    let good = c.well_formed in
    fit! (s₄ c) good.0.0

pub slice_bounds-put_flags-count : goal.slice_bounds-put_flags-count
slice_bounds-put_flags-count c = in! (s₄ c)

pub slice_bounds-put_flags-start : goal.slice_bounds-put_flags-start
slice_bounds-put_flags-start c = in! (s₄ c)

pub slice_bounds-put_flags-end : goal.slice_bounds-put_flags-end
slice_bounds-put_flags-end c = le_refl _

pub put_flags-requires : goal.put_flags-requires
put_flags-requires c =
    let pre = c.requires in
    (omega arith, omega (arith, pre.0))

pub returns-in_err-a5 : goal.returns-in_err-a5
returns-in_err-a5 c =
    failed c.from_residual-in_err-a5.ensures.0
    (stop! (s₄ (goal.at.returns-in_err-a5 c).In_ok-a4) c.put_flags.ensures c.in_err-a5.was)

pub overflow_add-b5 : goal.overflow_add-b5
overflow_add-b5 c =
    let good = c.well_formed in
    fit! (s₅ c) good.0.0

pub slice_bounds-put_flags-count-2 : goal.slice_bounds-put_flags-count-2
slice_bounds-put_flags-count-2 c = in! (s₅ c)

pub slice_bounds-put_flags-start-2 : goal.slice_bounds-put_flags-start-2
slice_bounds-put_flags-start-2 c = in! (s₅ c)

pub slice_bounds-put_flags-end-2 : goal.slice_bounds-put_flags-end-2
slice_bounds-put_flags-end-2 c = le_refl _

pub put_flags-requires-2 : goal.put_flags-requires-2
put_flags-requires-2 c =
    let pre = c.requires in
    (omega arith, omega (arith, pre.0))

pub returns-in_err-a6 : goal.returns-in_err-a6
returns-in_err-a6 c =
    failed c.from_residual-in_err-a6.ensures.0
    (stop! (s₅ (goal.at.returns-in_err-a6 c).In_ok-a5) c.put_flags-2.ensures c.in_err-a6.was)

pub overflow_add-b6 : goal.overflow_add-b6
overflow_add-b6 c =
    fit! (s₆ c) c.well_formed.0.0

pub slice_bounds-put_pref-count : goal.slice_bounds-put_pref-count
slice_bounds-put_pref-count c = in! (s₆ c)

pub slice_bounds-put_pref-start : goal.slice_bounds-put_pref-start
slice_bounds-put_pref-start c = in! (s₆ c)

pub slice_bounds-put_pref-end : goal.slice_bounds-put_pref-end
slice_bounds-put_pref-end c = le_refl _

pub returns-in_err-a7 : goal.returns-in_err-a7
returns-in_err-a7 c =
    failed c.from_residual-in_err-a7.ensures.0
    (stop! (s₆ (goal.at.returns-in_err-a7 c).In_ok-a6) c.put_pref.ensures c.in_err-a7.was)

pub overflow_add-b7 : goal.overflow_add-b7
overflow_add-b7 c =
    fit! (s₇ c) c.well_formed.0.0

pub slice_bounds-put_byte-count-2 : goal.slice_bounds-put_byte-count-2
slice_bounds-put_byte-count-2 c = in! (s₇ c)

pub slice_bounds-put_byte-start-2 : goal.slice_bounds-put_byte-start-2
slice_bounds-put_byte-start-2 c = in! (s₇ c)

pub slice_bounds-put_byte-end-2 : goal.slice_bounds-put_byte-end-2
slice_bounds-put_byte-end-2 c = le_refl _

pub returns-in_err-a8 : goal.returns-in_err-a8
returns-in_err-a8 c =
    failed c.from_residual-in_err-a8.ensures.0
    (stop! (s₇ (goal.at.returns-in_err-a8 c).In_ok-a7) c.put_byte-2.ensures c.in_err-a8.was)

pub overflow_add-b8 : goal.overflow_add-b8
overflow_add-b8 c =
    fit! (s₈ c) c.well_formed.0.0

pub shape_of-out : goal.shape_of-out
shape_of-out c = same! (s₈ c)

pub returns : goal.returns
returns c = all (s₈ c).left
