-- Parameters that have one value each: none but VALUE, and none but DERIVED=TRUE.
use mathlib.Core.Path.{◌≡◌, refl, sym, ap, ◌∙◌}
use mathlib.Core.Bool.{Bool, true, false, ◌&&◌, not}
use mathlib.Core.List.{List, [], ◌∷◌}
use Prim.Native.Nat.{ℕ, zero, suc}
use native.Mathlib.Omega.{arith}
use lib.Dec.{eqb}
use lib.ListN.{length, get_or}
use borrow.Author.Tests.{ne_eqb}
use Rattle.text.specs.Bytes.{Bytes, ascii, empty, all, any, among, same, lowered, flat, keep}
use Rattle.text.proofs.Cases.{by_bool, not-both}
use Rattle.text.proofs.Lists.{all_head, all_tail, all_cons, all_both}
use Rattle.line.specs.Grammar.{Param, param, param_name, param_values}
use Rattle.line.specs.Params.{named, values_named, only_named, lacking, besides_value}
use Rattle.convert.specs.Classify.{is_derived}
use Rattle.line_table.specs.Table.{part, rows_in, line_in, name_at, value_at}
use Rattle.convert_params.specs.Row.{values_kind, Row}
use Rattle.convert_params.proofs.Which.{kind-5}
use Rattle.convert_entry.specs.Rows.{zeros}
use Rattle.convert_entry.proofs.Named.{only-kinds, values-kind, values-besides}
use Rattle.convert_entry.proofs.Tests.{held_one}
use Rattle.class_name_lines.specs.Name.{all_kinds, besides_derived}

-- ---- no parameter

only-empty : (qs : List Param) → only_named [] qs ≡ empty qs
unfolding only_named all among any
only-empty [] = refl
only-empty (p ∷ qs) = refl

pub none-besides : {s : Bytes} {C F T : List ℕ} {ps : List Param} → Row s C F T ps → empty (besides_value ps) ≡ zeros all_kinds C
unfolding all any
none-besides {ps = ps} r = sym (only-empty (besides_value ps)) ∙ only-kinds [] all_kinds refl refl refl ps r

-- ---- one value each

abbrev one : Param → Bool
one p = eqb (length (param_values p)) 1

rows-one : (s : Bytes) (t : List ℕ) (n : ℕ) → all one (rows_in s t n) ≡ true
unfolding rows_in all
rows-one s t zero = refl
rows-one s t (suc n) = all_both one (rows_in s t n) (param (name_at s t n) (value_at s t n ∷ []) ∷ []) (rows-one s t n) refl

keep_all : {A : Type 0} (p q : A → Bool) (xs : List A) → all p xs ≡ true → all p (keep q xs) ≡ true
unfolding keep
keep_all p q [] h = h
keep_all p q (x ∷ xs) h =
    let r = keep_all p q xs (all_tail p x xs h) in
    by_bool (q x) (λ e. rw e (all_cons p x (keep q xs) (all_head p x xs h) r)) (λ e. rw e r)

besides-one : (s : Bytes) (t : List ℕ) → all one (besides_value (line_in s t).params) ≡ true
unfolding line_in besides_value lacking
besides-one s t = keep_all one (λ p. not (named (ascii "value") p)) (rows_in s t (get_or t 6 0)) (rows-one s t (get_or t 6 0))

-- ---- DERIVED=TRUE

abbrev sole_true : List Bytes → Bool
sole_true [] = false
sole_true (v ∷ []) = same (lowered v) (ascii "true")
sole_true (v ∷ (w ∷ ws)) = false

and-false : (a : Bool) → a && false ≡ false
and-false true = refl
and-false false = refl

not-one : {P : Type 0} (p : Param) (qs : List Param) → all one (p ∷ qs) ≡ true → one p ≡ false → P
not-one p qs h e = not-both (all_head one p qs h) e

two : (v w : Bytes) (ws : List Bytes) → eqb (length (v ∷ (w ∷ ws))) 1 ≡ false
two v w ws = ne_eqb (suc (suc (length ws))) 1 (λ e. omega arith)

abbrev is_it : Bytes → Bool
is_it n = same (lowered n) (ascii "derived")

-- two parameters are too many
two-many : (n v m u : Bytes) (qs : List Param)
    → false ≡ only_named (ascii "derived" ∷ []) (param n (v ∷ []) ∷ (param m (u ∷ []) ∷ qs)) && sole_true (values_named (ascii "derived") (param n (v ∷ []) ∷ (param m (u ∷ []) ∷ qs)))
unfolding only_named all among any values_named named keep flat
two-many n v m u qs =
    by_bool (is_it n)
    (λ e. by_bool (is_it m) (λ f. rw (e, f) (sym (and-false (all (λ p. among (lowered (param_name p)) (ascii "derived" ∷ [])) qs)))) (λ f. rw (e, f)))
    (λ e. rw e)

derived-one : (qs : List Param) → all one qs ≡ true → is_derived qs ≡ only_named (ascii "derived" ∷ []) qs && sole_true (values_named (ascii "derived") qs)
unfolding is_derived only_named all among any values_named named keep flat
derived-one [] h = refl
derived-one (param n [] ∷ qs) h = not-one (param n []) qs h refl
derived-one (param n (v ∷ (w ∷ ws)) ∷ qs) h = not-one (param n (v ∷ (w ∷ ws))) qs h (two v w ws)
derived-one (param n (v ∷ []) ∷ []) h = by_bool (is_it n) (λ e. by_bool (same (lowered v) (ascii "true")) (λ f. rw (e, f)) (λ f. rw (e, f))) (λ e. rw e)
derived-one (param n (v ∷ []) ∷ (param m [] ∷ qs)) h = not-one (param m []) qs (all_tail one (param n (v ∷ [])) (param m [] ∷ qs) h) refl
derived-one (param n (v ∷ []) ∷ (param m (u ∷ (w ∷ ws)) ∷ qs)) h =
    not-one (param m (u ∷ (w ∷ ws))) qs (all_tail one (param n (v ∷ [])) (param m (u ∷ (w ∷ ws)) ∷ qs) h) (two u w ws)
derived-one (param n (v ∷ []) ∷ (param m (u ∷ []) ∷ qs)) h = and-false (is_it n && same (lowered v) (ascii "true")) ∙ two-many n v m u qs

not-value : same (ascii "derived") (ascii "value") ≡ false
unfolding same
not-value = refl

-- by the rows that a pass over the parameters left
module _ (s : Bytes) (t : List ℕ) {C F T : List ℕ} (r : Row s C F T (line_in s t).params) where
  abbrev ps : List Param
  ps = (line_in s t).params

  only-derived : only_named (ascii "derived" ∷ []) (besides_value ps) ≡ zeros besides_derived C
  unfolding all any
  only-derived = only-kinds (5 ∷ []) besides_derived refl refl refl ps r

  values-derived : values_named (ascii "derived") (besides_value ps) ≡ values_kind 5 ps
  values-derived = values-besides (ascii "derived") not-value ps ∙ sym (values-kind 5 (ascii "derived") (omega arith) kind-5 refl ps)

  pub derived-is : is_derived (besides_value ps) ≡ zeros besides_derived C && sole_true (values_kind 5 ps)
  derived-is = derived-one (besides_value ps) (besides-one s t) ∙ rw (only-derived, values-derived)

  pub derived-many : (get_or C 5 0 ≡ 1 → ⊥) → is_derived (besides_value ps) ≡ false
  derived-many n =
      derived-is ∙ ap (λ b. zeros besides_derived C && b) (not-sole (values_kind 5 ps) (λ e. n ((r.held 5 (omega arith)).count ∙ e))) ∙ and-false (zeros besides_derived C)
    where
      not-sole : (vs : List Bytes) → (length vs ≡ 1 → ⊥) → sole_true vs ≡ false
      not-sole [] n = refl
      not-sole (v ∷ []) n = absurd (n refl)
      not-sole (v ∷ (w ∷ ws)) n = refl

  pub derived-others : zeros besides_derived C ≡ false → is_derived (besides_value ps) ≡ false
  derived-others e = derived-is ∙ ap (λ b. b && sole_true (values_kind 5 ps)) e

  pub derived-true : get_or C 5 0 ≡ 1 → zeros besides_derived C ≡ true → is_derived (besides_value ps) ≡ same (lowered (part s (get_or F 5 0) (get_or T 5 0))) (ascii "true")
  derived-true n e = derived-is ∙ rw (e, held_one (r.held 5 (omega arith)) n)
