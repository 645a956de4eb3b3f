-- The kind of a value, by its first byte.
use mathlib.Core.Path.{◌≡◌, sym, ap, ◌∙◌}
use Prim.Native.Nat.{ℕ, suc, ◌+◌, ◌-◌}
use native.Mathlib.Omega.{arith}
use lib.ListN.{drop}
use borrow.Author.Tests.{eq-eqb, ne_eqb}
use Rattle.text.specs.Bytes.{Bytes, is}
use Rattle.text.specs.Reader.{got, under, when, one}
use Rattle.text.specs.Places.{byte_at, Passes}
use Rattle.text.proofs.Places.{on-yes, on-no, when-yes, when-no}
use Rattle.text.proofs.Fine.{got-what, bind_inv, under-inv}
use Rattle.json_text.specs.Grammar.{is_space}
use Rattle.json_text.specs.Tree.{Json, jnull, jtrue, jfalse, jnum, jstr, jarr, jobj}
use Rattle.json_text.specs.Syntax.{characters, number, four, scalar, elements, pairs, value}
use Rattle.json_scan.proofs.First.{as-scalar, as-array, as-object}
use Rattle.json_access.specs.declared.Kind.TheVariants.{Null, True, False, Number, String, Array, Object}
use Rattle.json_access.specs.Access.{kind_of, TellsKind}

four_is : (a b c d : ℕ) (j k : Json) (s t : Bytes) → four a b c d j s ≡ got k t → j ≡ k
unfolding four
four_is a b c d j k s t e =
    let p = bind_inv (one a s) _ e in
    let q = bind_inv (one b p.1) _ p.3 in
    let r = bind_inv (one c q.1) _ q.3 in
    let u = bind_inv (one d r.1) _ r.3 in
    got-what u.3

module _ (s : Bytes) (at i b : ℕ) (h : Passes is_space s at i) (e : b ≡ byte_at s i) where
  pub is-array : b ≡ 91 → TellsKind s at Array
  is-array q d j t x =
      let n : (suc d ≡ 0 → ⊥) = λ z. omega arith in
      ap kind_of (under-inv jarr (elements (value (suc d - 1)) (drop (i + 1) s)) (sym (as-array s i b e at h (suc d) n q) ∙ x)).2

  module _ (m : b ≡ 91 → ⊥) where
    pub is-object : b ≡ 123 → TellsKind s at Object
    is-object q d j t x =
        let n : (suc d ≡ 0 → ⊥) = λ z. omega arith in
        ap kind_of (under-inv jobj (pairs (value (suc d - 1)) (drop (i + 1) s)) (sym (as-object s i b e at h (suc d) n m q) ∙ x)).2

    module _ (o : b ≡ 123 → ⊥) where
      pub is-string : b ≡ 34 → TellsKind s at String
      unfolding scalar
      is-string q d j t x =
          ap kind_of (under-inv jstr (characters (drop (i + 1) s)) (sym (on-yes (is 34) s i b e _ _ (eq-eqb _ _ q)) ∙ sym (as-scalar s i b e at h (suc d) m o) ∙ x)).2

      module _ (n₁ : b ≡ 34 → ⊥) where
        pub is_true : b ≡ 116 → TellsKind s at True
        unfolding scalar
        is_true q d j t x =
            let y = sym (on-no (is 34) s i b e _ _ (ne_eqb _ _ n₁)) ∙ sym (as-scalar s i b e at h (suc d) m o) ∙ x in
            ap kind_of (four_is 116 114 117 101 jtrue j (drop i s) t (sym (when-yes (is 116) s i b e _ _ (eq-eqb _ _ q)) ∙ y))

        module _ (n₂ : b ≡ 116 → ⊥) where
          pub is_false : b ≡ 102 → TellsKind s at False
          unfolding scalar
          is_false q d j t x =
              let y = sym (when-no (is 116) s i b e _ _ (ne_eqb _ _ n₂)) ∙ sym (on-no (is 34) s i b e _ _ (ne_eqb _ _ n₁)) ∙ sym (as-scalar s i b e at h (suc d) m o) ∙ x in
              ap kind_of (four_is 97 108 115 101 jfalse j (drop (i + 1) s) t (sym (on-yes (is 102) s i b e _ _ (eq-eqb _ _ q)) ∙ y))

          module _ (n₃ : b ≡ 102 → ⊥) where
            rest : (d : ℕ) (j : Json) (t : Bytes) → value (suc d) (drop at s) ≡ got j t → when (is 110) (four 110 117 108 108 jnull) (λ t. under jnum (number t)) (drop i s) ≡ got j t
            unfolding scalar
            rest d j t x =
                sym (on-no (is 102) s i b e _ _ (ne_eqb _ _ n₃)) ∙ sym (when-no (is 116) s i b e _ _ (ne_eqb _ _ n₂)) ∙ sym (on-no (is 34) s i b e _ _ (ne_eqb _ _ n₁)) ∙ sym (as-scalar s i b e at h (suc d) m o) ∙ x

            pub is-null : b ≡ 110 → TellsKind s at Null
            is-null q d j t x = ap kind_of (four_is 110 117 108 108 jnull j (drop i s) t (sym (when-yes (is 110) s i b e _ _ (eq-eqb _ _ q)) ∙ rest d j t x))

            pub is_number : (b ≡ 110 → ⊥) → TellsKind s at Number
            is_number n d j t x = ap kind_of (under-inv jnum (number (drop i s)) (sym (when-no (is 110) s i b e _ _ (ne_eqb _ _ n)) ∙ rest d j t x)).2
