-- A value of a JSON text is squeezed to its tree's compact text.
use mathlib.Core.Path.{◌≡◌, refl, sym, ap, subst, ◌∙◌}
use mathlib.Core.Bool.{true, false}
use mathlib.Core.List.{[], ◌∷◌, ◌++◌, tail, append_assoc}
use mathlib.Core.Logic.{◌⊎◌, inl, inr}
use mathlib.Core.Option.{Option, some}
use Prim.Native.Nat.{ℕ, zero, suc}
use lib.ListN.{length}
use lib.Dec.{eqb}
use borrow.Author.Tests.{eqb-true}
use Rattle.text.specs.Bytes.{Bytes, is, between}
use Rattle.text.specs.Reader.{Got, got, bad, under, first, on, when, Step, more, last, after, turns, loop, one}
use Rattle.text.proofs.Cases.{not-both}
use Rattle.text.proofs.Choices.{some_same, map-inv}
use Rattle.text.proofs.Readers.{not-bad, not_last, got-rest, got-what, bind_inv, under-inv, on-inv, when-inv}
use Rattle.json_text.specs.Grammar.{is_space}
use Rattle.json_text.specs.Tree.{Json, jnull, jtrue, jfalse, jnum, jstr}
use Rattle.json_text.specs.Syntax.{skip, token, characters, number, four, scalar, sep, name}
use Rattle.json_text.specs.Strings.{decode, decoded}
use Rattle.json_text.specs.Compact.{spelled_all, quoted, written}
use Rattle.json_compact.specs.Squeezed.{in_quotes, squeezed}
use Rattle.json_compact.proofs.Firsts.{string-first, squeezed-skip}
use Rattle.json_compact.proofs.Copied.{Copied, plain, copied_is, copied-skip, copies-number, copied-one, copied-four}

-- from s, the tree of j is written, if it has one, and then what is written from t
pub record Tied (s : Bytes) (j : Json) (t : Bytes) : Type 0 where
  pub so : (k : Json) → decoded j ≡ some k → (r : Bytes) → squeezed t ≡ r → squeezed s ≡ written k r

-- ---- strings and names

quoted-from : (s us t v r : Bytes) → eqb (first s) 34 ≡ true → characters (tail s) ≡ got us t → decode us ≡ some v → squeezed t ≡ r → squeezed s ≡ quoted v r
unfolding quoted
quoted-from [] us t v r h e d q = not-both h refl
quoted-from (c ∷ s) us t v r h e d q =
    ap (λ (x : ℕ). squeezed (x ∷ s)) (eqb-true c 34 h) ∙ string-first s us t e ∙ ap (λ (w : Option Bytes). in_quotes w ++ squeezed t) d
    ∙ ap (λ (y : Bytes). in_quotes (some v) ++ y) q ∙ ap (λ (x : Bytes). 34 ∷ x) (append_assoc (spelled_all v) (34 ∷ []) r)

one-inv : (b : ℕ) (s : Bytes) (x : ℕ) (t : Bytes) → one b s ≡ got x t → (eqb (first s) b ≡ true) × (tail s ≡ t)
unfolding one
one-inv b s x t e = by (on-inv (is b) got bad s e)
  where
    by : ((eqb (first s) b ≡ true) × (got (first s) (tail s) ≡ got x t)) ⊎ ((eqb (first s) b ≡ false) × (bad s ≡ got x t)) → (eqb (first s) b ≡ true) × (tail s ≡ t)
    by (inl q) = (q.0, got-rest q.1)
    by (inr q) = absurd (not-bad q.1)

pub plain-marks : (plain 58 ≡ true) × (plain 44 ≡ true) × (plain 93 ≡ true) × (plain 125 ≡ true) × (plain 91 ≡ true) × (plain 123 ≡ true) × (plain 102 ≡ true)
unfolding is_space between
plain-marks = (refl, refl, refl, refl, refl, refl, refl)

pub named : (s k t : Bytes) → name s ≡ got k t → (v r : Bytes) → decode k ≡ some v → squeezed t ≡ r → squeezed s ≡ quoted v (58 ∷ r)
unfolding name token
named s k t e v r d q =
    let i = bind_inv (token 34 s) _ e in
    let j = bind_inv (characters i.1) _ i.3 in
    let l = bind_inv (token 58 j.1) _ j.3 in
    let c = copied-skip j.1 (58 ∷ []) t (copied-one 58 plain-marks.0 (skip j.1) l.0 t (l.2 ∙ ap (got l.0) (got-rest l.3))) in
    let o = one-inv 34 (skip s) i.0 i.1 i.2 in
    sym (squeezed-skip s) ∙ quoted-from (skip s) k j.1 v (58 ∷ r) o.0 (ap characters o.1 ∙ j.2 ∙ ap (λ (x : Bytes). got x j.1) (got-what l.3)) d (c.so r q)

-- ---- scalars

tied-string : (s us t : Bytes) → eqb (first s) 34 ≡ true → characters (tail s) ≡ got us t → Tied s (jstr us) t
unfolding decoded written
tied-string s us t h e = record {
  so = λ k d r q.
      let i = map-inv jstr (decode us) d in
      quoted-from s us t i.0 r h e i.1 q ∙ ap (λ (x : Json). written x r) i.2;
}

tied-number : (s x t : Bytes) → Copied s x t → Tied s (jnum x) t
unfolding decoded written
tied-number s x t h = record { so = λ k d r q. h.so r q ∙ ap (λ (x : Json). written x r) (some_same d) }

tied-true : (s t : Bytes) → Copied s (116 ∷ 114 ∷ 117 ∷ 101 ∷ []) t → Tied s jtrue t
unfolding decoded written
tied-true s t h = record { so = λ k d r q. h.so r q ∙ ap (λ (x : Json). written x r) (some_same d) }

tied-null : (s t : Bytes) → Copied s (110 ∷ 117 ∷ 108 ∷ 108 ∷ []) t → Tied s jnull t
unfolding decoded written
tied-null s t h = record { so = λ k d r q. h.so r q ∙ ap (λ (x : Json). written x r) (some_same d) }

tied-false : (s u t : Bytes) → Copied s (102 ∷ []) u → Copied u (97 ∷ 108 ∷ 115 ∷ 101 ∷ []) t → Tied s jfalse t
unfolding decoded written
tied-false s u t h c = record { so = λ k d r q. h.so _ (c.so r q) ∙ ap (λ (x : Json). written x r) (some_same d) }

module _ (s : Bytes) (u : Json) (t : Bytes) where
  read-true : four 116 114 117 101 jtrue s ≡ got u t → Tied s u t
  unfolding is_space between
  read-true e = let f = copied-four 116 114 117 101 refl refl refl refl jtrue s u t e in subst (λ (x : Json). Tied s x t) f.0 (tied-true s t f.1)

  read-null : four 110 117 108 108 jnull s ≡ got u t → Tied s u t
  unfolding is_space between
  read-null e = let f = copied-four 110 117 108 108 refl refl refl refl jnull s u t e in subst (λ (x : Json). Tied s x t) f.0 (tied-null s t f.1)

  read-false : eqb (first s) 102 ≡ true → four 97 108 115 101 jfalse (tail s) ≡ got u t → Tied s u t
  unfolding is_space between
  read-false h e =
      let f = copied-four 97 108 115 101 refl refl refl refl jfalse (tail s) u t e in
      subst (λ (x : Json). Tied s x t) f.0 (tied-false s (tail s) t (copied_is 102 plain-marks.6 s h) f.1)

  by-null : ((eqb (first s) 110 ≡ true) × (four 110 117 108 108 jnull s ≡ got u t)) ⊎ ((eqb (first s) 110 ≡ false) × (under jnum (number s) ≡ got u t)) → Tied s u t
  by-null (inl w) = read-null w.1
  by-null (inr w) = let i = under-inv jnum (number s) w.1 in subst (λ (x : Json). Tied s x t) i.2 (tied-number s i.0 t (copies-number s i.0 t i.1))

  by-false : ((eqb (first s) 102 ≡ true) × (four 97 108 115 101 jfalse (tail s) ≡ got u t)) ⊎ ((eqb (first s) 102 ≡ false) × (when (is 110) (four 110 117 108 108 jnull) (λ t. under jnum (number t)) s ≡ got u t)) → Tied s u t
  by-false (inl w) = read-false w.0 w.1
  by-false (inr w) = by-null (when-inv (is 110) _ _ s w.1)

  by-true : ((eqb (first s) 116 ≡ true) × (four 116 114 117 101 jtrue s ≡ got u t))
      ⊎ ((eqb (first s) 116 ≡ false) × (on (is 102) (λ c t. four 97 108 115 101 jfalse t) (when (is 110) (four 110 117 108 108 jnull) (λ t. under jnum (number t))) s ≡ got u t)) → Tied s u t
  by-true (inl w) = read-true w.1
  by-true (inr w) = by-false (on-inv (is 102) _ _ s w.1)

  by-string : ((eqb (first s) 34 ≡ true) × (under jstr (characters (tail s)) ≡ got u t))
      ⊎ ((eqb (first s) 34 ≡ false) × (when (is 116) (four 116 114 117 101 jtrue) (on (is 102) (λ c t. four 97 108 115 101 jfalse t) (when (is 110) (four 110 117 108 108 jnull) (λ t. under jnum (number t)))) s ≡ got u t)) → Tied s u t
  by-string (inl w) = let i = under-inv jstr (characters (tail s)) w.1 in subst (λ (x : Json). Tied s x t) i.2 (tied-string s i.0 t w.0 i.1)
  by-string (inr w) = by-true (when-inv (is 116) _ _ s w.1)

  pub scalar-tied : scalar s ≡ got u t → Tied s u t
  unfolding scalar
  scalar-tied e = by-string (on-inv (is 34) _ _ s e)

-- ---- turns

module _ {B : Type 0} (f : Bytes → Got (Step B)) (P : Bytes → B → Bytes → Type 0) (at_last : (s : Bytes) (b : B) (t : Bytes) → f s ≡ got (last b) t → P s b t)
    (at_more : (s : Bytes) (g : B → B) (u : Bytes) (b : B) (t : Bytes) → f s ≡ got (more g) u → P u b t → P s (g b) t) where
  after_holds : (n : ℕ) (s : Bytes) (w : Step B) (u : Bytes) (b : B) (t : Bytes) → f s ≡ got w u → ((c : B) → turns f n u ≡ got c t → P u c t) → after w u (turns f n) ≡ got b t → P s b t
  after_holds n s (more g) u b t q r e = let i = under-inv g (turns f n u) e in subst (λ (x : B). P s x t) i.2 (at_more s g u i.0 t q (r i.0 i.1))
  after_holds n s (last x) u b t q r e = at_last s b t (q ∙ ap (λ (y : B). got (last y) u) (got-what e) ∙ ap (got (last b)) (got-rest e))

  turns-hold : (n : ℕ) (s : Bytes) (b : B) (t : Bytes) → turns f n s ≡ got b t → P s b t
  unfolding turns
  turns-hold zero s b t e = absurd (not-bad e)
  turns-hold (suc n) s b t e =
      let i = bind_inv (f s) (λ w t. after w t (turns f n)) e in
      after_holds n s i.0 i.1 b t i.2 (λ c q. turns-hold n i.1 c t q) i.3

  pub loop-holds : (s : Bytes) (b : B) (t : Bytes) → loop f s ≡ got b t → P s b t
  unfolding loop
  loop-holds s b t e = turns-hold (suc (length s)) s b t e

last-same : {B : Type 0} {a b : B} {s t : Bytes} → got (last a) s ≡ got (last b) t → a ≡ b
last-same e = cc

more_same : {B : Type 0} {f g : B → B} {s t : Bytes} → got (more f) s ≡ got (more g) t → f ≡ g
more_same e = cc

module _ {B : Type 0} (close : ℕ) (pl : plain close ≡ true) (b : B) (g : B → B) (s : Bytes) where
  pub sep-last : (c : B) (t : Bytes) → sep close b g s ≡ got (last c) t → (b ≡ c) × Copied s (close ∷ []) t
  unfolding sep
  sep-last c t e = by (on-inv (is close) _ _ (skip s) e)
    where
      by₁ : ((eqb (first (skip s)) 44 ≡ true) × (got (more g) (tail (skip s)) ≡ got (last c) t)) ⊎ ((eqb (first (skip s)) 44 ≡ false) × (bad (skip s) ≡ got (last c) t)) → (b ≡ c) × Copied s (close ∷ []) t
      by₁ (inl q) = absurd (not_last (sym q.1))
      by₁ (inr q) = absurd (not-bad q.1)

      by : ((eqb (first (skip s)) close ≡ true) × (got (last b) (tail (skip s)) ≡ got (last c) t)) ⊎ ((eqb (first (skip s)) close ≡ false) × (on (is 44) (λ c t. got (more g) t) bad (skip s) ≡ got (last c) t)) → (b ≡ c) × Copied s (close ∷ []) t
      by (inl q) = (last-same q.1, copied-skip s (close ∷ []) t (subst (λ (z : Bytes). Copied (skip s) (close ∷ []) z) (got-rest q.1) (copied_is close pl (skip s) q.0)))
      by (inr q) = by₁ (on-inv (is 44) _ _ (skip s) q.1)

  pub sep-more : (h : B → B) (t : Bytes) → sep close b g s ≡ got (more h) t → (g ≡ h) × Copied s (44 ∷ []) t
  unfolding sep
  sep-more h t e = by (on-inv (is close) _ _ (skip s) e)
    where
      by₁ : ((eqb (first (skip s)) 44 ≡ true) × (got (more g) (tail (skip s)) ≡ got (more h) t)) ⊎ ((eqb (first (skip s)) 44 ≡ false) × (bad (skip s) ≡ got (more h) t)) → (g ≡ h) × Copied s (44 ∷ []) t
      by₁ (inl q) = (more_same q.1, copied-skip s (44 ∷ []) t (subst (λ (z : Bytes). Copied (skip s) (44 ∷ []) z) (got-rest q.1) (copied_is 44 plain-marks.1 (skip s) q.0)))
      by₁ (inr q) = absurd (not-bad q.1)

      by : ((eqb (first (skip s)) close ≡ true) × (got (last b) (tail (skip s)) ≡ got (more h) t)) ⊎ ((eqb (first (skip s)) close ≡ false) × (on (is 44) (λ c t. got (more g) t) bad (skip s) ≡ got (more h) t)) → (g ≡ h) × Copied s (44 ∷ []) t
      by (inl q) = absurd (not_last q.1)
      by (inr q) = by₁ (on-inv (is 44) _ _ (skip s) q.1)
