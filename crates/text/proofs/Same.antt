-- Equal bytes: `same` decides equality; membership by it.
use mathlib.Core.Path.{◌≡◌, refl, sym, ap₂, ◌∙◌, subst}
use mathlib.Core.Bool.{true, false, ◌||◌}
use mathlib.Core.List.{List, [], ◌∷◌, ◌++◌}
use lib.Dec.{eqb}
use borrow.Author.Tests.{eqb-true, eq-eqb}
use Rattle.text.specs.Bytes.{Bytes, any, all, same, among}
use Rattle.text.proofs.Cases.{by_bool, and_left, and_right, not-both}

pub same_true : (s t : Bytes) → same s t ≡ true → s ≡ t
unfolding same
same_true [] [] e = refl
same_true [] (y ∷ t) e = not-both refl (sym e)
same_true (x ∷ s) [] e = not-both refl (sym e)
same_true (x ∷ s) (y ∷ t) e = ap₂ ◌∷◌ (eqb-true x y (and_left _ _ e)) (same_true s t (and_right (eqb x y) _ e))

pub same_self : (s : Bytes) → same s s ≡ true
unfolding same
same_self [] = refl
same_self (x ∷ s) = rw (eq-eqb x x refl, same_self s)

pub same-eq : {s t : Bytes} → s ≡ t → same s t ≡ true
same-eq {s} {t} e = rw e (same_self t)

pub same_false : (s t : Bytes) → same s t ≡ false → s ≡ t → ⊥
same_false s t e q = not-both (same-eq q) e

pub differ_same : (s t : Bytes) → (s ≡ t → ⊥) → same s t ≡ false
differ_same s t n = by_bool (same s t) (λ e. absurd (n (same_true s t e))) (λ e. e)

pub same-swap : (s t : Bytes) → same s t ≡ same t s
same-swap s t = by_bool (same s t) (λ e. e ∙ sym (same-eq (sym (same_true s t e)))) (λ e. e ∙ sym (differ_same t s (λ q. same_false s t e (sym q))))

-- ---- among

pub among-head : (s : Bytes) (ss : List Bytes) → among s (s ∷ ss) ≡ true
unfolding among any
among-head s ss = rw (same_self s)

pub among_later : (s t : Bytes) (ss : List Bytes) → among s ss ≡ true → among s (t ∷ ss) ≡ true
unfolding among any
among_later s t ss e = by_bool (same s t) (λ q. rw q) (λ q. rw (q, e))

pub among_none : (s : Bytes) → among s [] ≡ false
unfolding among any
among_none s = refl

pub among-append : (s : Bytes) (ss ts : List Bytes) → among s (ss ++ ts) ≡ among s ss || among s ts
unfolding among any
among-append s [] ts = refl
among-append s (t ∷ ss) ts = by_bool (same s t) (λ e. rw e) (λ e. rw e (among-append s ss ts))

-- every one of these is among those
pub among-all : (ss ts : List Bytes) → ((s : Bytes) → among s ss ≡ true → among s ts ≡ true) → all (λ s. among s ts) ss ≡ true
unfolding all
among-all [] ts h = refl
among-all (s ∷ ss) ts h = rw (h s (among-head s ss)) (among-all ss ts (λ u q. h u (among_later u s ss q)))

-- what holds of each holds of one among them
abbrev pub OfAll : (Bytes → Type 0) → List Bytes → Type 0
OfAll P [] = Unit {0}
OfAll P (s ∷ ss) = P s × OfAll P ss

pub among_of : (P : Bytes → Type 0) (ss : List Bytes) → OfAll P ss → (s : Bytes) → among s ss ≡ true → P s
unfolding among any
among_of P [] h s e = not-both refl (sym e)
among_of P (t ∷ ss) h s e = by_bool (same s t) (λ q. subst P (sym (same_true s t q)) h.0) (λ q. among_of P ss h.1 s (rw q at e))
