-- The bytes of a JSON number's spelling: digits, signs, a point, e or E.
use mathlib.Core.Path.{◌≡◌, refl, subst}
use mathlib.Core.Bool.{Bool, true, false, ◌||◌}
use mathlib.Core.List.{[], ◌∷◌, ◌++◌, tail}
use mathlib.Core.Logic.{◌⊎◌, inl, inr}
use Prim.Native.Nat.{ℕ}
use lib.Dec.{eqb}
use borrow.Author.Tests.{eqb-true}
use Rattle.text.specs.Bytes.{Bytes, is, all, between, is_digit}
use Rattle.text.specs.Reader.{got, bind, under, first}
use Rattle.text.proofs.Lists.{all_cons, all_both, all-imply}
use Rattle.text.proofs.Readers.{got-what, bind_inv, under-inv, on-inv, some-of-inv}
use Rattle.text.proofs.Cases.{or-second}
use Rattle.json_text.specs.Grammar.{is_e}
use Rattle.json_text.specs.Syntax.{opt, digits, int, frac, sign, exp, number}
use Rattle.json_text.proofs.Numbers.{Spelled}

unfoldable pub is_number : ℕ → Bool
is_number c = is_digit c || is_e c || eqb c 43 || eqb c 45 || eqb c 46

abbrev Fits : Bytes → Type 0
Fits x = all is_number x ≡ true

none-fits : Fits []
unfolding all
none-fits = refl

one-fits : (c : ℕ) (x : Bytes) → is_number c ≡ true → Fits x → Fits (c ∷ x)
one-fits = all_cons is_number

digit-fits : (c : ℕ) → is_digit c ≡ true → is_number c ≡ true
unfolding is_number
digit-fits c h = rw h

zero-fits : (c : ℕ) → eqb c 48 ≡ true → is_number c ≡ true
unfolding is_number between
zero-fits c h = rw (eqb-true c 48 h)

e-fits : (c : ℕ) → is_e c ≡ true → is_number c ≡ true
unfolding is_number
e-fits c h = rw (or-second (is_digit c) (is_e c) h)

plus-fits : (c : ℕ) → eqb c 43 ≡ true → is_number c ≡ true
unfolding is_number
plus-fits c h = rw (or-second (is_digit c || is_e c) (eqb c 43) h)

minus-fits : (c : ℕ) → eqb c 45 ≡ true → is_number c ≡ true
unfolding is_number
minus-fits c h = rw (or-second (is_digit c || is_e c || eqb c 43) (eqb c 45) h)

point-fits : (c : ℕ) → eqb c 46 ≡ true → is_number c ≡ true
unfolding is_number
point-fits c h = or-second (is_digit c || is_e c || eqb c 43 || eqb c 45) (eqb c 46) h

-- ---- part by part

digits-fit : (s x t : Bytes) → digits s ≡ got x t → Fits x
unfolding digits between
digits-fit s x t e = let i = some-of-inv is_digit refl s x t e in rw i.2 (all-imply is_digit is_number digit-fits (i.0 ∷ i.1) i.3)

opt-fits : (s x t : Bytes) → opt 45 s ≡ got x t → Fits x
unfolding opt
opt-fits s x t e = by (on-inv (is 45) _ _ s e)
  where
    by : ((eqb (first s) 45 ≡ true) × (got (first s ∷ []) (tail s) ≡ got x t)) ⊎ ((eqb (first s) 45 ≡ false) × (got [] s ≡ got x t)) → Fits x
    by (inl w) = subst Fits (got-what w.1) (one-fits (first s) [] (minus-fits (first s) w.0) none-fits)
    by (inr w) = subst Fits (got-what w.1) none-fits

int-fits : (s x t : Bytes) → int s ≡ got x t → Fits x
unfolding int
int-fits s x t e = by (on-inv (is 48) _ _ s e)
  where
    by : ((eqb (first s) 48 ≡ true) × (got (first s ∷ []) (tail s) ≡ got x t)) ⊎ ((eqb (first s) 48 ≡ false) × (digits s ≡ got x t)) → Fits x
    by (inl w) = subst Fits (got-what w.1) (one-fits (first s) [] (zero-fits (first s) w.0) none-fits)
    by (inr w) = digits-fit s x t w.1

frac-fits : (s x t : Bytes) → frac s ≡ got x t → Fits x
unfolding frac
frac-fits s x t e = by (on-inv (is 46) _ _ s e)
  where
    by : ((eqb (first s) 46 ≡ true) × (under (λ ds. first s ∷ ds) (digits (tail s)) ≡ got x t)) ⊎ ((eqb (first s) 46 ≡ false) × (got [] s ≡ got x t)) → Fits x
    by (inl w) =
        let i = under-inv (λ ds. first s ∷ ds) (digits (tail s)) w.1 in
        subst Fits i.2 (one-fits (first s) i.0 (point-fits (first s) w.0) (digits-fit (tail s) i.0 t i.1))
    by (inr w) = subst Fits (got-what w.1) none-fits

sign_fits : (s x t : Bytes) → sign s ≡ got x t → Fits x
unfolding sign
sign_fits s x t e = by (on-inv (is 43) _ _ s e)
  where
    by : ((eqb (first s) 43 ≡ true) × (got (first s ∷ []) (tail s) ≡ got x t)) ⊎ ((eqb (first s) 43 ≡ false) × (opt 45 s ≡ got x t)) → Fits x
    by (inl w) = subst Fits (got-what w.1) (one-fits (first s) [] (plus-fits (first s) w.0) none-fits)
    by (inr w) = opt-fits s x t w.1

exp-fits : (s x t : Bytes) → exp s ≡ got x t → Fits x
unfolding exp
exp-fits s x t e = by (on-inv is_e _ _ s e)
  where
    by : ((is_e (first s) ≡ true) × (bind (sign (tail s)) (λ g t. bind (digits t) λ ds t. got (first s ∷ (g ++ ds)) t) ≡ got x t)) ⊎ ((is_e (first s) ≡ false) × (got [] s ≡ got x t)) → Fits x
    by (inl w) =
        let i = bind_inv (sign (tail s)) _ w.1 in
        let j = bind_inv (digits i.1) _ i.3 in
        subst Fits (got-what j.3) (one-fits (first s) (i.0 ++ j.0) (e-fits (first s) w.0) (all_both is_number i.0 j.0 (sign_fits (tail s) i.0 i.1 i.2) (digits-fit i.1 j.0 j.1 j.2)))
    by (inr w) = subst Fits (got-what w.1) none-fits

pub number_fits : (x : Bytes) → Spelled x → all is_number x ≡ true
unfolding number
number_fits x m =
    let i = bind_inv (opt 45 m.0) _ m.2 in
    let j = bind_inv (int i.1) _ i.3 in
    let k = bind_inv (frac j.1) _ j.3 in
    let l = bind_inv (exp k.1) _ k.3 in
    subst Fits (got-what l.3)
    (all_both is_number (i.0 ++ j.0 ++ k.0) l.0
    (all_both is_number (i.0 ++ j.0) k.0 (all_both is_number i.0 j.0 (opt-fits m.0 i.0 i.1 i.2) (int-fits i.1 j.0 j.1 j.2)) (frac-fits j.1 k.0 k.1 k.2))
    (exp-fits k.1 l.0 l.1 l.2))
