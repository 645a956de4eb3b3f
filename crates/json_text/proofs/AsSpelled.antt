-- What a number is read as is what stands there: its spelling, and then the rest.
use mathlib.Core.Path.{◌≡◌, refl, sym, ap, ◌∙◌}
use mathlib.Core.Bool.{Bool, true, false}
use mathlib.Core.List.{[], ◌∷◌, ◌++◌, tail, append_assoc}
use mathlib.Core.Logic.{◌⊎◌, inl, inr}
use Prim.Native.Nat.{ℕ, zero, suc}
use native.Mathlib.Omega.{arith}
use lib.Dec.{eqb}
use Rattle.text.specs.Bytes.{Bytes, is, is_digit}
use Rattle.text.specs.Reader.{Got, got, bad, bind, under, first, on, when, taken, past, some_of}
use Rattle.text.proofs.Cases.{by_bool}
use Rattle.text.proofs.Readers.{not-bad, got-what, got-rest, bind_inv, under-inv, on-inv, when-inv}
use Rattle.json_text.specs.Grammar.{is_e}
use Rattle.json_text.specs.Tree.{jnull, jtrue, jfalse, jnum, jstr, jarr, jobj}
use Rattle.json_text.specs.Syntax.{skip, characters, opt, digits, int, frac, sign, exp, number, four, scalar, elements, pairs, value}
use Rattle.json_text.proofs.Fine.{e-256}
use Rattle.json_text.proofs.Scalars.{four-inv}

abbrev Copies : (Bytes → Got Bytes) → Type 0
Copies R = (s x t : Bytes) → R s ≡ got x t → s ≡ x ++ t

-- ---- one law for each way of reading

first_tail : (p : ℕ → Bool) → p 256 ≡ false → (s : Bytes) → p (first s) ≡ true → s ≡ first s ∷ tail s
first_tail p z [] h = let r : ◌≡◌ {A = ℕ} 0 1 = cc in absurd (omega arith)
first_tail p z (c ∷ s) h = refl

copies-on : (p : ℕ → Bool) (f : ℕ → Bytes → Got Bytes) (g : Bytes → Got Bytes) → p 256 ≡ false
    → ((c : ℕ) (s x t : Bytes) → f c s ≡ got x t → c ∷ s ≡ x ++ t) → Copies g → Copies (on p f g)
copies-on p f g z h k s x t e = by (on-inv p f g s e)
  where
    by : ((p (first s) ≡ true) × (f (first s) (tail s) ≡ got x t)) ⊎ ((p (first s) ≡ false) × (g s ≡ got x t)) → s ≡ x ++ t
    by (inl q) = first_tail p z s q.0 ∙ h (first s) (tail s) x t q.1
    by (inr q) = k s x t q.1

copies-none : Copies (got [])
copies-none s x t e = got-rest e ∙ ap (λ (y : Bytes). y ++ t) (got-what e)

-- the byte alone; the byte and what a reader reads after it
one_byte : (c : ℕ) (s x t : Bytes) → got (c ∷ []) s ≡ got x t → c ∷ s ≡ x ++ t
one_byte c s x t e = ap (λ (y : Bytes). c ∷ y) (got-rest e) ∙ ap (λ (y : Bytes). y ++ t) (got-what e)

byte-then : (R : Bytes → Got Bytes) → Copies R → (c : ℕ) (s x t : Bytes) → under (λ ds. c ∷ ds) (R s) ≡ got x t → c ∷ s ≡ x ++ t
byte-then R h c s x t e =
    let i = under-inv (λ (ds : Bytes). c ∷ ds) (R s) e in
    ap (λ (y : Bytes). c ∷ y) (h s i.0 t i.1) ∙ ap (λ (y : Bytes). y ++ t) i.2

taken-past : (p : ℕ → Bool) (s : Bytes) → s ≡ taken p s ++ past p s
unfolding taken past
taken-past p [] = refl
taken-past p (c ∷ s) = by_bool (p c) (λ e. rw e (ap (λ (y : Bytes). c ∷ y) (taken-past p s))) (λ e. rw e)

-- one after the other
further : {s u : Bytes} (x y v : Bytes) → s ≡ x ++ u → u ≡ y ++ v → s ≡ (x ++ y) ++ v
further x y v e f = e ∙ ap (λ (z : Bytes). x ++ z) f ∙ sym (append_assoc x y v)

-- ---- numbers

copies-digits : Copies digits
unfolding digits some_of
copies-digits s x t e = by (when-inv is_digit _ bad s e)
  where
    by : ((is_digit (first s) ≡ true) × (got (taken is_digit s) (past is_digit s) ≡ got x t)) ⊎ ((is_digit (first s) ≡ false) × (bad s ≡ got x t)) → s ≡ x ++ t
    by (inl q) = taken-past is_digit s ∙ ap (λ (y : Bytes). y ++ past is_digit s) (got-what q.1) ∙ ap (λ (y : Bytes). x ++ y) (got-rest q.1)
    by (inr q) = absurd (not-bad q.1)

copies-opt : (b : ℕ) → eqb 256 b ≡ false → Copies (opt b)
unfolding opt
copies-opt b z = copies-on (is b) _ _ z one_byte copies-none

copies-int : Copies int
unfolding int
copies-int = copies-on (is 48) _ _ refl one_byte copies-digits

copies-frac : Copies frac
unfolding frac
copies-frac = copies-on (is 46) _ _ refl (byte-then digits copies-digits) copies-none

copies-sign : Copies sign
unfolding sign
copies-sign = copies-on (is 43) _ _ refl one_byte (copies-opt 45 refl)

copies-exp : Copies exp
unfolding exp
copies-exp = copies-on is_e _ _ e-256 power copies-none
  where
    power : (c : ℕ) (s x t : Bytes) → bind (sign s) (λ g t. bind (digits t) λ ds t. got (c ∷ (g ++ ds)) t) ≡ got x t → c ∷ s ≡ x ++ t
    power c s x t e =
        let i = bind_inv (sign s) _ e in
        let j = bind_inv (digits i.1) _ i.3 in
        ap (λ (y : Bytes). c ∷ y) (further i.0 j.0 j.1 (copies-sign s i.0 i.1 i.2) (copies-digits i.1 j.0 j.1 j.2))
        ∙ ap (λ (y : Bytes). c ∷ ((i.0 ++ j.0) ++ y)) (got-rest j.3) ∙ ap (λ (y : Bytes). y ++ t) (got-what j.3)

copies-number : Copies number
unfolding number
copies-number s x t e =
    let i = bind_inv (opt 45 s) _ e in
    let j = bind_inv (int i.1) _ i.3 in
    let k = bind_inv (frac j.1) _ j.3 in
    let l = bind_inv (exp k.1) _ k.3 in
    let m : s ≡ (i.0 ++ j.0) ++ j.1 = further i.0 j.0 j.1 (copies-opt 45 refl s i.0 i.1 i.2) (copies-int i.1 j.0 j.1 j.2) in
    let n : s ≡ ((i.0 ++ j.0) ++ k.0) ++ k.1 = further (i.0 ++ j.0) k.0 k.1 m (copies-frac j.1 k.0 k.1 k.2) in
    further ((i.0 ++ j.0) ++ k.0) l.0 l.1 n (copies-exp k.1 l.0 l.1 l.2) ∙ ap (λ (y : Bytes). (((i.0 ++ j.0) ++ k.0) ++ l.0) ++ y) (got-rest l.3) ∙ ap (λ (y : Bytes). y ++ t) (got-what l.3)

-- ---- a value that is a number

module _ (x t : Bytes) where
  scalar-number : (s : Bytes) → scalar s ≡ got (jnum x) t → number s ≡ got x t
  unfolding scalar
  scalar-number s e = by (on-inv (is 34) _ _ s e)
    where
      by₄ : ((eqb (first s) 110 ≡ true) × (four 110 117 108 108 jnull s ≡ got (jnum x) t)) ⊎ ((eqb (first s) 110 ≡ false) × (under jnum (number s) ≡ got (jnum x) t)) → number s ≡ got x t
      by₄ (inl q) = let z = four-inv 110 117 108 108 jnull s (jnum x) t q.1 in let r : ◌≡◌ {A = ℕ} 0 1 = cc in absurd (omega arith)
      by₄ (inr q) = let i = under-inv jnum (number s) q.1 in i.1 ∙ ap (λ (y : Bytes). got y t) (num-same i.2)
        where
          num-same : {a b : Bytes} → jnum a ≡ jnum b → a ≡ b
          num-same f = cc

      by₃ : ((eqb (first s) 102 ≡ true) × (four 97 108 115 101 jfalse (tail s) ≡ got (jnum x) t)) ⊎ ((eqb (first s) 102 ≡ false) × (when (is 110) (four 110 117 108 108 jnull) (λ t. under jnum (number t)) s ≡ got (jnum x) t)) → number s ≡ got x t
      by₃ (inl q) = let z = four-inv 97 108 115 101 jfalse (tail s) (jnum x) t q.1 in let r : ◌≡◌ {A = ℕ} 0 1 = cc in absurd (omega arith)
      by₃ (inr q) = by₄ (when-inv (is 110) _ _ s q.1)

      by₂ : ((eqb (first s) 116 ≡ true) × (four 116 114 117 101 jtrue s ≡ got (jnum x) t)) ⊎ ((eqb (first s) 116 ≡ false) × (on (is 102) (λ c t. four 97 108 115 101 jfalse t) (when (is 110) (four 110 117 108 108 jnull) (λ t. under jnum (number t))) s ≡ got (jnum x) t)) → number s ≡ got x t
      by₂ (inl q) = let z = four-inv 116 114 117 101 jtrue s (jnum x) t q.1 in let r : ◌≡◌ {A = ℕ} 0 1 = cc in absurd (omega arith)
      by₂ (inr q) = by₃ (on-inv (is 102) _ _ s q.1)

      by : ((eqb (first s) 34 ≡ true) × (under jstr (characters (tail s)) ≡ got (jnum x) t)) ⊎ ((eqb (first s) 34 ≡ false) × (when (is 116) (four 116 114 117 101 jtrue) (on (is 102) (λ c t. four 97 108 115 101 jfalse t) (when (is 110) (four 110 117 108 108 jnull) (λ t. under jnum (number t)))) s ≡ got (jnum x) t)) → number s ≡ got x t
      by (inl q) = let z = (under-inv jstr (characters (tail s)) q.1).2 in let r : ◌≡◌ {A = ℕ} 0 1 = cc in absurd (omega arith)
      by (inr q) = by₂ (when-inv (is 116) _ _ s q.1)

  -- after white space, its spelling and then the rest
  pub number_spelled : (d : ℕ) (s : Bytes) → value d s ≡ got (jnum x) t → skip s ≡ x ++ t
  unfolding value
  number_spelled zero s e = copies-number (skip s) x t (scalar-number (skip s) e)
  number_spelled (suc d) s e = by (on-inv (is 91) _ _ (skip s) e)
    where
      by₂ : ((eqb (first (skip s)) 123 ≡ true) × (under jobj (pairs (value d) (tail (skip s))) ≡ got (jnum x) t)) ⊎ ((eqb (first (skip s)) 123 ≡ false) × (scalar (skip s) ≡ got (jnum x) t)) → skip s ≡ x ++ t
      by₂ (inl q) = let z = (under-inv jobj (pairs (value d) (tail (skip s))) q.1).2 in let r : ◌≡◌ {A = ℕ} 0 1 = cc in absurd (omega arith)
      by₂ (inr q) = copies-number (skip s) x t (scalar-number (skip s) q.1)

      by : ((eqb (first (skip s)) 91 ≡ true) × (under jarr (elements (value d) (tail (skip s))) ≡ got (jnum x) t)) ⊎ ((eqb (first (skip s)) 91 ≡ false) × (on (is 123) (λ c t. under jobj (pairs (value d) t)) scalar (skip s) ≡ got (jnum x) t)) → skip s ≡ x ++ t
      by (inl q) = let z = (under-inv jarr (elements (value d) (tail (skip s))) q.1).2 in let r : ◌≡◌ {A = ℕ} 0 1 = cc in absurd (omega arith)
      by (inr q) = by₂ (on-inv (is 123) _ _ (skip s) q.1)
