-- Every number of the grammar is read, before what cannot go on with it.
use mathlib.Core.Path.{◌≡◌, refl, sym, ap, subst, ◌∙◌}
use mathlib.Core.Bool.{true, false, not}
use mathlib.Core.List.{[], ◌∷◌, ◌++◌, append_assoc}
use mathlib.Core.Logic.{◌⊎◌, inl, inr}
use Prim.Native.Nat.{ℕ}
use lib.Dec.{eqb}
use Rattle.text.specs.Bytes.{Bytes, is, between, is_digit}
use Rattle.text.specs.Reader.{got, bind, under, first}
use Rattle.text.proofs.Cases.{by_bool, not-both, not-true, implied, other, tests, beyond}
use Rattle.text.proofs.Lists.{all_cons}
use Rattle.text.proofs.Readers.{some-of-run}
use Rattle.json_text.specs.Grammar.{One, Maybe, Many, is_e, is_sign, Digits, Int, Frac, Exp, Number}
use Rattle.json_text.specs.Syntax.{opt, digits, int, frac, sign, exp, number}
use Rattle.json_text.proofs.Numbers.{Stops, is_numeral}
use Rattle.json_grammar.proofs.Tests.{on-yes, on-no, many-all}
use Rattle.json_grammar.proofs.Rows.{one-is}
use Rattle.json_grammar.proofs.Gives.{Gives, gives-bind, gives-last}

-- ---- digits

digits-cons : (u : Bytes) → Digits u → (c : ℕ) × (v : Bytes) × (u ≡ c ∷ v) × (is_digit c ≡ true) × Many (One is_digit) v
unfolding Digits
digits-cons u x = (x.3.0, x.1, x.2 ∙ ap (λ (z : Bytes). z ++ x.1) x.3.1, x.3.2, x.4)

digits-all : (u w : Bytes) → Digits u → is_digit (first w) ≡ false → Gives digits u w
unfolding digits
digits-all u w d h =
    let x = digits-cons u d in
    record { what = x.0 ∷ x.1; gives = ap (λ (z : Bytes). digits (z ++ w)) x.2 ∙ some-of-run is_digit x.0 x.1 w (all_cons is_digit x.0 x.1 x.3 (many-all is_digit x.1 x.4)) h }

digits-first : (u w : Bytes) → Digits u → is_digit (first (u ++ w)) ≡ true
digits-first u w d = let x = digits-cons u d in rw x.2 x.3

-- ---- the parts of a number

opt-all : (b : ℕ) (u w : Bytes) → Maybe (One (is b)) u → eqb (first w) b ≡ false → Gives (opt b) u w
unfolding opt
opt-all b u w (inl e) h = record { what = []; gives = rw e (on-no (is b) _ _ w h) }
opt-all b u w (inr x) h = record { what = x.0 ∷ []; gives = rw x.1 (on-yes (is b) _ _ x.0 w x.2) }

digit-of : (c : ℕ) → between 49 57 c ≡ true → is_digit c ≡ true
unfolding between
digit-of c h = implied (between 49 57) is_digit 58 c refl (λ l. beyond 49 57 c (omega tests)) h

int-cases : (u : Bytes) → Int u → (u ≡ 48 ∷ []) ⊎ ((eqb (first u) 48 ≡ false) × Digits u)
unfolding Int Digits between
int-cases u (inl x) = inl (one-is 48 u x)
int-cases u (inr x) =
    let y = x.3 in
    inr (ap (λ (z : Bytes). eqb (first z) 48) (x.2 ∙ ap (λ (z : Bytes). z ++ x.1) y.1) ∙ other (between 49 57) y.0 48 y.2 refl, (x.0, x.1, x.2, (y.0, y.1, digit-of y.0 y.2), x.4))

-- the first byte of a word that has one
first_of : (u w : Bytes) (c : ℕ) (v : Bytes) → u ≡ c ∷ v → first (u ++ w) ≡ first u
first_of u w c v e = rw e

int-all : (u w : Bytes) → Int u → is_digit (first w) ≡ false → Gives int u w
unfolding int
int-all u w i h = by (int-cases u i)
  where
    by : (u ≡ 48 ∷ []) ⊎ ((eqb (first u) 48 ≡ false) × Digits u) → Gives int u w
    by (inl e) = record { what = 48 ∷ []; gives = rw e (on-yes (is 48) _ _ 48 w refl) }
    by (inr x) =
        let d = digits-cons u x.1 in
        let y = digits-all u w x.1 h in
        record { what = y.what; gives = on-no (is 48) _ _ (u ++ w) (ap (is 48) (first_of u w d.0 d.1 d.2) ∙ x.0) ∙ y.gives }

int-first : (u w : Bytes) → Int u → is_digit (first (u ++ w)) ≡ true
unfolding between
int-first u w i = by (int-cases u i)
  where
    by : (u ≡ 48 ∷ []) ⊎ ((eqb (first u) 48 ≡ false) × Digits u) → is_digit (first (u ++ w)) ≡ true
    by (inl e) = rw e
    by (inr x) = digits-first u w x.1

frac-all : (u w : Bytes) → Maybe Frac u → is_digit (first w) ≡ false → eqb (first w) 46 ≡ false → Gives frac u w
unfolding frac Frac
frac-all u w (inl e) h k = record { what = []; gives = rw e (on-no (is 46) _ _ w k) }
frac-all u w (inr x) h k =
    let d = digits-all x.1 w x.4 h in
    record { what = 46 ∷ d.what; gives = rw (x.2, one-is 46 x.0 x.3) (on-yes (is 46) _ _ 46 (x.1 ++ w) refl ∙ ap (under (λ ds. 46 ∷ ds)) d.gives) }

sign_of : (c : ℕ) → is_sign c ≡ true → eqb c 43 ≡ false → is 45 c ≡ true
unfolding is_sign
sign_of c h k = rw k at h

sign-all : (u w : Bytes) → Maybe (One is_sign) u → eqb (first w) 43 ≡ false → eqb (first w) 45 ≡ false → Gives sign u w
unfolding sign
sign-all u w (inl e) h k = let y = opt-all 45 [] w (inl refl) k in record { what = y.what; gives = ap (λ (z : Bytes). sign (z ++ w)) e ∙ on-no (is 43) _ _ w h ∙ y.gives }
sign-all u w (inr x) h k =
    by_bool (eqb x.0 43)
    (λ q. record { what = x.0 ∷ []; gives = rw x.1 (on-yes (is 43) _ _ x.0 w q) })
    (λ q. let y = opt-all 45 (x.0 ∷ []) w (inr (x.0, refl, sign_of x.0 x.2 q)) k in record { what = y.what; gives = rw x.1 (on-no (is 43) _ _ (x.0 ∷ w) q ∙ y.gives) })

no_plus : (c : ℕ) → is_digit c ≡ true → (eqb c 43 ≡ false) × (eqb c 45 ≡ false)
unfolding between
no_plus c h = (other is_digit c 43 h refl, other is_digit c 45 h refl)

exp-all : (u w : Bytes) → Maybe Exp u → is_digit (first w) ≡ false → is_e (first w) ≡ false → Gives exp u w
unfolding exp Exp
exp-all u w (inl e) h k = record { what = []; gives = rw e (on-no is_e _ _ w k) }
exp-all u w (inr x) h k =
    let c = x.3.0 in
    let y = x.4 in
    let n = no_plus (first (y.1 ++ w)) (digits-first y.1 w y.4) in
    let b = gives-bind {K = λ g t. bind (digits t) (λ ds t. got (c ∷ (g ++ ds)) t)} y.0 y.1 w (sign-all y.0 (y.1 ++ w) y.3 n.0 n.1) (λ g. gives-last (λ ds. c ∷ (g ++ ds)) y.1 w (digits-all y.1 w y.4 h)) in
    record { what = b.what; gives = rw (x.2, x.3.1, y.2) (on-yes is_e _ _ c ((y.0 ++ y.1) ++ w) x.3.2 ∙ b.gives) }

-- ---- what follows each part

frac-stops : (u w : Bytes) → Maybe Frac u → is_digit (first w) ≡ false → is_digit (first (u ++ w)) ≡ false
unfolding Frac between
frac-stops u w (inl e) h = rw e h
frac-stops u w (inr x) h = rw (x.2, one-is 46 x.0 x.3)

no-e : (c : ℕ) → is_e c ≡ true → (is_digit c ≡ false) × (eqb c 46 ≡ false)
unfolding is_e between
no-e c h = (by_bool (is_digit c) (λ q. absurd-e (implied is_digit (λ c. not (is_e c)) 58 c refl (λ l. beyond 48 57 c (omega tests)) q)) (λ q. q), other is_e c 46 h refl)
  where
    absurd-e : {P : Type 0} → not (is_e c) ≡ true → P
    absurd-e q = not-both h (not-true (is_e c) q)

exp-stops : (u w : Bytes) → Maybe Exp u → is_digit (first w) ≡ false → eqb (first w) 46 ≡ false → (is_digit (first (u ++ w)) ≡ false) × (eqb (first (u ++ w)) 46 ≡ false)
unfolding Exp
exp-stops u w (inl e) h k = rw e (h, k)
exp-stops u w (inr x) h k = rw (x.2, x.3.1) (no-e x.3.0 x.3.2)

-- ---- numbers

pub number-all : (u w : Bytes) → Number u → Stops w → Gives number u w
unfolding number Number
number-all u w x h =
    let y = x.4 in
    let z = y.4 in
    let e = exp-stops z.1 w z.4 h.0 h.1 in
    let f = frac-stops z.0 (z.1 ++ w) z.3 e.0 in
    let at : (v : Bytes) → v ≡ z.0 ++ z.1 → is_digit (first (v ++ w)) ≡ false = λ v q. ap (λ (t : Bytes). is_digit (first t)) (ap (λ (t : Bytes). t ++ w) q ∙ append_assoc z.0 z.1 w) ∙ f in
    let i : is_digit (first (x.1 ++ w)) ≡ true = ap (λ (t : Bytes). is_digit (first t)) (ap (λ (t : Bytes). t ++ w) y.2 ∙ append_assoc y.0 y.1 w) ∙ int-first y.0 (y.1 ++ w) y.3 in
    subst (λ (t : Bytes). Gives number t w) (sym x.2)
    (gives-bind x.0 x.1 w (opt-all 45 x.0 (x.1 ++ w) x.3 (no_plus (first (x.1 ++ w)) i).1) λ a.
    subst (λ (t : Bytes). Gives (λ s. bind (int s) λ b s. bind (frac s) λ c s. bind (exp s) λ d s. got (a ++ b ++ c ++ d) s) t w) (sym y.2)
    (gives-bind y.0 y.1 w (int-all y.0 (y.1 ++ w) y.3 (at y.1 z.2)) λ b.
    subst (λ (t : Bytes). Gives (λ s. bind (frac s) λ c s. bind (exp s) λ d s. got (a ++ b ++ c ++ d) s) t w) (sym z.2)
    (gives-bind z.0 z.1 w (frac-all z.0 (z.1 ++ w) z.3 e.0 e.1) λ c. gives-last (λ d. a ++ b ++ c ++ d) z.1 w (exp-all z.1 w z.4 h.0 h.2))))

-- it begins with a minus or a digit
numeral-digit : (c : ℕ) → is_digit c ≡ true → is_numeral c ≡ true
unfolding is_numeral
numeral-digit c h = by_bool (eqb c 45) (λ e. rw e) (λ e. rw (e, h))

pub number-begins : (u w : Bytes) → Number u → is_numeral (first (u ++ w)) ≡ true
unfolding Number is_numeral
number-begins u w x = ap (λ (t : Bytes). is_numeral (first t)) (ap (λ (t : Bytes). t ++ w) x.2 ∙ append_assoc x.0 x.1 w) ∙ by x.3
  where
    int-part : is_digit (first (x.1 ++ w)) ≡ true
    int-part = let y = x.4 in ap (λ (t : Bytes). is_digit (first t)) (ap (λ (t : Bytes). t ++ w) y.2 ∙ append_assoc y.0 y.1 w) ∙ int-first y.0 (y.1 ++ w) y.3

    by : Maybe (One (is 45)) x.0 → is_numeral (first (x.0 ++ (x.1 ++ w))) ≡ true
    by (inl e) = rw e (numeral-digit (first (x.1 ++ w)) int-part)
    by (inr m) = rw (one-is 45 x.0 m)
