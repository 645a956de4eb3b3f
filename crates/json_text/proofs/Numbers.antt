-- A number's spelling reads as itself before whatever cannot go on with it.
use mathlib.Core.Path.{◌≡◌, refl, sym, ap, ◌∙◌}
use mathlib.Core.Bool.{Bool, true, false, ◌||◌}
use mathlib.Core.List.{[], ◌∷◌, ◌++◌, tail, append_assoc}
use mathlib.Core.Logic.{◌⊎◌, inl, inr}
use Prim.Native.Nat.{ℕ}
use lib.Dec.{eqb}
use borrow.Author.Tests.{eqb-true, eq-eqb}
use Rattle.text.specs.Bytes.{Bytes, ascii, is, between, is_digit, all}
use Rattle.text.specs.Reader.{got, bind, under, first, on, when, taken, past, some_of}
use Rattle.text.proofs.Cases.{by_keys_p, other, not-both}
use Rattle.text.proofs.Lists.{all_head}
use Rattle.text.proofs.Readers.{got-what, bind_inv, under-inv, on-inv, some-of-inv, some-of-run}
use Rattle.json_text.specs.Grammar.{is_e}
use Rattle.json_text.specs.Syntax.{opt, digits, int, frac, sign, exp, number}

-- nothing that a number could go on with
abbrev pub Stops : Bytes → Type 0
Stops t = (is_digit (first t) ≡ false) × (eqb (first t) 46 ≡ false) × (is_e (first t) ≡ false)

-- ---- digits

abbrev Digits : Bytes → Type 0
Digits ds = (c : ℕ) × (v : Bytes) × (ds ≡ c ∷ v) × (all is_digit (c ∷ v) ≡ true)

digits-shape : (s ds t : Bytes) → digits s ≡ got ds t → Digits ds
unfolding digits between
digits-shape s ds t e = let i = some-of-inv is_digit refl s ds t e in (i.0, i.1, i.2, i.3)

digits-again : (ds r : Bytes) → Digits ds → is_digit (first r) ≡ false → digits (ds ++ r) ≡ got ds r
unfolding digits
digits-again ds r i h = rw i.2 (some-of-run is_digit i.0 i.1 r i.3 h)

digits-first : (ds r : Bytes) → Digits ds → is_digit (first (ds ++ r)) ≡ true
digits-first ds r i = rw i.2 (all_head is_digit i.0 i.1 i.3)

-- ---- the parts of a number: what each may be, and that it is read again before what it did not take

Opt : ℕ → Bytes → Type 0
Opt b a = (a ≡ b ∷ []) ⊎ (a ≡ [])

opt-shape : (b : ℕ) (s a t : Bytes) → opt b s ≡ got a t → Opt b a
unfolding opt Opt
opt-shape b s a t e = by (on-inv (is b) _ _ s e)
  where
    by : ((eqb (first s) b ≡ true) × (got (first s ∷ []) (tail s) ≡ got a t)) ⊎ ((eqb (first s) b ≡ false) × (got [] s ≡ got a t)) → Opt b a
    by (inl w) = inl (sym (got-what w.1) ∙ ap (λ (x : ℕ). x ∷ []) (eqb-true (first s) b w.0))
    by (inr w) = inr (sym (got-what w.1))

opt-again : (b : ℕ) (a r : Bytes) → Opt b a → eqb (first r) b ≡ false → opt b (a ++ r) ≡ got a r
unfolding opt on Opt
opt-again b a r (inl e) h = rw e (rw (eq-eqb b b refl))
opt-again b a r (inr e) h = rw (e, h)

-- 0, or digits that begin with another
Int : Bytes → Type 0
Int b = (b ≡ 48 ∷ []) ⊎ ((c : ℕ) × (v : Bytes) × (b ≡ c ∷ v) × (all is_digit (c ∷ v) ≡ true) × (eqb c 48 ≡ false))

int-shape : (s b t : Bytes) → int s ≡ got b t → Int b
unfolding int Int digits between
int-shape s b t e = by (on-inv (is 48) _ _ s e)
  where
    by : ((eqb (first s) 48 ≡ true) × (got (first s ∷ []) (tail s) ≡ got b t)) ⊎ ((eqb (first s) 48 ≡ false) × (digits s ≡ got b t)) → Int b
    by (inl w) = inl (sym (got-what w.1) ∙ ap (λ (x : ℕ). x ∷ []) (eqb-true (first s) 48 w.0))
    by (inr w) = let i = some-of-inv is_digit refl s b t w.1 in inr (i.0, i.1, i.2, i.3, rw i.4 w.0)

int-again : (b r : Bytes) → Int b → is_digit (first r) ≡ false → int (b ++ r) ≡ got b r
unfolding int on Int
int-again b r (inl e) h = rw e
int-again b r (inr i) h = rw i.2 (rw i.4 (digits-again (i.0 ∷ i.1) r (i.0, i.1, refl, i.3) h))

int-first : (b r : Bytes) → Int b → is_digit (first (b ++ r)) ≡ true
unfolding Int between
int-first b r (inl e) = rw e
int-first b r (inr i) = rw i.2 (all_head is_digit i.0 i.1 i.3)

Frac : Bytes → Type 0
Frac c = (c ≡ []) ⊎ ((v : Bytes) × (c ≡ 46 ∷ v) × Digits v)

frac-shape : (s c t : Bytes) → frac s ≡ got c t → Frac c
unfolding frac Frac
frac-shape s c t e = by (on-inv (is 46) _ _ s e)
  where
    by : ((eqb (first s) 46 ≡ true) × (under (λ ds. first s ∷ ds) (digits (tail s)) ≡ got c t)) ⊎ ((eqb (first s) 46 ≡ false) × (got [] s ≡ got c t)) → Frac c
    by (inl w) =
        let i = under-inv (λ ds. first s ∷ ds) (digits (tail s)) w.1 in
        inr (i.0, sym i.2 ∙ ap (λ (x : ℕ). x ∷ i.0) (eqb-true (first s) 46 w.0), digits-shape (tail s) i.0 t i.1)
    by (inr w) = inl (sym (got-what w.1))

frac-again : (c r : Bytes) → Frac c → is_digit (first r) ≡ false → eqb (first r) 46 ≡ false → frac (c ++ r) ≡ got c r
unfolding frac on Frac
frac-again c r (inl e) h k = rw (e, k)
frac-again c r (inr i) h k = rw i.1 (rw (digits-again i.0 r i.2 h))

frac-stops : (c r : Bytes) → Frac c → is_digit (first r) ≡ false → is_digit (first (c ++ r)) ≡ false
unfolding Frac between
frac-stops c r (inl e) h = rw e h
frac-stops c r (inr i) h = rw i.1

Sign : Bytes → Type 0
Sign g = (g ≡ 43 ∷ []) ⊎ Opt 45 g

sign-shape : (s g t : Bytes) → sign s ≡ got g t → Sign g
unfolding sign Sign
sign-shape s g t e = by (on-inv (is 43) _ _ s e)
  where
    by : ((eqb (first s) 43 ≡ true) × (got (first s ∷ []) (tail s) ≡ got g t)) ⊎ ((eqb (first s) 43 ≡ false) × (opt 45 s ≡ got g t)) → Sign g
    by (inl w) = inl (sym (got-what w.1) ∙ ap (λ (x : ℕ). x ∷ []) (eqb-true (first s) 43 w.0))
    by (inr w) = inr (opt-shape 45 s g t w.1)

sign-again : (g r : Bytes) → Sign g → eqb (first r) 43 ≡ false → eqb (first r) 45 ≡ false → sign (g ++ r) ≡ got g r
unfolding sign on Sign Opt opt
sign-again g r (inl e) h k = rw e
sign-again g r (inr (inl e)) h k = rw e
sign-again g r (inr (inr e)) h k = rw (e, h, k)

Exp : Bytes → Type 0
Exp d = (d ≡ []) ⊎ ((k : ℕ) × (g : Bytes) × (v : Bytes) × (d ≡ k ∷ (g ++ v)) × (is_e k ≡ true) × Sign g × Digits v)

exp-shape : (s d t : Bytes) → exp s ≡ got d t → Exp d
unfolding exp Exp
exp-shape s d t e = by (on-inv is_e _ _ s e)
  where
    by : ((is_e (first s) ≡ true) × (bind (sign (tail s)) (λ g t. bind (digits t) λ ds t. got (first s ∷ (g ++ ds)) t) ≡ got d t)) ⊎ ((is_e (first s) ≡ false) × (got [] s ≡ got d t)) → Exp d
    by (inl w) =
        let i = bind_inv (sign (tail s)) _ w.1 in
        let j = bind_inv (digits i.1) _ i.3 in
        inr (first s, i.0, j.0, sym (got-what j.3), w.0, sign-shape (tail s) i.0 i.1 i.2, digits-shape i.1 j.0 j.1 j.2)
    by (inr w) = inl (sym (got-what w.1))

exp-again : (d r : Bytes) → Exp d → is_digit (first r) ≡ false → is_e (first r) ≡ false → exp (d ++ r) ≡ got d r
unfolding exp on Exp between
exp-again d r (inl e) h k = rw (e, k)
exp-again d r (inr i) h k =
    let f = digits-first i.2 r i.6 in
    rw (i.3, i.4, append_assoc i.1 i.2 r, sign-again i.1 (i.2 ++ r) i.5 (other is_digit (first (i.2 ++ r)) 43 f refl) (other is_digit (first (i.2 ++ r)) 45 f refl), digits-again i.2 r i.6 h)

-- e or E is no digit and no point
e-digit : (k : ℕ) → is_e k ≡ true → (is_digit k ≡ false) × (eqb k 46 ≡ false)
unfolding is_e between
e-digit k h = by_keys_p (λ k. is_e k ≡ true → (is_digit k ≡ false) × (eqb k 46 ≡ false)) k (101 ∷ 69 ∷ []) (λ h. (refl, refl), (λ h. (refl, refl), tt)) (λ n h. not-both h (rw (n.0, n.1.0))) h

exp-stops : (d r : Bytes) → Exp d → is_digit (first r) ≡ false → eqb (first r) 46 ≡ false → (is_digit (first (d ++ r)) ≡ false) × (eqb (first (d ++ r)) 46 ≡ false)
unfolding Exp
exp-stops d r (inl e) h k = rw e (h, k)
exp-stops d r (inr i) h k = rw i.3 (e-digit i.0 i.4)

-- ---- numbers

-- a spelling that the reader gave
abbrev pub Spelled : Bytes → Type 0
Spelled x = (s : Bytes) × (t : Bytes) × (number s ≡ got x t)

Shape : Bytes → Type 0
Shape x = (a : Bytes) × (b : Bytes) × (c : Bytes) × (d : Bytes) × (x ≡ a ++ b ++ c ++ d) × Opt 45 a × Int b × Frac c × Exp d

number-shape : (x : Bytes) → Spelled x → Shape x
unfolding number Shape
number-shape x m =
    let i = bind_inv (opt 45 m.0) _ m.2 in
    let j = bind_inv (int i.1) _ i.3 in
    let k = bind_inv (frac j.1) _ j.3 in
    let l = bind_inv (exp k.1) _ k.3 in
    (i.0, j.0, k.0, l.0, sym (got-what l.3), opt-shape 45 m.0 i.0 i.1 i.2, int-shape i.1 j.0 j.1 j.2, frac-shape j.1 k.0 k.1 k.2, exp-shape k.1 l.0 l.1 l.2)

parts_again : (a b c d r : Bytes) → Opt 45 a → Int b → Frac c → Exp d → Stops r → number (a ++ (b ++ (c ++ (d ++ r)))) ≡ got (a ++ b ++ c ++ d) r
unfolding number between
parts_again a b c d r oa ib fc ed stops =
    let e = exp-stops d r ed stops.0 stops.1 in
    let n = int-first b (c ++ (d ++ r)) ib in
    rw (
      opt-again 45 a (b ++ (c ++ (d ++ r))) oa (other is_digit (first (b ++ (c ++ (d ++ r)))) 45 n refl),
      int-again b (c ++ (d ++ r)) ib (frac-stops c (d ++ r) fc e.0),
      frac-again c (d ++ r) fc e.0 e.1,
      exp-again d r ed stops.0 stops.2,
    )

regroup : (a b c d r : Bytes) → (a ++ b ++ c ++ d) ++ r ≡ a ++ (b ++ (c ++ (d ++ r)))
regroup a b c d r = simp append_assoc

pub number-again : (x r : Bytes) → Spelled x → Stops r → number (x ++ r) ≡ got x r
unfolding Shape
number-again x r m stops =
    let i = number-shape x m in
    rw i.4 (ap number (regroup i.0 i.1 i.2 i.3 r) ∙ parts_again i.0 i.1 i.2 i.3 r i.5 i.6 i.7 i.8 stops)

-- a number begins with a minus or a digit
unfoldable pub is_numeral : ℕ → Bool
is_numeral c = eqb c 45 || is_digit c

or-true : (a : Bool) → a || true ≡ true
or-true true = refl
or-true false = refl

minus-first : (a b r : Bytes) → Opt 45 a → Int b → is_numeral (first (a ++ (b ++ r))) ≡ true
unfolding is_numeral Opt
minus-first a b r (inl e) i = rw e
minus-first a b r (inr e) i = rw (e, int-first b r i) (or-true (eqb (first (b ++ r)) 45))

pub number-first : (x r : Bytes) → Spelled x → is_numeral (first (x ++ r)) ≡ true
unfolding Shape
number-first x r m =
    let i = number-shape x m in
    rw i.4 (ap (λ (y : Bytes). is_numeral (first y)) (regroup i.0 i.1 i.2 i.3 r) ∙ minus-first i.0 i.1 (i.2 ++ (i.3 ++ r)) i.5 i.6)

-- worked example
small : number (ascii "-1.5e+3,") ≡ got (ascii "-1.5e+3") (ascii ",")
unfolding number opt int frac exp sign digits on some_of when taken past is_e between
small = refl
