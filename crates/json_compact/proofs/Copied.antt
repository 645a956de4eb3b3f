-- What stands between two places of a text is copied: numbers, literals and single bytes.
use mathlib.Core.Path.{◌≡◌, refl, sym, ap, subst, ◌∙◌}
use mathlib.Core.Bool.{Bool, true, false, ◌&&◌, not}
use mathlib.Core.List.{[], ◌∷◌, ◌++◌, tail, append_assoc}
use mathlib.Core.Logic.{◌⊎◌, inl, inr}
use Prim.Native.Nat.{ℕ}
use lib.Dec.{eqb}
use borrow.Author.Tests.{eqb-true, ltb-false}
use Rattle.text.specs.Bytes.{Bytes, is, between, is_digit}
use Rattle.text.specs.Reader.{Got, got, bad, bind, first, on, taken, past, one, some_of}
use Rattle.text.proofs.Cases.{by_bool, not-both, and_left, and_right, not-true, implied, beyond}
use Rattle.text.proofs.Readers.{not-bad, got-rest, got-what, bind_inv, under-inv, on-inv, when-inv}
use Rattle.json_text.specs.Grammar.{is_space, is_e}
use Rattle.json_text.specs.Tree.{Json}
use Rattle.json_text.specs.Syntax.{skip, opt, digits, int, frac, sign, exp, number, four}
use Rattle.json_compact.specs.Squeezed.{squeezed}
use Rattle.json_compact.proofs.Firsts.{byte-first, squeezed-skip}

-- from s, x is written, and then what is written from t
pub record Copied (s x t : Bytes) : Type 0 where
  pub so : (r : Bytes) → squeezed t ≡ r → squeezed s ≡ x ++ r

pub copied-then : {s t u : Bytes} (x y : Bytes) → Copied s x t → Copied t y u → Copied s (x ++ y) u
copied-then x y h k = record { so = λ r e. h.so (y ++ r) (k.so r e) ∙ sym (append_assoc x y r) }

-- a byte that is copied
abbrev pub plain : ℕ → Bool
plain c = not (is_space c) && (not (eqb c 34) && between 0 255 c)

plain-256 : plain 256 ≡ false
unfolding is_space between
plain-256 = refl

plain-digit : (c : ℕ) → is_digit c ≡ true → plain c ≡ true
unfolding is_space between
plain-digit c h = implied is_digit plain 58 c refl (λ l. beyond 48 57 c (ltb-false c 58 l)) h

plain-e : (c : ℕ) → is_e c ≡ true → plain c ≡ true
unfolding is_e is_space between
plain-e c h = by_bool (eqb c 101) (λ e. rw (eqb-true c 101 e)) (λ e. let k = rw e at h in rw (eqb-true c 69 k))

plain-is : (b : ℕ) → plain b ≡ true → (c : ℕ) → eqb c b ≡ true → plain c ≡ true
plain-is b h c e = rw (eqb-true c b e) h

copied-first : (s : Bytes) → plain (first s) ≡ true → Copied s (first s ∷ []) (tail s)
copied-first [] h = not-both h plain-256
copied-first (c ∷ s) h =
    let k = and_right (not (is_space c)) _ h in
    let b = byte-first c s (not-true (is_space c) (and_left _ _ h)) (not-true (eqb c 34) (and_left _ _ k)) (and_right (not (eqb c 34)) _ k) in
    record { so = λ r e. b ∙ ap (λ (y : Bytes). c ∷ y) e }

pub copied_is : (b : ℕ) → plain b ≡ true → (s : Bytes) → eqb (first s) b ≡ true → Copied s (b ∷ []) (tail s)
copied_is b h s e = subst (λ (c : ℕ). Copied s (c ∷ []) (tail s)) (eqb-true (first s) b e) (copied-first s (plain-is b h (first s) e))

pub copied-skip : (s x t : Bytes) → Copied (skip s) x t → Copied s x t
copied-skip s x t h = record { so = λ r e. sym (squeezed-skip s) ∙ h.so r e }

-- ---- readers that copy

abbrev pub Copies : (Bytes → Got Bytes) → Type 0
Copies R = (s x t : Bytes) → R s ≡ got x t → Copied s x t

copied_none : (s x t : Bytes) → got [] s ≡ got x t → Copied s x t
copied_none s x t e = record { so = λ r q. ap squeezed (got-rest e) ∙ q ∙ ap (λ (y : Bytes). y ++ r) (got-what e) }

copies-on : (p : ℕ → Bool) (f : ℕ → Bytes → Got Bytes) (g : Bytes → Got Bytes) → ((c : ℕ) → p c ≡ true → plain c ≡ true)
    → ((c : ℕ) (s x t : Bytes) → f c s ≡ got x t → (y : Bytes) × (c ∷ y ≡ x) × Copied s y t) → Copies g → Copies (on p f g)
copies-on p f g pl h k s x t e = by (on-inv p f g s e)
  where
    by : ((p (first s) ≡ true) × (f (first s) (tail s) ≡ got x t)) ⊎ ((p (first s) ≡ false) × (g s ≡ got x t)) → Copied s x t
    by (inl q) =
        let i = h (first s) (tail s) x t q.1 in
        subst (λ (z : Bytes). Copied s z t) i.1 (copied-then (first s ∷ []) i.0 (copied-first s (pl (first s) q.0)) i.2)
    by (inr q) = k s x t q.1

alone : (c : ℕ) (s x t : Bytes) → got (c ∷ []) s ≡ got x t → (y : Bytes) × (c ∷ y ≡ x) × Copied s y t
alone c s x t e = ([], got-what e, copied_none s [] t (ap (got []) (got-rest e)))

runs : (p : ℕ → Bool) → ((c : ℕ) → p c ≡ true → plain c ≡ true) → (s : Bytes) → Copied s (taken p s) (past p s)
unfolding taken past
runs p pl [] = record { so = λ r e. e }
runs p pl (c ∷ s) = by_bool (p c) (λ q. rw q (copied-then (c ∷ []) (taken p s) (copied-first (c ∷ s) (pl c q)) (runs p pl s))) (λ q. rw q (record { so = λ r e. e }))

copies-digits : Copies digits
unfolding digits some_of
copies-digits s x t e = by (when-inv is_digit _ _ s e)
  where
    by : ((is_digit (first s) ≡ true) × (got (taken is_digit s) (past is_digit s) ≡ got x t)) ⊎ ((is_digit (first s) ≡ false) × (bad s ≡ got x t)) → Copied s x t
    by (inl q) =
        subst (λ (z : Bytes). Copied s z t) (got-what q.1) (subst (λ (z : Bytes). Copied s (taken is_digit s) z) (got-rest q.1) (runs is_digit plain-digit s))
    by (inr q) = absurd (not-bad q.1)

copies-opt : (b : ℕ) → plain b ≡ true → Copies (opt b)
unfolding opt
copies-opt b h = copies-on (is b) _ _ (plain-is b h) alone copied_none

plain-marks : (plain 48 ≡ true) × (plain 46 ≡ true) × (plain 43 ≡ true) × (plain 45 ≡ true)
unfolding is_space between
plain-marks = (refl, refl, refl, refl)

copies-int : Copies int
unfolding int
copies-int = copies-on (is 48) _ _ (plain-is 48 plain-marks.0) alone copies-digits

copies-frac : Copies frac
unfolding frac
copies-frac =
    copies-on (is 46) _ _ (plain-is 46 plain-marks.1) (λ c s x t e. let i = under-inv (λ ds. c ∷ ds) (digits s) e in (i.0, i.2, copies-digits s i.0 t i.1)) copied_none

copies-sign : Copies sign
unfolding sign
copies-sign = copies-on (is 43) _ _ (plain-is 43 plain-marks.2) alone (copies-opt 45 plain-marks.3)

after-e : (c : ℕ) (s x t : Bytes) → bind (sign s) (λ g t. bind (digits t) λ ds t. got (c ∷ (g ++ ds)) t) ≡ got x t → (y : Bytes) × (c ∷ y ≡ x) × Copied s y t
after-e c s x t e =
    let i = bind_inv (sign s) (λ g t. bind (digits t) λ ds t. got (c ∷ (g ++ ds)) t) e in
    let j = bind_inv (digits i.1) (λ ds t. got (c ∷ (i.0 ++ ds)) t) i.3 in
    let d = copies-digits i.1 j.0 t (j.2 ∙ ap (got j.0) (got-rest j.3)) in
    (i.0 ++ j.0, got-what j.3, copied-then i.0 j.0 (copies-sign s i.0 i.1 i.2) d)

copies-exp : Copies exp
unfolding exp
copies-exp = copies-on is_e _ _ plain-e after-e copied_none

pub copies-number : Copies number
unfolding number
copies-number s x t e =
    let i = bind_inv (opt 45 s) _ e in
    let j = bind_inv (int i.1) _ i.3 in
    let k = bind_inv (frac j.1) _ j.3 in
    let l = bind_inv (exp k.1) _ k.3 in
    let z = copies-exp k.1 l.0 t (l.2 ∙ ap (got l.0) (got-rest l.3)) in
    let y = copied-then i.0 j.0 (copies-opt 45 plain-marks.3 s i.0 i.1 i.2) (copies-int i.1 j.0 j.1 j.2) in
    let w = copied-then (i.0 ++ j.0) k.0 y (copies-frac j.1 k.0 k.1 k.2) in
    subst (λ (v : Bytes). Copied s v t) (got-what l.3) (copied-then (i.0 ++ j.0 ++ k.0) l.0 w z)

-- ---- single bytes

pub copied-one : (b : ℕ) → plain b ≡ true → (s : Bytes) (x : ℕ) (t : Bytes) → one b s ≡ got x t → Copied s (b ∷ []) t
unfolding one
copied-one b h s x t e = by (on-inv (is b) got bad s e)
  where
    by : ((eqb (first s) b ≡ true) × (got (first s) (tail s) ≡ got x t)) ⊎ ((eqb (first s) b ≡ false) × (bad s ≡ got x t)) → Copied s (b ∷ []) t
    by (inl q) = subst (λ (z : Bytes). Copied s (b ∷ []) z) (got-rest q.1) (copied_is b h s q.0)
    by (inr q) = absurd (not-bad q.1)

pub copied-four : (a b c d : ℕ) → plain a ≡ true → plain b ≡ true → plain c ≡ true → plain d ≡ true
    → (j : Json) (s : Bytes) (u : Json) (t : Bytes) → four a b c d j s ≡ got u t → (j ≡ u) × Copied s (a ∷ b ∷ c ∷ d ∷ []) t
unfolding four
copied-four a b c d pa pb pc pd j s u t e =
    let i = bind_inv (one a s) _ e in
    let k = bind_inv (one b i.1) _ i.3 in
    let l = bind_inv (one c k.1) _ k.3 in
    let m = bind_inv (one d l.1) _ l.3 in
    let z = copied-one d pd l.1 m.0 t (m.2 ∙ ap (got m.0) (got-rest m.3)) in
    let y = copied-then (c ∷ []) (d ∷ []) (copied-one c pc k.1 l.0 l.1 l.2) z in
    let x = copied-then (b ∷ []) (c ∷ d ∷ []) (copied-one b pb i.1 k.0 k.1 k.2) y in
    (got-what m.3, copied-then (a ∷ []) (b ∷ c ∷ d ∷ []) (copied-one a pa s i.0 i.1 i.2) x)
