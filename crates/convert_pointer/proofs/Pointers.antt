-- A pointer's name, byte by byte.
use mathlib.Core.Path.{◌≡◌, refl, sym, ap, ◌∙◌}
use mathlib.Core.Bool.{true, false, not}
use mathlib.Core.List.{[], ◌∷◌}
use mathlib.Core.Option.{Option, none, some}
use Prim.Native.Nat.{ℕ, suc, ◌+◌, ◌≤◌, ◌<◌}
use native.Mathlib.Omega.{arith}
use native.Mathlib.Numerals.{add-one}
use lib.Dec.{eqb, ltb}
use lib.ListN.{length, drop, get_or, drop_of_length-le}
use lib.Seq.{drop-cons}
use borrow.Author.Tests.{eq-eqb, ne_eqb, eqb-true, ltb-true, ltb-false}
use Rattle.text.specs.Choice.{pick, is_some, with-some}
use Rattle.text.specs.Bytes.{Bytes, empty}
use Rattle.text.proofs.Cases.{by_bool, tests}
use Rattle.text.proofs.Choices.{provided-inv}
use Rattle.convert.specs.Pointer.{push, pointed_from, pointed, pointer}
use Rattle.convert.proofs.Pointers.{pointer-pointed}
use Rattle.convert_pointer.specs.Name.{name_in, Pointing, pointer_byte, pointer_next}

never : {P : Type 0} → false ≡ true → P
never e = absurd (let z : ◌≡◌ {A = ℕ} 0 1 = cc in omega arith)

-- one byte, and the rest
record One (o : Option Bytes) (b : ℕ) (q : Option Bytes) : Type 0 where
  rest : is_some q ≡ true
  name : with-some o (λ n. n) [] ≡ b ∷ with-some q (λ n. n) []

pushed : (b : ℕ) (q : Option Bytes) → is_some (push b q) ≡ true → One (push b q) b q
pushed b none e = never e
pushed b (some t) e = record { rest = refl; name = refl }

plain-one : (c : ℕ) (s : Bytes) → eqb c 126 ≡ false → is_some (pointed_from false (c ∷ s)) ≡ true → One (pointed_from false (c ∷ s)) c (pointed_from false s)
unfolding pointed_from
plain-one c s n e = rw n (by_bool (eqb c 47) (λ b. never (rw (n, b) at e)) (λ b. rw b (pushed c (pointed_from false s) (rw (n, b) at e))))

tilde-one : (c d : ℕ) (s : Bytes) → eqb c 126 ≡ true → is_some (pointed_from false (c ∷ d ∷ s)) ≡ true
    → One (pointed_from false (c ∷ d ∷ s)) (pick (eqb d 49) 47 126) (pointed_from false s)
unfolding pointed_from
tilde-one c d s n e =
    rw n (by_bool (eqb d 48)
    (λ b. let z : eqb d 49 ≡ false = ne_eqb d 49 (λ y. omega (tests, b)) in rw (b, z) (pushed 126 (pointed_from false s) (rw (n, b) at e)))
    (λ b. by_bool (eqb d 49) (λ y. rw (b, y) (pushed 47 (pointed_from false s) (rw (n, b, y) at e))) (λ y. never (rw (n, b, y) at e))))

tilde-last : (c : ℕ) {P : Type 0} → eqb c 126 ≡ true → is_some (pointed_from false (c ∷ [])) ≡ true → P
unfolding pointed_from
tilde-last c n e = never (rw n at e)

-- the same at a place
module _ (p : Bytes) (i : ℕ) (g : Pointing (drop i p)) (l : i < length p) where
  cons : drop i p ≡ get_or p i 0 ∷ drop (i + 1) p
  cons = drop-cons p i 0 l ∙ ap (λ n. get_or p i 0 ∷ drop n p) (sym (add-one i))

  pub tilde-within : get_or p i 0 ≡ 126 → i + 1 < length p
  tilde-within e =
      by_bool (ltb (i + 1) (length p)) (λ b. ltb-true (i + 1) (length p) b)
      (λ b.
      let h : length p ≤ i + 1 = ltb-false (i + 1) (length p) b in
      tilde-last (get_or p i 0) (eq-eqb (get_or p i 0) 126 e) (ap (λ x. is_some (pointed_from false x)) (sym (cons ∙ ap (λ x. get_or p i 0 ∷ x) (drop_of_length-le p h))) ∙ g))

  pub byte-plain : (get_or p i 0 ≡ 126 → ⊥) → get_or p i 0 ≡ pointer_byte p i
  unfolding pointer_byte
  byte-plain n = rw (ne_eqb (get_or p i 0) 126 n)

  pub byte-slash : get_or p i 0 ≡ 126 → get_or p (i + 1) 0 ≡ 49 → 47 ≡ pointer_byte p i
  unfolding pointer_byte
  byte-slash e f = rw (e, f)

  pub byte-tilde : get_or p i 0 ≡ 126 → (get_or p (i + 1) 0 ≡ 49 → ⊥) → 126 ≡ pointer_byte p i
  unfolding pointer_byte
  byte-tilde e f = rw (e, ne_eqb (get_or p (i + 1) 0) 49 f)

  pub next-tilde : get_or p i 0 ≡ 126 → i + 2 ≡ pointer_next p i
  unfolding pointer_next
  next-tilde e = rw e

  pub next-plain : (get_or p i 0 ≡ 126 → ⊥) → i + 1 ≡ pointer_next p i
  unfolding pointer_next
  next-plain n = rw (ne_eqb (get_or p i 0) 126 n)

  pub record Step : Type 0 where
    pub onward : i < pointer_next p i
    pub within : pointer_next p i ≤ length p
    pub good : Pointing (drop (pointer_next p i) p)
    pub is : name_in (drop i p) ≡ pointer_byte p i ∷ name_in (drop (pointer_next p i) p)

  plain_step : eqb (get_or p i 0) 126 ≡ false → Step
  unfolding name_in pointer_byte pointer_next
  plain_step b =
      let o = plain-one (get_or p i 0) (drop (i + 1) p) b (ap (λ x. is_some (pointed_from false x)) (sym cons) ∙ g) in
      record {
        onward = rw b (omega arith);
        within = rw b (omega arith);
        good = rw b o.rest;
        is = rw b (ap (λ x. with-some (pointed_from false x) (λ n. n) []) cons ∙ o.name);
      }

  tilde-step : eqb (get_or p i 0) 126 ≡ true → i + 1 < length p → Step
  unfolding name_in pointer_byte pointer_next
  tilde-step b h =
      let z : i + 2 ≡ suc (i + 1) = omega arith in
      let two : drop i p ≡ get_or p i 0 ∷ get_or p (i + 1) 0 ∷ drop (i + 2) p = cons ∙ ap (λ x. get_or p i 0 ∷ x) (drop-cons p (i + 1) 0 h ∙ ap (λ n. get_or p (i + 1) 0 ∷ drop n p) (sym z)) in
      let o = tilde-one (get_or p i 0) (get_or p (i + 1) 0) (drop (i + 2) p) b (ap (λ x. is_some (pointed_from false x)) (sym two) ∙ g) in
      record {
        onward = rw b (omega arith);
        within = rw b (omega arith);
        good = rw b o.rest;
        is = rw b (ap (λ x. with-some (pointed_from false x) (λ n. n) []) two ∙ o.name);
      }

  pub step : Step
  step = by_bool (eqb (get_or p i 0) 126) (λ b. tilde-step b (tilde-within (eqb-true (get_or p i 0) 126 b))) plain_step

pub name-end : (p : Bytes) (i : ℕ) → length p ≤ i → name_in (drop i p) ≡ []
unfolding name_in pointed_from
name-end p i h = ap name_in (drop_of_length-le p h)

-- the byte that is read, and the place that comes next
module _ (p : Bytes) (i : ℕ) (g : Pointing (drop i p)) (l : i < length p) where
  pub name-to : (b : ℕ) → b ≡ pointer_byte p i → name_in (drop i p) ≡ b ∷ name_in (drop (pointer_next p i) p)
  name-to b e = (step p i g l).is ∙ ap (λ x. x ∷ name_in (drop (pointer_next p i) p)) (sym e)

  pub moved : (k : ℕ) → k ≡ pointer_next p i → (i < k) × (k ≤ length p) × Pointing (drop k p) × (name_in (drop (pointer_next p i) p) ≡ name_in (drop k p))
  moved k e =
      let s = step p i g l in
      (rw e s.onward, rw e s.within, ap (λ n. is_some (pointed_from false (drop n p))) e ∙ s.good, ap (λ n. name_in (drop n p)) (sym e))

-- ---- of a pointer that points at a name

pointer-longer : (n : Bytes) → length n ≤ length (pointer n)
unfolding pointer
pointer-longer [] = omega arith
pointer-longer (c ∷ n) =
    let h = pointer-longer n in
    by_bool (eqb c 126) (λ a. rw a (omega arith)) (λ a. by_bool (eqb c 47) (λ b. rw (a, b) (omega arith)) (λ b. rw (a, b) (omega arith)))

module _ (p n : Bytes) (e : pointed p ≡ some n) where
  from_start : pointed_from false p ≡ some n
  unfolding pointed
  from_start = (provided-inv (not (empty p)) (pointed_from false p) e).1

  pub is-pointing : Pointing p
  is-pointing = ap is_some from_start

  pub is_name : name_in p ≡ n
  unfolding name_in
  is_name = ap (λ o. with-some o (λ m. m) []) from_start

  pub no_longer : length n ≤ length p
  no_longer = omega (arith, pointer-longer n, ap length (pointer-pointed p n e))
