-- A pointer points at the name it was made of, and is the only one that does.
use mathlib.Core.Path.{◌≡◌, refl, sym, ap, ◌∙◌}
use mathlib.Core.Bool.{Bool, true, false, not}
use mathlib.Core.List.{[], ◌∷◌, ◌++◌}
use mathlib.Core.Option.{Option, none, some}
use Prim.Native.Nat.{ℕ}
use lib.Dec.{eqb}
use borrow.Author.Tests.{eqb-true}
use Rattle.text.specs.Choice.{pick}
use Rattle.text.specs.Bytes.{Bytes, ascii, empty}
use Rattle.text.proofs.Cases.{by_bool, by_keys}
use Rattle.text.proofs.Choices.{none-some, some_same, provided-inv}
use Rattle.convert.specs.Pointer.{push, pointed_from, pointed, pointer}

abbrev pub spelt : ℕ → Bytes
spelt c = pick (eqb c 126) (126 ∷ 48 ∷ []) (pick (eqb c 47) (126 ∷ 49 ∷ []) (c ∷ []))

point-step : (r : Bytes) (c : ℕ) → pointed_from false (spelt c ++ r) ≡ push c (pointed_from false r)
unfolding pointed_from
point-step r c = by_keys (λ c. pointed_from false (spelt c ++ r)) (λ c. push c (pointed_from false r)) c (126 ∷ 47 ∷ []) refl (λ n. cc)

pointed-from : (n : Bytes) → pointed_from false (pointer n) ≡ some n
unfolding pointed_from pointer
pointed-from [] = refl
pointed-from (c ∷ n) = rw (point-step (pointer n) c, pointed-from n)

not-empty : (n : Bytes) → empty n ≡ false → empty (pointer n) ≡ false
unfolding pointer
not-empty [] h = h
not-empty (c ∷ n) h = by_bool (eqb c 126) (λ e. rw e) (λ e. by_bool (eqb c 47) (λ f. rw (e, f)) (λ f. rw (e, f)))

pub pointed-pointer : (n : Bytes) → empty n ≡ false → pointed (pointer n) ≡ some n
unfolding pointed
pointed-pointer n h = rw (not-empty n h) (pointed-from n)

-- ---- and back

pub push-inv : (c : ℕ) (x : Option Bytes) (n : Bytes) → push c x ≡ some n → (m : Bytes) × (x ≡ some m) × (n ≡ c ∷ m)
push-inv c none n e = none-some e
push-inv c (some m) n e = (m, refl, sym (some_same e))

plain-pointer : (c : ℕ) (m : Bytes) → eqb c 126 ≡ false → eqb c 47 ≡ false → pointer (c ∷ m) ≡ c ∷ pointer m
unfolding pointer
plain-pointer c m e f = rw (e, f)

tilde-pointer : (m : Bytes) → pointer (126 ∷ m) ≡ 126 ∷ 48 ∷ pointer m
unfolding pointer
tilde-pointer m = refl

slash-pointer : (m : Bytes) → pointer (47 ∷ m) ≡ 126 ∷ 49 ∷ pointer m
unfolding pointer
slash-pointer m = refl

pub no_pointer : pointer [] ≡ []
unfolding pointer
no_pointer = refl

-- the tilde that stands before, where the flag says so
abbrev tilded : Bool → Bytes → Bytes
tilded true p = 126 ∷ p
tilded false p = p

pointer-from : (b : Bool) (p n : Bytes) → pointed_from b p ≡ some n → pointer n ≡ tilded b p
unfolding pointed_from
pointer-from true [] n e = none-some e
pointer-from false [] n e = rw (← some_same e) no_pointer
pointer-from false (c ∷ s) n e =
    by_bool (eqb c 126)
    (λ q. pointer-from true s n (rw q at e) ∙ ap (λ (x : ℕ). x ∷ s) (sym (eqb-true c 126 q)))
    (λ q. by_bool (eqb c 47) (λ r. none-some (rw (q, r) at e))
    (λ r. let i = push-inv c (pointed_from false s) n (rw (q, r) at e) in
    ap pointer i.2 ∙ plain-pointer c i.0 q r ∙ ap (λ (x : Bytes). c ∷ x) (pointer-from false s i.0 i.1)))
pointer-from true (c ∷ s) n e =
    by_bool (eqb c 48)
    (λ q. let i = push-inv 126 (pointed_from false s) n (rw q at e) in
    ap pointer i.2 ∙ tilde-pointer i.0 ∙ ap (λ (x : Bytes). 126 ∷ 48 ∷ x) (pointer-from false s i.0 i.1) ∙ ap (λ (x : ℕ). 126 ∷ x ∷ s) (sym (eqb-true c 48 q)))
    (λ q. by_bool (eqb c 49)
    (λ r. let i = push-inv 47 (pointed_from false s) n (rw (q, r) at e) in
    ap pointer i.2 ∙ slash-pointer i.0 ∙ ap (λ (x : Bytes). 126 ∷ 49 ∷ x) (pointer-from false s i.0 i.1) ∙ ap (λ (x : ℕ). 126 ∷ x ∷ s) (sym (eqb-true c 49 r)))
    (λ r. none-some (rw (q, r) at e)))

pub pointer-pointed : (p n : Bytes) → pointed p ≡ some n → pointer n ≡ p
unfolding pointed
pointer-pointed p n e = pointer-from false p n (provided-inv (not (empty p)) (pointed_from false p) e).1

-- worked example
both-escapes : pointer (ascii "a/b~c") ≡ ascii "a~1b~0c"
unfolding pointer
both-escapes = refl
