-- Which parts are filled, by the bytes of the whole: a byte that is no separator fills one, and a backslash is none.
use mathlib.Core.Path.{◌≡◌, refl, sym, ap, ◌∙◌}
use mathlib.Core.Bool.{Bool, true, false, ◌&&◌, ◌||◌, not}
use mathlib.Core.List.{List, [], ◌∷◌}
use mathlib.Core.Option.{Option, none, some}
use Prim.Native.Nat.{ℕ}
use lib.Dec.{eqb}
use borrow.Author.Tests.{eqb-true}
use Rattle.text.specs.Bytes.{Bytes, any, empty, on_head, each}
use Rattle.text.proofs.Cases.{by_bool}
use Rattle.text.proofs.Choices.{none-some, both-inv}
use Rattle.line.specs.Text.{push, escaped, text_from, read_text, split_from, split_text}
use Rattle.line_parts.specs.Parts.{other_than}

pub any_same : {A : Type 0} (p q : A → Bool) → ((x : A) → p x ≡ q x) → (xs : List A) → any p xs ≡ any q xs
unfolding any
any_same p q h [] = refl
any_same p q h (x ∷ xs) = rw (h x, any_same p q h xs)

-- ---- a part's bytes

or-more : (a b c : Bool) → (a || b) || c ≡ a || (b || c)
or-more true b c = refl
or-more false b c = refl

any_head : (p : ℕ → Bool) (c : ℕ) (ss : List Bytes) → any (any p) (on_head c ss) ≡ p c || any (any p) ss
unfolding any on_head
any_head p c [] = or-more (p c) false false
any_head p c (x ∷ xs) = or-more (p c) (any p x) (any (any p) xs)

-- in some part stands such a byte: one of the whole that is no separator
pub any-split : (p : ℕ → Bool) (d : ℕ) → p 92 ≡ true → eqb 92 d ≡ false → (s : Bytes) → any (any p) (split_text d s) ≡ any (λ c. not (eqb c d) && p c) s
unfolding split_text split_from any
any-split p d b e [] = refl
any-split p d b e (c ∷ s) =
    by_bool (eqb c 92)
    (λ h. rw (h, eqb-true c 92 h) (any_head p 92 (split_from true d s) ∙ rw (b, e)))
    (λ h. by_bool (eqb c d)
    (λ k. rw (h, k) (any-split p d b e s))
    (λ k. rw (h, k) (any_head p c (split_from false d s) ∙ ap (λ x. p c || x) (any-split p d b e s))))

and_same : (a : Bool) → a && true ≡ a && a
and_same true = refl
and_same false = refl

filled-any : (x : Bytes) → not (empty x) ≡ any (λ c. true) x
unfolding any
filled-any [] = refl
filled-any (c ∷ x) = refl

-- a part is filled
pub filled-split : (d : ℕ) → eqb 92 d ≡ false → (s : Bytes) → any (λ x. not (empty x)) (split_text d s) ≡ any (other_than d d) s
filled-split d e s =
    any_same (λ x. not (empty x)) (any (λ c. true)) filled-any (split_text d s)
    ∙ any-split (λ c. true) d refl e s
    ∙ any_same (λ c. not (eqb c d) && true) (other_than d d) (λ c. and_same (not (eqb c d))) s

and_self : (a b : Bool) → a && (b && b) ≡ a && b
and_self a true = refl
and_self a false = refl

-- a value of a part is filled
pub filled-values : (s : Bytes) → any (λ x. any (λ y. not (empty y)) (split_text 44 x)) (split_text 59 s) ≡ any (other_than 59 44) s
filled-values s =
    any_same (λ x. any (λ y. not (empty y)) (split_text 44 x)) (any (other_than 44 44)) (filled-split 44 refl) (split_text 59 s)
    ∙ any-split (other_than 44 44) 59 refl refl s
    ∙ any_same (λ c. not (eqb c 59) && other_than 44 44 c) (other_than 59 44) (λ c. and_self (not (eqb c 59)) (not (eqb c 44))) s

-- ---- what is read is empty exactly where nothing stands there

push-empty : (c : ℕ) (o : Option Bytes) (t : Bytes) → push c o ≡ some t → empty t ≡ false
push-empty c none t e = none-some e
push-empty c (some u) t e = let is : c ∷ u ≡ t = cc in ap empty (sym is)

escaped-empty : (c : ℕ) (o : Option Bytes) (t : Bytes) → escaped c o ≡ some t → empty t ≡ false
unfolding escaped
escaped-empty c o t =
    by_bool (eqb c 92 || eqb c 44 || eqb c 59)
    (λ h. rw h (push-empty c o t))
    (λ h. by_bool (eqb c 110 || eqb c 78) (λ k. rw (h, k) (push-empty 10 o t)) (λ k. rw (h, k) none-some))

after-empty : (s t : Bytes) → text_from true s ≡ some t → empty t ≡ false
unfolding text_from
after-empty [] t e = none-some e
after-empty (c ∷ s) t e = escaped-empty c (text_from false s) t e

pub read-empty : (s t : Bytes) → read_text s ≡ some t → empty t ≡ empty s
unfolding read_text text_from
read-empty [] t e = let is : [] ≡ t = cc in ap empty (sym is)
read-empty (c ∷ s) t e =
    by_bool (eqb c 92) (λ h. after-empty s t (rw h at e)) (λ h. push-empty c (text_from false s) t (rw h at e))

-- a test of what is read, by a test of what stands there
pub any-each : {A B : Type 0} (f : A → Option B) (p : A → Bool) (q : B → Bool) → ((x : A) (v : B) → f x ≡ some v → q v ≡ p x)
    → (xs : List A) (vs : List B) → each f xs ≡ some vs → any q vs ≡ any p xs
unfolding any each
any-each f p q h [] vs e = let is : [] ≡ vs = cc in ap (any q) (sym is)
any-each f p q h (x ∷ xs) us e =
    let (v, vs, a, b, c) = both-inv ◌∷◌ (f x) (each f xs) e in
    rw (sym c) (rw (h x v a, any-each f p q h xs vs b))
