-- Splitting at bare separators keeps escapes: all parts can be read exactly where the whole can.
use mathlib.Core.Path.{◌≡◌, refl, sym, ap, ◌∙◌}
use mathlib.Core.Bool.{Bool, true, false, ◌&&◌, ◌||◌, not}
use mathlib.Core.List.{List, [], ◌∷◌}
use mathlib.Core.Option.{Option, none, some}
use Prim.Native.Nat.{ℕ}
use lib.Dec.{eqb}
use borrow.Author.Tests.{eqb-true}
use Rattle.text.specs.Choice.{both, is_some}
use Rattle.text.specs.Bytes.{Bytes, all, on_head, each}
use Rattle.text.proofs.Cases.{by_bool}
use Rattle.line.specs.Text.{push, escaped, text_from, read_text, split_from, split_text}

-- ---- some for each

both_some : {A : Type 0} (o : Option A) (os : Option (List A)) → is_some (both ◌∷◌ o os) ≡ is_some o && is_some os
both_some none os = refl
both_some (some a) none = refl
both_some (some a) (some b) = refl

pub each-some : {A B : Type 0} (f : A → Option B) (xs : List A) → is_some (each f xs) ≡ all (λ x. is_some (f x)) xs
unfolding each all
each-some f [] = refl
each-some f (x ∷ xs) = both_some (f x) (each f xs) ∙ ap (λ b. is_some (f x) && b) (each-some f xs)

-- ---- one byte

push-some : (c : ℕ) (o : Option Bytes) → is_some (push c o) ≡ is_some o
push-some c none = refl
push-some c (some t) = refl

abbrev escapable : ℕ → Bool
escapable c = (eqb c 92 || eqb c 44 || eqb c 59) || (eqb c 110 || eqb c 78)

escaped-some : (c : ℕ) (o : Option Bytes) → is_some (escaped c o) ≡ escapable c && is_some o
unfolding escaped
escaped-some c o =
    by_bool (eqb c 92 || eqb c 44 || eqb c 59)
    (λ h. rw h (push-some c o))
    (λ h. by_bool (eqb c 110 || eqb c 78) (λ k. rw (h, k) (push-some 10 o)) (λ k. rw (h, k)))

and-true-right : (a : Bool) → a && true ≡ a
and-true-right true = refl
and-true-right false = refl

and-more : (a b c : Bool) → (a && b) && c ≡ a && (b && c)
and-more true b c = refl
and-more false b c = refl

-- ---- parts

abbrev reads : Bytes → Bool
reads s = is_some (text_from false s)

-- the first part after a backslash, or not; the others not
abbrev goods : Bool → List Bytes → Bool
goods b [] = not b
goods b (x ∷ xs) = is_some (text_from b x) && all reads xs

goods-all : (ss : List Bytes) → goods false ss ≡ all reads ss
unfolding all
goods-all [] = refl
goods-all (x ∷ xs) = refl

good-backslash : (ss : List Bytes) → goods false (on_head 92 ss) ≡ goods true ss
unfolding on_head text_from all
good-backslash [] = refl
good-backslash (x ∷ xs) = refl

good-plain : (c : ℕ) (ss : List Bytes) → eqb c 92 ≡ false → goods false (on_head c ss) ≡ goods false ss
unfolding on_head text_from all
good-plain c [] h = rw h
good-plain c (x ∷ xs) h = rw h (ap (λ b. b && all reads xs) (push-some c (text_from false x)))

good-escaped : (c : ℕ) (ss : List Bytes) → goods true (on_head c ss) ≡ escapable c && goods false ss
unfolding on_head text_from all
good-escaped c [] = and-true-right (is_some (escaped c (some []))) ∙ escaped-some c (some [])
good-escaped c (x ∷ xs) = ap (λ b. b && all reads xs) (escaped-some c (text_from false x)) ∙ and-more (escapable c) (is_some (text_from false x)) (all reads xs)

split-goods : (b : Bool) (d : ℕ) (s : Bytes) → goods b (split_from b d s) ≡ is_some (text_from b s)
unfolding split_from text_from all
split-goods true d [] = refl
split-goods false d [] = refl
split-goods true d (c ∷ s) =
    good-escaped c (split_from false d s) ∙ ap (λ b. escapable c && b) (split-goods false d s) ∙ sym (escaped-some c (text_from false s))
split-goods false d (c ∷ s) =
    by_bool (eqb c 92)
    (λ h. rw (h, eqb-true c 92 h) (good-backslash (split_from true d s) ∙ split-goods true d s))
    (λ h. by_bool (eqb c d)
    (λ k. rw (h, k) (sym (goods-all (split_from false d s)) ∙ split-goods false d s ∙ sym (push-some c (text_from false s))))
    (λ k. rw (h, k) (good-plain c (split_from false d s) h ∙ split-goods false d s ∙ sym (push-some c (text_from false s)))))

-- splitting at bare separators keeps escapes
pub split-reads : (d : ℕ) (s : Bytes) → all (λ x. is_some (read_text x)) (split_text d s) ≡ is_some (read_text s)
unfolding read_text split_text
split-reads d s = sym (goods-all (split_from false d s)) ∙ split-goods false d s

pub split-each : (d : ℕ) (s : Bytes) → is_some (each read_text (split_text d s)) ≡ is_some (read_text s)
split-each d s = each-some read_text (split_text d s) ∙ split-reads d s
