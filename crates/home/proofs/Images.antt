-- each: what holds of every element and its image holds of the lists.
use mathlib.Core.Path.{◌≡◌, refl, ap, ap₂}
use mathlib.Core.Bool.{Bool, true}
pub use mathlib.Core.List.{map-append, map-id, map-map}
use mathlib.Core.List.{List, [], ◌∷◌, map}
use mathlib.Core.Option.{Option, some}
pub use Rattle.text.proofs.Lists.{all-anything}
use Rattle.text.specs.Bytes.{all, empty, keep, each}
use Rattle.text.proofs.Cases.{by_bool}
use Rattle.text.proofs.Lists.{all_head, all_tail}
use Rattle.home.proofs.Known.{on_none, on_each}

module _ {A B C : Type 0} (f : A → Option B) (q : A → Bool) (g : B → C) (h : A → C) where
  -- images and sources go to the same things, where the sources pass a test
  pub each_same : ((x : A) (y : B) → q x ≡ true → f x ≡ some y → g y ≡ h x) → (xs : List A) (ys : List B) → all q xs ≡ true → each f xs ≡ some ys → map g ys ≡ map h xs
  each_same e [] ys a i = on_none f i (λ n. rw (← n))
  each_same e (x ∷ xs) ys a i = on_each f x xs i (λ z zs p o r. rw (← r) (ap₂ ◌∷◌ (e x z (all_head q x xs a) p) (each_same e xs zs (all_tail q x xs a) o)))

  -- and so do those that are kept
  pub each_keep : (p : B → Bool) (r : A → Bool) → ((x : A) (y : B) → q x ≡ true → f x ≡ some y → (p y ≡ r x) × (g y ≡ h x))
      → (xs : List A) (ys : List B) → all q xs ≡ true → each f xs ≡ some ys → map g (keep p ys) ≡ map h (keep r xs)
  unfolding keep
  each_keep p r e [] ys a i = on_none f i (λ n. rw (← n))
  each_keep p r e (x ∷ xs) ys a i =
      on_each f x xs i
      (λ z zs s o t. rw (← t) (step z zs (e x z (all_head q x xs a) s) (each_keep p r e xs zs (all_tail q x xs a) o)))
    where
      step : (z : B) (zs : List B) → (p z ≡ r x) × (g z ≡ h x) → map g (keep p zs) ≡ map h (keep r xs) → map g (keep p (z ∷ zs)) ≡ map h (keep r (x ∷ xs))
      step z zs w k = rw w.0 (by_bool (r x) (λ t. rw t (ap₂ ◌∷◌ w.1 k)) (λ t. rw t k))

abbrev pub AtMostOne : {A : Type 0} → List A → Type 0
AtMostOne [] = Unit {0}
AtMostOne (x ∷ []) = Unit {0}
AtMostOne (x ∷ (y ∷ ys)) = ⊥

pub empty-map : {A B : Type 0} (f : A → B) (xs : List A) → empty (map f xs) ≡ empty xs
empty-map f [] = refl
empty-map f (x ∷ xs) = refl

-- what is kept of images
pub keep-map : {A B : Type 0} (p : B → Bool) (f : A → B) (xs : List A) → keep p (map f xs) ≡ map f (keep (λ x. p (f x)) xs)
unfolding keep
keep-map p f [] = refl
keep-map {A} {B} p f (x ∷ xs) = by_bool (p (f x)) (λ e. rw e (ap (λ (l : List B). f x ∷ l) (keep-map p f xs))) (λ e. rw e (keep-map p f xs))

-- two tests that agree where a third holds
pub keep-agree : {A : Type 0} (r p q : A → Bool) → ((x : A) → r x ≡ true → p x ≡ q x) → (xs : List A) → all r xs ≡ true → keep p xs ≡ keep q xs
unfolding keep
keep-agree r p q h [] a = refl
keep-agree r p q h (x ∷ xs) a = rw (h x (all_head r x xs a), keep-agree r p q h xs (all_tail r x xs a))

-- the weaker test first changes nothing
pub keep-weaker : {A : Type 0} (p q : A → Bool) → ((x : A) → p x ≡ true → q x ≡ true) → (xs : List A) → keep p (keep q xs) ≡ keep p xs
unfolding keep
keep-weaker p q h [] = refl
keep-weaker {A} p q h (x ∷ xs) =
    by_bool (p x)
    (λ e. rw (h x e, e) (ap (λ (l : List A). x ∷ l) (keep-weaker p q h xs)))
    (λ e. by_bool (q x) (λ f. rw (f, e, keep-weaker p q h xs)) (λ f. rw (f, e, keep-weaker p q h xs)))
