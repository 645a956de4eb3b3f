-- A statement about every element of a list; what each of them gives.
use mathlib.Core.Path.{◌≡◌, refl, sym, ap, ap₂, subst, ◌∙◌}
use mathlib.Core.Logic.{inl, inr}
use mathlib.Core.Bool.{Bool, true, false, not}
use mathlib.Core.List.{List, [], ◌∷◌, ◌++◌, map}
use mathlib.Core.Option.{Option, some}
pub use Rattle.home.specs.Members.{In}
use Rattle.text.specs.Bytes.{Bytes, any, all, same, among, distinct, keep, flat, each}
use Rattle.text.proofs.Cases.{by_bool, and_left, and_right, or_left, or_right, not-true}
use Rattle.text.proofs.Choices.{some_same, both-inv}
use Rattle.text.proofs.Same.{among-head, among_later}
use Rattle.text.proofs.Lists.{all_head, all_tail}

abbrev pub All : {A : Type 0} → (A → Type 0) → List A → Type 0
All P [] = Unit {0}
All P (x ∷ xs) = P x × All P xs

-- ---- as a test

pub all-test : {A : Type 0} (p : A → Bool) (xs : List A) → All (λ x. p x ≡ true) xs → all p xs ≡ true
unfolding all
all-test p [] h = refl
all-test p (x ∷ xs) h = rw (h.0, all-test p xs h.1)

pub test-all : {A : Type 0} (p : A → Bool) (xs : List A) → all p xs ≡ true → All (λ x. p x ≡ true) xs
test-all p [] h = tt
test-all p (x ∷ xs) h = (all_head p x xs h, test-all p xs (all_tail p x xs h))

pub all-mono : {A : Type 0} (P Q : A → Type 0) → ((x : A) → P x → Q x) → (xs : List A) → All P xs → All Q xs
all-mono P Q f [] h = tt
all-mono P Q f (x ∷ xs) h = (f x h.0, all-mono P Q f xs h.1)

pub all_two : {A : Type 0} (P Q : A → Type 0) (xs : List A) → All P xs → All Q xs → All (λ x. P x × Q x) xs
all_two P Q [] h k = tt
all_two P Q (x ∷ xs) h k = ((h.0, k.0), all_two P Q xs h.1 k.1)

-- ---- of lists put together

pub all-kept : {A : Type 0} (P : A → Type 0) (p : A → Bool) (xs : List A) → All P xs → All P (keep p xs)
unfolding keep
all-kept P p [] h = tt
all-kept P p (x ∷ xs) h = by_bool (p x) (λ e. rw e (h.0, all-kept P p xs h.1)) (λ e. rw e (all-kept P p xs h.1))

pub all-joined : {A : Type 0} (P : A → Type 0) (xs ys : List A) → All P xs → All P ys → All P (xs ++ ys)
all-joined P [] ys h k = k
all-joined P (x ∷ xs) ys h k = (h.0, all-joined P xs ys h.1 k)

pub all-flat : {A B : Type 0} (P : A → Type 0) (Q : B → Type 0) (f : A → List B) → ((x : A) → P x → All Q (f x)) → (xs : List A) → All P xs → All Q (flat (map f xs))
unfolding flat
all-flat P Q f g [] h = tt
all-flat P Q f g (x ∷ xs) h = all-joined Q (f x) (flat (map f xs)) (g x h.0) (all-flat P Q f g xs h.1)

-- ---- what each gives

pub each-gives : {A B : Type 0} (f : A → Option B) (P : A → Type 0) (Q : B → Type 0) → ((a : A) (b : B) → P a → f a ≡ some b → Q b) → (xs : List A) (ys : List B)
    → All P xs → each f xs ≡ some ys → All Q ys
unfolding each
each-gives f P Q g [] ys h e = subst (All Q) (some_same e) tt
each-gives f P Q g (x ∷ xs) ys h e =
    let i = both-inv ◌∷◌ (f x) (each f xs) e in
    subst (All Q) i.4 (g x i.0 h.0 i.2, each-gives f P Q g xs i.1 h.1 i.3)

-- what they are called by stays
pub each-called : {A B C : Type 0} (f : A → Option B) (g : A → C) (h : B → C) → ((a : A) (b : B) → f a ≡ some b → h b ≡ g a) → (xs : List A) (ys : List B)
    → each f xs ≡ some ys → map h ys ≡ map g xs
unfolding each
each-called f g h k [] ys e = ap (map h) (sym (some_same e))
each-called f g h k (x ∷ xs) ys e =
    let i = both-inv ◌∷◌ (f x) (each f xs) e in
    ap (map h) (sym i.4) ∙ ap₂ ◌∷◌ (k x i.0 i.2) (each-called f g h k xs i.1 i.3)

-- ---- distinct names, of those that are kept

kept-among : {A : Type 0} (f : A → Bytes) (p : A → Bool) (s : Bytes) (xs : List A) → among s (map f xs) ≡ false → among s (map f (keep p xs)) ≡ false
unfolding among any keep
kept-among f p s [] h = refl
kept-among f p s (x ∷ xs) h =
    let t = kept-among f p s xs (or_right (same s (f x)) _ h) in
    by_bool (p x) (λ e. rw (e, or_left (same s (f x)) _ h) t) (λ e. rw e t)

pub kept-distinct : {A : Type 0} (f : A → Bytes) (p : A → Bool) (xs : List A) → distinct (map f xs) ≡ true → distinct (map f (keep p xs)) ≡ true
unfolding distinct keep
kept-distinct f p [] h = refl
kept-distinct f p (x ∷ xs) h =
    let t = kept-distinct f p xs (and_right (not (among (f x) (map f xs))) _ h) in
    let n = kept-among f p (f x) xs (not-true (among (f x) (map f xs)) (and_left _ _ h)) in
    by_bool (p x) (λ e. rw (e, n) t) (λ e. rw e t)

-- ---- elements

pub in_all : {A : Type 0} (P : A → Type 0) (xs : List A) → ((x : A) → In x xs → P x) → All P xs
in_all P [] h = tt
in_all P (x ∷ xs) h = (h x (inl refl), in_all P xs (λ y i. h y (inr i)))

pub all_in : {A : Type 0} (P : A → Type 0) (xs : List A) (x : A) → All P xs → In x xs → P x
all_in P [] x h i = absurd i
all_in P (y ∷ ys) x h (inl e) = subst P (sym e) h.0
all_in P (y ∷ ys) x h (inr i) = all_in P ys x h.1 i

pub in_left : {A : Type 0} (x : A) (xs ys : List A) → In x xs → In x (xs ++ ys)
in_left x [] ys i = absurd i
in_left x (z ∷ xs) ys (inl e) = inl e
in_left x (z ∷ xs) ys (inr i) = inr (in_left x xs ys i)

pub in_right : {A : Type 0} (x : A) (xs ys : List A) → In x ys → In x (xs ++ ys)
in_right x [] ys i = i
in_right x (z ∷ xs) ys i = inr (in_right x xs ys i)

pub in-flat : {A B : Type 0} (f : A → List B) (x : A) (y : B) (xs : List A) → In y (f x) → In x xs → In y (flat (map f xs))
unfolding flat
in-flat f x y [] h i = absurd i
in-flat f x y (z ∷ xs) h (inl e) = in_left y (f z) (flat (map f xs)) (subst (λ (w : _). In y (f w)) e h)
in-flat f x y (z ∷ xs) h (inr i) = in_right y (f z) (flat (map f xs)) (in-flat f x y xs h i)

-- the name of an element is among the names
pub in-among : {A : Type 0} (f : A → Bytes) (x : A) (xs : List A) → In x xs → among (f x) (map f xs) ≡ true
in-among f x [] i = absurd i
in-among f x (y ∷ ys) (inl e) = subst (λ (z : Bytes). among z (f y ∷ map f ys) ≡ true) (ap f (sym e)) (among-head (f y) (map f ys))
in-among f x (y ∷ ys) (inr i) = among_later (f x) (f y) (map f ys) (in-among f x ys i)

-- what is kept
pub keep-there : {A : Type 0} (p : A → Bool) (x : A) (xs : List A) → In x xs → p x ≡ true → In x (keep p xs)
unfolding keep
keep-there p x [] h e = h
keep-there p x (y ∷ ys) (inl q) e = let r : p y ≡ true = subst (λ (z : _). p z ≡ true) q e in rw r (inl q)
keep-there p x (y ∷ ys) (inr h) e = by_bool (p y) (λ r. rw r (inr (keep-there p x ys h e))) (λ r. rw r (keep-there p x ys h e))
