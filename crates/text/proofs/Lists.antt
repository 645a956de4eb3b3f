-- any, all, keep and each over lists.
use mathlib.Core.Path.{◌≡◌, refl, ap, ◌∙◌, sym}
use mathlib.Core.Bool.{Bool, true, false, ◌&&◌, ◌||◌, not}
use mathlib.Core.List.{List, [], ◌∷◌, ◌++◌, map, append_assoc}
use mathlib.Core.Option.{Option, some}
use Prim.Native.Nat.{suc, ◌≤◌}
use native.Mathlib.Omega.{arith}
use lib.ListN.{length}
use Rattle.text.specs.Bytes.{any, all, keep, flat, each, empty}
use Rattle.text.proofs.Choices.{some_same, both-inv}
use Rattle.text.proofs.Cases.{by_bool, and_left, and_right, or_left, or_right, not-both}

module _ {A : Type 0} (p : A → Bool) where
  pub any_append : (xs ys : List A) → any p (xs ++ ys) ≡ any p xs || any p ys
  unfolding any
  any_append [] ys = refl
  any_append (x ∷ xs) ys = by_bool (p x) (λ e. rw e) (λ e. rw e (any_append xs ys))

  pub all_append : (xs ys : List A) → all p (xs ++ ys) ≡ all p xs && all p ys
  unfolding all
  all_append [] ys = refl
  all_append (x ∷ xs) ys = by_bool (p x) (λ e. rw e (all_append xs ys)) (λ e. rw e)

  pub keep_append : (xs ys : List A) → keep p (xs ++ ys) ≡ keep p xs ++ keep p ys
  unfolding keep
  keep_append [] ys = refl
  keep_append (x ∷ xs) ys = by_bool (p x) (λ e. rw e (ap (λ (l : List A). x ∷ l) (keep_append xs ys))) (λ e. rw e (keep_append xs ys))

  -- a list of what passes, taken apart
  pub all_head : (x : A) (xs : List A) → all p (x ∷ xs) ≡ true → p x ≡ true
  unfolding all
  all_head x xs e = and_left (p x) _ e

  pub all_tail : (x : A) (xs : List A) → all p (x ∷ xs) ≡ true → all p xs ≡ true
  unfolding all
  all_tail x xs e = and_right (p x) _ e

  pub all_cons : (x : A) (xs : List A) → p x ≡ true → all p xs ≡ true → all p (x ∷ xs) ≡ true
  unfolding all
  all_cons x xs e h = rw (e, h)

  pub all_both : (xs ys : List A) → all p xs ≡ true → all p ys ≡ true → all p (xs ++ ys) ≡ true
  all_both xs ys e h = rw (all_append xs ys, e, h)

  -- none passes
  pub any_head : (x : A) (xs : List A) → any p (x ∷ xs) ≡ false → p x ≡ false
  unfolding any
  any_head x xs e = or_left (p x) _ e

  pub any-tail : (x : A) (xs : List A) → any p (x ∷ xs) ≡ false → any p xs ≡ false
  unfolding any
  any-tail x xs e = or_right (p x) _ e

  pub any_none : (x : A) (xs : List A) → p x ≡ false → any p xs ≡ false → any p (x ∷ xs) ≡ false
  unfolding any
  any_none x xs e h = rw (e, h)

  pub any-neither : (xs ys : List A) → any p xs ≡ false → any p ys ≡ false → any p (xs ++ ys) ≡ false
  any-neither xs ys e h = rw (any_append xs ys, e, h)

  -- all pass: all are kept; keeping again changes nothing
  pub keep_all : (xs : List A) → all p xs ≡ true → keep p xs ≡ xs
  unfolding keep
  keep_all [] e = refl
  keep_all (x ∷ xs) e = rw (all_head x xs e, keep_all xs (all_tail x xs e))

  pub keep-passes : (xs : List A) → all p (keep p xs) ≡ true
  unfolding keep all
  keep-passes [] = refl
  keep-passes (x ∷ xs) = by_bool (p x) (λ e. rw (e, e, keep-passes xs)) (λ e. rw e (keep-passes xs))

  pub keep-none : (xs : List A) → any p xs ≡ false → keep p xs ≡ []
  unfolding keep
  keep-none [] e = refl
  keep-none (x ∷ xs) e = rw (any_head x xs e, keep-none xs (any-tail x xs e))

  -- the other side of all
  pub any-not : (xs : List A) → any (λ x. not (p x)) xs ≡ not (all p xs)
  unfolding any all
  any-not [] = refl
  any-not (x ∷ xs) = by_bool (p x) (λ e. rw e (any-not xs)) (λ e. rw e)

  pub all-not : (xs : List A) → all (λ x. not (p x)) xs ≡ not (any p xs)
  unfolding any all
  all-not [] = refl
  all-not (x ∷ xs) = by_bool (p x) (λ e. rw e) (λ e. rw e (all-not xs))

-- one test follows from the other
pub all-imply : {A : Type 0} (p q : A → Bool) → ((x : A) → p x ≡ true → q x ≡ true) → (xs : List A) → all p xs ≡ true → all q xs ≡ true
unfolding all
all-imply p q h [] e = refl
all-imply p q h (x ∷ xs) e = rw (h x (all_head p x xs e), all-imply p q h xs (all_tail p x xs e))

pub any-imply : {A : Type 0} (p q : A → Bool) → ((x : A) → p x ≡ false → q x ≡ false) → (xs : List A) → any p xs ≡ false → any q xs ≡ false
unfolding any
any-imply p q h [] e = refl
any-imply p q h (x ∷ xs) e = rw (h x (any_head p x xs e), any-imply p q h xs (any-tail p x xs e))

pub all_none : {A : Type 0} (p q : A → Bool) → ((x : A) → p x ≡ true → q x ≡ false) → (xs : List A) → all p xs ≡ true → any q xs ≡ false
unfolding any
all_none p q h [] e = refl
all_none p q h (x ∷ xs) e = rw (h x (all_head p x xs e), all_none p q h xs (all_tail p x xs e))

pub keep_same : {A : Type 0} (p q : A → Bool) → ((x : A) → p x ≡ q x) → (xs : List A) → keep p xs ≡ keep q xs
unfolding keep
keep_same p q h [] = refl
keep_same p q h (x ∷ xs) = rw (h x, keep_same p q h xs)

-- keeping by two tests, in either order
pub keep-swap : {A : Type 0} (p q : A → Bool) (xs : List A) → keep p (keep q xs) ≡ keep q (keep p xs)
unfolding keep
keep-swap {A} p q [] = refl
keep-swap {A} p q (x ∷ xs) =
    by_bool (p x)
    (λ e. by_bool (q x) (λ f. rw (e, f) (rw e (ap (λ (l : List A). x ∷ l) (keep-swap p q xs)))) (λ f. rw (e, f) (keep-swap p q xs)))
    (λ e. by_bool (q x) (λ f. rw (e, f) (rw e (keep-swap p q xs))) (λ f. rw (e, f) (keep-swap p q xs)))

pub flat_append : {A : Type 0} (xs ys : List (List A)) → flat (xs ++ ys) ≡ flat xs ++ flat ys
unfolding flat
flat_append [] ys = refl
flat_append (x ∷ xs) ys = rw (flat_append xs ys, append_assoc x)

-- each image has its source back
pub each_map : {A B : Type 0} (f : A → B) (g : B → Option A) → ((a : A) → g (f a) ≡ some a) → (xs : List A) → each g (map f xs) ≡ some xs
unfolding each
each_map f g h [] = refl
each_map f g h (x ∷ xs) = rw (h x, each_map f g h xs)

pub map_both : {A B : Type 0} (f : A → B) (xs ys : List A) → map f (xs ++ ys) ≡ map f xs ++ map f ys
map_both f [] ys = refl
map_both f (x ∷ xs) ys = ap (λ (l : List _). f x ∷ l) (map_both f xs ys)

pub each_both : {A B : Type 0} (f : A → Option B) (xs ys : List A) (us vs : List B) → each f xs ≡ some us → each f ys ≡ some vs → each f (xs ++ ys) ≡ some (us ++ vs)
unfolding each
each_both f [] ys us vs p q = q ∙ ap (λ l. some (l ++ vs)) (some_same p)
each_both f (x ∷ xs) ys us vs p q =
    let i = both-inv ◌∷◌ (f x) (each f xs) p in
    rw (i.2, each_both f xs ys i.1 vs i.3 q) (ap (λ l. some (l ++ vs)) i.4)

pub all-anything : {A : Type 0} (xs : List A) → all (λ x. true) xs ≡ true
unfolding all
all-anything [] = refl
all-anything (x ∷ xs) = all-anything xs

-- a list that is not filled
pub not_full : {A : Type 0} (xs : List A) → not (empty xs) ≡ false → xs ≡ []
not_full [] e = refl
not_full (x ∷ xs) e = not-both refl e

-- ---- lengths

pub length-keep : {A : Type 0} (p : A → Bool) (xs : List A) → length (keep p xs) ≤ length xs
unfolding keep
length-keep p [] = omega arith
length-keep p (x ∷ xs) = by_bool (p x) (λ e. rw e (omega (arith, length-keep p xs))) (λ e. rw e (omega (arith, length-keep p xs)))

pub each-length : {A B : Type 0} (f : A → Option B) (xs : List A) (ys : List B) → each f xs ≡ some ys → length ys ≡ length xs
unfolding each
each-length f [] ys e = ap length (sym (some_same e))
each-length f (x ∷ xs) ys e =
    let i = both-inv ◌∷◌ (f x) (each f xs) e in
    ap length (sym i.4) ∙ ap suc (each-length f xs i.1 i.3)
