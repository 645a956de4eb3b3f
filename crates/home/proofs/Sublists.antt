-- Names taken in order from a list of names that differ: they differ too.
use mathlib.Core.Path.{◌≡◌}
use mathlib.Core.Bool.{Bool, true, false, not}
use mathlib.Core.List.{List, [], ◌∷◌, ◌++◌, map}
use Rattle.text.specs.Bytes.{Bytes, any, all, same, among, distinct, keep}
use Rattle.text.proofs.Cases.{by_bool, and_left, and_right, or_left, or_right, not-true}
use Rattle.text.proofs.Same.{among-append}
use Rattle.text.proofs.Lists.{all_head, all_tail}

pub data Sub {A : Type 0} : List A → List A → Type 0 where
  none_of : Sub [] []
  left_out : {xs ys : List A} (y : A) → Sub xs ys → Sub xs (y ∷ ys)
  taken_in : {xs ys : List A} (y : A) → Sub xs ys → Sub (y ∷ xs) (y ∷ ys)

module _ {A : Type 0} where
  pub sub-nothing : (ys : List A) → Sub [] ys
  sub-nothing [] = none_of
  sub-nothing (y ∷ ys) = left_out y (sub-nothing ys)

  pub sub-append : {xs ys us vs : List A} → Sub xs ys → Sub us vs → Sub (xs ++ us) (ys ++ vs)
  sub-append none_of t = t
  sub-append (left_out y s) t = left_out y (sub-append s t)
  sub-append (taken_in y s) t = taken_in y (sub-append s t)

  pub sub-keep : (p : A → Bool) (xs : List A) → Sub (keep p xs) xs
  unfolding keep
  sub-keep p [] = none_of
  sub-keep p (x ∷ xs) = by_bool (p x) (λ e. rw e (taken_in x (sub-keep p xs))) (λ e. rw e (left_out x (sub-keep p xs)))

pub sub-map : {A B : Type 0} (f : A → B) {xs ys : List A} → Sub xs ys → Sub (map f xs) (map f ys)
sub-map f none_of = none_of
sub-map f (left_out y s) = left_out (f y) (sub-map f s)
sub-map f (taken_in y s) = taken_in (f y) (sub-map f s)

-- ---- names that differ

pub sub-among : (n : Bytes) {xs ys : List Bytes} → Sub xs ys → among n ys ≡ false → among n xs ≡ false
unfolding among any
sub-among n none_of h = h
sub-among n (left_out y s) h = sub-among n s (or_right (same n y) _ h)
sub-among n (taken_in y s) h = rw (or_left (same n y) _ h) (sub-among n s (or_right (same n y) _ h))

pub sub-distinct : {xs ys : List Bytes} → Sub xs ys → distinct ys ≡ true → distinct xs ≡ true
unfolding distinct
sub-distinct none_of h = h
sub-distinct (left_out {ys = ys} y s) h = sub-distinct s (and_right (not (among y ys)) _ h)
sub-distinct (taken_in {ys = ys} y s) h =
    rw (sub-among y s (not-true (among y ys) (and_left _ _ h))) (sub-distinct s (and_right (not (among y ys)) _ h))

pub distinct_append : (xs ys : List Bytes) → distinct xs ≡ true → distinct ys ≡ true → all (λ x. not (among x ys)) xs ≡ true → distinct (xs ++ ys) ≡ true
unfolding distinct
distinct_append [] ys d e h = e
distinct_append (x ∷ xs) ys d e h =
    let a = not-true (among x xs) (and_left _ _ d) in
    let b = not-true (among x ys) (all_head (λ x. not (among x ys)) x xs h) in
    rw (among-append x xs ys, a, b) (distinct_append xs ys (and_right (not (among x xs)) _ d) e (all_tail (λ x. not (among x ys)) x xs h))
