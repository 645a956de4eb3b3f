-- Keys: making them again changes nothing, and they are distinct where the given ones are.
use mathlib.Core.Path.{◌≡◌, refl, ap}
use mathlib.Core.Bool.{Bool, true, false, ◌||◌, ◌&&◌, not}
use mathlib.Core.List.{List, [], ◌∷◌}
use Rattle.text.specs.Bytes.{Bytes, any, all, same, among, distinct, empty, keep}
use Rattle.text.proofs.Cases.{by_bool, and_left, and_right, or_left, or_right, not-true, not-both}
use Rattle.text.proofs.Same.{same_true, among-head, among_later}
use Rattle.text.proofs.Lists.{all_head, all_tail}
use Rattle.convert.specs.Keys.{fresh, keys_after, keys}
use Rattle.convert.proofs.Fresh.{fresh-unused, fresh-filled}

abbrev given : Bytes → Bool
given k = not (empty k)

-- every key is filled
keys_filled : (p : Bytes) (used ks : List Bytes) → all given (keys_after p used ks) ≡ true
unfolding keys_after all
keys_filled p used [] = refl
keys_filled p used (k ∷ ks) =
    by_bool (empty k)
    (λ e. rw (e, fresh-filled p used) (keys_filled p (fresh p used ∷ used) ks))
    (λ e. rw (e, e) (keys_filled p (k ∷ used) ks))

-- filled keys stay as they are, whatever is used
keys-same : (p : Bytes) (used ks : List Bytes) → all given ks ≡ true → keys_after p used ks ≡ ks
unfolding keys_after
keys-same p used [] h = refl
keys-same p used (k ∷ ks) h = rw (not-true (empty k) (all_head given k ks h)) (ap (λ (x : List Bytes). k ∷ x) (keys-same p (k ∷ used) ks (all_tail given k ks h)))

pub keys-given : (p : Bytes) (ks : List Bytes) → all given ks ≡ true → keys p ks ≡ ks
unfolding keys
keys-given p ks h = keys-same p (keep given ks) ks h

-- ---- distinct

-- a key that is used and not one of those to come is not made again
not-again : (p : Bytes) (used ks : List Bytes) (k : Bytes) → among k used ≡ true → among k (keep given ks) ≡ false → among k (keys_after p used ks) ≡ false
unfolding keys_after keep among any
not-again p used [] k u n = refl
not-again p used (j ∷ ks) k u n =
    by_bool (empty j)
    (λ e. let d : same k (fresh p used) ≡ false = by_bool (same k (fresh p used)) (λ q. not-both u (rw (same_true k (fresh p used) q) (fresh-unused p used))) (λ q. q) in
    rw (e, d) (not-again p (fresh p used ∷ used) ks k (among_later k (fresh p used) used u) (rw e at n)))
    (λ e. let m : same k j || among k (keep given ks) ≡ false = rw e at n in
    rw (e, or_left (same k j) _ m) (not-again p (j ∷ used) ks k (among_later k j used u) (or_right (same k j) _ m)))

distinct-after : (p : Bytes) (used ks : List Bytes) → ((k : Bytes) → among k (keep given ks) ≡ true → among k used ≡ true) → distinct (keep given ks) ≡ true → distinct (keys_after p used ks) ≡ true
unfolding keys_after keep distinct
distinct-after p used [] h d = refl
distinct-after p used (j ∷ ks) h d =
    by_bool (empty j)
    (λ e. let k : Bytes = fresh p used in
    let later : (x : Bytes) → among x (keep given ks) ≡ true → among x used ≡ true = λ x q. h x (kept-later e x q) in
    let n : among k (keep given ks) ≡ false = by_bool (among k (keep given ks)) (λ q. not-both (later k q) (fresh-unused p used)) (λ q. q) in
    rw (e, not-again p (k ∷ used) ks k (among-head k used) n) (distinct-after p (k ∷ used) ks (λ x q. among_later x k used (later x q)) (rw e at d)))
    (λ e. let m : not (among j (keep given ks)) && distinct (keep given ks) ≡ true = rw e at d in
    rw (e, not-again p (j ∷ used) ks j (among-head j used) (not-true (among j (keep given ks)) (and_left _ _ m)))
    (distinct-after p (j ∷ used) ks (λ x q. among_later x j used (h x (kept-given e x q))) (and_right (not (among j (keep given ks))) _ m)))
  where
    kept-later : empty j ≡ true → (x : Bytes) → among x (keep given ks) ≡ true → among x (keep given (j ∷ ks)) ≡ true
    kept-later e x q = rw e q

    kept-given : empty j ≡ false → (x : Bytes) → among x (keep given ks) ≡ true → among x (keep given (j ∷ ks)) ≡ true
    kept-given e x q = rw e (among_later x j (keep given ks) q)

-- where no two PROP-IDs of a map are equal, no two of its keys are
pub keys-distinct : (p : Bytes) (ids : List Bytes) → distinct (keep given ids) ≡ true → distinct (keys p ids) ≡ true
unfolding keys
keys-distinct p ids d = distinct-after p (keep given ids) ids (λ k q. q) d
