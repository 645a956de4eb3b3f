-- The first of a list with a property, sought from a place on.
use mathlib.Core.Path.{◌≡◌, refl}
use mathlib.Core.Bool.{Bool, true, false}
use mathlib.Core.List.{List, [], ◌∷◌}
use mathlib.Core.Option.{none, some}
use Prim.Native.Nat.{ℕ, suc, ◌+◌, ◌≤◌, ◌<◌}
use native.Mathlib.Numerals.{add-one}
use lib.ListN.{length, drop, get_or, drop_of_length-le}
use lib.Seq.{drop-cons}
use Rattle.text.specs.Bytes.{any}
use Rattle.text.proofs.Cases.{or_left, or_right}
use Rattle.convert.specs.Answers.{first_from}

module _ {A : Type 0} (p : A → Bool) (d : A) (xs : List A) (k : ℕ) where
  pub first_on : k < length xs → p (get_or xs k d) ≡ false → first_from (k + 1) p (drop k xs) ≡ first_from (k + 1 + 1) p (drop (k + 1) xs)
  unfolding first_from
  first_on l e = rw (drop-cons xs k d l, e, add-one (k + 1), add-one k)

  pub first-here : k < length xs → p (get_or xs k d) ≡ true → first_from (k + 1) p (drop k xs) ≡ some (k + 1)
  unfolding first_from
  first-here l e = rw (drop-cons xs k d l, e)

  pub first-end : length xs ≤ k → first_from (k + 1) p (drop k xs) ≡ none
  unfolding first_from
  first-end l = rw (drop_of_length-le xs {i = k} l)

pub first-none : {A : Type 0} (p : A → Bool) (i : ℕ) (xs : List A) → any p xs ≡ false → first_from i p xs ≡ none
unfolding first_from any
first-none p i [] e = refl
first-none p i (x ∷ xs) e = rw (or_left (p x) (any p xs) e) (first-none p (suc i) xs (or_right (p x) (any p xs) e))
