-- The number of a line's name, from its table.
use mathlib.Core.Path.{◌≡◌, refl, sym, ap, ◌∙◌}
use mathlib.Core.List.{List}
use Prim.Native.Nat.{ℕ, ◌<◌}
use native.Mathlib.Omega.{arith}
use lib.ListN.{get_or}
use Rattle.text.specs.Bytes.{Bytes, lowered}
use Rattle.line_table.specs.Table.{part, line_in}
use Rattle.class_properties.specs.Names.{name_number}
use Rattle.class_properties.proofs.Numbers.{number_small}
use Rattle.class_line.specs.Class.{Numbered}

name-is : (s : Bytes) (t : List ℕ) → (line_in s t).name ≡ part s (get_or t 2 0) (get_or t 3 0)
unfolding line_in
name-is s t = refl

pub numbered : (s : Bytes) (t : List ℕ) (k m : ℕ) → k ≡ name_number (lowered (part s (get_or t 2 0) (get_or t 3 0))) → k ≡ m → Numbered s t m
numbered s t k m h e = ap (λ u. name_number (lowered u)) (name-is s t) ∙ sym h ∙ e

below-four : (k : ℕ) → k < 7 → (k ≡ 4 → ⊥) → (k ≡ 5 → ⊥) → (k ≡ 6 → ⊥) → k < 4
below-four k l a b c = omega arith

is-three : (k : ℕ) → k < 4 → (k ≡ 0 → ⊥) → (k ≡ 1 → ⊥) → (k ≡ 2 → ⊥) → k ≡ 3
is-three k l a b c = omega arith

-- none of the others
pub third : (n : Bytes) (k : ℕ) → k ≡ name_number n → k < 16 → (k ≡ 0 → ⊥) → (k ≡ 4 → ⊥) → (k ≡ 5 → ⊥) → (k ≡ 6 → ⊥) → (k ≡ 1 → ⊥) → (k ≡ 2 → ⊥) → k ≡ 3
third n k e l z a b c d f =
    let small : name_number n < 16 = rw (sym e) l in
    let less : k < 7 = rw e (number_small n small) in
    is-three k (below-four k less a b c) z d f
