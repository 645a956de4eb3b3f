-- The row of the table that a property's slot has.
use mathlib.Core.Path.{◌≡◌, refl, ap, subst, ◌∙◌}
use mathlib.Core.Bool.{true}
use mathlib.Core.List.{List, [], ◌∷◌}
use mathlib.Core.Option.{Option, none, some}
use Prim.Native.Nat.{ℕ, zero, suc, ◌+◌}
use native.Mathlib.Omega.{arith}
use lib.ListN.{length}
use lib.Dec.{ltb}
use Rattle.text.specs.Choice.{with-some}
use Rattle.text.specs.Bytes.{Bytes, same}
use Rattle.text.proofs.Choices.{none-some, some_same}
use Rattle.convert.specs.Table.{Map, maps, position, Slot, slot_from, slot_of}
use Rattle.home.proofs.Alls.{All}
use Rattle.home.proofs.Positions.{position-inside}

abbrev pub at : {A : Type 0} → ℕ → List A → Option A
at i [] = none
at zero (x ∷ xs) = some x
at (suc i) (x ∷ xs) = at i xs

pub at_all : {A : Type 0} (P : A → Type 0) (i : ℕ) (xs : List A) (x : A) → All P xs → at i xs ≡ some x → P x
at_all P i [] x h e = none-some e
at_all P zero (y ∷ xs) x h e = subst P (some_same e) h.0
at_all P (suc i) (y ∷ xs) x h e = at_all P i xs x h.1 e

-- a slot, in rows from the place i on
pub record InTable (i : ℕ) (ms : List Map) (w : Slot) : Type 0 where
  pub place : ℕ
  pub index : w.index ≡ i + place
  pub row : at place ms ≡ some w.map
  pub which : ltb w.which (length w.map.properties) ≡ true

later : (i : ℕ) (m : Map) (ms : List Map) (w : Slot) → InTable (suc i) ms w → InTable i (m ∷ ms) w
later i m ms w h = record { place = suc h.place; index = omega (arith, h.index); row = h.row; which = h.which }

slot-from : (i : ℕ) (ms : List Map) (n : Bytes) (w : Slot) → slot_from i ms n ≡ some w → InTable i ms w
unfolding slot_from
slot-from i [] n w e = none-some e
slot-from i (m ∷ ms) n w e = by (position (same n) m.properties) refl (λ q. slot-from (suc i) ms n w q) e
  where
    by : (o : Option ℕ) → position (same n) m.properties ≡ o → (slot_from (suc i) ms n ≡ some w → InTable (suc i) ms w)
        → with-some o (λ k. some (record { index = i; map = m; which = k })) (slot_from (suc i) ms n) ≡ some w → InTable i (m ∷ ms) w
    by (some k) q r f =
        subst (InTable i (m ∷ ms)) (some_same f) (record { place = 0; index = omega arith; row = refl; which = position-inside (same n) m.properties k q })
    by none q r f = later i m ms w (r f)

pub slot_row : (n : Bytes) (w : Slot) → slot_of n ≡ some w → (at w.index maps ≡ some w.map) × (ltb w.which (length w.map.properties) ≡ true)
unfolding slot_of
slot_row n w e =
    let t = slot-from 0 maps n w e in
    let z : w.index ≡ t.place = omega (arith, t.index) in
    (ap (λ (i : ℕ). at i maps) z ∙ t.row, t.which)
