-- What `?` hands on: there is one way to be no card.
use mathlib.Core.Path.{◌≡◌, refl}
use Prim.Native.Nat.{ℕ}
use native.Mathlib.Omega.{arith}
use Rattle.std.specs.Prelude.{Result, Ok, Err, IsErr}
use Rattle.text.proofs.Cases.{not-both}
use Rattle.to_card_pen.specs.declared.NoCard.{NoCard}
use Rattle.to_card_pen.specs.Refusal.{no_card}

pub refused : {A : Type 0} (r : Result A NoCard) → IsErr r → r ≡ Err no_card
refused (Ok x) h = not-both h refl
refused (Err e) h = refl

-- what two equal answers say
pub ok-is : {A : Type 0} {x y : A} → ◌≡◌ {A = Result A NoCard} (Ok x) (Ok y) → x ≡ y
ok-is q = cc

pub not_ok : {A : Type 0} {x : A} → ◌≡◌ {A = Result A NoCard} (Err no_card) (Ok x) → ⊥
not_ok q = let z : ◌≡◌ {A = ℕ} 0 1 = cc in omega arith
