-- What is known where there is a value.
use mathlib.Core.Path.{◌≡◌, refl}
use mathlib.Core.Bool.{Bool, true, false}
use mathlib.Core.Option.{Option, none, some, map}
use Prim.Native.Nat.{ℕ}
use native.Mathlib.Omega.{arith}
use Rattle.text.specs.Choice.{both, provided, chain}

pub none-some {ℓ} : {P : Type ℓ} {A : Type 0} {a : A} → none ≡ some a → P
none-some e = let r : ◌≡◌ {A = ℕ} 0 1 = cc in absurd (omega arith)

pub some_same : {A : Type 0} {a b : A} → some a ≡ some b → a ≡ b
some_same e = cc

pub provided-inv : {A : Type 0} (t : Bool) (x : Option A) {a : A} → provided t x ≡ some a → (t ≡ true) × (x ≡ some a)
provided-inv true x e = (refl, e)
provided-inv false x e = none-some e

pub chain-inv : {A B : Type 0} (x : Option A) (f : A → Option B) {b : B} → chain x f ≡ some b → (a : A) × (x ≡ some a) × (f a ≡ some b)
chain-inv (some a) f e = (a, refl, e)
chain-inv none f e = none-some e

pub map-inv : {A B : Type 0} (f : A → B) (x : Option A) {b : B} → map f x ≡ some b → (a : A) × (x ≡ some a) × (f a ≡ b)
map-inv f (some a) e = (a, refl, some_same e)
map-inv f none e = none-some e

pub both-inv : {A B C : Type 0} (f : A → B → C) (x : Option A) (y : Option B) {c : C} → both f x y ≡ some c → (a : A) × (b : B) × (x ≡ some a) × (y ≡ some b) × (f a b ≡ c)
both-inv f (some a) (some b) e = (a, b, refl, refl, some_same e)
both-inv f (some a) none e = none-some e
both-inv f none y e = none-some e

-- the same way on, whatever the value
pub chain_same : {A B : Type 0} (x : Option A) (f g : A → Option B) → ((a : A) → f a ≡ g a) → chain x f ≡ chain x g
chain_same (some a) f g h = h a
chain_same none f g h = refl
