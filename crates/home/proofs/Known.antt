-- What is known where there is a value, handed to a proof as variables, so that the proof can rewrite by it.
use mathlib.Core.Path.{◌≡◌, refl}
use mathlib.Core.Bool.{Bool, true}
use mathlib.Core.List.{List, [], ◌∷◌}
use mathlib.Core.Option.{Option, none, some, map}
use Rattle.text.specs.Choice.{both, provided, chain, with-some}
use Rattle.text.specs.Bytes.{each}
use Rattle.text.proofs.Choices.{some_same, provided-inv, chain-inv, map-inv, both-inv}

module _ {ℓ} {P : Type ℓ} where
  pub on_provided : {A : Type 0} (t : Bool) (x : Option A) {a : A} → provided t x ≡ some a → (t ≡ true → x ≡ some a → P) → P
  on_provided t x e k = let v = provided-inv t x e in k v.0 v.1

  pub on_chain : {A B : Type 0} (x : Option A) (f : A → Option B) {b : B} → chain x f ≡ some b → ((a : A) → x ≡ some a → f a ≡ some b → P) → P
  on_chain x f e k = let v = chain-inv x f e in k v.0 v.1 v.2

  pub on_map : {A B : Type 0} (f : A → B) (x : Option A) {b : B} → map f x ≡ some b → ((a : A) → x ≡ some a → f a ≡ b → P) → P
  on_map f x e k = let v = map-inv f x e in k v.0 v.1 v.2

  pub on_both : {A B C : Type 0} (f : A → B → C) (x : Option A) (y : Option B) {c : C} → both f x y ≡ some c → ((a : A) (b : B) → x ≡ some a → y ≡ some b → f a b ≡ c → P) → P
  on_both f x y e k = let v = both-inv f x y e in k v.0 v.1 v.2 v.3 v.4

  -- none of a list
  pub on_none : {A B : Type 0} (f : A → Option B) {ys : List B} → each f [] ≡ some ys → ([] ≡ ys → P) → P
  unfolding each
  on_none f e k = k (some_same e)

  -- its first and its others
  pub on_each : {A B : Type 0} (f : A → Option B) (x : A) (xs : List A) {ys : List B} → each f (x ∷ xs) ≡ some ys → ((z : B) (zs : List B) → f x ≡ some z → each f xs ≡ some zs → z ∷ zs ≡ ys → P) → P
  unfolding each
  on_each f x xs e k = on_both ◌∷◌ (f x) (each f xs) e k

  -- a value that may be absent, and then stands for d
  pub on_optional : {A B : Type 0} (x : Option A) (d : B) (f : A → Option B) {b : B} → with-some x f (some d) ≡ some b
      → (x ≡ none → d ≡ b → P) → ((a : A) → x ≡ some a → f a ≡ some b → P) → P
  on_optional none d f e p q = p refl (some_same e)
  on_optional (some a) d f e p q = q a refl e

  -- by whether there is a value
  pub on_some : {A : Type 0} (x : Option A) → (x ≡ none → P) → ((a : A) → x ≡ some a → P) → P
  on_some none p q = p refl
  on_some (some a) p q = q a refl
