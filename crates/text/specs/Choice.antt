-- Choosing by a test, and by whether there is a value.
use Rattle.std.specs.Prelude.{Bool, true, false}
use Rattle.std.proofs.Math.Option.{Option, none, some}

-- If-then-else as a function, so that a proof can rewrite its test.
abbrev pub pick {ℓ} : {A : Type ℓ} → Bool → A → A → A
pick true a b = a
pick false a b = b

-- With the value, where there is one.
abbrev pub with-some : {A B : Type 0} → Option A → (A → B) → B → B
with-some (some a) f b = f a
with-some none f b = b

abbrev pub is_some : {A : Type 0} → Option A → Bool
is_some (some a) = true
is_some none = false

-- Both, or none.
abbrev pub both : {A B C : Type 0} → (A → B → C) → Option A → Option B → Option C
both f (some a) (some b) = some (f a b)
both f (some a) none = none
both f none b = none

-- A value under a condition.
abbrev pub provided : {A : Type 0} → Bool → Option A → Option A
provided true a = a
provided false a = none

-- One after the other, while there are values.
abbrev pub chain : {A B : Type 0} → Option A → (A → Option B) → Option B
chain (some a) f = f a
chain none f = none
