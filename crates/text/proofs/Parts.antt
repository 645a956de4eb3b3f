-- Parts between separators, and their joining.
use mathlib.Core.Path.{◌≡◌, refl}
use mathlib.Core.Bool.{false}
use mathlib.Core.List.{List, [], ◌∷◌}
use Prim.Native.Nat.{ℕ}
use Rattle.text.specs.Bytes.{Bytes, ascii, is, any, on_head, parts}

-- no part has the separator
abbrev pub Without : ℕ → List Bytes → Type 0
Without d [] = Unit {0}
Without d (p ∷ ps) = (any (is d) p ≡ false) × Without d ps

-- worked example
three : parts 44 (ascii "a,,b") ≡ ascii "a" ∷ [] ∷ ascii "b" ∷ []
unfolding parts on_head
three = refl
