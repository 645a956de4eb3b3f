-- A stem by its length first, then by its characters.
use mathlib.Core.Path.{◌≡◌, refl}
use mathlib.Core.Bool.{false}
use mathlib.Core.List.{[], ◌∷◌}
use Prim.Native.Nat.{◌≤◌, ◌<◌}
use native.Mathlib.Omega.{arith}
use lib.ListN.{length}
use borrow.Author.Tests.{le-leb, lt-leb}
use Rattle.text.specs.Bytes.{Bytes, all}
use Rattle.line.specs.Class.{is_stem}
use Rattle.convert.specs.Answers.{is_stem_text}

pub no-stem : (s : Bytes) → length s ≡ 0 → is_stem_text s ≡ false
unfolding is_stem_text
no-stem [] e = refl
no-stem (b ∷ s) e = absurd (omega arith)

pub long-stem : (s : Bytes) → 200 < length s → is_stem_text s ≡ false
unfolding is_stem_text
long-stem [] h = refl
long-stem (b ∷ s) h = rw (lt-leb (length (b ∷ s)) 200 h)

pub stem-all : (s : Bytes) → (length s ≡ 0 → ⊥) → length s ≤ 200 → is_stem_text s ≡ all is_stem s
unfolding is_stem_text
stem-all [] n h = absurd (n refl)
stem-all (b ∷ s) n h = rw (le-leb (length (b ∷ s)) 200 h)
