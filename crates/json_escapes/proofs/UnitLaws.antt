-- Units by their first byte, over plain values.
use mathlib.Core.Path.{◌≡◌, ◌∙◌}
use mathlib.Core.Bool.{true, false}
use mathlib.Core.List.{[]}
use Prim.Native.Nat.{ℕ, ◌+◌}
use lib.ListN.{drop}
use borrow.Author.Tests.{eq-eqb, ne_eqb}
use Rattle.text.specs.Bytes.{Bytes, is, between}
use Rattle.text.specs.Reader.{got, bad, under, last}
use Rattle.text.specs.Places.{byte_at}
use Rattle.text.proofs.Places.{on-yes, on-no}
use Rattle.json_text.specs.Syntax.{escape}
use Rattle.json_escapes.specs.Units.{push, unit}

module _ (s : Bytes) (i b : ℕ) (e : b ≡ byte_at s i) where
  pub unit-end : b ≡ 34 → unit (drop i s) ≡ got (last []) (drop (i + 1) s)
  unfolding unit
  unit-end h = on-yes (is 34) s i b e _ _ (eq-eqb _ _ h)

  pub unit-escape : (b ≡ 34 → ⊥) → b ≡ 92 → unit (drop i s) ≡ under push (escape (drop (i + 1) s))
  unfolding unit
  unit-escape n h = on-no (is 34) s i b e _ _ (ne_eqb _ _ n) ∙ on-yes (is 92) s i b e _ _ (eq-eqb _ _ h)

  pub unit-plain : (b ≡ 34 → ⊥) → (b ≡ 92 → ⊥) → between 32 255 b ≡ true → unit (drop i s) ≡ got (push b) (drop (i + 1) s)
  unfolding unit
  unit-plain n m h = on-no (is 34) s i b e _ _ (ne_eqb _ _ n) ∙ on-no (is 92) s i b e _ _ (ne_eqb _ _ m) ∙ on-yes (between 32 255) s i b e _ _ h

  pub unit-none : (b ≡ 34 → ⊥) → (b ≡ 92 → ⊥) → between 32 255 b ≡ false → unit (drop i s) ≡ bad (drop i s)
  unfolding unit
  unit-none n m h = on-no (is 34) s i b e _ _ (ne_eqb _ _ n) ∙ on-no (is 92) s i b e _ _ (ne_eqb _ _ m) ∙ on-no (between 32 255) s i b e _ _ h
