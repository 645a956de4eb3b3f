-- The laws of `squeezed` by the first byte, and past white space.
use mathlib.Core.Path.{◌≡◌, refl, sym, ◌∙◌}
use mathlib.Core.Bool.{true, false}
use mathlib.Core.List.{[], ◌∷◌, ◌++◌}
use Prim.Native.Nat.{ℕ}
use lib.Dec.{eqb}
use Rattle.text.specs.Bytes.{Bytes, between}
use Rattle.text.specs.Reader.{got, on, past}
use Rattle.text.proofs.Cases.{by_bool}
use Rattle.json_text.specs.Grammar.{is_space}
use Rattle.json_text.specs.Strings.{decode}
use Rattle.json_text.specs.Syntax.{skip, characters}
use Rattle.json_compact.specs.Squeezed.{in_quotes, piece, squeezed}
use Rattle.json_compact.proofs.Pieces.{squeezed-on}

pub space-first : (c : ℕ) (s : Bytes) → is_space c ≡ true → squeezed (c ∷ s) ≡ squeezed s
unfolding piece on
space-first c s e = squeezed-on (c ∷ s) [] s (rw e)

pub byte-first : (c : ℕ) (s : Bytes) → is_space c ≡ false → eqb c 34 ≡ false → between 0 255 c ≡ true → squeezed (c ∷ s) ≡ c ∷ squeezed s
unfolding piece on
byte-first c s e f g = squeezed-on (c ∷ s) (c ∷ []) s (rw (e, f, g))

pub string-first : (s us t : Bytes) → characters s ≡ got us t → squeezed (34 ∷ s) ≡ in_quotes (decode us) ++ squeezed t
unfolding piece on is_space
string-first s us t e = squeezed-on (34 ∷ s) (in_quotes (decode us)) t (rw e)

pub squeezed-skip : (s : Bytes) → squeezed (skip s) ≡ squeezed s
unfolding skip past
squeezed-skip [] = refl
squeezed-skip (c ∷ s) = by_bool (is_space c) (λ e. rw e (squeezed-skip s ∙ sym (space-first c s e))) (λ e. rw e)
