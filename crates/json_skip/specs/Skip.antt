-- What the contracts of this crate cite: where a value ends in a text that reads, told by its quotes and brackets alone.
use Rattle.std.specs.Prelude.{◌≡◌, Bool, true, false, ◌||◌, [], ◌∷◌, ℕ, suc, ◌-◌, ◌≤◌, eqb, length, drop}
use Prim.Native.Char.{code}
use Rattle.text.specs.Choice.{pick}
use Rattle.text.specs.Bytes.{Bytes}
use Rattle.text.specs.Reader.{got}
use Rattle.json_text.specs.Tree.{Json}
use Rattle.json_text.specs.Syntax.{value}

-- what is left of a string after its closing quote; `escaped` tells that the byte before was a backslash
unfoldable pub quoted : Bool → Bytes → Bytes
quoted escaped [] = []
quoted true (c ∷ s) = quoted false s
quoted false (c ∷ s) = pick (eqb c (code "\"")) s (quoted (eqb c (code "\\")) s)

unfoldable pub opens : ℕ → Bool
opens c = eqb c (code "[") || eqb c (code "{")

unfoldable pub shuts : ℕ → Bool
shuts c = eqb c (code "]") || eqb c (code "}")

-- out of strings, or in one
pub data Side : Type 0 where
  outside : Side
  inside : (escaped : Bool) → Side

-- what is left after the bracket that closes the one before, with n more open in it; brackets in strings do not count
unfoldable pub closed : Side → ℕ → Bytes → Bytes
closed side n [] = []
closed outside n (c ∷ s) =
    pick (eqb c (code "\"")) (closed (inside false) n s)
    (pick (opens c) (closed outside (suc n) s) (pick (shuts c) (pick (eqb n 0) s (closed outside (n - 1) s)) (closed outside n s)))
closed (inside true) n (c ∷ s) = closed (inside false) n s
closed (inside false) n (c ∷ s) = pick (eqb c (code "\"")) (closed outside n s) (closed (inside (eqb c (code "\\"))) n s)

-- t stands from the place r on, which is not before `at`
pub record Leaves (s : Bytes) (at : ℕ) (t : Bytes) (r : ℕ) : Type 0 where
  pub is : t ≡ drop r s
  pub from : at ≤ r
  pub to : r ≤ length s

-- if a value is read at a place, it ends at r
abbrev pub Skips : Bytes → ℕ → ℕ → Type 0
Skips s at r = (d : ℕ) (j : Json) (u : Bytes) → value d (drop at s) ≡ got j u → u ≡ drop r s
