-- Lists of TEXT values: what they stand for; the filled ones noted by their places and their prints.
use Rattle.std.specs.Prelude.{◌≡◌, true, false, ◌||◌, List, [], ◌∷◌, map, ℕ, ◌+◌, ◌≤◌, ltb, length, drop}
use Prim.Native.Char.{code}
use Rattle.text.specs.Choice.{pick, is_some}
use Rattle.text.specs.Bytes.{Bytes, empty, same, among, each}
use Rattle.line.specs.Text.{read_text, split_text}
use Rattle.line_text.specs.Read.{plain_text}
use Rattle.json_prints.specs.Prints.{printed}

-- what the parts between bare separators stand for
abbrev pub texts_of : ℕ → Bytes → List Bytes
texts_of d v = map plain_text (split_text d v)

-- every part has good escapes
abbrev pub Readable : ℕ → Bytes → Type 0
Readable d v = is_some (each read_text (split_text d v)) ≡ true

-- the place after the character c, which stands next; or 0
pub record NextIs (s : Bytes) (at c r : ℕ) : Type 0 where
  pub hit : (r ≡ 0 → ⊥) → (plain_text (drop at s) ≡ c ∷ plain_text (drop r s)) × (is_some (read_text (drop r s)) ≡ true)
  pub miss : r ≡ 0 → (x : Bytes) → same (c ∷ x) (plain_text (drop at s)) ≡ false

-- ---- values noted

abbrev pub first : List Bytes → Bytes
first [] = []
first (t ∷ ts) = t

-- what the value that begins at a place of o stands for
unfoldable pub value_at : Bytes → ℕ → Bytes
value_at o a = first (texts_of (code ",") (drop a o))

-- values of o begin at these places
abbrev pub Begin : Bytes → List ℕ → Type 0
Begin o [] = Unit {0}
Begin o (a ∷ ps) = (a ≤ length o) × Readable (code ",") (drop a o) × Begin o ps

-- Values of o at these places, beside their prints; the others, if filled, are among the rest.
pub record Noting (o : Bytes) (rest : List Bytes) (ps fs : List ℕ) : Type 0 where
  pub begin : Begin o ps
  pub told : map (λ a. printed 0 (value_at o a)) ps ≡ fs
  pub are : (t : Bytes) → empty t ≡ false → among t (map (value_at o) ps) || among t rest ≡ among t (texts_of (code ",") o)

-- all that are filled
abbrev pub Noted : Bytes → List ℕ → List ℕ → Type 0
Noted o ps fs = Noting o [] ps fs

-- the values after the one that ends at e
abbrev pub later : Bytes → ℕ → List Bytes
later o e = map plain_text (pick (ltb e (length o)) (split_text (code ",") (drop (e + 1) o)) [])
