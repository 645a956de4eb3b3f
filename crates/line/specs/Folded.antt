-- Folding in 01's words: "folds at 75 bytes at the latest whole UTF-8 character, the leading space counted, CR LF ends".
use Rattle.std.specs.Prelude.{◌≡◌, true, ℕ, ◌+◌, ◌≤◌, ◌<◌, length}
use mathlib.Core.List.{List, [], ◌∷◌, ◌++◌, map, tail}
use Rattle.text.specs.Bytes.{Bytes, ascii, joined, flat}
use Rattle.text.specs.Utf8.{utf8}
use Rattle.text.specs.Scalar.{Scalar, Octets}
use Rattle.line.specs.Write.{fold}

-- a physical line: a space, a whole character and more; the character did not fit after the n bytes of the line before
pub record Continues (n : ℕ) (m : Bytes) : Type 0 where
  pub character : Bytes
  pub rest : Bytes
  pub number : ℕ
  pub is : m ≡ 32 ∷ (character ++ rest)
  pub scalar : Scalar number
  pub octets : Octets number character
  pub over : 75 < n + length character

-- the lines after a line of n bytes
abbrev pub Later : ℕ → List Bytes → Type 0
Later n [] = Unit {0}
Later n (m ∷ ms) = Continues n m × Later (length m) ms

-- whole characters, 75 bytes at most
abbrev pub Short : List Bytes → Type 0
Short [] = Unit {0}
Short (p ∷ ps) = (utf8 p ≡ true) × (length p ≤ 75) × Short ps

pub record Folded (s : Bytes) : Type 0 where
  pub line : Bytes
  pub later : List Bytes
  pub written : fold s ≡ joined (ascii "\r\n") (line ∷ later)
  pub content : s ≡ line ++ flat (map tail later)
  pub short : Short (line ∷ later)
  pub latest : Later (length line) later

abbrev pub FoldedInWords : Type 0
FoldedInWords = (s : Bytes) → utf8 s ≡ true → Folded s
