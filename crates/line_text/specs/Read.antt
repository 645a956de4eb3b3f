-- What the readers of TEXT answer.
use Rattle.std.specs.Prelude.{◌≡◌, [], ℕ, ◌≤◌, ◌<◌, length, drop, get_or}
use Rattle.std.proofs.Math.Option.{Option, none, some}
use Prim.Native.Char.{code}
use Rattle.text.specs.Choice.{with-some}
use Rattle.text.specs.Bytes.{Bytes}
use Rattle.line.specs.Text.{push, read_text}
use Rattle.line_text.specs.declared.Char.{Char}
use Rattle.line_text.specs.declared.Char.TheVariants.{Byte, Bad, End}

-- what TEXT stands for, and nothing where an escape is bad
unfoldable pub plain_text : Bytes → Bytes
plain_text s = with-some (read_text s) (λ t. t) []

-- no backslash stands from a up to b
abbrev pub Plain : Bytes → ℕ → ℕ → Type 0
Plain s a b = (k : ℕ) → a ≤ k → k < b → get_or s k 0 ≡ code "\\" → ⊥

-- one byte, and what is read from the next place on
abbrev pub char_of : Bytes → Char → Option Bytes
char_of s (Byte c e) = push c (read_text (drop e s))
char_of s Bad = none
char_of s End = some []

-- the next place is later, and within the bytes
abbrev pub Onward : ℕ → ℕ → Char → Type 0
Onward at n (Byte c e) = (at < e) × (e ≤ n)
Onward at n Bad = Unit {0}
Onward at n End = Unit {0}

pub record OneChar (want : Option Bytes) (s : Bytes) (at : ℕ) (r : Char) : Type 0 where
  pub is : want ≡ char_of s r
  pub onward : Onward at (length s) r
