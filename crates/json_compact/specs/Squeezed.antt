-- A JSON text piece by piece: white space is left out, strings are spelled anew, every other byte stays.
use Rattle.std.specs.Prelude.{[], ◌∷◌, ◌++◌, ℕ, zero, suc, length}
use Rattle.std.proofs.Math.Option.{Option}
use Prim.Native.Char.{code}
use Rattle.text.specs.Choice.{pick, with-some}
use Rattle.text.specs.Bytes.{Bytes, is, between, empty}
use Rattle.text.specs.Reader.{Got, got, bad, under, on}
use Rattle.json_text.specs.Grammar.{is_space}
use Rattle.json_text.specs.Compact.{quoted}
use Rattle.json_text.specs.Strings.{decode}
use Rattle.json_text.specs.Syntax.{characters}

-- a string in its quotes; the quotes alone where it stands for nothing
abbrev pub in_quotes : Option Bytes → Bytes
in_quotes x = quoted (with-some x (λ s. s) []) []

-- a piece as it is written
unfoldable pub piece : Bytes → Got Bytes
piece =
    on is_space (λ c t. got [] t)
    (on (is (code "\"")) (λ c t. under (λ us. in_quotes (decode us)) (characters t))
    (on (between 0 255) (λ c t. got (c ∷ []) t) bad))

-- a piece, and what follows it; nothing from where no piece is read
abbrev pub onward : Got Bytes → (Bytes → Bytes) → Bytes
onward (got w t) f = w ++ f t
onward (bad t) f = []

-- the first number bounds how many pieces
unfoldable pub squeezed_in : ℕ → Bytes → Bytes
squeezed_in zero s = []
squeezed_in (suc n) s = pick (empty s) [] (onward (piece s) (λ t. squeezed_in n t))

unfoldable pub squeezed : Bytes → Bytes
squeezed s = squeezed_in (length s) s
