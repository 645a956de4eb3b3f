-- A line of a card as refusals 6 to 10 look at it.
use Rattle.std.specs.Prelude.{◌≡◌, Bool, ◌&&◌, ℕ, eqb}
use Rattle.text.specs.Bytes.{Bytes, ascii, all}
use Rattle.line.specs.Class.{is_name}
use Rattle.line.specs.Grammar.{Line}
use Rattle.convert.specs.Value.{filled}
use Rattle.convert.specs.Answers.{is_named}

-- the property's number tells whether it is VERSION, UID, KIND or FN
pub record Coded (code : ℕ) (l : Line) : Type 0 where
  pub version : eqb code 1 ≡ is_named (ascii "version") l
  pub uid : eqb code 2 ≡ is_named (ascii "uid") l
  pub kind : eqb code 3 ≡ is_named (ascii "kind") l
  pub full : eqb code 4 ≡ is_named (ascii "fn") l

-- name characters, one at least
unfoldable pub is_word : Bytes → Bool
is_word v = filled v && all is_name v
