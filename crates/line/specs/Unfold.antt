-- Unfolding: between BEGIN and END a line end followed by space or tab vanishes with that one byte, except before the first line.
use Rattle.std.specs.Prelude.{Bool, true, false}
use mathlib.Core.List.{List, [], ◌∷◌, ◌++◌, tail}
use Rattle.text.specs.Bytes.{Bytes}
use Rattle.text.specs.Reader.{first}
use Rattle.line.specs.Class.{is_blank}

-- What physical lines are to the line before them: bytes that go on with it, and the unfolded lines after it.
pub record Rest : Type 0 where
  pub goes_on : Bytes
  pub lines : List Bytes

abbrev pub joins : Bool → Bytes → Rest → Rest
joins true l r = record { goes_on = tail l ++ r.goes_on; lines = r.lines }
joins false l r = record { goes_on = []; lines = (l ++ r.goes_on) ∷ r.lines }

unfoldable pub rest : List Bytes → Rest
rest [] = record { goes_on = []; lines = [] }
rest (l ∷ ls) = joins (is_blank (first l)) l (rest ls)

abbrev pub begun : Bytes → Rest → List Bytes
begun l r = (l ++ r.goes_on) ∷ r.lines

-- from the physical lines between BEGIN and END
unfoldable pub unfold' : List Bytes → List Bytes
unfold' [] = []
unfold' (l ∷ ls) = begun l (rest ls)
