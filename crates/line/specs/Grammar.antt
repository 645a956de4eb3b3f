-- The line grammar (refusal 5): optional group and dot, name, parameters (`;name=value,value`), colon, value.
use Rattle.std.specs.Prelude.{Bool, ◌&&◌, not, List, [], ◌∷◌, ℕ, ◌+◌, length, leb}
use Rattle.std.proofs.Math.Option.{Option, none, some}
use Prim.Native.Char.{code}
use Rattle.text.specs.Choice.{provided}
use Rattle.text.specs.Bytes.{Bytes, ascii, is, lowered, among}
use Rattle.text.specs.Reader.{Got, got, bad, bind, on, Step, more, last, loop, one, some_of, run_of}
use Rattle.line.specs.Class.{is_name, is_bare, is_quotable}

-- a parameter's name and its values, one at least
pub data Param : Type 0 where
  param : Bytes → List Bytes → Param

-- a group is empty where there is none, since a written one never is
pub record Line : Type 0 where
  pub group : Bytes
  pub name : Bytes
  pub params : List Param
  pub value : Bytes

abbrev pub param_name : Param → Bytes
param_name (param n vs) = n

abbrev pub param_values : Param → List Bytes
param_values (param n vs) = vs

-- ---- the reader

unfoldable pub word : Bytes → Got Bytes
word = some_of is_name

-- bare, or in quotes
unfoldable pub param_value : Bytes → Got Bytes
param_value = on (is (code "\"")) (λ q t. bind (run_of is_quotable t) λ v t. bind (one (code "\"") t) λ q t. got v t) (run_of is_bare)

-- a value, and whether a comma brings another
unfoldable pub value_turn : Bytes → Got (Step (List Bytes))
value_turn s = bind (param_value s) λ v t. on (is (code ",")) (λ c t. got (more (λ vs. v ∷ vs)) t) (got (last (v ∷ []))) t

unfoldable pub parameter : Bytes → Got Param
parameter s = bind (word s) λ n t. bind (one (code "=") t) λ e t. bind (loop value_turn t) λ vs t. got (param n vs) t

-- the colon, or one more parameter
unfoldable pub param_turn : Bytes → Got (Step (List Param))
param_turn =
    on (is (code ":")) (λ c t. got (last []) t)
    (on (is (code ";")) (λ c t. bind (parameter t) λ p t. got (more (λ ps. p ∷ ps)) t) bad)

-- from after the name
unfoldable pub after_name : Bytes → Bytes → Bytes → Got Line
after_name g n s = bind (loop param_turn s) λ ps t. got (record { group = g; name = n; params = ps; value = t }) []

unfoldable pub line_reader : Bytes → Got Line
line_reader s = bind (word s) λ w t. on (is (code ".")) (λ c t. bind (word t) λ n t. after_name w n t) (after_name [] w) t

-- ---- counts

unfoldable pub value_count : List Param → ℕ
value_count [] = 0
value_count (param n vs ∷ ps) = length vs + value_count ps

-- at most 32 parameters and 64 parameter values, as the grammar counts them
unfoldable pub fits : List Param → Bool
fits ps = leb (length ps) 32 && leb (value_count ps) 64

-- lines named BEGIN or END are refused wherever they stand
unfoldable pub is_frame_name : Bytes → Bool
is_frame_name n = among (lowered n) (ascii "begin" ∷ ascii "end" ∷ [])

unfoldable pub accepted : Line → Bool
accepted l = fits l.params && not (is_frame_name l.name)

abbrev pub of_got : Got Line → Option Line
of_got (got l t) = provided (accepted l) (some l)
of_got (bad t) = none

unfoldable pub read_line : Bytes → Option Line
read_line s = of_got (line_reader s)
