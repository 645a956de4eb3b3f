-- Lines made of their parts, for the converter and for the normal forms: the rules are said apart in each, such functions are said once.
use Rattle.std.specs.Prelude.{List, [], ◌∷◌}
use Rattle.text.specs.Bytes.{Bytes}
use Rattle.line.specs.Grammar.{Param, param, Line}

-- a line without a group
abbrev pub property : Bytes → List Param → Bytes → Line
property n ps v = record { group = []; name = n; params = ps; value = v }

-- a parameter where it has values
abbrev pub param_of : Bytes → List Bytes → List Param
param_of n [] = []
param_of n (v ∷ vs) = param n (v ∷ vs) ∷ []
