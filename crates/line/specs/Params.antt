-- Parameters by name, in any letter case.
use Rattle.std.specs.Prelude.{Bool, not, List, [], ◌∷◌, ◌++◌, map}
use Rattle.text.specs.Bytes.{Bytes, ascii, all, same, lowered, among, flat, keep}
use Rattle.line.specs.Grammar.{Param, param, param_name, param_values}

-- n is lower-case
unfoldable pub named : Bytes → Param → Bool
named n p = same (lowered (param_name p)) n

-- all values of all parameters of that name
unfoldable pub values_named : Bytes → List Param → List Bytes
values_named n ps = flat (map param_values (keep (named n) ps))

-- the parameters of other names
unfoldable pub lacking : Bytes → List Param → List Param
lacking n ps = keep (λ p. not (named n p)) ps

-- every parameter has one of these names
unfoldable pub only_named : List Bytes → List Param → Bool
only_named ns ps = all (λ p. among (lowered (param_name p)) ns) ps

-- VALUE in lower case, and "unknown" where there is none: after refusal 7, VALUE=unknown counts as absent
abbrev pub first_or : Bytes → List Bytes → Bytes
first_or d [] = d
first_or d (v ∷ vs) = v

unfoldable pub value_type : List Param → Bytes
value_type ps = lowered (first_or (ascii "unknown") (values_named (ascii "value") ps))

-- the parameters that a line's conversion looks at: all but VALUE
unfoldable pub besides_value : List Param → List Param
besides_value ps = lacking (ascii "value") ps

-- equal-named parameters as one, at the place of the first, with lower-case names
abbrev pub merged_before : Bytes → List Bytes → List Param → List Param
merged_before n vs ps = param n (vs ++ values_named n ps) ∷ lacking n ps

unfoldable pub merged : List Param → List Param
merged [] = []
merged (param n vs ∷ ps) = merged_before (lowered n) vs (merged ps)
