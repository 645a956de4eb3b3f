-- The classes of bytes, by RFC 6350's ranges, or 01's where it differs.
use Rattle.std.specs.Prelude.{Bool, ◌&&◌, ◌||◌, not, ℕ, eqb, ltb}
use Prim.Native.Char.{code}
use Rattle.text.specs.Bytes.{is_digit, is_letter, is_lower}

-- groups and names: letters, digits, hyphens
unfoldable pub is_name : ℕ → Bool
is_name c = is_letter c || is_digit c || eqb c (code "-")

-- the same with no upper-case letter
unfoldable pub is_lower_name : ℕ → Bool
is_lower_name c = is_lower c || is_digit c || eqb c (code "-")

-- a quoted parameter value has no double quote
unfoldable pub is_quotable : ℕ → Bool
is_quotable c = ltb c 256 && not (eqb c (code "\""))

-- a bare one has no `"` `;` `:` `,`
unfoldable pub is_bare : ℕ → Bool
is_bare c = ltb c 256 && not (eqb c (code "\"") || eqb c (code ";") || eqb c (code ":") || eqb c (code ","))

-- controls: 0 to 31 but tab, and 127
unfoldable pub is_control : ℕ → Bool
is_control c = (ltb c 32 && not (eqb c 9)) || eqb c 127

-- what may follow a line end that is to vanish
unfoldable pub is_blank : ℕ → Bool
is_blank c = eqb c 32 || eqb c 9

-- keys of the maps: A-Z a-z 0-9 - _
unfoldable pub is_key : ℕ → Bool
is_key c = is_name c || eqb c (code "_")

-- UID stems: A-Z a-z 0-9 : - _
unfoldable pub is_stem : ℕ → Bool
is_stem c = is_key c || eqb c (code ":")
