-- A written line in 01's words, apart from the writers (Write.antt): "optional group and dot, name, parameters (`;name=value,value`), colon, value";
-- "names upper-case"; "quotes only where needed (JSPTR always)".
use Rattle.std.specs.Prelude.{◌≡◌, Bool, true, ◌||◌, [], ◌++◌, map, eqb}
use Rattle.text.specs.Choice.{pick}
use Rattle.text.specs.Bytes.{Bytes, ascii, any, all, same, empty, uppered, joined, flat}
use Rattle.text.specs.Listed.{of_bytes}
use Rattle.line.specs.Grammar.{Param, param, Line, param_values}
use Rattle.line.specs.Write.{write_line}

-- one of these characters stands in it
unfoldable pub holds_one : Bytes → Bytes → Bool
holds_one cs v = any (λ c. any (eqb c) cs) v

-- quotes exactly where a value has one of `"` `;` `:` `,`, and always around JSPTR's; n in capitals
unfoldable pub shown_value : Bytes → Bytes → Bytes
shown_value n v = pick (same n (ascii "JSPTR") || holds_one (ascii "\";:,") v) (ascii "\"" ++ v ++ ascii "\"") v

unfoldable pub shown_param : Param → Bytes
shown_param (param n vs) = ascii ";" ++ uppered n ++ ascii "=" ++ joined (ascii ",") (map (shown_value (uppered n)) vs)

unfoldable pub shown_line : Line → Bytes
shown_line l =
    pick (empty l.group) [] (l.group ++ ascii ".") ++ uppered l.name ++ flat (map shown_param l.params) ++ ascii ":" ++ l.value

-- every line whose parameter values are bytes is written so
abbrev pub in_bytes : Line → Bool
in_bytes l = all (λ p. all of_bytes (param_values p)) l.params

abbrev pub WrittenInWords : Type 0
WrittenInWords = (l : Line) → in_bytes l ≡ true → write_line l ≡ shown_line l
