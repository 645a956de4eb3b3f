-- A line with its name and parameter names in upper case, as they are written.
use Rattle.std.specs.Prelude.{map}
use Rattle.text.specs.Bytes.{uppered}
use Rattle.line.specs.Grammar.{Param, param, Line}

abbrev pub upper_param : Param → Param
upper_param (param n vs) = param (uppered n) vs

abbrev pub upper_line : Line → Line
upper_line l = record { group = l.group; name = uppered l.name; params = map upper_param l.params; value = l.value }
