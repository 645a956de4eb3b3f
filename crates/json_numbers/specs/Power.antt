-- What follows the e of a number: a part of `exp` (Syntax.antt), by a name of its own.
use Rattle.std.specs.Prelude.{◌++◌}
use Rattle.text.specs.Bytes.{Bytes}
use Rattle.text.specs.Reader.{Got, got, bind}
use Rattle.json_text.specs.Syntax.{sign, digits}

unfoldable pub power : Bytes → Got Bytes
power s = bind (sign s) λ g t. bind (digits t) λ ds t. got (g ++ ds) t
