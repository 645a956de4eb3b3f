use mathlib.Core.Path.{◌≡◌}
use mathlib.Core.Bool.{false}
use lib.ListN.{drop}
use Rattle.text.specs.Bytes.{is, any}
use Rattle.to_json_maps.proofs.has_dash.Given as goal

abbrev pub invariant-loop-b : goal.invariant-loop-b
invariant-loop-b l = l.found ≡ false → any (is 45) l.line ≡ any (is 45) (drop l.b-index l.line)
