-- 01's proved cases P1 to P12: one list, one claim.
use mathlib.Core.Path.{◌≡◌, refl}
use mathlib.Core.List.{map}
use Rattle.convert.specs.Worked.{given, wanted, worked-opened}
use Rattle.convert.specs.ProvedCases.{proved-cases}
use Rattle.convert.proofs.Opened.{convert-opened}

pub cases-hold : map given proved-cases ≡ map wanted proved-cases
unfolding proved-cases convert-opened worked-opened
cases-hold = refl
