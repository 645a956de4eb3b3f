use native.Mathlib.Omega.{arith}
use mathlib.Core.Path.{refl}
use Rattle.to_card_parts.proofs.put_row.Goals as goal

pub returns-then-rows-ge-ROWS : goal.returns-then-rows-ge-ROWS
returns-then-rows-ge-ROWS c = record { long-kinds = refl; long-values = refl; some-row = omega arith; added = λ l. absurd (omega (arith, l)) }
