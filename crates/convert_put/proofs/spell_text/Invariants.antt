-- Each time round: s is good TEXT from i on (`read_text`), and what is written followed by the spelling of that rest is the spelling of all of s
-- (`Rest`). A turn writes the bytes that stand for themselves (`run-text`; `run-good`: the rest is still good), then one character (`spell-byte`).
-- length s - i falls (`onward`). A bad escape cannot come (`bad-good`); at the end of s nothing is left (`spell-end`).
use mathlib.Core.Path.{◌≡◌}
use mathlib.Core.Bool.{true}
use Prim.Native.Nat.{◌-◌, ◌≤◌}
use lib.ListN.{length, drop}
use Rattle.text.specs.Choice.{is_some}
use Rattle.line.specs.Text.{read_text}
use Rattle.json_text.specs.Compact.{spelled_all}
use Rattle.line_text.specs.Read.{plain_text}
use Rattle.output.specs.Put.{Rest}
use Rattle.convert_put.proofs.spell_text.Given as goal

abbrev pub invariant-loop-m : goal.invariant-loop-m
invariant-loop-m l = (l.i ≤ length l.s) × (is_some (read_text (drop l.i l.s)) ≡ true) × Rest l.initial.out (spelled_all (plain_text l.s)) (spelled_all (plain_text (drop l.i l.s))) l.at l.out

abbrev pub decreases-loop-m : goal.decreases-loop-m
decreases-loop-m l = length l.s - l.i
