-- Each time round: s is good TEXT from i on (`read_text`), and what is written followed by `plain_text` of that rest is `plain_text` of s (`Rest`). A
-- turn copies the bytes before the next backslash (`plain-run`), then stores what the escape stands for (`byte-plain`). length s - i falls. With no
-- backslash s is copied whole (`plain-whole`); with a bad escape nothing is written (`bad-plain`), so the loop meets none (`bad-good`).
use Prim.Native.Nat.{◌-◌, ◌≤◌}
use mathlib.Core.Path.{◌≡◌}
use lib.ListN.{length, drop}
use mathlib.Core.Bool.{true}
use Rattle.text.specs.Choice.{is_some}
use Rattle.line.specs.Text.{read_text}
use Rattle.line_text.specs.Read.{plain_text}
use Rattle.output.specs.Put.{Rest}
use Rattle.line_text.proofs.read_text.Given as goal

abbrev pub invariant-loop-n : goal.invariant-loop-n
invariant-loop-n l = (l.i ≤ length l.s) × (is_some (read_text (drop l.i l.s)) ≡ true) × Rest l.initial.out (plain_text l.s) (plain_text (drop l.i l.s)) l.at l.out

abbrev pub decreases-loop-n : goal.decreases-loop-n
decreases-loop-n l = length l.s - l.i
