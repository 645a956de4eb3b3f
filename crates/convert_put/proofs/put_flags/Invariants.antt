-- Each time round: c ≤ hi, and what is written before `at` followed by `flags_from` of the marks from c on is `flags_from` of them all (`Rest`).
-- `flags-turn` takes the piece of one mark off that; `flags-end` leaves the closing brace, or nothing where no flag was set (`opened`, `closed`).
-- hi - c falls. Full comes from put_flag or from the byte of the brace, each by `rest-stop`.
use mathlib.Core.Bool.{false}
use Prim.Native.Nat.{◌-◌, ◌≤◌}
use Rattle.output.specs.Put.{Rest}
use Rattle.convert_put.specs.Pieces.{flags_from}
use Rattle.convert_put.proofs.put_flags.Given as goal

abbrev pub invariant-loop-c : goal.invariant-loop-c
invariant-loop-c l = (l.c ≤ l.hi) × Rest l.initial.out (flags_from (l.hi - l.lo) l.row l.lo false) (flags_from (l.hi - l.c) l.row l.c l.begun) l.at l.out
