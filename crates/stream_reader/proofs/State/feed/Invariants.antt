-- Each time round: feeding the bytes of the piece from i on, in state s and with the buffer as it is now, comes to what feeding the whole piece
-- does from the state and the buffer of the call (`feed_from`). A turn takes one line with its LF (`turn-go`); length piece - i falls. A line that
-- answers ends the call (`turn-halt`); so does the end of the piece, within a line (`turn_end`) or after one (`feed-all`).
use Rattle.stream_reader.specs.Machine.{feed_from}
use lib.ListN.{length, drop}
use Prim.Native.Nat.{◌-◌, ◌≤◌}
use mathlib.Core.Path.{◌≡◌}
use Rattle.stream_reader.proofs.State.feed.Given as goal

abbrev pub invariant-loop-i : goal.invariant-loop-i
invariant-loop-i l = (l.i ≤ length l.piece) × (length l.card ≡ length l.initial.card) × (feed_from l.s l.card l.i (drop l.i l.piece) ≡ feed_from l.initial.s l.initial.card 0 l.piece)

abbrev pub decreases-loop-i : goal.decreases-loop-i
decreases-loop-i l = length l.piece - l.i
