-- What a call of the stream gives, for every state, card buffer and output, reached by a list of calls or not: 16 and 15 at entry; else the
-- state is moved by the bytes (`stream_reader`), and a whole card is converted from the bytes found in the card buffer.
use Rattle.std.specs.Prelude.{Bool, not, ◌||◌, ℕ, length, take, ltb}
use Rattle.text.specs.Choice.{pick}
use Rattle.text.specs.Bytes.{Bytes}
use Rattle.convert.specs.Answers.{no, card_to_json, json_room, is_stem_text}
use Rattle.convert.specs.Served.{left_by}
use Rattle.stream.specs.Calls.{Call, piece, end, stem_of, Shown, shows_more, shows, Turn, unchanged}
use Rattle.stream_reader.specs.declared.State.{State}
use Rattle.stream_reader.specs.declared.Fed.{Fed}
use Rattle.stream_reader.specs.declared.Event.{Event}
use Rattle.stream_reader.specs.declared.Event.TheVariants.{More, Refused, Card}
use Rattle.stream_reader.specs.Machine.{cap, in_range, feed_of, end_of}

-- all that a call gives: what it shows, the bytes consumed, the next state, card buffer and output afterwards
abbrev pub Given : Type 0
Given = Turn State

-- 16: card buffer under 32,768, output under 65,536, or a state outside its ranges
unfoldable pub unfit : State → (room lent : ℕ) → Bool
unfit s room lent = ltb room cap || (ltb lent json_room || not (in_range s))

-- the event, the bytes used and the next state; and the card buffer
abbrev pub fed_by : Call → State → (buffer : Bytes) → Fed × Bytes
fed_by (piece t bs) s d = feed_of s d bs
fed_by (end t) s d = end_of s d

-- What an event shows. A whole card is the first bytes of the card buffer, whatever stands there: "With a changed card buffer the answer is
-- for the bytes found."
abbrev pub answered : (stem buffer : Bytes) (lent : ℕ) → Event → Shown
answered stem d lent More = shows_more
answered stem d lent (Refused n) = shows (no n 0)
answered stem d lent (Card n l) = shows (card_to_json stem n lent (take l d))

-- the output afterwards: more leaves it as lent
abbrev pub output_after : (lent : Bytes) → Shown → Bytes
output_after out shows_more = out
output_after out (shows a) = left_by out a

-- what a call gives that 16 and 15 let pass
abbrev pub given_by : (stem lent : Bytes) → Fed × Bytes → Given
given_by stem out f =
    record {
      shown = answered stem f.1 (length out) f.0.event;
      consumed = f.0.used;
      state = f.0.next;
      buffer = f.1;
      output = output_after out (answered stem f.1 (length out) f.0.event);
    }

unfoldable pub called : Call → State → (buffer lent : Bytes) → Given
called c s d out =
    let passed : Given = given_by (stem_of c) out (fed_by c s d) in
    pick (unfit s (length d) (length out)) (unchanged 16 s d out) (pick (not (is_stem_text (stem_of c))) (unchanged 15 s d out) passed)
