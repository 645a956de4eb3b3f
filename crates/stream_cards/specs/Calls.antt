-- The machine that the calls make, as a caller sees it: demand 3 is claimed of it. What a function gives is known by its contract alone, so
-- the claim is about any functions that keep the contracts of `src/lib.rt`.
use Rattle.std.specs.Prelude.{take, Ok, Err}
use Rattle.text.specs.Bytes.{Bytes}
use Rattle.convert.specs.Answers.{no, yes}
use Rattle.stream.specs.Calls.{Call, piece, end, Shown, shows_more, shows, Machine}
use Rattle.stream_reader.specs.declared.State.{State}
use Rattle.stream_reader.specs.Machine.{in_range}
use Rattle.stream_machine.specs.Turn.{Given}
use Rattle.stream_cards.specs.declared.Stream.{Stream}
use Rattle.stream_cards.specs.declared.Said.{Said}
use Rattle.stream_cards.specs.declared.Said.TheVariants.{More, Answer}
use Rattle.stream_cards.specs.declared.Answered.{Answered}
use Rattle.stream_cards.specs.Promise.{FreshGives, StepGives, EndGives}

-- what a call returns, and the card buffer and the output that it leaves
pub record Left : Type 0 where
  pub answer : Answered
  pub buffer : Bytes
  pub output : Bytes

-- functions in the places of `Stream::fresh`, `Stream::step` and `Stream::end`
pub record Functions : Type 0 where
  pub fresh : Stream
  pub step : (self : Stream) (stem bytes buffer out : Bytes) → Left
  pub end : (self : Stream) (stem buffer out : Bytes) → Left

-- they keep the three contracts
pub record Keeps (f : Functions) : Type 0 where
  pub fresh : FreshGives f.fresh
  pub step : (s : Stream) (t bs d out : Bytes)
      → StepGives s t bs d out (f.step s t bs d out).answer (f.step s t bs d out).buffer (f.step s t bs d out).output
  pub end : (s : Stream) (t d out : Bytes) → EndGives s t d out (f.end s t d out).answer (f.end s t d out).buffer (f.end s t d out).output

-- What a caller sees: more; a JSON, the first bytes of the output; or a refusal's number and place.
abbrev pub seen : Said → (out : Bytes) → Shown
seen More out = shows_more
seen (Answer (Ok n)) out = shows (yes (take n out))
seen (Answer (Err r)) out = shows (no r.number r.place)

abbrev pub turn_by : Left → Given
turn_by l =
    record {
      shown = seen l.answer.said l.output;
      consumed = l.answer.used;
      state = l.answer.next.state;
      buffer = l.buffer;
      output = l.output;
    }

abbrev pub call_by : Functions → Call → State → (buffer out : Bytes) → Left
call_by f (piece t bs) s d out = f.step (record { state = s }) t bs d out
call_by f (end t) s d out = f.end (record { state = s }) t d out

abbrev pub machine_of : Functions → Machine
machine_of f = record { State = State; initial = f.fresh.state; in_range = in_range; turn = λ s d out c. turn_by (call_by f c s d out) }
