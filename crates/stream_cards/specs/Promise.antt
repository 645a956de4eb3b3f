-- What the calls promise, in full: all that a call gives is what `called` gives, for every state, stem, piece, card buffer and output.
use Rattle.std.specs.Prelude.{◌≡◌, ℕ, ◌≤◌}
use Rattle.text.specs.Bytes.{Bytes}
use Rattle.served.specs.Served.{refused, outcome_of}
use Rattle.stream.specs.Calls.{Call, piece, end, Shown, shows_more, shows}
use Rattle.stream_reader.specs.declared.Event.{Event}
use Rattle.stream_reader.specs.declared.Event.TheVariants.{More, Refused, Card}
use Rattle.stream_reader.specs.Machine.{fresh_of}
use Rattle.stream_machine.specs.Turn.{Given, called}
use Rattle.stream_cards.specs.declared.Stream.{Stream}
use Rattle.stream_cards.specs.declared.Said.{Said}
use Rattle.stream_cards.specs.declared.Said.TheVariants.{More as Said-More, Answer}
use Rattle.stream_cards.specs.declared.Answered.{Answered}

-- more, or the length of the JSON, or a refusal's number and place
abbrev pub said_of : Shown → Said
said_of shows_more = Said-More
said_of (shows a) = Answer (outcome_of a)

abbrev pub answer_of : Given → Answered
answer_of g = record { said = said_of g.shown; used = g.consumed; next = record { state = g.state } }

-- what a call returns, and the card buffer and the output afterwards, are those of g
pub record Gives (g : Given) (r : Answered) (d out : Bytes) : Type 0 where
  pub answer : r ≡ answer_of g
  pub buffer : d ≡ g.buffer
  pub output : out ≡ g.output

-- no card yet, no line begun: `fresh`
abbrev pub FreshGives : (r : Stream) → Type 0
FreshGives r = r.state ≡ fresh_of

-- a call with a piece: `step`
abbrev pub StepGives : (self : Stream) (stem bytes buffer out : Bytes) → (r : Answered) (buffer' out' : Bytes) → Type 0
StepGives s t bs d out r d' out' = Gives (called (piece t bs) s.state d out) r d' out'

-- an end call: `end`
abbrev pub EndGives : (self : Stream) (stem buffer out : Bytes) → (r : Answered) (buffer' out' : Bytes) → Type 0
EndGives s t d out r d' out' = Gives (called (end t) s.state d out) r d' out'

-- ---- inside

-- a refusal at entry
abbrev pub refused_as : ℕ → Stream → Answered
refused_as n s = record { said = Answer (refused n 0); used = 0; next = s }

-- a whole card lies in the card buffer
abbrev pub InBuffer : Event → (room : ℕ) → Type 0
InBuffer More room = Unit {0}
InBuffer (Refused n) room = Unit {0}
InBuffer (Card n l) room = l ≤ room
