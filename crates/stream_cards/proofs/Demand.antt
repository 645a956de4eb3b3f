-- Demand 3 of the calls as their contracts give them.
use Prim.Native.Nat.{◌≤◌}
use mathlib.Core.Path.{◌≡◌, refl, ap, ◌∙◌}
use lib.ListN.{length, take, drop}
use lib.Seq.{take-append_seam}
use Rattle.text.specs.Bytes.{Bytes}
use Rattle.convert.specs.Answers.{no, yes}
use Rattle.stream.specs.Calls.{Call, piece, end, Shown, shows_more, shows}
use Rattle.stream.specs.Demand.{Demand3, OutputAfter}
use Rattle.stream_reader.specs.declared.State.{State}
use Rattle.stream_reader.specs.Machine.{in_range}
use Rattle.stream_machine.specs.Turn.{Given, called}
use Rattle.stream_proved.specs.Stream.{stream}
use Rattle.stream_proved.proofs.Demand.{demand-3}
use Rattle.stream_cards.specs.declared.Stream.{Stream}
use Rattle.stream_cards.specs.declared.Answered.{Answered}
use Rattle.stream_cards.specs.Promise.{Gives, StepGives, said_of}
use Rattle.stream_cards.specs.Calls.{Left, Functions, Keeps, seen, turn_by, call_by, machine_of}

-- what is shown is what a caller sees of it
seen-is : (out after : Bytes) (a : Shown) → OutputAfter out a after → seen (said_of a) after ≡ a
seen-is out after shows_more h = refl
seen-is out after (shows (no n p)) h = refl
seen-is out after (shows (yes bs)) h = ap (λ (x : Bytes). shows (yes x)) (ap (take (length bs)) (h.json bs refl).1 ∙ take-append_seam bs (drop (length bs) out))

turn-given : (g : Given) (l : Left) → Gives g l.answer l.buffer l.output → seen (said_of g.shown) g.output ≡ g.shown → turn_by l ≡ g
turn-given g l h shown = (λ i. turn_by (record { answer = h.answer i; buffer = h.buffer i; output = h.output i })) ∙ ap showing shown
  where
    showing : Shown → Given
    showing x = record { shown = x; consumed = g.consumed; state = g.state; buffer = g.buffer; output = g.output }

call-is : (f : Functions) → Keeps f → (c : Call) (s : State) (d out : Bytes) → turn_by (call_by f c s d out) ≡ called c s d out
call-is f k (piece t bs) s d out = turn-given _ _ (k.step (record { state = s }) t bs d out) (seen-is out _ _ (demand-3.outputs s d out (piece t bs)))
call-is f k (end t) s d out = turn-given _ _ (k.end (record { state = s }) t d out) (seen-is out _ _ (demand-3.outputs s d out (end t)))

-- the machine that the calls make is the one that demand 3 is proved of
pub calls-are-stream : (f : Functions) → Keeps f → machine_of f ≡ stream
calls-are-stream f k = λ i. record { State = State; initial = k.fresh i; in_range = in_range; turn = λ s d out c. call-is f k c s d out i }

pub demand-3-of-calls : (f : Functions) → Keeps f → Demand3 (machine_of f)
demand-3-of-calls f k = coe 1 0 (i. Demand3 (calls-are-stream f k i)) demand-3

-- ---- what a caller of `step` needs for its own sums

pub step_counts : (s : Stream) (t bs d out : Bytes) (r : Answered) (d' out' : Bytes) → StepGives s t bs d out r d' out' → r.used ≤ length bs
step_counts s t bs d out r d' out' h = rw h.answer (demand-3.counts s.state d out (piece t bs))
