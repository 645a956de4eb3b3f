-- What stands in the output after a call.
use Prim.Native.Nat.{ℕ, ◌≤◌}
use mathlib.Core.Path.{◌≡◌, ap, ◌∙◌}
use lib.ListN.{length, take}
use Rattle.text.specs.Bytes.{Bytes}
use Rattle.text.proofs.Cases.{by_bool}
use Rattle.convert.specs.Answers.{Answer, no, yes, is_stem_text}
use Rattle.convert.proofs.Seeking.{no-yes}
use Rattle.convert.proofs.AnswerLaws.{answer-fits}
use Rattle.stream.specs.Calls.{Call, stem_of, Shown, shows_more, shows}
use Rattle.stream.specs.Demand.{Outputs}
use Rattle.stream_reader.specs.declared.State.{State}
use Rattle.stream_reader.specs.declared.Event.{Event}
use Rattle.stream_reader.specs.declared.Event.TheVariants.{More, Refused, Card}
use Rattle.stream_machine.specs.Turn.{fed_by, called, answered, output_after, unfit}
use Rattle.stream_proved.specs.Stream.{stream}

abbrev answer_in : Shown → Answer
answer_in shows_more = no 0 0
answer_in (shows a) = a

event-fits : (t d : Bytes) (m : ℕ) (e : Event) (bs : Bytes) → answer_in (answered t d m e) ≡ yes bs → length bs ≤ m
event-fits t d m More bs q = no-yes q
event-fits t d m (Refused n) bs q = no-yes q
event-fits t d m (Card n l) bs q = answer-fits t n m (take l d) bs q

json-fits : (c : Call) (s : State) (d out bs : Bytes) → answer_in (called c s d out).shown ≡ yes bs → length bs ≤ length out
unfolding called
json-fits c s d out bs q =
    by_bool (unfit s (length d) (length out)) (λ e. no-yes (rw e at q))
    (λ e. by_bool (is_stem_text (stem_of c))
    (λ f. event-fits (stem_of c) (fed_by c s d).1 (length out) (fed_by c s d).0.event bs (rw (e, f) at q)) (λ f. no-yes (rw (e, f) at q)))

output-is : (c : Call) (s : State) (d out : Bytes) → (called c s d out).output ≡ output_after out (called c s d out).shown
unfolding called
output-is c s d out =
    by_bool (unfit s (length d) (length out)) (λ e. rw e) (λ e. rw e (by_bool (is_stem_text (stem_of c)) (λ f. rw f) (λ f. rw f)))

pub outputs : Outputs stream
outputs s d out c =
    record {
      more = λ e. output-is c s d out ∙ ap (output_after out) e;
      refusal = λ n p e. output-is c s d out ∙ ap (output_after out) e;
      json = λ bs e. (json-fits c s d out bs (ap answer_in e), output-is c s d out ∙ ap (output_after out) e);
    }
