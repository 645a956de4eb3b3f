-- A refusal's number is 1 to 16: so the number that a call returns tells a result (0) and more (255) from a refusal.
use Prim.Native.Nat.{ℕ, ◌+◌}
use mathlib.Core.Path.{◌≡◌, refl}
use mathlib.Core.Bool.{Bool, true, false, not, ◌&&◌}
use mathlib.Core.List.{List, [], ◌∷◌}
use mathlib.Core.Option.{Option, none, some}
use lib.ListN.{length, take}
use lib.Dec.{ltb, leb, eqb}
use Rattle.text.specs.Choice.{with-some}
use Rattle.text.specs.Bytes.{Bytes, all}
use Rattle.text.proofs.Cases.{by_bool}
use Rattle.text.proofs.Lists.{all_head, all_tail}
use Rattle.json_text.specs.Read.{Reading, tree, refused, reading}
use Rattle.line.specs.Grammar.{Line}
use Rattle.line.specs.Physical.{size_of}
use Rattle.convert.specs.Model.{Card}
use Rattle.convert.specs.FromJson.{card_from_json}
use Rattle.convert.specs.Carry.{carried}
use Rattle.convert.specs.ToCard.{card_lines, print_card}
use Rattle.convert.specs.Answers.{Answer, no, yes, Test, fine, fails, seek, given, given_at, card_room, line_room, json_room, is_stem_text, is_card_number, raw_lines, lines_of, line_tests, fitted, convert_lines, convert_card, card_to_json, convert_model, convert_tree, json_to_card}
use Rattle.stream.specs.Calls.{Call, piece, end, stem_of, Shown, shows_more, shows}
use Rattle.stream_reader.specs.declared.State.{State}
use Rattle.stream_reader.specs.declared.Event.{Event}
use Rattle.stream_reader.specs.declared.Event.TheVariants.{More, Refused, Card as Event-Card}
use Rattle.stream_reader.specs.Machine.{cap, kind_of, verdict_of, end_verdict_of, closed_of, event_of, byte_verdict, byte_next, byte_buffer, feed_from, feed_of, end_of}
use Rattle.stream_machine.specs.Turn.{unfit, fed_by, answered, called}

abbrev pub is_refusal : ℕ → Bool
is_refusal n = leb 1 n && leb n 16

abbrev pub numbered : Answer → Bool
numbered (yes bs) = true
numbered (no n p) = is_refusal n

-- ---- tests

abbrev known : Test → Bool
known fine = true
known (fails n p) = is_refusal n

seek-numbered : (ts : List Test) (a : Answer) → all known ts ≡ true → numbered a ≡ true → numbered (seek ts a) ≡ true
unfolding seek
seek-numbered [] a h p = p
seek-numbered (fine ∷ ts) a h p = seek-numbered ts a (all_tail known fine ts h) p
seek-numbered (fails n q ∷ ts) a h p = all_head known (fails n q) ts h

known-given : (n : ℕ) (b : Bool) → is_refusal n ≡ true → known (given n b) ≡ true
known-given n true h = h
known-given n false h = refl

known_at : (n : ℕ) (o : Option ℕ) → is_refusal n ≡ true → known (given_at n o) ≡ true
known_at n none h = refl
known_at n (some p) h = h

known-lines : (raw : List Bytes) (ls : List Line) → all known (line_tests raw ls) ≡ true
unfolding line_tests all
known-lines raw ls =
    rw (
      known-given 3 _ refl,
      known_at 4 _ refl,
      known_at 5 _ refl,
      known-given 6 _ refl,
      known_at 7 _ refl,
      known_at 8 _ refl,
      known_at 9 _ refl,
      known-given 10 _ refl,
    )

two_numbered : (j k : ℕ) (b c : Bool) (a : Answer) → is_refusal j ≡ true → is_refusal k ≡ true → numbered a ≡ true → numbered (seek (given j b ∷ given k c ∷ []) a) ≡ true
unfolding all
two_numbered j k b c a p q h = seek-numbered (given j b ∷ given k c ∷ []) a (rw (known-given j b p, known-given k c q)) h

fitted-numbered : (full lent : ℕ) (r : Bytes) → numbered (fitted full lent r) ≡ true
unfolding fitted
fitted-numbered full lent r = two_numbered 3 14 (ltb full (length r)) (ltb lent (length r)) (yes r) refl refl refl

-- ---- the services

pub card-numbered : (stem : Bytes) (n lent : ℕ) (s : Bytes) → numbered (card_to_json stem n lent s) ≡ true
unfolding card_to_json convert_card convert_lines
card-numbered stem n lent s =
    by_bool (not (is_stem_text stem && is_card_number n)) (λ e. rw e) (λ e. rw e (by_bool (ltb card_room (size_of s)) (λ f. rw f) (λ f. rw f (go (raw_lines s)))))
  where
    go : (o : Option (List Bytes)) → numbered (convert_card stem n lent o) ≡ true
    go none = refl
    go (some raw) = seek-numbered (line_tests raw (lines_of raw)) _ (known-lines raw (lines_of raw)) (fitted-numbered json_room lent _)

model-numbered : (lent : ℕ) (c : Card) → numbered (convert_model lent c) ≡ true
unfolding convert_model
model-numbered lent c =
    two_numbered 13 3 (not (carried c)) (ltb line_room (length (card_lines c))) (fitted card_room lent (print_card c)) refl refl (fitted-numbered card_room lent (print_card c))

tree-numbered : (lent : ℕ) (x : Reading) → numbered (convert_tree lent x) ≡ true
tree-numbered lent (refused p) = refl
tree-numbered lent (tree j) = by (card_from_json j)
  where
    by : (o : Option Card) → numbered (with-some o (convert_model lent) (no 12 0)) ≡ true
    by none = refl
    by (some c) = model-numbered lent c

pub json-numbered : (lent : ℕ) (s : Bytes) → numbered (json_to_card lent s) ≡ true
unfolding json_to_card
json-numbered lent s = by_bool (ltb json_room (length s)) (λ e. rw e) (λ e. rw e (tree-numbered lent (reading 16 s)))

-- ---- the stream

abbrev pub numbered_shown : Shown → Bool
numbered_shown shows_more = true
numbered_shown (shows a) = numbered a

abbrev numbered_event : Event → Bool
numbered_event More = true
numbered_event (Refused n) = is_refusal n
numbered_event (Event-Card n l) = true

closed-numbered : (n l : ℕ) → numbered_event (closed_of n l) ≡ true
unfolding closed_of
closed-numbered n l = by_bool (ltb 999999 n) (λ e. rw e) (λ e. rw e (by_bool (ltb cap l) (λ f. rw f) (λ f. rw f)))

event-numbered : (i : Bool) (k n l : ℕ) → numbered_event (event_of (verdict_of i k) n l) ≡ true
unfolding verdict_of event_of
event-numbered true k n l = by_bool (eqb k 1) (λ e. rw e) (λ e. rw e (by_bool (eqb k 2) (λ f. rw f (closed-numbered n l)) (λ f. rw f)))
event-numbered false k n l = by_bool (ltb k 2) (λ e. rw e) (λ e. rw e)

end-numbered : (i : Bool) (k n l : ℕ) → numbered_event (event_of (end_verdict_of i k) n l) ≡ true
unfolding end_verdict_of event_of
end-numbered true k n l = by_bool (eqb k 2) (λ e. rw e (closed-numbered n l)) (λ e. rw e)
end-numbered false k n l = by_bool (eqb k 0) (λ e. rw e) (λ e. rw e (by_bool (eqb k 1) (λ f. rw f) (λ f. rw f)))

byte-numbered : (s : State) (b n l : ℕ) → numbered_event (event_of (byte_verdict s b) n l) ≡ true
unfolding byte_verdict
byte-numbered s b n l = by_bool (eqb b 10) (λ e. rw e (event-numbered s.inside (kind_of s) n l)) (λ e. unfold event_of in (rw e))

feed-numbered : (bs : Bytes) (s : State) (d : Bytes) (n : ℕ) → numbered_event (feed_from s d n bs).0.event ≡ true
unfolding feed_from
feed-numbered [] s d n = refl
feed-numbered (b ∷ bs) s d n =
    by_bool (eqb (byte_verdict s b) 0) (λ e. rw e (feed-numbered bs (byte_next s b) (byte_buffer s d b) (n + 1))) (λ e. rw e (byte-numbered s b _ _))

fed-numbered : (c : Call) (s : State) (d : Bytes) → numbered_event (fed_by c s d).0.event ≡ true
unfolding feed_of end_of
fed-numbered (piece t bs) s d = feed-numbered bs s d 0
fed-numbered (end t) s d = end-numbered s.inside (kind_of s) _ _

answered-numbered : (t d : Bytes) (lent : ℕ) (e : Event) → numbered_event e ≡ true → numbered_shown (answered t d lent e) ≡ true
answered-numbered t d lent More h = refl
answered-numbered t d lent (Refused n) h = h
answered-numbered t d lent (Event-Card n l) h = card-numbered t n lent (take l d)

pub called-numbered : (c : Call) (s : State) (d out : Bytes) → numbered_shown (called c s d out).shown ≡ true
unfolding called
called-numbered c s d out =
    by_bool (unfit s (length d) (length out)) (λ e. rw e)
    (λ e. rw e (by_bool (is_stem_text (stem_of c)) (λ f. rw f (answered-numbered (stem_of c) (fed_by c s d).1 (length out) (fed_by c s d).0.event (fed-numbered c s d))) (λ f. rw f)))
