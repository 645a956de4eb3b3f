-- Ranges and lengths are kept, events fit, two end calls are enough, and 15 and 16 come exactly at entry.
use Prim.Native.Nat.{ℕ, ◌+◌, ◌≤◌}
use mathlib.Core.Path.{◌≡◌, refl, sym, ap, ◌∙◌}
use mathlib.Core.Bool.{Bool, true, false, not, ◌&&◌, ◌||◌}
use mathlib.Core.List.{[], ◌∷◌}
use mathlib.Core.Option.{Option, none, some}
use native.Mathlib.Omega.{arith}
use lib.ListN.{length, take}
use lib.Dec.{ltb, leb, eqb, lit≤}
use borrow.Author.Tests.{le-leb, ltb-true, ltb-false, leb-true}
use Rattle.text.specs.Choice.{pick}
use Rattle.text.specs.Bytes.{Bytes}
use Rattle.text.proofs.Cases.{by_bool, and_left, and_right, or_right, not-false, not-true, not-both}
use Rattle.convert.specs.Answers.{no, json_room, is_stem_text, is_card_number}
use Rattle.stream.specs.Calls.{Call, piece, end, stem_of, bytes_of, shows, hindrance, hinders}
use Rattle.stream.specs.Demand.{Hindered, NoOther, KeepsRange, KeepsLength, CountsWithin, TwoEnds}
use Rattle.stream_reader.specs.declared.State.{State}
use Rattle.stream_reader.specs.declared.Fed.{Fed}
use Rattle.stream_reader.specs.declared.Event.{Event}
use Rattle.stream_reader.specs.declared.Event.TheVariants.{More, Refused, Card}
use Rattle.stream_reader.specs.Machine.{cap, over, far, past, start_of, fresh_of, in_range, bump_of, within_of, kind_of, verdict_of, end_verdict_of, closed_of, event_of, opened_of, line_next, end_next, store_at, front_of, line_buffer, end_buffer, byte_verdict, byte_next, byte_buffer, feed_from, feed_of, end_of}
use Rattle.stream_machine.specs.Turn.{answered, fed_by, called, unfit}
use Rattle.stream_proved.specs.Stream.{stream}
use Rattle.convert.proofs.AnswerLaws.{answer-passes}
use Rattle.stream_proved.proofs.Passing.{passes}
use Rattle.stream_proved.proofs.Held.{length-store, length-stores}

-- ---- ranges

pub record InRange (s : State) : Type 0 where
  pub number : s.number ≤ past
  pub len : s.len ≤ over
  pub col : s.col ≤ far
  pub counted : (not s.inside || leb 1 s.number) ≡ true

pub range-true : (s : State) → in_range s ≡ true → InRange s
unfolding in_range
range-true s e =
    let f = and_right (leb s.number past) _ e in
    let g = and_right (leb s.len over) _ f in
    record {
      number = leb-true s.number past (and_left (leb s.number past) _ e);
      len = leb-true s.len over (and_left (leb s.len over) _ f);
      col = leb-true s.col far (and_left (leb s.col far) _ g);
      counted = and_right (leb s.col far) _ g;
    }

pub true-range : (s : State) → InRange s → in_range s ≡ true
unfolding in_range
true-range s h = rw (le-leb s.number past h.number, le-leb s.len over h.len, le-leb s.col far h.col) h.counted

bump-top : (n k : ℕ) → n ≤ k → bump_of n k ≤ k
bump-top n k h = by_bool (ltb n k) (λ e. rw e (omega (arith, ltb-true n k e))) (λ e. rw e h)

bump-one : (n k : ℕ) → 1 ≤ k → leb 1 (bump_of n k) ≡ true
bump-one n k h = by_bool (ltb n k) (λ e. rw e (le-leb 1 (n + 1) (omega arith))) (λ e. rw e (le-leb 1 n (omega (arith, ltb-false n k e))))

start-range : (n : ℕ) (i : Bool) (l : ℕ) → n ≤ past → l ≤ over → (not i || leb 1 n) ≡ true → InRange (start_of n i l)
start-range n i l p q c = record { number = p; len = q; col = lit≤ tt; counted = c }

opened-range : (s : State) → InRange s → InRange (opened_of s)
unfolding opened_of
opened-range s h = start-range _ true _ (bump-top s.number past h.number) (bump-top s.col over (omega (arith, h.col))) (bump-one s.number past (lit≤ tt))

within-range : (s : State) (b : ℕ) → InRange s → InRange (within_of s b)
unfolding within_of
within-range s b h = record { number = h.number; len = bump-top s.len over h.len; col = bump-top s.col far h.col; counted = h.counted }

line-range : (s : State) (k : ℕ) → InRange s → InRange (line_next s k)
unfolding line_next opened_of
line-range s k h =
    by_bool (eqb k 1)
    (λ e. rw e (by_bool s.inside (λ i. rw i (opened-range s h))
    (λ i. rw i (start-range _ true _ (bump-top s.number past h.number) (bump-top s.len over h.len) (bump-one s.number past (lit≤ tt))))))
    (λ e. rw e (by_bool (eqb k 2) (λ f. rw f (start-range s.number false 0 h.number (lit≤ tt) refl))
    (λ f. rw f (by_bool s.inside (λ i. rw i (start-range s.number true _ h.number (bump-top s.len over h.len) (rw i at h.counted)))
    (λ i. rw i (start-range s.number false 0 h.number (lit≤ tt) refl))))))

byte-range : (s : State) (b : ℕ) → InRange s → InRange (byte_next s b)
unfolding byte_next
byte-range s b h = by_bool (eqb b 10) (λ e. rw e (line-range s (kind_of s) h)) (λ e. rw e (within-range s b h))

end-range : (s : State) (k : ℕ) → InRange s → InRange (end_next s k)
unfolding end_next
end-range s k h = by_bool (s.inside && eqb k 1) (λ e. rw e (opened-range s h)) (λ e. rw e (start-range 0 false 0 (lit≤ tt) (lit≤ tt) refl))

-- ---- events: a card's number is one, and the card lies in its room

abbrev pub Fits : Event → Type 0
Fits More = Unit {0}
Fits (Refused n) = passes (shows (no n 0)) ≡ true
Fits (Card n l) = (is_card_number n ≡ true) × (l ≤ cap)

closed-fits : (n l : ℕ) → leb 1 n ≡ true → Fits (closed_of n l)
unfolding closed_of is_card_number
closed-fits n l one =
    by_bool (ltb 999999 n) (λ e. rw e refl)
    (λ e. rw e (by_bool (ltb cap l) (λ f. rw f refl) (λ f. rw f (rw (one, le-leb n 999999 (ltb-false 999999 n e)) refl, ltb-false cap l f))))

line-fits : (i : Bool) (k n l : ℕ) → (not i || leb 1 n) ≡ true → Fits (event_of (verdict_of i k) n l)
unfolding verdict_of event_of
line-fits true k n l h = by_bool (eqb k 1) (λ e. rw e refl) (λ e. rw e (by_bool (eqb k 2) (λ f. rw f (closed-fits n l h)) (λ f. rw f tt)))
line-fits false k n l h = by_bool (ltb k 2) (λ e. rw e tt) (λ e. rw e refl)

end_fits : (i : Bool) (k n l : ℕ) → (not i || leb 1 n) ≡ true → Fits (event_of (end_verdict_of i k) n l)
unfolding end_verdict_of event_of
end_fits true k n l h = by_bool (eqb k 2) (λ e. rw e (closed-fits n l h)) (λ e. rw e refl)
end_fits false k n l h = by_bool (eqb k 0) (λ e. rw e tt) (λ e. rw e (by_bool (eqb k 1) (λ f. rw f refl) (λ f. rw f refl)))

byte_fits : (s : State) (b l : ℕ) → InRange s → Fits (event_of (byte_verdict s b) s.number l)
unfolding byte_verdict
byte_fits s b l h = by_bool (eqb b 10) (λ e. rw e (line-fits s.inside (kind_of s) s.number l h.counted)) (λ e. unfold event_of in (rw e tt))

-- ---- lengths

length_front : (d : Bytes) (n : ℕ) → length (front_of d n) ≡ length d
unfolding front_of
length_front d n = length-stores _ 0 d

length-line : (s : State) (d : Bytes) (k : ℕ) → length (line_buffer s d k) ≡ length d
unfolding line_buffer
length-line s d k = go (s.inside && eqb k 1)
  where
    go : (t : Bool) → length (pick t (front_of (store_at s.len d 10) s.col) (store_at s.len d 10)) ≡ length d
    go true = length_front (store_at s.len d 10) s.col ∙ length-store s.len d 10
    go false = length-store s.len d 10

length-end : (s : State) (d : Bytes) (k : ℕ) → length (end_buffer s d k) ≡ length d
unfolding end_buffer
length-end s d k = by_bool (s.inside && eqb k 1) (λ e. rw e (length_front d s.col)) (λ e. rw e)

pub length-byte : (s : State) (d : Bytes) (b : ℕ) → length (byte_buffer s d b) ≡ length d
unfolding byte_buffer
length-byte s d b = by_bool (eqb b 10) (λ e. rw e (length-line s d (kind_of s))) (λ e. rw e (length-store s.len d b))

pub length-feed : (bs : Bytes) (s : State) (d : Bytes) (n : ℕ) → length (feed_from s d n bs).1 ≡ length d
unfolding feed_from
length-feed [] s d n = refl
length-feed (b ∷ bs) s d n =
    by_bool (eqb (byte_verdict s b) 0) (λ e. rw e (length-feed bs (byte_next s b) (byte_buffer s d b) (n + 1) ∙ length-byte s d b)) (λ e. rw e (length-byte s d b))

-- ---- calls

pub record Kept (x : Fed × Bytes) : Type 0 where
  pub range : InRange x.0.next
  pub fits : Fits x.0.event

feed-kept : (bs : Bytes) (s : State) (d : Bytes) (n : ℕ) → InRange s → Kept (feed_from s d n bs)
unfolding feed_from
feed-kept [] s d n h = record { range = h; fits = tt }
feed-kept (b ∷ bs) s d n h =
    by_bool (eqb (byte_verdict s b) 0) (λ e. rw e (feed-kept bs (byte_next s b) (byte_buffer s d b) (n + 1) (byte-range s b h)))
    (λ e. rw e (record { range = byte-range s b h; fits = byte_fits s b _ h }))

pub fed-kept : (c : Call) (s : State) (d : Bytes) → InRange s → Kept (fed_by c s d)
unfolding feed_of end_of
fed-kept (piece t bs) s d h = feed-kept bs s d 0 h
fed-kept (end t) s d h = record { range = end-range s (kind_of s) h; fits = end_fits s.inside (kind_of s) s.number s.len h.counted }

fed-length : (c : Call) (s : State) (d : Bytes) → length (fed_by c s d).1 ≡ length d
unfolding feed_of end_of
fed-length (piece t bs) s d = length-feed bs s d 0
fed-length (end t) s d = length-end s d (kind_of s)

event-passes : (t d : Bytes) (n : ℕ) (e : Event) → is_stem_text t ≡ true → Fits e → passes (answered t d n e) ≡ true
event-passes t d n More st h = refl
event-passes t d n (Refused k) st h = h
event-passes t d n (Card k l) st h = answer-passes t k n (take l d) st h.0

fit-range : (s : State) (m n : ℕ) → unfit s m n ≡ false → InRange s
unfolding unfit
fit-range s m n e = range-true s (not-false (in_range s) (or_right (ltb n json_room) _ (or_right (ltb m cap) _ e)))

pub fresh-range : in_range fresh_of ≡ true
unfolding in_range
fresh-range = refl

pub keeps-range : KeepsRange stream
unfolding called
keeps-range s d out c h =
    by_bool (unfit s (length d) (length out)) (λ e. rw e h)
    (λ e. rw e (by_bool (is_stem_text (stem_of c)) (λ f. rw f (true-range _ (fed-kept c s d (range-true s h)).range)) (λ f. rw f h)))

pub keeps-length : KeepsLength stream
unfolding called
keeps-length s d out c =
    by_bool (unfit s (length d) (length out)) (λ e. rw e)
    (λ e. rw e (by_bool (is_stem_text (stem_of c)) (λ f. rw f (fed-length c s d)) (λ f. rw f)))

-- ---- consumed bytes are bytes of the piece

feed-counts : (bs : Bytes) (s : State) (d : Bytes) (n : ℕ) → (feed_from s d n bs).0.used ≤ n + length bs
unfolding feed_from
feed-counts [] s d n = omega arith
feed-counts (b ∷ bs) s d n =
    by_bool (eqb (byte_verdict s b) 0) (λ e. rw e (omega (arith, feed-counts bs (byte_next s b) (byte_buffer s d b) (n + 1)))) (λ e. rw e (omega arith))

fed-counts : (c : Call) (s : State) (d : Bytes) → (fed_by c s d).0.used ≤ length (bytes_of c)
unfolding feed_of end_of
fed-counts (piece t bs) s d = omega (arith, feed-counts bs s d 0)
fed-counts (end t) s d = omega arith

pub counts-within : CountsWithin stream
unfolding called
counts-within s d out c =
    by_bool (unfit s (length d) (length out)) (λ e. rw e (omega arith))
    (λ e. rw e (by_bool (is_stem_text (stem_of c)) (λ f. rw f (fed-counts c s d)) (λ f. rw f (omega arith))))

-- ---- 15 and 16 exactly at entry

abbrev is_none : Option ℕ → Bool
is_none none = true
is_none (some n) = false

abbrev number_of : Option ℕ → ℕ
number_of none = 0
number_of (some n) = n

-- a call that nothing hinders
pub free : (c : Call) (s : State) (d out : Bytes) → hinders stream s d out c ≡ none → (unfit s (length d) (length out) ≡ false) × (is_stem_text (stem_of c) ≡ true)
unfolding hindrance unfit
free c s d out h =
    by_bool (unfit s (length d) (length out)) (λ e. not-both refl (ap is_none (sym (rw e at h))))
    (λ e. by_bool (is_stem_text (stem_of c)) (λ f. (e, f)) (λ f. not-both refl (ap is_none (sym (rw (e, f) at h)))))

pub hindered : Hindered stream
unfolding hindrance unfit called
hindered s d out c n h =
    by_bool (unfit s (length d) (length out)) (λ e. rw (e, ← ap number_of (rw e at h)))
    (λ e. by_bool (is_stem_text (stem_of c)) (λ f. not-both refl (ap is_none (rw (e, f) at h))) (λ f. rw (e, f, ← ap number_of (rw (e, f) at h))))

free-passes : (c : Call) (s : State) (d out : Bytes) → hinders stream s d out c ≡ none → passes (called c s d out).shown ≡ true
unfolding called
free-passes c s d out h =
    let f = free c s d out h in
    rw (f.0, f.1) (event-passes (stem_of c) (fed_by c s d).1 (length out) (fed_by c s d).0.event f.1 (fed-kept c s d (fit-range s (length d) (length out) f.0)).fits)

pub no_other : NoOther stream
no_other s d out c n p h e = not-true (eqb n 15 || eqb n 16) (sym (ap passes e) ∙ free-passes c s d out h)

-- ---- two end calls

end-passed : (t : Bytes) (s : State) (d out : Bytes) → hinders stream s d out (end t) ≡ none → (called (end t) s d out).state ≡ end_next s (kind_of s)
unfolding called end_of
end-passed t s d out h = let f = free (end t) s d out h in rw (f.0, f.1)

end-twice : (s : State) (k : ℕ) → end_next (end_next s k) (kind_of (end_next s k)) ≡ fresh_of
unfolding end_next opened_of kind_of
end-twice s k = by_bool (s.inside && eqb k 1) (λ e. rw e) (λ e. rw e)

pub two-ends-fresh : TwoEnds stream
two-ends-fresh t u s d out out₂ h k =
    end-passed u (called (end t) s d out).state (called (end t) s d out).buffer out₂ k
    ∙ rw (end-passed t s d out h) (end-twice s (kind_of s))
