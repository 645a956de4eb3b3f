-- What the functions of `src/` use: the three ways of a call, and that a whole card lies in the card buffer.
use Prim.Native.Nat.{ℕ, ◌+◌, ◌-◌, ◌≤◌}
use mathlib.Core.Path.{◌≡◌, refl, sym, ap, ap₂, ◌∙◌}
use mathlib.Core.Bool.{Bool, true, false, not, ◌||◌}
use mathlib.Core.List.{[], ◌∷◌}
use native.Mathlib.Omega.{arith}
use borrow.Author.Tests.{ltb-false}
use lib.ListN.{length, take}
use lib.Dec.{ltb, eqb}
use Rattle.text.specs.Bytes.{Bytes}
use Rattle.text.proofs.Cases.{by_bool, or_left, not-true, not-false}
use Rattle.convert.specs.Answers.{card_to_json, json_room, is_stem_text}
use Rattle.convert.specs.Served.{left_by}
use Rattle.served.specs.Served.{Outcome, outcome_of}
use Rattle.stream.specs.Calls.{Call, piece, end, stem_of, unchanged}
use Rattle.stream_reader.specs.declared.State.{State}
use Rattle.stream_reader.specs.declared.Fed.{Fed}
use Rattle.stream_reader.specs.declared.Event.{Event}
use Rattle.stream_reader.specs.declared.Event.TheVariants.{Card}
use Rattle.stream_reader.specs.Machine.{cap, in_range, closed_of, event_of, byte_verdict, byte_next, byte_buffer, feed_from, feed_of, end_of}
use Rattle.stream_machine.specs.Turn.{Given, unfit, answered, output_after, fed_by, given_by, called}
use Rattle.stream_cards.specs.declared.Stream.{Stream}
use Rattle.stream_cards.specs.declared.Said.{Said}
use Rattle.stream_cards.specs.declared.Said.TheVariants.{Answer}
use Rattle.stream_cards.specs.declared.Answered.{Answered}
use Rattle.stream_cards.specs.Promise.{Gives, said_of, answer_of, refused_as, InBuffer}

-- ---- a whole card

-- the card to JSON of the bytes found is what the event shows
module _ (stem d out : Bytes) (e : Event) (n l : ℕ) (card : e ≡ Card n l) where
  pub card-said : (r : Outcome) → r ≡ outcome_of (card_to_json stem n (length out) (take (l - 0) d)) → Answer r ≡ said_of (answered stem d (length out) e)
  card-said r q =
      let z : l - 0 ≡ l = omega arith in
      rw (q, card, z)

  pub card-left : (o : Bytes) → o ≡ left_by out (card_to_json stem n (length out) (take (l - 0) d)) → o ≡ output_after out (answered stem d (length out) e)
  card-left o q =
      let z : l - 0 ≡ l = omega arith in
      rw (q, card, z)

pub card-in : (e : Event) (n l m : ℕ) → e ≡ Card n l → InBuffer e m → l ≤ m
card-in e n l m q h = rw q at h

-- it lies in the card buffer
module _ (m : ℕ) (h : cap ≤ m) where
  closed_in : (n l : ℕ) → InBuffer (closed_of n l) m
  unfolding closed_of
  closed_in n l = by_bool (ltb 999999 n) (λ e. rw e tt) (λ e. rw e (by_bool (ltb cap l) (λ f. rw f tt) (λ f. rw f (omega (arith, ltb-false cap l f)))))

  event-in : (w n l : ℕ) → InBuffer (event_of w n l) m
  unfolding event_of
  event-in w n l = by_bool (eqb w 0) (λ e. rw e tt) (λ e. rw e (by_bool (eqb w 3) (λ f. rw f (closed_in n l)) (λ f. rw f tt)))

  feed-in : (bs : Bytes) (s : State) (d : Bytes) (n : ℕ) → InBuffer (feed_from s d n bs).0.event m
  unfolding feed_from
  feed-in [] s d n = tt
  feed-in (b ∷ bs) s d n =
      by_bool (eqb (byte_verdict s b) 0) (λ e. rw e (feed-in bs (byte_next s b) (byte_buffer s d b) (n + 1))) (λ e. rw e (event-in _ _ _))

  fed-in : (c : Call) (s : State) (d : Bytes) → InBuffer (fed_by c s d).0.event m
  unfolding feed_of end_of
  fed-in (piece t bs) s d = feed-in bs s d 0
  fed-in (end t) s d = event-in _ _ _

pub fit_found : (s : State) (room lent : ℕ) (r : Bool) → r ≡ in_range s → (ltb room cap || (ltb lent json_room || not r)) ≡ unfit s room lent
unfolding unfit
fit_found s room lent r e = rw e

fit-room : (s : State) (room lent : ℕ) → unfit s room lent ≡ false → cap ≤ room
unfolding unfit
fit-room s room lent e = ltb-false room cap (or_left (ltb room cap) _ e)

-- ---- a call

-- what an event is answered, as a call's answer
pub fed-answer : (f : Fed) (stem d out : Bytes) (x : Said) → x ≡ said_of (answered stem d (length out) f.event)
    → ◌≡◌ {A = Answered} (record { said = x; used = f.used; next = record { state = f.next } }) (answer_of (given_by stem out (f, d)))
fed-answer f stem d out x e = rw e

-- what is returned, and what is left, are those of g
same-given : (g h : Given) → h ≡ g → (r : Answered) → r ≡ answer_of h → (out : Bytes) → out ≡ h.output → Gives g r h.buffer out
same-given g h e r q out p = record { answer = q ∙ ap answer_of e; buffer = ap (λ (x : Given). x.buffer) e; output = p ∙ ap (λ (x : Given). x.output) e }

-- u and ok are what the code found at entry
module _ (c : Call) (s : Stream) (d out : Bytes) (u : Bool) (unfits : u ≡ unfit s.state (length d) (length out)) where
  pub gives-16 : u ≡ true → (r : Answered) → r ≡ refused_as 16 s → Gives (called c s.state d out) r d out
  unfolding called
  gives-16 e r q = same-given (called c s.state d out) (unchanged 16 s.state d out) (rw (sym unfits ∙ e)) r q out refl

  pub gives-15 : u ≡ false → (ok : Bool) → ok ≡ is_stem_text (stem_of c) → not ok ≡ true → (r : Answered) → r ≡ refused_as 15 s → Gives (called c s.state d out) r d out
  unfolding called
  gives-15 e ok stem bad r q =
      same-given (called c s.state d out) (unchanged 15 s.state d out) (rw (sym unfits ∙ e, sym stem ∙ not-true ok bad)) r q out refl

  call-passed : u ≡ false → (ok : Bool) → ok ≡ is_stem_text (stem_of c) → not ok ≡ false → given_by (stem_of c) out (fed_by c s.state d) ≡ called c s.state d out
  unfolding called
  call-passed e ok stem good = rw (sym unfits ∙ e, sym stem ∙ not-false ok good)

  pub gives-passed : u ≡ false → (ok : Bool) → ok ≡ is_stem_text (stem_of c) → not ok ≡ false → (f : Fed) (d' : Bytes) → f ≡ (fed_by c s.state d).0 → d' ≡ (fed_by c s.state d).1
      → (r : Answered) → r ≡ answer_of (given_by (stem_of c) out (f, d')) → (out' : Bytes) → out' ≡ (given_by (stem_of c) out (f, d')).output → Gives (called c s.state d out) r d' out'
  gives-passed e ok stem good f d' fed left r q out' p =
      let both : (f, d') ≡ fed_by c s.state d = ap₂ (λ (a : Fed) (b : Bytes). (a, b)) fed left in
      same-given (called c s.state d out) (given_by (stem_of c) out (f, d')) (ap (λ (x : Fed × Bytes). given_by (stem_of c) out x) both ∙ call-passed e ok stem good) r q out' p

  -- what the bytes came to lies in the card buffer, whose length they keep
  pub event-fits : u ≡ false → (f : Fed) → f ≡ (fed_by c s.state d).0 → (m : ℕ) → m ≡ length d → InBuffer f.event m
  event-fits e f q m k = rw (q, k) (fed-in (length d) (fit-room s.state (length d) (length out) (sym unfits ∙ e)) c s.state d)
