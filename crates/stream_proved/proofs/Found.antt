-- With a changed card buffer the answer is for the bytes found.
use Prim.Native.Nat.{ℕ, suc, ◌-◌, ◌≤◌, min}
use mathlib.Core.Path.{◌≡◌, refl, sym, ap, ap₂, ◌∙◌}
use mathlib.Core.Bool.{Bool, true, false}
use mathlib.Core.List.{List, [], ◌∷◌, ◌++◌, map, append_assoc}
use mathlib.Core.Option.{Option, none, some}
use native.Mathlib.Omega.{arith}
use native.Mathlib.Numerals.{add-one}
use lib.ListN.{length, take}
use lib.Dec.{ltb, eqb, lit≤}
use borrow.Author.Tests.{ltb-false, eqb-true}
use Rattle.text.specs.Choice.{pick, is_some}
use Rattle.text.specs.Bytes.{Bytes, keep}
use Rattle.text.proofs.Cases.{by_bool, not-both, or_left, or_right}
use Rattle.convert.specs.Answers.{json_room, is_stem_text}
use Rattle.stream.specs.Plain.{Reader, Kind, blank, begin, other, Tells, more, refuses, closes, Told, tells, next, unless, read_from, read_piece, read_end, or_open, fresh}
use Rattle.stream.specs.Plain as P
use Rattle.stream.specs.Calls.{Call, piece, end, stem_of, Shown, shows, asked, Found, Handed, Met, met}
use Rattle.stream.specs.Buffer.{held_of, buffer_by, answer_found, shown_found, all_found}
use Rattle.stream.specs.Demand.{passed_met, BytesFound}
use Rattle.stream_reader.specs.declared.State.{State}
use Rattle.stream_reader.specs.declared.Fed.{Fed}
use Rattle.stream_reader.specs.Machine.{cap, over, past, fresh_of, bump_of, verdict_of, end_verdict_of, closed_of, event_of, byte_verdict, byte_buffer, feed_from, feed_of, end_of}
use Rattle.stream_machine.specs.Turn.{Given, answered, given_by, fed_by, called, unfit}
use Rattle.stream_proved.specs.Stream.{stream}
use Rattle.stream_proved.proofs.Words.{ltb-min}
use Rattle.convert.proofs.AnswerLaws.{answer-room}
use Rattle.stream_proved.proofs.Same.{state, code, same_kind, same_next, same_stop, is_more, length-snoc, held_grown, begin-is, begin-long, end-next}
use Rattle.stream_proved.proofs.Calls.{goes, entry-is, fresh-state}
use Rattle.stream_proved.proofs.Placed.{fed-placed}

module _ (t : Bytes) (lent : ℕ) (st : is_stem_text t ≡ true) (big : json_room ≤ lent) where
  closed-found : (x : Bytes) (k n : ℕ) (d : Bytes)
      → answered t d lent (closed_of (min n past) (min k over)) ≡ shows (answer_found (record { bytes = x; stem = t; number = n }) k d)
  unfolding closed_of answer_found
  closed-found x k n d =
      rw (ltb-min n past 999999 (lit≤ tt)) (by_bool (ltb 999999 n) (λ e. rw e)
      (λ e. rw (e, ltb-min k over cap (lit≤ tt)) (by_bool (ltb cap k) (λ f. rw f) (λ f. rw (f, num e, size f, answer-room t n lent (take k d) big)))))
    where
      num : ltb 999999 n ≡ false → min n past ≡ n
      num e = omega (arith, ltb-false 999999 n e)

      size : ltb cap k ≡ false → min k over ≡ k
      size f = omega (arith, ltb-false cap k f)

  -- ---- a piece

  line-found : (c : Option Bytes) (k : Kind) (l : Bytes) (n : ℕ) (p d : Bytes)
      → answered t d lent (event_of (verdict_of (is_some c) (code k)) (min n past) (bump_of (min (length (held_of c l)) over) over))
      ≡ shown_found (P.line_tells c k t (l ++ 10 ∷ []) n) (piece t p) d
  unfolding verdict_of event_of
  line-found none blank l n p d = refl
  line-found none begin l n p d = refl
  line-found none P.end l n p d = refl
  line-found none other l n p d = refl
  line-found (some c) blank l n p d = refl
  line-found (some c) begin l n p d = refl
  line-found (some c) P.end l n p d = rw (held_grown (some c) l 10) (closed-found (c ++ (l ++ 10 ∷ [])) (length (c ++ (l ++ 10 ∷ []))) n d)
  line-found (some c) other l n p d = refl

  byte-found : (r : Reader) (b : ℕ) (p d : Bytes)
      → answered t d lent (event_of (byte_verdict (state r) b) (min r.number past) (bump_of (min (length (held_of r.card r.begun)) over) over))
      ≡ shown_found (tells t r b) (piece t p) d
  unfolding byte_verdict tells
  byte-found r b p d = go (eqb b 10) refl
    where
      go : (u : Bool) → eqb b 10 ≡ u
          → answered t d lent (event_of (byte_verdict (state r) b) (min r.number past) (bump_of (min (length (held_of r.card r.begun)) over) over))
          ≡ shown_found (tells t r b) (piece t p) d
      go true e = rw (e, same_kind r, eqb-true b 10 e) (line-found r.card (P.kind_of r.begun) r.begun r.number p d)
      go false e = unfold event_of in (rw e)

  pub record Loose (c : Call) (x : Fed × Bytes) (y : Told) : Type 0 where
    pub what : answered t x.1 lent x.0.event ≡ shown_found y.what c x.1
    pub used : x.0.used ≡ y.consumed
    pub then : x.0.next ≡ state y.then

  choose : (c : Call) (w : Tells) (u : Bool) → u ≡ is_more w → {x₁ x₂ : Fed × Bytes} {y₁ y₂ : Told} → Loose c x₁ y₁ → Loose c x₂ y₂ → Loose c (pick u x₁ x₂) (unless w y₁ y₂)
  choose c more u e go halt = rw e go
  choose c (refuses n) u e go halt = rw e halt
  choose c (closes w) u e go halt = rw e halt

  run-found : (bs : Bytes) (r : Reader) (p d : Bytes) (n : ℕ) → Loose (piece t p) (feed_from (state r) d n bs) (read_from t r n bs)
  unfolding feed_from read_from
  run-found [] r p d n = record { what = refl; used = refl; then = refl }
  run-found (b ∷ bs) r p d n =
      choose (piece t p) (tells t r b) (eqb (byte_verdict (state r) b) 0) (same_stop t r b)
      (rw (same_next r b, add-one n) (run-found bs (next r b) p (byte_buffer (state r) d b) (suc n)))
      (record { what = byte-found r b p (byte_buffer (state r) d b); used = add-one n; then = same_next r b })

  -- ---- an end call

  end-found : (c : Option Bytes) (k : Kind) (l : Bytes) (n : ℕ) (d : Bytes)
      → answered t d lent (event_of (end_verdict_of (is_some c) (code k)) (min n past) (min (length (held_of c l)) over))
      ≡ shown_found (or_open (P.line_tells c k t (l ++ 10 ∷ []) n) (P.line_next c k (l ++ 10 ∷ []) n).card) (end t) d
  unfolding end_verdict_of event_of
  end-found none blank l n d = refl
  end-found none begin l n d = refl
  end-found none P.end l n d = refl
  end-found none other l n d = refl
  end-found (some c) blank l n d = refl
  end-found (some c) begin l n d = refl
  end-found (some c) P.end l n d =
      closed-found (c ++ (l ++ 10 ∷ [])) (length (c ++ l)) n d
      ∙ ap (λ (k : ℕ). shows (answer_found (record { bytes = c ++ (l ++ 10 ∷ []); stem = t; number = n }) k d)) (sym less)
    where
      less : length (c ++ (l ++ 10 ∷ [])) - 1 ≡ length (c ++ l)
      less = rw (← append_assoc c l (10 ∷ []), length-snoc (c ++ l) 10) (omega arith)
  end-found (some c) other l n d = refl

  call-found : (c : Call) (r : Reader) (d : Bytes) → stem_of c ≡ t → Loose c (fed_by c (state r) d) (asked c r)
  unfolding feed_of end_of read_piece read_end tells next
  call-found (piece u bs) r d e = rw e (run-found bs r bs d 0)
  call-found (end u) r d e =
      let k = P.kind_of r.begun in
      rw (e, same_kind r) (record {
        what = end-found r.card k r.begun r.number _;
        used = refl;
        then = end-next t lent st big r.card k r.begun r.number (λ q. (begin-long r.begun (begin-is r.begun q)).1);
      })

-- ---- lists of calls

-- a call that passes gives what is found, and moves the state as the plain reader
pub record Founds (g : Given) (c : Call) (r : Reader) (d : Bytes) : Type 0 where
  pub what : g.shown ≡ shown_found (asked c r).what c (buffer_by c r d)
  pub used : g.consumed ≡ (asked c r).consumed
  pub then : g.state ≡ state (asked c r).then
  pub left : g.buffer ≡ buffer_by c r d

founds : (c : Call) (r : Reader) (d out : Bytes) → goes c (state r) d out ≡ true → Founds (called c (state r) d out) c r d
unfolding called unfit
founds c r d out p =
    let q = sym (entry-is c (state r) d out) ∙ p in
    by_bool (unfit (state r) (length d) (length out)) (λ e. not-both refl (sym (rw e at q)))
    (λ e. by_bool (is_stem_text (stem_of c)) (λ f. rw (e, f) (given e f)) (λ f. not-both refl (sym (rw (e, f) at q))))
  where
    given : unfit (state r) (length d) (length out) ≡ false → is_stem_text (stem_of c) ≡ true → Founds (given_by (stem_of c) out (fed_by c (state r) d)) c r d
    given e f =
        let l = call-found (stem_of c) (length out) f (ltb-false (length out) json_room (or_left (ltb (length out) json_room) _ (or_right (ltb (length d) cap) _ e))) c r d refl in
        let b = fed-placed c r d (ltb-false (length d) cap (or_left (ltb (length d) cap) _ e)) in
        record { what = l.what ∙ ap (shown_found (asked c r).what c) b; used = l.used; then = l.then; left = b }

stays : (c : Call) (s : State) (d out : Bytes) → goes c s d out ≡ false → (called c s d out).state ≡ s
unfolding called unfit
stays c s d out p =
    let q = sym (entry-is c s d out) ∙ p in
    by_bool (unfit s (length d) (length out)) (λ e. rw e)
    (λ e. by_bool (is_stem_text (stem_of c)) (λ f. not-both refl (rw (e, f) at q)) (λ f. rw (e, f)))

abbrev mk_found : Shown → ℕ → Bytes → Found
mk_found a n x = record { reply = record { shown = a; consumed = n }; left = x }

same-found : {a b : Shown} {n k : ℕ} {x y : Bytes} → a ≡ b → n ≡ k → x ≡ y → mk_found a n x ≡ mk_found b k y
same-found e f g = rw (e, f, g)

found-run : (hs : List Handed) (r : Reader) (s : State) → s ≡ state r
    → map (λ (x : Met). x.found) (passed_met (met stream s hs)) ≡ all_found r (map (λ (x : Met). x.handed) (passed_met (met stream s hs)))
unfolding met passed_met keep all_found
found-run [] r s e = refl
found-run (h ∷ hs) r s e =
    rw e (by_bool (goes h.call (state r) h.buffer h.output)
    (λ p. let f = founds h.call r h.buffer h.output p in
    rw p (ap₂ ◌∷◌ (same-found f.what f.used f.left) (found-run hs (asked h.call r).then _ f.then)))
    (λ p. rw p (found-run hs r _ (stays h.call (state r) h.buffer h.output p))))

pub bytes-found : BytesFound stream
bytes-found hs = found-run hs fresh fresh_of fresh-state
