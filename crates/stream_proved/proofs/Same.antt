-- The state and the buffer against the plain reader, a byte and a call at a time.
use Prim.Native.Nat.{ℕ, suc, ◌+◌, ◌≤◌, min}
use mathlib.Core.Path.{◌≡◌, refl, sym, ◌∙◌}
use mathlib.Core.Bool.{Bool, true, false, not, ◌&&◌, ◌||◌}
use mathlib.Core.Bool as B
use mathlib.Core.List.{[], ◌∷◌, ◌++◌, append_assoc, append-nil}
use mathlib.Core.Option.{Option, none, some}
use native.Mathlib.Omega.{arith}
use native.Mathlib.Numerals.{add-one}
use lib.ListN.{length, take, length-append}
use lib.Dec.{ltb, leb, eqb, leb-zero, lit≤}
use borrow.Author.Tests.{le-leb, ltb-true, ltb-false, leb-true, leb-false, eqb-true}
use Rattle.text.specs.Choice.{pick, is_some}
use Rattle.text.specs.Bytes.{Bytes, is, any, all, empty, same, begins, lowered, lower, between}
use Rattle.text.proofs.Cases.{by_bool, and_left, and_right, not-both}
use Rattle.text.proofs.Same.{same-swap}
use Rattle.text.proofs.Lists.{any_append}
use Rattle.line.specs.Physical.{without_cr, is_begin, is_end, lacks_lf}
use Rattle.line.proofs.Ends.{lacks-none, lacks-after}
use Rattle.convert.specs.Answers.{card_to_json, json_room, is_stem_text}
use Rattle.stream.specs.Plain.{Reader, Kind, blank, begin, other, answer_to, Tells, more, refuses, closes, Told, tells, next, unless, read_from, read_piece, read_end, opens, outside, or_open, closing, fresh}
use Rattle.stream.specs.Plain as P
use Rattle.stream.specs.Calls.{shows, shown_of}
use Rattle.stream_reader.specs.declared.State.{State}
use Rattle.stream_reader.specs.declared.Fed.{Fed}
use Rattle.stream_reader.specs.declared.Event.TheVariants.{Refused, Card}
use Rattle.stream_reader.specs.Machine.{cap, over, far, past, begin-cr, end-cr, blank-cr, capital-lf, capital-cr-lf, bump_of, agrees_of, within_of, kind_of, verdict_of, end_verdict_of, closed_of, event_of, opened_of, line_next, end_next, store_at, front_of, line_buffer, end_buffer, byte_verdict, byte_next, byte_buffer, feed_from, feed_of, end_of}
use Rattle.stream_machine.specs.Turn.{answered}
use Rattle.stream.specs.Buffer.{held_of}
use Rattle.stream_proved.proofs.Words.{begins-more, begins-short, begins-word, leb-min, ltb-min, agrees-min}
use Rattle.convert.proofs.AlikeTexts.{Alike, alike_self, alike-more, alike-begin, alike-answer, answer-ended}
use Rattle.convert.proofs.AnswerLaws.{answer-room, answer-large}
use Rattle.stream_proved.proofs.Passing.{card-number, whole-passes, passes}
use Rattle.stream_proved.proofs.Held.{Holds, holds-none, holds_more, holds-all, holds-whole}

-- ---- the state is a function of what the plain reader holds

abbrev pub state : Reader → State
state r =
    record {
      number = min r.number past;
      inside = is_some r.card;
      len = min (length (held_of r.card r.begun)) over;
      col = min (length r.begun) far;
      begins = begins (lowered r.begun) begin-cr;
      ends = begins (lowered r.begun) end-cr;
      blank = begins (lowered r.begun) blank-cr;
    }

abbrev pub code : Kind → ℕ
code blank = 0
code begin = 1
code P.end = 2
code other = 3

codes : (a b c : Bool) → pick a 0 (pick b 1 (pick c 2 3)) ≡ code (pick a blank (pick b begin (pick c P.end other)))
codes true b c = refl
codes false true c = refl
codes false false true = refl
codes false false false = refl

abbrev begin-word : Bytes
begin-word = 98 ∷ 101 ∷ 103 ∷ 105 ∷ 110 ∷ 58 ∷ 118 ∷ 99 ∷ 97 ∷ 114 ∷ 100 ∷ []

abbrev end-word : Bytes
end-word = 101 ∷ 110 ∷ 100 ∷ 58 ∷ 118 ∷ 99 ∷ 97 ∷ 114 ∷ 100 ∷ []

same-empty : (l : Bytes) → same [] (lowered l) ≡ empty l
unfolding same lowered
same-empty [] = refl
same-empty (c ∷ l) = refl

blank-flag : (l : Bytes) → begins (lowered l) blank-cr ≡ empty (without_cr l)
unfolding all
blank-flag l = sym (B.and-true (begins (lowered l) blank-cr)) ∙ sym (rw (leb-zero (length l))) ∙ begins-word l [] refl ∙ same-empty (without_cr l)

begin-flag : (l : Bytes) → (begins (lowered l) begin-cr && leb 11 (min (length l) far)) ≡ is_begin (without_cr l)
unfolding all is_begin
begin-flag l = rw (leb-min (length l) far 11 (lit≤ tt)) (begins-word l begin-word refl ∙ same-swap begin-word (lowered (without_cr l)))

end-flag : (l : Bytes) → (begins (lowered l) end-cr && leb 9 (min (length l) far)) ≡ is_end (without_cr l)
unfolding all is_end
end-flag l = rw (leb-min (length l) far 9 (lit≤ tt)) (begins-word l end-word refl ∙ same-swap end-word (lowered (without_cr l)))

pub same_kind : (r : Reader) → kind_of (state r) ≡ code (P.kind_of r.begun)
unfolding kind_of P.kind_of
same_kind r =
    let l = r.begun in
    rw (blank-flag l, begin-flag l, end-flag l) (codes (empty (without_cr l)) (is_begin (without_cr l)) (is_end (without_cr l)))

-- ---- the state after a byte

module _ (n k : ℕ) where
  bump-suc : bump_of (min n k) k ≡ min (suc n) k
  bump-suc = go (ltb (min n k) k) refl
    where
      go : (t : Bool) → ltb (min n k) k ≡ t → pick t (min n k + 1) (min n k) ≡ min (suc n) k
      go true e = let h = ltb-true (min n k) k e in omega arith
      go false e = let h = ltb-false (min n k) k e in omega arith

pub length-snoc : (l : Bytes) (b : ℕ) → length (l ++ b ∷ []) ≡ suc (length l)
length-snoc l b = length-append l (b ∷ []) ∙ add-one (length l)

-- a byte joins what is held
held-snoc : (c : Option Bytes) (l : Bytes) (b : ℕ) → held_of c (l ++ b ∷ []) ≡ held_of c l ++ b ∷ []
held-snoc none l b = refl
held-snoc (some c) l b = sym (append_assoc c l (b ∷ []))

pub held_grown : (c : Option Bytes) (l : Bytes) (b : ℕ) → bump_of (min (length (held_of c l)) over) over ≡ min (length (held_of c (l ++ b ∷ []))) over
held_grown c l b = rw (held-snoc c l b, length-snoc (held_of c l) b) (bump-suc (length (held_of c l)) over)

same_flag : (w l : Bytes) (b : ℕ) → length w ≤ far → agrees_of w (begins (lowered l) w) (min (length l) far) b ≡ begins (lowered (l ++ b ∷ [])) w
same_flag w l b h = agrees-min (length l) far w (begins (lowered l) w) b h ∙ begins-more l w b

same-within : (r : Reader) (b : ℕ) → within_of (state r) b ≡ state (record { card = r.card; begun = r.begun ++ b ∷ []; number = r.number })
unfolding within_of
same-within r b =
    let l = r.begun in
    rw (
      held_grown r.card l b,
      bump-suc (length l) far,
      ← length-snoc l b,
      same_flag begin-cr l b (lit≤ tt),
      same_flag end-cr l b (lit≤ tt),
      same_flag blank-cr l b (lit≤ tt),
    )

-- a BEGIN line is short
kind-begin : (a b c : Bool) → pick a blank (pick b begin (pick c P.end other)) ≡ begin → b ≡ true
kind-begin true b c e = cc
kind-begin false true c e = refl
kind-begin false false true e = cc
kind-begin false false false e = cc

kind-end : (a b c : Bool) → pick a blank (pick b begin (pick c P.end other)) ≡ P.end → a ≡ false
kind-end true b c e = cc
kind-end false b c e = refl

pub begin-is : (l : Bytes) → P.kind_of l ≡ begin → is_begin (without_cr l) ≡ true
unfolding P.kind_of
begin-is l e = kind-begin (empty (without_cr l)) (is_begin (without_cr l)) (is_end (without_cr l)) e

pub begin-long : (l : Bytes) → is_begin (without_cr l) ≡ true → (11 ≤ length l) × (length l ≤ 12)
begin-long l e =
    let f : (begins (lowered l) begin-cr && leb 11 (min (length l) far)) ≡ true = begin-flag l ∙ e in
    let s : length l ≤ 12 = begins-short l begin-cr (and_left (begins (lowered l) begin-cr) _ f) in
    let m : 11 ≤ min (length l) far = leb-true 11 (min (length l) far) (and_right (begins (lowered l) begin-cr) _ f) in
    (omega arith, s)

opened-len : (l : Bytes) (b : ℕ) → length l ≤ 12 → bump_of (min (length l) far) over ≡ min (length ((l ++ b ∷ []) ++ [])) over
opened-len l b h =
    let e : min (length l) far ≡ min (length l) over = omega arith in
    rw (e, append-nil (l ++ b ∷ []), length-snoc l b) (bump-suc (length l) over)

same_line : (c : Option Bytes) (k : Kind) (l : Bytes) (n : ℕ) → (k ≡ begin → length l ≤ 12)
    → line_next (state (record { card = c; begun = l; number = n })) (code k) ≡ state (P.line_next c k (l ++ 10 ∷ []) n)
unfolding line_next opened_of begins lowered
same_line none blank l n h = refl
same_line none begin l n h = rw (bump-suc n past, held_grown none l 10, append-nil (l ++ 10 ∷ []))
same_line none P.end l n h = refl
same_line none other l n h = refl
same_line (some c) blank l n h = rw (held_grown (some c) l 10, append-nil (c ++ (l ++ 10 ∷ [])))
same_line (some c) begin l n h = rw (bump-suc n past, opened-len l 10 (h refl))
same_line (some c) P.end l n h = refl
same_line (some c) other l n h = rw (held_grown (some c) l 10, append-nil (c ++ (l ++ 10 ∷ [])))

pub same_next : (r : Reader) (b : ℕ) → byte_next (state r) b ≡ state (next r b)
unfolding byte_next next
same_next r b = go (eqb b 10) refl
  where
    go : (t : Bool) → eqb b 10 ≡ t → byte_next (state r) b ≡ state (next r b)
    go true e =
        rw (e, same_kind r, eqb-true b 10 e) (same_line r.card (P.kind_of r.begun) r.begun r.number (λ q. (begin-long r.begun (begin-is r.begun q)).1))
    go false e = rw e (same-within r b)

-- ---- the buffer: it holds a text that card to JSON does not tell apart from what the plain reader holds

pub record Tied (r : Reader) (d : Bytes) : Type 0 where
  pub text : Bytes
  pub alike : Alike text (held_of r.card r.begun)
  pub holds : Holds text d
  pub clean : any (is 10) r.begun ≡ false
  pub counted : (not (is_some r.card) || leb 1 r.number) ≡ true

pub tied-fresh : (d : Bytes) → cap ≤ length d → Tied fresh d
unfolding any
tied-fresh d h = record { text = []; alike = alike_self []; holds = holds-none d h; clean = refl; counted = refl }

abbrev pub mk : Option Bytes → Bytes → ℕ → Reader
mk c l n = record { card = c; begun = l; number = n }

-- nothing is held
tied-outside : (n : ℕ) (d : Bytes) → cap ≤ length d → Tied (outside n) d
unfolding any
tied-outside n d h = record { text = []; alike = alike_self []; holds = holds-none d h; clean = refl; counted = refl }

-- the text and its place with one byte more
module _ (c : Option Bytes) (l : Bytes) (n : ℕ) (d : Bytes) (b : ℕ) (h : Tied (mk c l n) d) where
  abbrev stored : Bytes
  stored = store_at (min (length (held_of c l)) over) d b

  pub text-more : Holds (h.text ++ b ∷ []) stored
  text-more = rw (← h.alike.long) (holds_more h.text d b h.holds)

  pub alike-snoc : Alike (h.text ++ b ∷ []) (held_of c (l ++ b ∷ []))
  alike-snoc = rw (held-snoc c l b) (alike-more h.text (held_of c l) (b ∷ []) h.alike)

  tied-within : eqb b 10 ≡ false → Tied (mk c (l ++ b ∷ []) n) stored
  unfolding any
  tied-within e =
      record {
        text = h.text ++ b ∷ [];
        alike = alike-snoc;
        holds = text-more;
        clean = rw (any_append (is 10) l (b ∷ []), h.clean, e);
        counted = h.counted;
      }

-- the line joins the card, or opens one
tied-card : (x : Bytes) (n : ℕ) (d y : Bytes) → Alike y x → Holds y d → leb 1 n ≡ true → Tied (mk (some x) [] n) d
unfolding any
tied-card x n d y a h one = record { text = y; alike = rw (append-nil x) a; holds = h; clean = refl; counted = one }

abbrev pub capital : Bytes
capital = 66 ∷ 69 ∷ 71 ∷ 73 ∷ 78 ∷ 58 ∷ 86 ∷ 67 ∷ 65 ∷ 82 ∷ 68 ∷ []

abbrev pub capital-cr : Bytes
capital-cr = 66 ∷ 69 ∷ 71 ∷ 73 ∷ 78 ∷ 58 ∷ 86 ∷ 67 ∷ 65 ∷ 82 ∷ 68 ∷ 13 ∷ []

capital-lines : (any (is 10) capital ≡ false) × (any (is 10) capital-cr ≡ false) × (is_begin (without_cr capital) ≡ true) × (is_begin (without_cr capital-cr) ≡ true)
unfolding any is_begin without_cr lowered lower between same
capital-lines = (refl, refl, refl, refl)

-- the BEGIN line at the front, in capitals
tied-front : (l : Bytes) (n : ℕ) (d : Bytes) → is_begin (without_cr l) ≡ true → any (is 10) l ≡ false → cap ≤ length d
    → Tied (opens (l ++ 10 ∷ []) n) (front_of d (min (length l) far))
unfolding front_of
tied-front l n d b clean room = go (leb 12 (length l)) refl
  where
    long : (11 ≤ length l) × (length l ≤ 12)
    long = begin-long l b

    go : (t : Bool) → leb 12 (length l) ≡ t → Tied (opens (l ++ 10 ∷ []) n) (front_of d (min (length l) far))
    go true e =
        let q : 12 ≡ length l = omega (arith, leb-true 12 (length l) e, long.1) in
        rw (leb-min (length l) far 12 (lit≤ tt), e) (tied-card (l ++ 10 ∷ []) (suc n) _ capital-cr-lf
        (alike-begin capital-cr l capital-lines.1 clean capital-lines.3 b q)
        (holds-all capital-cr-lf [] d (lit≤ tt) (holds-none d room)) (le-leb 1 (suc n) (omega arith)))
    go false e =
        let q : 11 ≡ length l = omega (arith, leb-false 12 (length l) e, long.0) in
        rw (leb-min (length l) far 12 (lit≤ tt), e) (tied-card (l ++ 10 ∷ []) (suc n) _ capital-lf
        (alike-begin capital l capital-lines.0 clean capital-lines.2 b q)
        (holds-all capital-lf [] d (lit≤ tt) (holds-none d room)) (le-leb 1 (suc n) (omega arith)))

tied-line : (c : Option Bytes) (k : Kind) (l : Bytes) (n : ℕ) (d : Bytes) → (k ≡ begin → is_begin (without_cr l) ≡ true) → Tied (mk c l n) d
    → Tied (P.line_next c k (l ++ 10 ∷ []) n) (line_buffer (state (mk c l n)) d (code k))
unfolding line_buffer
tied-line none blank l n d b h = tied-outside n _ (text-more none l n d 10 h).room
tied-line none begin l n d b h = tied-card (l ++ 10 ∷ []) (suc n) _ (h.text ++ 10 ∷ []) (alike-snoc none l n d 10 h) (text-more none l n d 10 h) (le-leb 1 (suc n) (omega arith))
tied-line none P.end l n d b h = tied-outside n _ (text-more none l n d 10 h).room
tied-line none other l n d b h = tied-outside n _ (text-more none l n d 10 h).room
tied-line (some c) blank l n d b h = tied-card (c ++ (l ++ 10 ∷ [])) n _ (h.text ++ 10 ∷ []) (alike-snoc (some c) l n d 10 h) (text-more (some c) l n d 10 h) h.counted
tied-line (some c) begin l n d b h = tied-front l n _ (b refl) h.clean (text-more (some c) l n d 10 h).room
tied-line (some c) P.end l n d b h = tied-outside n _ (text-more (some c) l n d 10 h).room
tied-line (some c) other l n d b h = tied-card (c ++ (l ++ 10 ∷ [])) n _ (h.text ++ 10 ∷ []) (alike-snoc (some c) l n d 10 h) (text-more (some c) l n d 10 h) h.counted

pub same-tied : (r : Reader) (b : ℕ) (d : Bytes) → Tied r d → Tied (next r b) (byte_buffer (state r) d b)
unfolding byte_buffer next
same-tied r b d h = go (eqb b 10) refl
  where
    go : (t : Bool) → eqb b 10 ≡ t → Tied (next r b) (byte_buffer (state r) d b)
    go true e =
        rw (e, same_kind r, eqb-true b 10 e) (tied-line r.card (P.kind_of r.begun) r.begun r.number d (begin-is r.begun) h)
    go false e = rw e (tied-within r.card r.begun r.number d b h e)

-- ---- what a byte tells

abbrev pub is_more : Tells → Bool
is_more more = true
is_more (refuses n) = false
is_more (closes w) = false

line-stops : (c : Option Bytes) (k : Kind) (t l : Bytes) (n : ℕ) → eqb (verdict_of (is_some c) (code k)) 0 ≡ is_more (P.line_tells c k t l n)
unfolding verdict_of
line-stops none blank t l n = refl
line-stops none begin t l n = refl
line-stops none P.end t l n = refl
line-stops none other t l n = refl
line-stops (some c) blank t l n = refl
line-stops (some c) begin t l n = refl
line-stops (some c) P.end t l n = refl
line-stops (some c) other t l n = refl

pub same_stop : (t : Bytes) (r : Reader) (b : ℕ) → eqb (byte_verdict (state r) b) 0 ≡ is_more (tells t r b)
unfolding byte_verdict tells
same_stop t r b = go (eqb b 10) refl
  where
    go : (u : Bool) → eqb b 10 ≡ u → eqb (byte_verdict (state r) b) 0 ≡ is_more (tells t r b)
    go true e = rw (e, same_kind r) (line-stops r.card (P.kind_of r.begun) t (r.begun ++ b ∷ []) r.number)
    go false e = rw e

-- the stem, and the length of the output lent
module _ (t : Bytes) (lent : ℕ) (st : is_stem_text t ≡ true) (big : json_room ≤ lent) where
  -- a whole card x, of which the buffer holds y
  pub closes-same : (x y d : Bytes) (n : ℕ) → Alike y x → Holds y d → leb 1 n ≡ true
      → answered t d lent (closed_of (min n past) (min (length x) over)) ≡ shows (answer_to (record { bytes = x; stem = t; number = n }))
  unfolding closed_of answer_to
  closes-same x y d n a h one =
      rw (ltb-min n past 999999 (lit≤ tt)) (by_bool (ltb 999999 n) (λ e. rw e) (λ e. rw (e, ltb-min (length x) over cap (lit≤ tt)) (by_bool (ltb cap (length x)) (large e) (fits e))))
    where
      num : ltb 999999 n ≡ false → min n past ≡ n
      num e = omega (arith, ltb-false 999999 n e)

      large : ltb 999999 n ≡ false → ltb cap (length x) ≡ true
          → answered t d lent (pick (ltb cap (length x)) (Refused 3) (Card (min n past) (min (length x) over))) ≡ shows (card_to_json t n json_room x)
      large e f = rw (f, answer-large t n json_room x st (card-number n one e) (ltb-true cap (length x) f))

      fits : ltb 999999 n ≡ false → ltb cap (length x) ≡ false
          → answered t d lent (pick (ltb cap (length x)) (Refused 3) (Card (min n past) (min (length x) over))) ≡ shows (card_to_json t n json_room x)
      fits e f =
          let s : length x ≤ cap = ltb-false cap (length x) f in
          let m : min (length x) over ≡ length y = rw a.long (omega arith) in
          let w : take (length y) d ≡ y = holds-whole y d (rw a.long s) h in
          rw (f, num e, m, w, answer-room t n lent y big, alike-answer t n json_room y x a)

  line-shows : (c : Option Bytes) (k : Kind) (l : Bytes) (n : ℕ) (d e : Bytes) → Tied (mk c l n) d
      → e ≡ line_buffer (state (mk c l n)) d (code k)
      → answered t e lent (event_of (verdict_of (is_some c) (code k)) (min n past) (bump_of (min (length (held_of c l)) over) over))
      ≡ shown_of (P.line_tells c k t (l ++ 10 ∷ []) n)
  unfolding verdict_of event_of line_buffer
  line-shows none blank l n d e h q = refl
  line-shows none begin l n d e h q = refl
  line-shows none P.end l n d e h q = refl
  line-shows none other l n d e h q = refl
  line-shows (some c) blank l n d e h q = refl
  line-shows (some c) begin l n d e h q = refl
  line-shows (some c) P.end l n d e h q =
      rw (q, held_grown (some c) l 10) (closes-same (c ++ (l ++ 10 ∷ [])) (h.text ++ 10 ∷ []) _ n (alike-snoc (some c) l n d 10 h) (text-more (some c) l n d 10 h) h.counted)
  line-shows (some c) other l n d e h q = refl

  same-shows : (r : Reader) (b : ℕ) (d : Bytes) → Tied r d
      → answered t (byte_buffer (state r) d b) lent (event_of (byte_verdict (state r) b) (min r.number past) (bump_of (min (length (held_of r.card r.begun)) over) over))
      ≡ shown_of (tells t r b)
  unfolding byte_verdict byte_buffer tells
  same-shows r b d h = go (eqb b 10) refl
    where
      go : (u : Bool) → eqb b 10 ≡ u
          → answered t (byte_buffer (state r) d b) lent (event_of (byte_verdict (state r) b) (min r.number past) (bump_of (min (length (held_of r.card r.begun)) over) over))
          ≡ shown_of (tells t r b)
      go true e = rw (e, same_kind r, eqb-true b 10 e) (line-shows r.card (P.kind_of r.begun) r.begun r.number d _ h refl)
      go false e = unfold event_of in (rw e)

  -- ---- a call

  line-passes : (c : Option Bytes) (k : Kind) (l : Bytes) (n : ℕ) → (not (is_some c) || leb 1 n) ≡ true → passes (shown_of (P.line_tells c k t l n)) ≡ true
  line-passes none blank l n h = refl
  line-passes none begin l n h = refl
  line-passes none P.end l n h = refl
  line-passes none other l n h = refl
  line-passes (some c) blank l n h = refl
  line-passes (some c) begin l n h = refl
  line-passes (some c) P.end l n h = whole-passes (record { bytes = c ++ l; stem = t; number = n }) st h
  line-passes (some c) other l n h = refl

  tells-passes : (r : Reader) (b : ℕ) → (not (is_some r.card) || leb 1 r.number) ≡ true → passes (shown_of (tells t r b)) ≡ true
  unfolding tells
  tells-passes r b h =
      by_bool (eqb b 10) (λ e. rw e (line-passes r.card (P.kind_of r.begun) (r.begun ++ b ∷ []) r.number h)) (λ e. rw e)

  pub record Same (x : Fed × Bytes) (y : Told) : Type 0 where
    pub what : answered t x.1 lent x.0.event ≡ shown_of y.what
    pub used : x.0.used ≡ y.consumed
    pub then : x.0.next ≡ state y.then
    pub tied : Tied y.then x.1
    pub pass : passes (shown_of y.what) ≡ true

  choose : (w : Tells) (c : Bool) → c ≡ is_more w → {x₁ x₂ : Fed × Bytes} {y₁ y₂ : Told} → Same x₁ y₁ → Same x₂ y₂ → Same (pick c x₁ x₂) (unless w y₁ y₂)
  choose more c e go halt = rw e go
  choose (refuses n) c e go halt = rw e halt
  choose (closes w) c e go halt = rw e halt

  same-run : (bs : Bytes) (r : Reader) (d : Bytes) (n : ℕ) → Tied r d → Same (feed_from (state r) d n bs) (read_from t r n bs)
  unfolding feed_from read_from
  same-run [] r d n h = record { what = refl; used = refl; then = refl; tied = h; pass = refl }
  same-run (b ∷ bs) r d n h =
      choose (tells t r b) (eqb (byte_verdict (state r) b) 0) (same_stop t r b)
      (rw (same_next r b, add-one n) (same-run bs (next r b) (byte_buffer (state r) d b) (suc n) (same-tied r b d h)))
      (record { what = same-shows r b d h; used = add-one n; then = same_next r b; tied = same-tied r b d h; pass = tells-passes r b h.counted })

  pub same-feed : (bs : Bytes) (r : Reader) (d : Bytes) → Tied r d → Same (feed_of (state r) d bs) (read_piece t r bs)
  unfolding feed_of read_piece
  same-feed bs r d h = same-run bs r d 0 h

  -- ---- an end call

  pub whole-ended : (x : Bytes) (n : ℕ) → empty x ≡ false → lacks_lf x ≡ true
      → answer_to (record { bytes = x ++ 10 ∷ []; stem = t; number = n }) ≡ answer_to (record { bytes = x; stem = t; number = n })
  unfolding answer_to
  whole-ended [] n e h = not-both refl e
  whole-ended (b ∷ x) n e h = rw (answer-ended t n json_room b x h)

  end-nonempty : (l : Bytes) → P.kind_of l ≡ P.end → empty l ≡ false
  unfolding P.kind_of without_cr
  end-nonempty [] e = kind-end true true true e
  end-nonempty (b ∷ l) e = refl

  joined-ended : (c l : Bytes) → empty l ≡ false → any (is 10) l ≡ false → (empty (c ++ l) ≡ false) × (lacks_lf (c ++ l) ≡ true)
  joined-ended c [] e h = not-both refl e
  joined-ended [] (b ∷ l) e h = (refl, lacks-none (b ∷ l) h)
  joined-ended (a ∷ c) (b ∷ l) e h = (refl, lacks-after (a ∷ c) b l ∙ lacks-none (b ∷ l) h)

  end-shows : (c : Option Bytes) (k : Kind) (l : Bytes) (n : ℕ) (d e : Bytes) → (k ≡ P.end → empty l ≡ false) → Tied (mk c l n) d
      → e ≡ end_buffer (state (mk c l n)) d (code k)
      → answered t e lent (event_of (end_verdict_of (is_some c) (code k)) (min n past) (min (length (held_of c l)) over))
      ≡ shown_of (or_open (P.line_tells c k t (l ++ 10 ∷ []) n) (P.line_next c k (l ++ 10 ∷ []) n).card)
  unfolding end_verdict_of event_of end_buffer
  end-shows none blank l n d e f h q = refl
  end-shows none begin l n d e f h q = refl
  end-shows none P.end l n d e f h q = refl
  end-shows none other l n d e f h q = refl
  end-shows (some c) blank l n d e f h q = refl
  end-shows (some c) begin l n d e f h q = refl
  end-shows (some c) P.end l n d e f h q =
      let j = joined-ended c l (f refl) h.clean in
      rw (q, ← append_assoc c l (10 ∷ []), whole-ended (c ++ l) n j.0 j.1) (closes-same (c ++ l) h.text d n h.alike h.holds h.counted)
  end-shows (some c) other l n d e f h q = refl

  pub end-next : (c : Option Bytes) (k : Kind) (l : Bytes) (n : ℕ) → (k ≡ begin → length l ≤ 12)
      → end_next (state (mk c l n)) (code k) ≡ state (closing (P.line_tells c k t (l ++ 10 ∷ []) n) (P.line_next c k (l ++ 10 ∷ []) n))
  unfolding end_next opened_of begins lowered
  end-next none blank l n h = refl
  end-next none begin l n h = refl
  end-next none P.end l n h = refl
  end-next none other l n h = refl
  end-next (some c) blank l n h = refl
  end-next (some c) begin l n h = rw (bump-suc n past, opened-len l 10 (h refl))
  end-next (some c) P.end l n h = refl
  end-next (some c) other l n h = refl

  end-tied : (c : Option Bytes) (k : Kind) (l : Bytes) (n : ℕ) (d : Bytes) → (k ≡ begin → is_begin (without_cr l) ≡ true) → Tied (mk c l n) d
      → Tied (closing (P.line_tells c k t (l ++ 10 ∷ []) n) (P.line_next c k (l ++ 10 ∷ []) n)) (end_buffer (state (mk c l n)) d (code k))
  unfolding end_buffer
  end-tied none blank l n d b h = tied-fresh d h.holds.room
  end-tied none begin l n d b h = tied-fresh d h.holds.room
  end-tied none P.end l n d b h = tied-fresh d h.holds.room
  end-tied none other l n d b h = tied-fresh d h.holds.room
  end-tied (some c) blank l n d b h = tied-fresh d h.holds.room
  end-tied (some c) begin l n d b h = tied-front l n d (b refl) h.clean h.holds.room
  end-tied (some c) P.end l n d b h = tied-fresh d h.holds.room
  end-tied (some c) other l n d b h = tied-fresh d h.holds.room

  or-open-passes : (w : Tells) (o : Option Bytes) → passes (shown_of w) ≡ true → passes (shown_of (or_open w o)) ≡ true
  or-open-passes more none h = refl
  or-open-passes more (some c) h = refl
  or-open-passes (refuses n) o h = h
  or-open-passes (closes w) o h = h

  pub same_end : (r : Reader) (d : Bytes) → Tied r d → Same (end_of (state r) d) (read_end t r)
  unfolding end_of read_end tells next
  same_end r d h =
      let k = P.kind_of r.begun in
      rw (same_kind r) (record {
        what = end-shows r.card k r.begun r.number d _ (end-nonempty r.begun) h refl;
        used = refl;
        then = end-next r.card k r.begun r.number (λ q. (begin-long r.begun (begin-is r.begun q)).1);
        tied = end-tied r.card k r.begun r.number d (begin-is r.begun) h;
        pass = or-open-passes (P.line_tells r.card k t (r.begun ++ 10 ∷ []) r.number) (P.line_next r.card k (r.begun ++ 10 ∷ []) r.number).card (line-passes r.card k (r.begun ++ 10 ∷ []) r.number h.counted);
      })
