-- One turn of the code's loop, at a physical line.
use mathlib.Core.Path.{◌≡◌, refl, sym, ap, ◌∙◌}
use mathlib.Core.Bool.{Bool, true, false, ◌&&◌}
use mathlib.Core.List.{List, [], ◌∷◌, ◌++◌, tail, append-nil}
use Prim.Native.Nat.{ℕ, suc, ◌+◌, ◌-◌, ◌≤◌, ◌<◌}
use native.Mathlib.Omega.{arith}
use native.Mathlib.Numerals.{add-one}
use lib.Dec.{ltb}
use lib.ListN.{length, take, drop, get_or, set, drop_of_length-le, length-take}
use lib.Seq.{drop-cons, take_at}
use borrow.Author.Tests.{ltb-true}
use Rattle.text.specs.Bytes.{Bytes, flat}
use Rattle.text.specs.Reader.{first}
use Rattle.output.specs.Put.{Rest}
use Rattle.output.proofs.Laws.{put-fits}
use Rattle.output.proofs.Rests.{rest-as, rest-byte, rest_all}
use Rattle.line.specs.Class.{is_blank}
use Rattle.line.specs.Physical.{by_lf, physical}
use Rattle.line.specs.Unfold.{unfold'}
use Rattle.text.proofs.Cases.{split}
use Rattle.line_frame.specs.declared.Line.{Line}
use Rattle.line_frame.specs.Lines.{LineAt}
use Rattle.line_unfold.specs.Table.{Adds, Laid, marks}
use Rattle.line_unfold.proofs.Adding.{rest-adds}
use Rattle.line_unfold.proofs.Turns.{bytes_left, marks_left, bytes-fold, marks-fold, bytes-begin, marks_begin, bytes-done, marks-done, lines_more, lines-all}

-- ---- before the first turn

pub bytes-first : (out s : Bytes) → Rest out (flat (unfold' (physical s))) (bytes_left 0 (physical s)) 0 out
unfolding bytes_left
bytes-first out s = rest_all out (flat (unfold' (physical s)))

pub marks-first : (table : List ℕ) (s : Bytes) → Rest table (marks 0 (unfold' (physical s))) (marks_left 0 0 (physical s)) 0 table
unfolding marks_left
marks-first table s = rest_all table (marks 0 (unfold' (physical s)))

-- ---- at a line

no-blank : is_blank 256 ≡ false
unfolding is_blank
no-blank = refl

pub blank_none : (l : Bytes) → length l ≡ 0 → is_blank (first l) ≡ false
blank_none [] h = no-blank
blank_none (c ∷ l) h = absurd (omega arith)

pub blank-first : (l : Bytes) → 0 < length l → is_blank (first l) ≡ is_blank (get_or l 0 0)
blank-first [] h = absurd (omega arith)
blank-first (c ∷ l) h = refl

and_split : (a b : Bool) → (a && b) ≡ true → (a ≡ true) × (b ≡ true)
and_split true b e = (refl, e)
and_split false b e = absurd (let z : ◌≡◌ {A = ℕ} 0 1 = cc in omega arith)

pub part-short : (s : Bytes) (a e : ℕ) → length (take (e - a) (drop a s)) ≤ e - a
part-short s a e = simp length-take (omega arith)

module _ (s : Bytes) (i : ℕ) (r : Line) (at-line : LineAt s i r) where
  abbrev line : Bytes
  line = take (r.end - i) (drop i s)

  -- a line that begins with a blank has a byte
  blank-some : is_blank (first line) ≡ true → i < r.end
  blank-some e =
      split r.end i
      (λ h.
      let z : r.end - i ≡ 0 = omega arith in
      let f : is_blank 256 ≡ true = rw z at e in
      absurd (let z : ◌≡◌ {A = ℕ} 0 1 = cc no-blank in omega arith))
      (λ h. h)

  pub blank-fold : (k : ℕ) → (ltb 0 k && is_blank (first line)) ≡ true → i < r.end
  blank-fold k e = blank-some (and_split (ltb 0 k) (is_blank (first line)) e).1

  -- what a folded line adds
  rest_of : i < r.end → tail line ≡ take (r.end - (i + 1)) (drop (i + 1) s)
  rest_of h =
      let n : r.end - i ≡ suc (r.end - (i + 1)) = omega arith in
      let l : i < length s = omega (arith, at-line.ordered, at-line.within) in
      rw (n, drop-cons s i 0 l, add-one)

  module _ (k n m : ℕ) where
    pub fold-bytes : {room whole out after : Bytes} → (ltb 0 k && is_blank (first line)) ≡ true
        → Adds out n (take (r.end - (i + 1)) (drop (i + 1) s)) m after
        → Rest room whole (bytes_left k (physical (drop i s))) n out → Rest room whole (bytes_left k (physical (drop r.next s))) m after
    fold-bytes e a l =
        let t = and_split (ltb 0 k) (is_blank (first line)) e in
        rest-adds _
        (rest-as
        (ap (bytes_left k) at-line.lines
        ∙ bytes-fold k line _ (ltb-true 0 k t.0) t.1
        ∙ ap (λ u. u ++ bytes_left k (physical (drop r.next s))) (rest_of (blank-some t.1)))
        l)
        a

    pub fold-marks : {room whole table out after : Bytes} → (ltb 0 k && is_blank (first line)) ≡ true
        → Adds out n (take (r.end - (i + 1)) (drop (i + 1) s)) m after
        → Rest room whole (marks_left k n (physical (drop i s))) k table → Rest room whole (marks_left k m (physical (drop r.next s))) k table
    fold-marks e a l =
        let t = and_split (ltb 0 k) (is_blank (first line)) e in
        rest-as
        (ap (marks_left k n) at-line.lines
        ∙ marks-fold k n line _ (ltb-true 0 k t.0) t.1
        ∙ ap (λ u. marks_left k u (physical (drop r.next s))) (ap (λ u. n + length u) (rest_of (blank-some t.1)) ∙ sym a.is))
        l

    pub begin-bytes : {room whole out after : Bytes} → (ltb 0 k && is_blank (first line)) ≡ false → Adds out n line m after
        → Rest room whole (bytes_left k (physical (drop i s))) n out → Rest room whole (bytes_left (k + 1) (physical (drop r.next s))) m after
    begin-bytes e a l = rest-adds _ (rest-as (ap (bytes_left k) at-line.lines ∙ bytes-begin k line _ e) l) a

    begun : {room whole table : Bytes} → (ltb 0 k && is_blank (first line)) ≡ false → Rest room whole (marks_left k n (physical (drop i s))) k table
        → Rest room whole (n ∷ marks_left (k + 1) (n + length line) (physical (drop r.next s))) k table
    begun e l = rest-as (ap (marks_left k n) at-line.lines ∙ marks_begin k n line _ e) l

    pub begin-marks : {room whole table out after : Bytes} → (ltb 0 k && is_blank (first line)) ≡ false → Adds out n line m after → k < length table
        → Rest room whole (marks_left k n (physical (drop i s))) k table
        → Rest room whole (marks_left (k + 1) m (physical (drop r.next s))) (k + 1) (set table k n)
    begin-marks e a h l = rest-as (ap (λ u. marks_left (k + 1) u (physical (drop r.next s))) (sym a.is)) (rest-byte (begun e l) h)

    -- one line more than the table takes
    pub too_many : {room table : Bytes} (ms : List Bytes) → (ltb 0 k && is_blank (first line)) ≡ false
        → Rest room (marks 0 ms) (marks_left k n (physical (drop i s))) k table → k < length ms
    too_many ms e l =
        let b = begun e l in
        lines_more b.x k n (physical (drop r.next s)) ms (n + length line) b.so.is b.rest

-- ---- after the last turn

none_left : (s : Bytes) (i : ℕ) → length s ≤ i → physical (drop i s) ≡ []
unfolding physical by_lf
none_left s i h = rw (drop_of_length-le s h)

-- the whole stands at the front
at_front : {room whole out : Bytes} {at : ℕ} → Rest room whole [] at out → (at ≡ length whole) × (take at out ≡ whole)
at_front {room} {whole} {out} {at} l =
    let e : l.x ≡ whole = sym (append-nil l.x) ∙ l.rest in
    let f : length l.x ≤ length room = omega (arith, l.so.is, l.so.fits) in
    let o : out ≡ l.x ++ drop (length l.x) room = l.so.left ∙ put-fits room l.x f in
    (l.so.is ∙ ap length e, ap (take at) o ∙ take_at l.x _ at (sym l.so.is) ∙ e)

pub laid : {room₁ room₂ out table : List ℕ} (s : Bytes) (i k n : ℕ) → length s ≤ i → k ≤ 512 → k < length table
    → Rest room₁ (flat (unfold' (physical s))) (bytes_left k (physical (drop i s))) n out
    → Rest room₂ (marks 0 (unfold' (physical s))) (marks_left k n (physical (drop i s))) k table
    → Laid (unfold' (physical s)) k out (set table k n)
laid {out = out} s i k n h f t b l =
    let z = none_left s i h in
    let bs = at_front (rest-as (ap (bytes_left k) z ∙ bytes-done k) b) in
    let ms = at_front (rest-byte (rest-as (ap (marks_left k n) z ∙ marks-done k n) l) t) in
    record {
      count = lines-all k (unfold' (physical s)) ms.0;
      few = f;
      bytes = ap (λ m. take m out) (sym bs.0) ∙ bs.1;
      starts = ms.1;
    }
