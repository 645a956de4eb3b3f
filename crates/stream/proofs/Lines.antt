-- The plain reader reads lines as 01 says (specs/Lines.antt).
use mathlib.Core.Path.{◌≡◌, refl, sym, ap, ap₂, ◌∙◌}
use mathlib.Core.Bool.{true, false, not}
use mathlib.Core.List.{[], ◌∷◌, ◌++◌, append_assoc, append-nil}
use mathlib.Core.Logic.{◌⊎◌, inl, inr}
use mathlib.Core.Option.{Option, none, some}
use Prim.Native.Nat.{ℕ, suc, ◌+◌}
use native.Mathlib.Omega.{arith}
use lib.ListN.{length}
use lib.Dec.{eqb}
use Rattle.text.specs.Choice.{pick}
use Rattle.text.specs.Bytes.{Bytes, ascii, all, same, empty, lowered}
use Rattle.text.proofs.Cases.{by_bool, and_left, and_right, not-true}
use Rattle.text.proofs.Same.{differ_same}
use Rattle.text.proofs.Letters.{lowered-empty}
use Rattle.line.specs.Physical.{without_cr, is_begin, is_end}
use Rattle.stream.specs.Plain.{Reader, Kind, blank, begin, other, kind_of, line_tells, line_next, tells, next, Told, Tells, more, refuses, closes, unless, read_from, read_piece}
use Rattle.stream.specs.Plain.{end as ends}
use Rattle.stream.specs.Calls.{piece, asked}
use Rattle.stream.specs.Lines.{LineText, Reads, LinesRead}
use Rattle.stream.proofs.BeginInside.{all_both, all-second, cr-gone, is-begin}

-- ---- the kind of a line

without_end : (w cr : Bytes) → LineText w cr → without_cr (w ++ cr) ≡ w
without_end w cr h = by h.line-end
  where
    by : ((cr ≡ []) × (without_cr w ≡ w)) ⊎ (cr ≡ 13 ∷ []) → without_cr (w ++ cr) ≡ w
    by (inl e) = rw (e.0, append-nil w) e.1
    by (inr e) = rw e (cr-gone w)

no-lf : (a b w cr : Bytes) → LineText w cr → a ++ b ≡ w ++ cr → all (λ c. not (eqb c 10)) b ≡ true
unfolding all
no-lf a b w cr h e = all-second (λ c. not (eqb c 10)) a b (rw e (all_both (λ c. not (eqb c 10)) w cr h.no-lf (by h.line-end)))
  where
    by : ((cr ≡ []) × (without_cr w ≡ w)) ⊎ (cr ≡ 13 ∷ []) → all (λ c. not (eqb c 10)) cr ≡ true
    by (inl e) = rw e.0
    by (inr e) = rw e

-- by the line's text
kind-of : (w cr : Bytes) → LineText w cr → kind_of (w ++ cr) ≡ pick (empty w) blank (pick (is_begin w) begin (pick (is_end w) ends other))
unfolding kind_of
kind-of w cr h = ap (λ (x : Bytes). pick (empty x) blank (pick (is_begin x) begin (pick (is_end x) ends other))) (without_end w cr h)

kind-begin : (w cr : Bytes) → LineText w cr → lowered w ≡ ascii "begin:vcard" → kind_of (w ++ cr) ≡ begin
kind-begin w cr h e = kind-of w cr h ∙ rw (← lowered-empty w, e, is-begin w e)

kind-end : (w cr : Bytes) → LineText w cr → lowered w ≡ ascii "end:vcard" → kind_of (w ++ cr) ≡ ends
unfolding is_begin is_end same
kind-end w cr h e = kind-of w cr h ∙ rw (← lowered-empty w, e)

not-begin : (w : Bytes) → (lowered w ≡ ascii "begin:vcard" → ⊥) → is_begin w ≡ false
unfolding is_begin
not-begin w h = differ_same (lowered w) (ascii "begin:vcard") h

not_end : (w : Bytes) → (lowered w ≡ ascii "end:vcard" → ⊥) → is_end w ≡ false
unfolding is_end
not_end w h = differ_same (lowered w) (ascii "end:vcard") h

-- ---- a line read to its end

abbrev gives : Tells → ℕ → Reader → Told
gives t n r = record { what = t; consumed = n; then = r }

told : (t : Tells) (n : ℕ) (r : Reader) → unless t (gives more n r) (gives t n r) ≡ gives t n r
told more n r = refl
told (refuses k) n r = refl
told (closes w) n r = refl

module _ (stem : Bytes) (card : Option Bytes) (l : Bytes) (n : ℕ) where
  abbrev at : Bytes → Reader
  at a = record { card = card; begun = a; number = n }

  read-from : (a b : Bytes) (m : ℕ) → a ++ b ≡ l → all (λ c. not (eqb c 10)) b ≡ true
      → read_from stem (at a) m (b ++ 10 ∷ [])
      ≡ gives (line_tells card (kind_of l) stem (l ++ 10 ∷ []) n) (suc (m + length b)) (line_next card (kind_of l) (l ++ 10 ∷ []) n)
  unfolding read_from all tells next
  read-from a [] m e h =
      let f : a ≡ l = sym (append-nil a) ∙ e in
      rw f (told (line_tells card (kind_of l) stem (l ++ 10 ∷ []) n) (suc m) (line_next card (kind_of l) (l ++ 10 ∷ []) n)
      ∙ ap (λ (i : ℕ). gives (line_tells card (kind_of l) stem (l ++ 10 ∷ []) n) (suc i) (line_next card (kind_of l) (l ++ 10 ∷ []) n)) (omega arith))
  read-from a (x ∷ b) m e h =
      let z : eqb x 10 ≡ false = not-true (eqb x 10) (and_left (not (eqb x 10)) _ h) in
      rw z (read-from (a ++ x ∷ []) b (suc m) (append_assoc a (x ∷ []) b ∙ e) (and_right (not (eqb x 10)) _ h)
      ∙ ap (λ (i : ℕ). gives (line_tells card (kind_of l) stem (l ++ 10 ∷ []) n) (suc i) (line_next card (kind_of l) (l ++ 10 ∷ []) n)) (omega arith))

read_as : (stem : Bytes) (card : Option Bytes) (a b w cr : Bytes) (n : ℕ) (k : Kind) → LineText w cr → a ++ b ≡ w ++ cr → kind_of (w ++ cr) ≡ k
    → asked (piece stem (b ++ 10 ∷ [])) (record { card = card; begun = a; number = n })
    ≡ gives (line_tells card k stem (w ++ cr ++ 10 ∷ []) n) (suc (length b)) (line_next card k (w ++ cr ++ 10 ∷ []) n)
unfolding read_piece
read_as stem card a b w cr n k h e q =
    read-from stem card (w ++ cr) n a b 0 e (no-lf a b w cr h e)
    ∙ ap₂ (λ (i : ℕ) (x : Kind). gives (line_tells card x stem (w ++ cr ++ 10 ∷ []) n) (suc i) (line_next card x (w ++ cr ++ 10 ∷ []) n)) (omega arith) q

filled : (w : Bytes) → (w ≡ [] → ⊥) → empty w ≡ false
filled [] h = absurd (h refl)
filled (c ∷ w) h = refl

-- outside a card: an END line, or any line of another kind
other-read : (stem a b w cr : Bytes) (n : ℕ) → LineText w cr → a ++ b ≡ w ++ cr → (w ≡ [] → ⊥) → (lowered w ≡ ascii "begin:vcard" → ⊥)
    → Reads stem none a b n (refuses 1) (record { card = none; begun = []; number = n })
other-read stem a b w cr n h e f p =
    by_bool (is_end w)
    (λ q. read_as stem none a b w cr n ends h e (kind-of w cr h ∙ rw (filled w f, not-begin w p, q)))
    (λ q. read_as stem none a b w cr n other h e (kind-of w cr h ∙ rw (filled w f, not-begin w p, q)))

-- inside: an empty line, or any line of another kind
other-joins : (stem c a b w cr : Bytes) (n : ℕ) → LineText w cr → a ++ b ≡ w ++ cr → (lowered w ≡ ascii "begin:vcard" → ⊥) → (lowered w ≡ ascii "end:vcard" → ⊥)
    → Reads stem (some c) a b n more (record { card = some (c ++ (w ++ cr ++ 10 ∷ [])); begun = []; number = n })
other-joins stem c a b w cr n h e p q =
    by_bool (empty w)
    (λ f. read_as stem (some c) a b w cr n blank h e (kind-of w cr h ∙ rw f))
    (λ f. read_as stem (some c) a b w cr n other h e (kind-of w cr h ∙ rw (f, not-begin w p, not_end w q)))

pub lines-read : LinesRead
lines-read =
    record {
      begin-outside = λ stem a b w cr n h e q. read_as stem none a b w cr n begin h e (kind-begin w cr h q);
      empty-outside = λ stem a b cr n h e. read_as stem none a b [] cr n blank h e (kind-of [] cr h);
      other-outside = other-read;
      begin-inside = λ stem c a b w cr n h e q. read_as stem (some c) a b w cr n begin h e (kind-begin w cr h q);
      end-inside = λ stem c a b w cr n h e q. read_as stem (some c) a b w cr n ends h e (kind-end w cr h q);
      other-inside = other-joins;
    }
