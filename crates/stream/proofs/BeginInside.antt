-- BEGIN in an open card is as 01 says (specs/BeginInside.antt).
use mathlib.Core.Path.{◌≡◌, refl, sym, ap, ap₂, ◌∙◌}
use mathlib.Core.Bool.{Bool, true, false, ◌&&◌, not}
use mathlib.Core.List.{[], ◌∷◌, ◌++◌, append_assoc, append-nil}
use mathlib.Core.Logic.{◌⊎◌, inl, inr}
use mathlib.Core.Option.{some}
use Prim.Native.Nat.{ℕ, suc, ◌+◌, ◌≤◌}
use native.Mathlib.Omega.{arith}
use lib.ListN.{length, take, drop, set, length-append, length-set}
use lib.Seq.{take_all}
use lib.Dec.{eqb, ltb}
use Rattle.text.specs.Choice.{pick}
use Rattle.text.specs.Bytes.{Bytes, ascii, all, same, lower, lowered, upper, uppered, between}
use Rattle.text.proofs.Cases.{by_bool, and_left, and_right, not-true}
use Rattle.text.proofs.Letters.{lower-test, uppered-lowered, lowered-empty}
use Rattle.line.specs.Physical.{without_cr, is_begin}
use Rattle.stream.specs.Plain.{Reader, kind_of, begin, line_tells, line_next, tells, next, Told, more, refuses, read_from, read_piece, read_end}
use Rattle.stream.specs.Calls.{piece, asked}
use Rattle.stream.specs.Buffer.{stored, opens_next, fronting, fronted, placed, placed_all, buffer_by}
use Rattle.stream.specs.BeginInside.{BeginLine, inside, two-and-next, stored_from, capitals, BeginInside}

-- ---- the line

-- no byte of it is k, which is no letter and does not stand in it
abbrev other : ℕ → ℕ → Bool
other k c = not (eqb c k)

lowered-all : (p : ℕ → Bool) → ((c : ℕ) → p (lower c) ≡ p c) → (w : Bytes) → all p (lowered w) ≡ all p w
unfolding lowered all
lowered-all p h [] = refl
lowered-all p h (c ∷ w) = ap₂ ◌&&◌ (h c) (lowered-all p h w)

no-lf : (w : Bytes) → lowered w ≡ ascii "begin:vcard" → all (other 10) w ≡ true
unfolding lower between all
no-lf w e = sym (lowered-all (other 10) (lower-test (other 10) refl) w) ∙ ap (all (other 10)) e

no-cr : (w : Bytes) → lowered w ≡ ascii "begin:vcard" → all (other 13) w ≡ true
unfolding lower between all
no-cr w e = sym (lowered-all (other 13) (lower-test (other 13) refl) w) ∙ ap (all (other 13)) e

pub all_both : (p : ℕ → Bool) (s t : Bytes) → all p s ≡ true → all p t ≡ true → all p (s ++ t) ≡ true
unfolding all
all_both p [] t h k = k
all_both p (c ∷ s) t h k = rw (and_left (p c) _ h) (all_both p s t (and_right (p c) _ h) k)

pub all-second : (p : ℕ → Bool) (s t : Bytes) → all p (s ++ t) ≡ true → all p t ≡ true
unfolding all
all-second p [] t h = h
all-second p (c ∷ s) t h = all-second p s t (and_right (p c) _ h)

line-no-lf : (w cr : Bytes) → BeginLine w cr → all (other 10) (w ++ cr) ≡ true
unfolding all
line-no-lf w cr h = all_both (other 10) w cr (no-lf w h.any-case) (by h.line-end)
  where
    by : (cr ≡ []) ⊎ (cr ≡ 13 ∷ []) → all (other 10) cr ≡ true
    by (inl e) = rw e
    by (inr e) = rw e

pub cr-gone : (s : Bytes) → without_cr (s ++ 13 ∷ []) ≡ s
unfolding without_cr
cr-gone [] = refl
cr-gone (c ∷ []) = refl
cr-gone (c ∷ (d ∷ s)) = ap (λ (x : Bytes). c ∷ x) (cr-gone (d ∷ s))

cr-none : (s : Bytes) → all (other 13) s ≡ true → without_cr s ≡ s
unfolding without_cr all
cr-none [] h = refl
cr-none (c ∷ []) h = rw (not-true (eqb c 13) (and_left (other 13 c) _ h))
cr-none (c ∷ (d ∷ s)) h = ap (λ (x : Bytes). c ∷ x) (cr-none (d ∷ s) (and_right (other 13 c) _ h))

without_end : (w cr : Bytes) → BeginLine w cr → without_cr (w ++ cr) ≡ w
without_end w cr h = by h.line-end
  where
    by : (cr ≡ []) ⊎ (cr ≡ 13 ∷ []) → without_cr (w ++ cr) ≡ w
    by (inl e) = rw (e, append-nil w) (cr-none w (no-cr w h.any-case))
    by (inr e) = rw e (cr-gone w)

pub is-begin : (w : Bytes) → lowered w ≡ ascii "begin:vcard" → is_begin w ≡ true
unfolding is_begin same
is-begin w e = rw e

kind-begin : (w cr : Bytes) → BeginLine w cr → kind_of (w ++ cr) ≡ begin
unfolding kind_of
kind-begin w cr h = rw (without_end w cr h, ← lowered-empty w, h.any-case, is-begin w h.any-case)

uppered-append : (s t : Bytes) → uppered (s ++ t) ≡ uppered s ++ uppered t
unfolding uppered
uppered-append [] t = refl
uppered-append (c ∷ s) t = ap (λ (x : Bytes). upper c ∷ x) (uppered-append s t)

capital-line : (w cr : Bytes) → BeginLine w cr → uppered (w ++ cr) ≡ ascii "BEGIN:VCARD" ++ cr
unfolding uppered upper between
capital-line w cr h = uppered-append w cr ∙ ap₂ ◌++◌ (sym (uppered-lowered w) ∙ ap uppered h.any-case) (by h.line-end)
  where
    by : (cr ≡ []) ⊎ (cr ≡ 13 ∷ []) → uppered cr ≡ cr
    by (inl e) = rw e
    by (inr e) = rw e

-- ---- the plain reader

-- a byte that ends no line
on-tells : (stem c a : Bytes) (n x : ℕ) → eqb x 10 ≡ false → tells stem (inside c a n) x ≡ more
unfolding tells
on-tells stem c a n x e = rw e

on-next : (c a : Bytes) (n x : ℕ) → eqb x 10 ≡ false → next (inside c a n) x ≡ inside c (a ++ x ∷ []) n
unfolding next
on-next c a n x e = rw e

module _ (stem c l : Bytes) (n : ℕ) (k : kind_of l ≡ begin) where
  begin-tells : tells stem (inside c l n) 10 ≡ refuses 2
  unfolding tells
  begin-tells = ap (λ x. line_tells (some c) x stem (l ++ 10 ∷ []) n) k

  begin-next : next (inside c l n) 10 ≡ record { card = some (l ++ 10 ∷ []); begun = []; number = suc n }
  unfolding next
  begin-next = ap (λ x. line_next (some c) x (l ++ 10 ∷ []) n) k

  read-line : (a b rest : Bytes) (m : ℕ) → a ++ b ≡ l → all (other 10) b ≡ true
      → read_from stem (inside c a n) m (b ++ 10 ∷ rest) ≡ two-and-next (suc (m + length b)) (l ++ 10 ∷ []) n
  unfolding read_from all
  read-line a [] rest m e h =
      let f : a ≡ l = sym (append-nil a) ∙ e in
      rw (f, begin-tells, begin-next) (ap (λ (i : ℕ). two-and-next (suc i) (l ++ 10 ∷ []) n) (omega arith))
  read-line a (x ∷ b) rest m e h =
      let z : eqb x 10 ≡ false = not-true (eqb x 10) (and_left (other 10 x) _ h) in
      rw (on-tells stem c a n x z, on-next c a n x z)
      (read-line (a ++ x ∷ []) b rest (suc m) (append_assoc a (x ∷ []) b ∙ e) (and_right (other 10 x) _ h) ∙ ap (λ (i : ℕ). two-and-next (suc i) (l ++ 10 ∷ []) n) (omega arith))

  end_line : read_end stem (inside c l n) ≡ two-and-next 0 (l ++ 10 ∷ []) n
  unfolding read_end
  end_line = rw (begin-tells, begin-next)

-- ---- the card buffer

stored-length : (at : ℕ) (d : Bytes) (b : ℕ) → length (stored at d b) ≡ length d
unfolding stored
stored-length at d b = by_bool (ltb at 32768) (λ e. rw (e, length-set d at b)) (λ e. rw e)

-- at the distance of the next byte
at-distance : (c a : Bytes) (d : Bytes) (b : ℕ) → stored (length (c ++ a)) d b ≡ pick (ltb (length c + length a) 32768) (set d (length c + length a) b) d
unfolding stored
at-distance c a d b = ap (λ (i : ℕ). stored i d b) (length-append c a)

on-placed : (c a : Bytes) (n : ℕ) (d : Bytes) (x : ℕ) → eqb x 10 ≡ false → placed (inside c a n) d x ≡ stored (length (c ++ a)) d x
unfolding placed
on-placed c a n d x e = rw e

-- the line at the front, where the buffer has room for it
fronted-room : (x d : Bytes) → length x ≤ length d → fronting x d ≡ x ++ drop (length x) d
unfolding fronting
fronted-room x d h = ap (λ (y : Bytes). y ++ drop (length x) d) (take_all (length d) x h)

module _ (c w cr : Bytes) (n : ℕ) (h : BeginLine w cr) where
  line-length : length (uppered (w ++ cr) ++ 10 ∷ []) ≡ 12 + length cr
  line-length = ap (λ (x : Bytes). length (x ++ 10 ∷ [])) (capital-line w cr h) ∙ by h.line-end
    where
      by : (cr ≡ []) ⊎ (cr ≡ 13 ∷ []) → length (ascii "BEGIN:VCARD" ++ cr ++ 10 ∷ []) ≡ 12 + length cr
      by (inl e) = rw e
      by (inr e) = rw e

  cr-length : length cr ≤ 1
  cr-length = by h.line-end
    where
      by : (cr ≡ []) ⊎ (cr ≡ 13 ∷ []) → length cr ≤ 1
      by (inl e) = rw e (omega arith)
      by (inr e) = rw e (omega arith)

  capital-front : (d : Bytes) → 13 ≤ length d → fronted (inside c (w ++ cr) n) d ≡ capitals cr d
  capital-front d r =
      fronted-room (uppered (w ++ cr) ++ 10 ∷ []) d (omega (arith, line-length, cr-length))
      ∙ ap₂ (λ (x : Bytes) (i : ℕ). x ++ 10 ∷ [] ++ drop i d) (capital-line w cr h) line-length

  next-opens : opens_next (inside c (w ++ cr) n) ≡ true
  next-opens = ap is_begin (without_end w cr h) ∙ is-begin w h.any-case

  -- the bytes of the line's rest, and its LF
  place-line : (a b : Bytes) (d : Bytes) → a ++ b ≡ w ++ cr → all (other 10) b ≡ true → 13 ≤ length d
      → placed_all (inside c a n) d (b ++ 10 ∷ []) ≡ capitals cr (stored_from (length c + length a) d (b ++ 10 ∷ []))
  unfolding placed_all placed stored_from all
  place-line a [] d e v r =
      let f : a ≡ w ++ cr = sym (append-nil a) ∙ e in
      rw (f, next-opens)
      (capital-front (stored (length (c ++ (w ++ cr))) d 10) (omega (arith, stored-length (length (c ++ (w ++ cr))) d 10)) ∙ ap (capitals cr) (at-distance c (w ++ cr) d 10))
  place-line a (x ∷ b) d e v r =
      let z : eqb x 10 ≡ false = not-true (eqb x 10) (and_left (other 10 x) _ v) in
      ap₂ (λ (q : Reader) (y : Bytes). placed_all q y (b ++ 10 ∷ [])) (on-next c a n x z) (on-placed c a n d x z)
      ∙ (place-line (a ++ x ∷ []) b (stored (length (c ++ a)) d x) (append_assoc a (x ∷ []) b ∙ e) (and_right (other 10 x) _ v) (omega (arith, stored-length (length (c ++ a)) d x))
      ∙ ap₂ (λ (i : ℕ) (y : Bytes). capitals cr (stored_from i y (b ++ 10 ∷ []))) (omega (arith, length-append a (x ∷ []))) (at-distance c a d x))

-- a piece that ends the line: what it consumes is the line's rest and its LF
consumed-of : (b rest : Bytes) → take (suc (length b)) (b ++ 10 ∷ rest) ≡ b ++ 10 ∷ []
consumed-of [] rest = ap (λ (x : Bytes). 10 ∷ x) (take_none rest)
  where
    take_none : (s : Bytes) → take 0 s ≡ []
    take_none s = refl
consumed-of (x ∷ b) rest = ap (λ (y : Bytes). x ∷ y) (consumed-of b rest)

piece-told : (stem c a b rest w cr : Bytes) (n : ℕ) → BeginLine w cr → a ++ b ≡ w ++ cr
    → asked (piece stem (b ++ 10 ∷ rest)) (inside c a n) ≡ two-and-next (suc (length b)) (w ++ cr ++ 10 ∷ []) n
unfolding read_piece
piece-told stem c a b rest w cr n h e =
    read-line stem c (w ++ cr) n (kind-begin w cr h) a b rest 0 e (all-second (other 10) a b (rw e (line-no-lf w cr h)))
    ∙ ap (λ (i : ℕ). two-and-next (suc i) (w ++ cr ++ 10 ∷ []) n) (omega arith)

front_of : (stem c a b rest w cr : Bytes) (n : ℕ) (d : Bytes) → BeginLine w cr → a ++ b ≡ w ++ cr → 13 ≤ length d
    → buffer_by (piece stem (b ++ 10 ∷ rest)) (inside c a n) d ≡ capitals cr (stored_from (length c + length a) d (b ++ 10 ∷ []))
front_of stem c a b rest w cr n d h e r =
    ap (λ (t : Told). placed_all (inside c a n) d (take t.consumed (b ++ 10 ∷ rest))) (piece-told stem c a b rest w cr n h e)
    ∙ ap (placed_all (inside c a n) d) (consumed-of b rest)
    ∙ place-line c w cr n h a b d e (all-second (other 10) a b (rw e (line-no-lf w cr h))) r

pub begin-inside : BeginInside
begin-inside =
    record {
      in-a-piece = piece-told;
      at-the-end = λ stem c w cr n h. end_line stem c (w ++ cr) n (kind-begin w cr h);
      reply = λ k n l. refl;
      front = front_of;
      front-at-the-end = λ stem c w cr n d h r. ap (λ (b : Bool). pick b (fronted (inside c (w ++ cr) n) d) d) (next-opens c w cr n h) ∙ capital-front c w cr n h d r;
    }
