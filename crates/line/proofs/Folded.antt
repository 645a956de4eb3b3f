-- A UTF-8 line is folded as 01 says (specs/Folded.antt).
use mathlib.Core.Path.{◌≡◌, refl, sym, ap, subst, ◌∙◌}
use mathlib.Core.Bool.{true, not}
use mathlib.Core.List.{List, [], ◌∷◌, ◌++◌, map, tail, head-eq_of_cons-eq}
use Prim.Native.Nat.{ℕ, suc, ◌+◌, ◌≤◌, ◌<◌}
use native.Mathlib.Omega.{arith}
use lib.ListN.{length}
use lib.Dec.{eqb}
use borrow.Author.Tests.{lt-ltb, le-ltb, ltb-true}
use Rattle.text.specs.Bytes.{Bytes, ascii, between, joined, flat}
use Rattle.text.specs.Utf8.{Due, start, due, broken, lead, tails, next, run}
use Rattle.text.specs.Scalar.{Octets, one-octet, two-octets, three-octets, four-octets}
use Rattle.text.proofs.Cases.{by_bool, and_right, between-true}
use Rattle.text.proofs.Characters.{not_start, utf8-run, later, later-lead, later-tails, later-bounds}
use Rattle.text.proofs.Scalars.{first_of}
use Rattle.line.specs.Write.{width, breaks, fold_from, fold}
use Rattle.line.specs.Folded.{Continues, Later, FoldedInWords}
use Rattle.line.proofs.Pieces.{pieces_from, pieces}
use Rattle.line.proofs.Folding.{left, left-tails, wide, fits_width, later-width, stays, goes_on, good, pieces-short}

-- ---- the bytes, and the lines joined by CR LF

joined-cons : (d x : Bytes) (c : ℕ) (ys : List Bytes) → joined d ((c ∷ x) ∷ ys) ≡ c ∷ joined d (x ∷ ys)
unfolding joined
joined-cons d x c [] = refl
joined-cons d x c (y ∷ ys) = refl

written_from : (column : ℕ) (s : Bytes) → fold_from column s ≡ joined (ascii "\r\n") ((pieces_from column s).0 ∷ (pieces_from column s).1)
unfolding fold_from pieces_from joined
written_from column [] = refl
written_from column (c ∷ s) =
    by_bool (breaks column (width c))
    (λ b. rw (b, written_from 2 s) (ap (λ (x : Bytes). 13 ∷ 10 ∷ x) (sym (joined-cons (ascii "\r\n") (c ∷ (pieces_from 2 s).0) 32 (pieces_from 2 s).1 ∙ ap (λ (x : Bytes). 32 ∷ x) (joined-cons (ascii "\r\n") (pieces_from 2 s).0 c (pieces_from 2 s).1)))))
    (λ b. rw (b, written_from (suc column) s) (sym (joined-cons (ascii "\r\n") (pieces_from (suc column) s).0 c (pieces_from (suc column) s).1)))

content-from : (column : ℕ) (s : Bytes) → s ≡ (pieces_from column s).0 ++ flat (map tail (pieces_from column s).1)
unfolding pieces_from flat
content-from column [] = refl
content-from column (c ∷ s) =
    by_bool (breaks column (width c))
    (λ b. rw b (ap (λ (x : Bytes). c ∷ x) (content-from 2 s)))
    (λ b. rw b (ap (λ (x : Bytes). c ∷ x) (content-from (suc column) s)))

-- ---- the latest character

width_one : (c : ℕ) → c < 128 → width c ≡ 1
unfolding width
width_one c h = rw (lt-ltb c 128 h)

width_two : (c : ℕ) → 192 ≤ c → c < 224 → width c ≡ 2
unfolding width
width_two c l h = rw (le-ltb c 128 (omega arith), le-ltb c 192 l, lt-ltb c 224 h)

width_three : (c : ℕ) → 224 ≤ c → c < 240 → width c ≡ 3
unfolding width
width_three c l h = rw (le-ltb c 128 (omega arith), le-ltb c 192 (omega arith), le-ltb c 224 l, lt-ltb c 240 h)

width_four : (c : ℕ) → 240 ≤ c → width c ≡ 4
unfolding width
width_four c l = rw (le-ltb c 128 (omega arith), le-ltb c 192 (omega arith), le-ltb c 224 (omega arith), le-ltb c 240 l)

-- the width that a first byte tells is the number of its character's octets
octets-width : (u c : ℕ) (x s t : Bytes) → Octets u x → c ∷ s ≡ x ++ t → width c ≡ length x
octets-width u c x s t (one-octet e l) q =
    let i = head-eq_of_cons-eq (q ∙ ap (λ (y : Bytes). y ++ t) e) in
    width_one c (omega arith) ∙ sym (ap length e)
octets-width u c x s t (two-octets a b e m n k l h) q =
    let i = head-eq_of_cons-eq (q ∙ ap (λ (y : Bytes). y ++ t) e) in
    width_two c (omega arith) (omega arith) ∙ sym (ap length e)
octets-width u c x s t (three-octets a b d e m n o k l h) q =
    let i = head-eq_of_cons-eq (q ∙ ap (λ (y : Bytes). y ++ t) e) in
    width_three c (omega arith) (omega arith) ∙ sym (ap length e)
octets-width u c x s t (four-octets a b d f e m n o p k l h) q =
    let i = head-eq_of_cons-eq (q ∙ ap (λ (y : Bytes). y ++ t) e) in
    width_four c (omega arith) ∙ sym (ap length e)

-- where a line is broken, the character would have gone past 75 bytes
too_wide : (column w : ℕ) → breaks column w ≡ true → 75 < column + w
unfolding breaks
too_wide column w b = ltb-true 75 (column + w) (and_right (not (eqb w 0)) _ b)

-- the line after a break begins with the character that did not fit
continues : (column c : ℕ) (q : Bytes) → breaks column (width c) ≡ true → run (lead c) q ≡ start → Continues column (32 ∷ c ∷ q)
continues column c q b u =
    let f = first_of c q u in
    record {
      character = f.octets;
      rest = f.rest;
      number = f.number;
      is = ap (λ (x : Bytes). 32 ∷ x) f.is;
      scalar = f.scalar;
      octets = f.by;
      over = omega (arith, too_wide column (width c) b, octets-width f.number c f.octets q f.rest f.by f.is);
    }

-- the lines after the first, from a column and a state on
abbrev After : ℕ → Bytes × List Bytes → Type 0
After column p = Later (column + length p.0) p.1

after_same : (column c : ℕ) (p : Bytes × List Bytes) → After (suc column) p → After column (c ∷ p.0, p.1)
after_same column c p g = subst (λ (n : ℕ). Later n p.1) (omega arith) g

after-break : (column c : ℕ) (p : Bytes × List Bytes) → breaks column (width c) ≡ true → run (lead c) p.0 ≡ start → After 2 p
    → After column ([], (32 ∷ c ∷ p.0) ∷ p.1)
after-break column c p b u g =
    (subst (λ (n : ℕ). Continues n (32 ∷ c ∷ p.0)) (omega arith) (continues column c p.0 b u), subst (λ (n : ℕ). Later n p.1) (omega arith) g)

latest : (d : Due) (s : Bytes) (column : ℕ) → run d s ≡ start → later d ≡ true → column + left d ≤ 75 → After column (pieces_from column s)
unfolding run pieces_from next
latest d [] column u l h = tt
latest start (c ∷ s) column u l h =
    let n : (lead c ≡ broken → ⊥) = λ e. not_start s (rw e at u) in
    let w = wide (width c) (lead c) (fits_width c) (later-lead c) n in
    by_bool (breaks column (width c))
    (λ b. rw b (after-break column c (pieces_from 2 s) b (good (lead c) s 2 u (later-lead c) (omega (arith, w.1))).0 (latest (lead c) s 2 u (later-lead c) (omega (arith, w.1)))))
    (λ b. rw b (after_same column c (pieces_from (suc column) s) (latest (lead c) s (suc column) u (later-lead c) (omega (arith, w.0, stays column (width c) b (omega (arith, w.0)))))))
latest (due low high k) (c ∷ s) column u l h =
    by_bool (between low high c)
    (λ q. let r = between-true low high c q in
    let b = later-bounds low high k l in
    rw (goes_on column (width c) (later-width c (omega (arith, r.0, b.0)) (omega (arith, r.1, b.1))))
    (after_same column c (pieces_from (suc column) s) (latest (tails k) s (suc column) (rw q at u) (later-tails k b.2) (omega (arith, left-tails k)))))
    (λ q. absurd (not_start s (rw q at u)))
latest broken (c ∷ s) column u l h = absurd (not_start s u)

pub folded-in-words : FoldedInWords
unfolding fold pieces
folded-in-words s u =
    record {
      line = (pieces_from 0 s).0;
      later = (pieces_from 0 s).1;
      written = written_from 0 s;
      content = content-from 0 s;
      short = pieces-short s u;
      latest = subst (λ (n : ℕ). Later n (pieces_from 0 s).1) (omega arith) (latest start s 0 (utf8-run s u) refl (omega arith));
    }
