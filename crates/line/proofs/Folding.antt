-- Folding a UTF-8 line: every piece has at most 75 bytes and is whole characters.
use mathlib.Core.Path.{◌≡◌, refl, ap}
use mathlib.Core.Bool.{Bool, true, false}
use mathlib.Core.List.{List, [], ◌∷◌}
use Prim.Native.Nat.{ℕ, zero, suc, ◌+◌, ◌≤◌}
use native.Mathlib.Omega.{arith}
use lib.ListN.{length}
use lib.Dec.{eqb, ltb, leb}
use borrow.Author.Tests.{eqb-true, leb-true, lt-ltb, le-ltb, ne_eqb}
use Rattle.text.specs.Bytes.{Bytes, between}
use Rattle.text.specs.Utf8.{Due, start, due, broken, by_row, lead, tails, next, run, utf8}
use Rattle.text.proofs.Cases.{by_bool, by_below, tests, and_left, and_right, between-true, not-both}
use Rattle.text.proofs.Characters.{lead_high, not_start, utf8-run, run-utf8, later, later-lead, later-tails}
use Rattle.line.specs.Write.{width, breaks}
pub use Rattle.line.specs.Folded.{Short}
use Rattle.line.proofs.Pieces.{pieces_from, pieces}

-- ---- what a first byte tells

-- bytes still due
abbrev pub left : Due → ℕ
left start = 0
left (due low high k) = suc k
left broken = 0

-- the width that the first byte tells is the character's
abbrev fitting : ℕ → Due → Bool
fitting w start = eqb w 1
fitting w (due low high k) = eqb w (suc (suc k))
fitting w broken = true

pub fits_width : (c : ℕ) → fitting (width c) (lead c) ≡ true
unfolding lead by_row between width
fits_width c = by_below (λ c. fitting (width c) (lead c)) (λ c. true) c 256 refl (λ l. ap (fitting (width c)) (lead_high c l))

pub later-width : (c : ℕ) → 128 ≤ c → c ≤ 191 → width c ≡ 0
unfolding width
later-width c l h = rw (le-ltb c 128 l, lt-ltb c 192 (omega arith))

pub wide : (w : ℕ) (d : Due) → fitting w d ≡ true → later d ≡ true → (d ≡ broken → ⊥) → (w ≡ suc (left d)) × (left d ≤ 3)
wide w start f l n = (eqb-true w 1 f, omega arith)
wide w (due low high k) f l n =
    let m : k ≤ 2 = leb-true k 2 (and_right (leb high 191) _ (and_right (leb 128 low) _ l)) in
    (eqb-true w (suc (suc k)) f, omega arith)
wide w broken f l n = absurd (n refl)

-- ---- the pieces

-- from a column and a state on: the first piece ends the character, and fits
abbrev Good : Due → ℕ → Bytes × List Bytes → Type 0
Good d column p = (run d p.0 ≡ start) × (column + length p.0 ≤ 75) × Short p.1

good-same : (d : Due) (column c : ℕ) (p : Bytes × List Bytes) → Good (next d c) (suc column) p → Good d column (c ∷ p.0, p.1)
unfolding run
good-same d column c p g = (g.0, omega (arith, g.1), g.2)

-- a break before a character: the piece before it is over
good-break : (column c : ℕ) (p : Bytes × List Bytes) → column ≤ 75 → Good (lead c) 2 p → Good start column ([], (32 ∷ c ∷ p.0) ∷ p.1)
unfolding run next lead
good-break column c p l g = (refl, omega arith, (run-utf8 (32 ∷ c ∷ p.0) g.0, omega (arith, g.1), g.2))

pub stays : (column w : ℕ) → breaks column w ≡ false → 1 ≤ w → column + w ≤ 75
unfolding breaks
stays column w b l = by_bool (ltb 75 (column + w)) (λ e. not-both refl (rw (ne_eqb w 0 (omega arith), e) at b)) (λ e. omega tests)

pub goes_on : (column w : ℕ) → w ≡ 0 → breaks column w ≡ false
unfolding breaks
goes_on column w e = rw e

pub left-tails : (k : ℕ) → left (tails k) ≡ k
left-tails zero = refl
left-tails (suc k) = refl

pub good : (d : Due) (s : Bytes) (column : ℕ) → run d s ≡ start → later d ≡ true → column + left d ≤ 75 → Good d column (pieces_from column s)
unfolding run pieces_from next
good d [] column u l h = (u, omega arith, tt)
good start (c ∷ s) column u l h =
    let n : (lead c ≡ broken → ⊥) = λ e. not_start s (rw e at u) in
    let w = wide (width c) (lead c) (fits_width c) (later-lead c) n in
    by_bool (breaks column (width c))
    (λ b. rw b (good-break column c (pieces_from 2 s) (omega arith) (good (lead c) s 2 u (later-lead c) (omega (arith, w.1)))))
    (λ b. rw b (good-same start column c (pieces_from (suc column) s) (good (lead c) s (suc column) u (later-lead c) (omega (arith, w.0, stays column (width c) b (omega (arith, w.0)))))))
good (due low high k) (c ∷ s) column u l h =
    by_bool (between low high c)
    (λ q. let r = between-true low high c q in
    let i : 128 ≤ low = leb-true 128 low (and_left _ _ l) in
    let m = and_right (leb 128 low) _ l in
    let j : high ≤ 191 = leb-true high 191 (and_left _ _ m) in
    let k2 : k ≤ 2 = leb-true k 2 (and_right (leb high 191) _ m) in
    rw (goes_on column (width c) (later-width c (omega (arith, r.0)) (omega (arith, r.1))))
    (good-same (due low high k) column c (pieces_from (suc column) s) (rw q (good (tails k) s (suc column) (rw q at u) (later-tails k k2) (omega (arith, left-tails k))))))
    (λ q. absurd (not_start s (rw q at u)))
good broken (c ∷ s) column u l h = absurd (not_start s u)

-- every physical line of a folded UTF-8 line has at most 75 bytes and is UTF-8
pub pieces-short : (s : Bytes) → utf8 s ≡ true → Short (pieces s)
unfolding pieces
pieces-short s u =
    let g = good start s 0 (utf8-run s u) refl (omega arith) in
    (run-utf8 (pieces_from 0 s).0 g.0, omega (arith, g.1), g.2)
