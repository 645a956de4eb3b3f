-- UTF-8: texts one after the other, what is due, bytes below 256.
use mathlib.Core.Path.{◌≡◌, refl, sym, ap, ◌∙◌}
use mathlib.Core.Bool.{Bool, true, false, ◌&&◌}
use mathlib.Core.List.{List, [], ◌∷◌, ◌++◌}
use Prim.Native.Nat.{ℕ, zero, suc, ◌≤◌, ◌<◌}
use native.Mathlib.Omega.{arith}
use lib.ListN.{get_or}
use lib.Dec.{ltb, leb}
use borrow.Author.Tests.{lt-ltb, le-ltb, le-leb, leb-true}
use Rattle.text.specs.Bytes.{Bytes, between, all}
use Rattle.text.specs.Utf8.{Row, row, Due, start, due, broken, by_row, rows, lead, tails, next, run, at_start, utf8}
use Rattle.text.proofs.Cases.{by_bool, and_left, and_right, by_below, tests, between-true, beyond, not-both}

-- ---- one after the other

pub run-append : (d : Due) (s t : Bytes) → run d (s ++ t) ≡ run (run d s) t
unfolding run
run-append d [] t = refl
run-append d (c ∷ s) t = run-append (next d c) s t

pub at-start : (d : Due) → at_start d ≡ true → d ≡ start
at-start start e = refl
at-start (due low high k) e = not-both refl (sym e)
at-start broken e = not-both refl (sym e)

pub utf8-run : (s : Bytes) → utf8 s ≡ true → run start s ≡ start
unfolding utf8
utf8-run s e = at-start (run start s) e

pub run-utf8 : (s : Bytes) → run start s ≡ start → utf8 s ≡ true
unfolding utf8
run-utf8 s e = rw e

pub utf8_append : (s t : Bytes) → utf8 s ≡ true → utf8 t ≡ true → utf8 (s ++ t) ≡ true
utf8_append s t e f = run-utf8 (s ++ t) (run-append start s t ∙ ap (λ d. run d t) (utf8-run s e) ∙ utf8-run t f)

-- ---- nothing follows what is broken

pub run-broken : (s : Bytes) → run broken s ≡ broken
unfolding run next
run-broken [] = refl
run-broken (c ∷ s) = run-broken s

pub not_start : (s : Bytes) → run broken s ≡ start → ⊥
not_start s e = not-both refl (ap at_start (sym e ∙ run-broken s))

-- ---- first bytes, by the rows

-- every row ends below 256
abbrev ends : List Row → Bool
ends [] = true
ends (row from to low high k ∷ rs) = ltb to 256 && ends rs

high-row : (rs : List Row) (c : ℕ) → ends rs ≡ true → ltb c 256 ≡ false → by_row rs c ≡ broken
unfolding by_row
high-row [] c h l = refl
high-row (row from to low high k ∷ rs) c h l =
    let m : ltb to 256 ≡ true = and_left (ltb to 256) _ h in
    rw (beyond from to c (omega tests)) (high-row rs c (and_right (ltb to 256) _ h) l)

pub lead_high : (c : ℕ) → ltb c 256 ≡ false → lead c ≡ broken
unfolding lead
lead_high c l = rw (le-ltb c 128 (omega tests)) (high-row rows c refl l)

-- only later bytes of a character are due, three at most
abbrev pub later : Due → Bool
later start = true
later (due low high k) = leb 128 low && (leb high 191 && leb k 2)
later broken = true

pub later-lead : (c : ℕ) → later (lead c) ≡ true
unfolding lead by_row between
later-lead c = by_below (λ c. later (lead c)) (λ c. true) c 256 refl (λ l. ap later (lead_high c l))

pub later-tails : (k : ℕ) → k ≤ 2 → later (tails k) ≡ true
later-tails zero l = refl
later-tails (suc k) l = rw (le-leb k 2 (omega arith))

-- what is due, taken apart
pub later-bounds : (low high k : ℕ) → later (due low high k) ≡ true → (128 ≤ low) × (high ≤ 191) × (k ≤ 2)
later-bounds low high k l =
    let m = and_right (leb 128 low) _ l in
    (leb-true 128 low (and_left _ _ l), leb-true high 191 (and_left _ _ m), leb-true k 2 (and_right (leb high 191) _ m))

-- no row leads to the start of a character
pub row-no-start : (rs : List Row) (c : ℕ) → at_start (by_row rs c) ≡ false
unfolding by_row
row-no-start [] c = refl
row-no-start (row from to low high k ∷ rs) c = by_bool (between from to c) (λ e. rw e) (λ e. rw e (row-no-start rs c))

pub lead-no-start : (c : ℕ) → ltb c 128 ≡ false → at_start (lead c) ≡ false
unfolding lead
lead-no-start c l = rw l (row-no-start rows c)

-- ---- all bytes are below 256

abbrev pub is_byte : ℕ → Bool
is_byte c = ltb c 256

-- a slice's numbers are known to be bytes place by place
pub bytes-all : (s : Bytes) → ((i : ℕ) → get_or s i 0 < 256) → all is_byte s ≡ true
unfolding all
bytes-all [] h = refl
bytes-all (c ∷ s) h = rw (lt-ltb c 256 (h 0), bytes-all s (λ i. h (suc i)))

lead-byte : (c : ℕ) (s : Bytes) → run (lead c) s ≡ start → is_byte c ≡ true
lead-byte c s u = by_bool (ltb c 256) (λ e. e) (λ e. absurd (not_start s (ap (λ d. run d s) (sym (lead_high c e)) ∙ u)))

run-bytes : (d : Due) (s : Bytes) → later d ≡ true → run d s ≡ start → all is_byte s ≡ true
unfolding run next all
run-bytes d [] l u = refl
run-bytes start (c ∷ s) l u = rw (lead-byte c s u) (run-bytes (lead c) s (later-lead c) u)
run-bytes (due low high k) (c ∷ s) l u =
    let b = later-bounds low high k l in
    by_bool (between low high c)
    (λ q. let m = between-true low high c q in rw (lt-ltb c 256 (omega (arith, b.1, m.1))) (run-bytes (tails k) s (later-tails k b.2) (rw q at u)))
    (λ q. absurd (not_start s (rw q at u)))
run-bytes broken (c ∷ s) l u = absurd (not_start s u)

pub utf8-bytes : (s : Bytes) → utf8 s ≡ true → all is_byte s ≡ true
utf8-bytes s u = run-bytes start s refl (utf8-run s u)
