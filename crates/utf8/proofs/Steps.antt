-- One byte more, for the readers of characters.
use mathlib.Core.Path.{◌≡◌, refl, sym, ap, subst, ◌∙◌}
use mathlib.Core.Bool.{Bool, true, false, ◌||◌}
use mathlib.Core.List.{[], ◌∷◌, map}
use Prim.Native.Nat.{ℕ, zero, suc, ◌+◌, ◌-◌, ◌≤◌, ◌<◌}
use native.Mathlib.Omega.{arith}
use native.Mathlib.Numerals.{add-one}
use lib.Dec.{leb}
use lib.ListN.{length, drop, get_or, drop_of_length-le}
use lib.Seq.{drop-cons}
use borrow.Author.Tests.{le-leb, lt-leb, lt-ltb, leb-false}
use Rattle.text.specs.Bytes.{Bytes, between}
use Rattle.text.proofs.Cases.{range, in_range, or_left, or_right}
use Rattle.text.specs.Places.{Read}
use Rattle.std.specs.Prelude.{Ok, Err}
use Rattle.utf8.specs.Met.{Alike, NextIs, Met, OneMore}
use Rattle.text.specs.Utf8.{Due, start, due, broken, at_start, lead, tails, run, next, utf8}

pub run_step : (d : Due) (s : Bytes) (i : ℕ) → i < length s → run d (drop i s) ≡ run (next d (get_or s i 0)) (drop (i + 1) s)
unfolding run
run_step d s i h = rw (drop-cons s i 0, add-one)

pub run_ends : (d : Due) (s : Bytes) (i : ℕ) → length s ≤ i → run d (drop i s) ≡ d
unfolding run
run_ends d s i h = rw (drop_of_length-le s h)

-- ---- a byte that is due, or is not

pub too-low : (low high k c : ℕ) → c < low → next (due low high k) c ≡ broken
unfolding next between
too-low low high k c h = rw (lt-leb low c h)

pub too-high : (low high k c : ℕ) → low ≤ c → high < c → next (due low high k) c ≡ broken
unfolding next between
too-high low high k c h l = rw (le-leb low c h, lt-leb c high l)

pub as-due : (low high k c : ℕ) → low ≤ c → c ≤ high → next (due low high k) c ≡ tails k
unfolding next between
as-due low high k c h l = rw (le-leb low c h, le-leb c high l)

run-broken : (s : Bytes) → run broken s ≡ broken
unfolding run next
run-broken [] = refl
run-broken (c ∷ s) = run-broken s

module _ (s : Bytes) (at low high : ℕ) where
  pub next-cut : length s ≤ at → NextIs s at low high false
  next-cut h k = ap at_start (run_ends (due low high k) s at h)

  pub next_low : at < length s → get_or s at 0 < low → NextIs s at low high false
  next_low h l k = ap at_start (run_step (due low high k) s at h ∙ ap (λ d. run d (drop (at + 1) s)) (too-low low high k _ l) ∙ run-broken _)

  pub next-high : at < length s → low ≤ get_or s at 0 → high < get_or s at 0 → NextIs s at low high false
  next-high h l u k = ap at_start (run_step (due low high k) s at h ∙ ap (λ d. run d (drop (at + 1) s)) (too-high low high k _ l u) ∙ run-broken _)

  pub next-due : at < length s → low ≤ get_or s at 0 → get_or s at 0 ≤ high → NextIs s at low high true
  next-due h l u = (h, λ k. run_step (due low high k) s at h ∙ ap (λ d. run d (drop (at + 1) s)) (as-due low high k _ l u))

next-as : (s : Bytes) (at low high : ℕ) {r b : Bool} → NextIs s at low high r → r ≡ b → NextIs s at low high b
next-as s at low high n e = subst (λ x. NextIs s at low high x) e n

-- a character's first byte
pub first_step : (s : Bytes) (at : ℕ) {d : Due} → at < length s → d ≡ lead (get_or s at 0) → run start (drop at s) ≡ run d (drop (at + 1) s)
unfolding next
first_step s at h e = run_step start s at h ∙ ap (λ d. run d (drop (at + 1) s)) (sym e)

pub first-bad : (s : Bytes) (at : ℕ) → at < length s → broken ≡ lead (get_or s at 0) → at_start (run start (drop at s)) ≡ false
first-bad s at h e = ap at_start (first_step s at h e ∙ run-broken (drop (at + 1) s))

pub first-cut : (s : Bytes) (at : ℕ) {low high k : ℕ} {r : Bool} → at < length s → due low high k ≡ lead (get_or s at 0) → NextIs s (at + 1) low high r → r ≡ false
    → at_start (run start (drop at s)) ≡ false
first-cut s at {low} {high} {k} h d n e = ap at_start (first_step s at h d) ∙ next-as s (at + 1) low high n e k

-- its first two bytes
abbrev pub Two : Bytes → ℕ → ℕ → Type 0
Two s at k = (at + 1 < length s) × (run start (drop at s) ≡ run (tails k) (drop ((at + 1) + 1) s))

pub first-met : (s : Bytes) (at : ℕ) {low high k : ℕ} {r : Bool} → at < length s → due low high k ≡ lead (get_or s at 0) → NextIs s (at + 1) low high r → r ≡ true → Two s at k
first-met s at {low} {high} {k} h d n e =
    let m = next-as s (at + 1) low high n e in
    (m.0, first_step s at h d ∙ m.1 k)

pub one_more : (s : Bytes) (at k : ℕ) (r : Read) → Two s at k → Met (tails k) s ((at + 1) + 1) r → OneMore s at r
one_more s at k (Ok e) m t = (omega (arith, t.0), t.1, m.1 ∙ t.2)
one_more s at k (Err x) m t = ap at_start m.1 ∙ t

pub one-as : (s : Bytes) (at : ℕ) {r x : Read} → OneMore s at r → r ≡ x → OneMore s at x
one-as s at o e = subst (λ y. OneMore s at y) e o

pub ascii : (c : ℕ) → c < 128 → start ≡ lead c
unfolding lead
ascii c h = rw (lt-ltb c 128 h)

one-tail : (n : ℕ) → 0 < n → due 0x80 0xbf (n - 1) ≡ tails n
one-tail zero h = absurd (omega arith)
one-tail (suc n) h = ap (due 0x80 0xbf) (omega arith)

module _ (s : Bytes) (i left : ℕ) {r : Bool} (some : 0 < left) (n : NextIs s i 0x80 0xbf r) where
  pub tail-met : r ≡ true → (i < length s) × (run (tails left) (drop i s) ≡ run (tails (left - 1)) (drop (i + 1) s))
  tail-met e =
      let m = next-as s i 0x80 0xbf n e in
      (m.0, ap (λ d. run d (drop i s)) (sym (one-tail left some)) ∙ m.1 (left - 1))

  pub tail-bad : r ≡ false → at_start (run (tails left) (drop i s)) ≡ false
  tail-bad e = ap (λ d. at_start (run d (drop i s))) (sym (one-tail left some)) ∙ next-as s i 0x80 0xbf n e (left - 1)

-- one byte more that is ASCII
pub ascii_more : (s : Bytes) (a k : ℕ) (found : Bool) → a + k < length s → (found ≡ false → Alike s a (a + k))
    → found || leb 128 (get_or s (a + k) 0) ≡ false → Alike s a (a + (k + 1))
ascii_more s a k found h so e =
    let n : (a + k) + 1 ≡ a + (k + 1) = omega arith in
    subst (λ m. Alike s a m) n (so (or_left found _ e) ∙ first_step s (a + k) h (ascii _ (leb-false 128 (get_or s (a + k) 0) (or_right found _ e))))

pub utf8-all : (s : Bytes) (i : ℕ) → Alike s 0 i → length s ≤ i → true ≡ utf8 s
unfolding utf8
utf8-all s i e h = sym (ap at_start (e ∙ run_ends start s i h))

pub utf8-not : (s : Bytes) (i : ℕ) → Alike s 0 i → at_start (run start (drop i s)) ≡ false → false ≡ utf8 s
unfolding utf8
utf8-not s i e h = sym (ap at_start e ∙ h)

-- every byte of a range leads to the same
pub by_row_lem : (d : Due) (lo n c : ℕ) → map (λ x. d) (range lo n) ≡ map lead (range lo n) → lo ≤ c → c < lo + n → d ≡ lead c
by_row_lem d lo n c = in_range (λ x. d) lead c lo n
