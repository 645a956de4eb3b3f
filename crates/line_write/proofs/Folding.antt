-- The folding writer, byte by byte.
use mathlib.Core.Path.{◌≡◌}
use mathlib.Core.Bool.{true, false}
use Prim.Native.Nat.{ℕ, ◌+◌, ◌-◌, ◌≤◌, ◌<◌}
use native.Mathlib.Omega.{arith}
use lib.Dec.{ltb}
use borrow.Author.Tests.{ne_eqb, lt-ltb, le-ltb}
use Rattle.line.specs.Write.{width, breaks}
use Rattle.text.proofs.Cases.{split}

-- ---- one character's width

pub width-1 : (c : ℕ) → c < 128 → width c ≡ 1
unfolding width
width-1 c h = rw (lt-ltb c 128 h)

pub width-0 : (c : ℕ) → 128 ≤ c → c < 192 → width c ≡ 0
unfolding width
width-0 c a h = rw (le-ltb c 128 a, lt-ltb c 192 h)

pub width-2 : (c : ℕ) → 192 ≤ c → c < 224 → width c ≡ 2
unfolding width
width-2 c b h =
    let a : 128 ≤ c = omega arith in
    rw (le-ltb c 128 a, le-ltb c 192 b, lt-ltb c 224 h)

pub width-3 : (c : ℕ) → 224 ≤ c → c < 240 → width c ≡ 3
unfolding width
width-3 c d h =
    let a : 128 ≤ c = omega arith in
    let b : 192 ≤ c = omega arith in
    rw (le-ltb c 128 a, le-ltb c 192 b, le-ltb c 224 d, lt-ltb c 240 h)

pub width-4 : (c : ℕ) → 240 ≤ c → width c ≡ 4
unfolding width
width-4 c h =
    let a : 128 ≤ c = omega arith in
    let b : 192 ≤ c = omega arith in
    let d : 224 ≤ c = omega arith in
    rw (le-ltb c 128 a, le-ltb c 192 b, le-ltb c 224 d, le-ltb c 240 h)

-- ---- whether a fold comes before it

pub breaks-not : (column w : ℕ) → w ≡ 0 → breaks column w ≡ false
unfolding breaks
breaks-not column w e = rw e

pub breaks-wide : (column w : ℕ) → (w ≡ 0 → ⊥) → 75 < w → breaks column w ≡ true
unfolding breaks
breaks-wide column w n h =
    let l : 75 < column + w = omega arith in
    rw (ne_eqb w 0 n, lt-ltb 75 (column + w) l)

pub breaks-late : (column w : ℕ) → (w ≡ 0 → ⊥) → w ≤ 75 → ltb (75 - w) column ≡ breaks column w
unfolding breaks
breaks-late column w n h =
    split column (75 - w)
    (λ l. let m : column + w ≤ 75 = omega arith in rw (ne_eqb w 0 n, le-ltb (75 - w) column l, le-ltb 75 (column + w) m))
    (λ l. let m : 75 < column + w = omega arith in rw (ne_eqb w 0 n, lt-ltb (75 - w) column l, lt-ltb 75 (column + w) m))
