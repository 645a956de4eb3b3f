-- The expressions of the classes, and that their sums fit a word.
use Prim.Native.Nat.{ℕ, ◌+◌, ◌^◌, ◌<◌}
use native.Mathlib.Nat.{lt_of_le_of_lt}
use native.Mathlib.Omega.{arith}
use lib.Dec.{lit<}
use lib.Bits.{bit_and, bit_xor, and_le_r, xor_lt}
use mir.Syntax.{w64}
use mir.Val.{Fits}
use Rattle.text_words.proofs.Lanes.{Ex, byte, con, band, bor, bxor, sum}

-- the low seven bits of a byte
abbrev pub low : Ex
low = band byte (con 127)

-- the highest bit tells that a byte below 128 is not k
abbrev pub ne : ℕ → Ex
ne k = sum (bxor low (con k)) (con 127)

-- it tells that a byte below 128 is k at least
abbrev pub ge : ℕ → Ex
ge k = sum low (con k)

low-lt : (w : ℕ) → bit_and w 0x7f7f7f7f7f7f7f7f < 2 ^ 63
low-lt w = lt_of_le_of_lt (and_le_r w 0x7f7f7f7f7f7f7f7f) (lit< tt)

pub fits_sum : (w k : ℕ) → k < 2 ^ 63 → Fits w64 (bit_and w 0x7f7f7f7f7f7f7f7f + k)
fits_sum w k h = record { fits = omega (arith, low-lt w) }

pub fits-ne : (w k : ℕ) → k < 2 ^ 63 → Fits w64 (bit_xor (bit_and w 0x7f7f7f7f7f7f7f7f) k + 0x7f7f7f7f7f7f7f7f)
fits-ne w k h = record { fits = omega (arith, xor_lt 63 (bit_and w 0x7f7f7f7f7f7f7f7f) k (low-lt w) h) }

-- ---- the classes, as their functions in src/lib.rt compute them

abbrev pub soft-ex : Ex
soft-ex = bxor (band (bor (band (ne 34) (ne 92)) byte) (con 128)) (con 128)

abbrev pub bare-ex : Ex
bare-ex = bxor (band (bor (band (band (ne 34) (ne 92)) (ge 96)) byte) (con 128)) (con 128)

abbrev pub raw-ex : Ex
raw-ex = band (bor (bxor (band (band (ne 34) (ne 92)) (ge 96)) (con 128)) byte) (con 128)

abbrev pub plain-ex : Ex
plain-ex = bxor (band (bor (band (band (band (band (band (ne 34) (ne 92)) (ne 44)) (ne 59)) (ne 127)) (ge 96)) byte) (con 128)) (con 128)

abbrev pub line-ex : Ex
line-ex = bxor (band (bor (ne 10) byte) (con 128)) (con 128)
