-- UTF-8 by what it stands for, from RFC 3629, section 3 alone: the rows of bytes (Utf8.antt) are not used here.
use Rattle.std.specs.Prelude.{◌≡◌, true, [], ◌∷◌, ◌++◌, ℕ, ◌+◌, ◌*◌, ◌≤◌, ◌<◌}
use Rattle.text.specs.Bytes.{Bytes}
use Rattle.text.specs.Utf8.{utf8, encode}

-- a character's number: 0 to 10FFFF, but none of D800 to DFFF
pub record Scalar (u : ℕ) : Type 0 where
  pub in-range : u ≤ 0x10ffff
  pub no_surrogate : 0xd800 ≤ u → u ≤ 0xdfff → ⊥

-- The octets of a number: its range decides how many, and its bits, six to an octet from the last one on, fill the x of
-- 0xxxxxxx; 110xxxxx 10xxxxxx; 1110xxxx 10xxxxxx 10xxxxxx; 11110xxx 10xxxxxx 10xxxxxx 10xxxxxx.
pub data Octets (u : ℕ) (s : Bytes) : Type 0 where
  one-octet : s ≡ u ∷ [] → u ≤ 0x7f → Octets u s
  two-octets : (a b : ℕ) → s ≡ (0xc0 + a) ∷ (0x80 + b) ∷ [] → a < 32 → b < 64 → u ≡ a * 64 + b → 0x80 ≤ u → u ≤ 0x7ff → Octets u s
  three-octets : (a b c : ℕ) → s ≡ (0xe0 + a) ∷ (0x80 + b) ∷ (0x80 + c) ∷ [] → a < 16 → b < 64 → c < 64
      → u ≡ a * 4096 + b * 64 + c → 0x800 ≤ u → u ≤ 0xffff → Octets u s
  four-octets : (a b c d : ℕ) → s ≡ (0xf0 + a) ∷ (0x80 + b) ∷ (0x80 + c) ∷ (0x80 + d) ∷ [] → a < 8 → b < 64 → c < 64 → d < 64
      → u ≡ a * 262144 + b * 4096 + c * 64 + d → 0x10000 ≤ u → u ≤ 0x10ffff → Octets u s

-- characters one after the other
pub data Characters : Bytes → Type 0 where
  no_more : (s : Bytes) → s ≡ [] → Characters s
  one_more : (s x t : Bytes) (u : ℕ) → s ≡ x ++ t → Scalar u → Octets u x → Characters t → Characters s

-- what is UTF-8 is exactly such bytes, and the code has each character's octets from its number
pub record ExactlyUtf8 : Type 0 where
  pub only-these : (s : Bytes) → utf8 s ≡ true → Characters s
  pub all-of-these : (s : Bytes) → Characters s → utf8 s ≡ true
  pub encoded : (u : ℕ) → Scalar u → Octets u (encode u)
