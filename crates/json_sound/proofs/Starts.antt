-- The start of a name, of plain bytes: one byte more, and two.
use mathlib.Core.Path.{◌≡◌, refl, sym, ap, subst, ◌∙◌}
use mathlib.Core.Bool.{Bool, true}
use Prim.Native.Nat.{ℕ, ◌+◌, ◌/◌, ◌≤◌, ◌<◌}
use native.Mathlib.Omega.{arith}
use lib.ListN.{length}
use Rattle.text.specs.Bytes.{Bytes}
use Rattle.text.specs.Places.{byte_at}
use Rattle.json_chars.specs.Strings.{ToEnd}
use Rattle.json_strings.specs.Decoded.{decoded_at}
use Rattle.json_prints.specs.Prints.{stir, print_of}
use Rattle.json_prints.proofs.Prints.{print-byte}
use Rattle.json_sound.specs.Sound.{RawByte}
use Rattle.json_sound.proofs.Plain.{raw-as, raw-below, raw_at, end_on}

-- a plain byte stands at this place
pub record PlainAt (s : Bytes) (i b : ℕ) : Type 0 where
  pub is : b ≡ byte_at s i
  pub raw : RawByte b true
  pub small : b < 128
  pub inside : i < length s

pub plain_at : (s : Bytes) (i b : ℕ) {r : Bool} → (b ≡ byte_at s i) × (i < length s + b / 256) → RawByte b r → r ≡ true → PlainAt s i b
plain_at s i b l h e =
    let g = raw-as b h e in
    record { is = l.0; raw = g; small = raw-below b g; inside = omega (arith, raw-below b g, l.1) }

-- plain bytes from one place to another, and their print
abbrev pub StartsTo : Bytes → ℕ → ℕ → ℕ → Type 0
StartsTo s at i p = (at ≤ i) × (i ≤ length s) × (p < 65536) × (print_of 0 (decoded_at s at) ≡ print_of p (decoded_at s i)) × ToEnd s at i

module _ (s : Bytes) (at : ℕ) where
  pub starts-on : (i p b q : ℕ) → StartsTo s at i p → PlainAt s i b → q ≡ stir p b → StartsTo s at (i + 1) q
  starts-on i p b q h w e =
      let l : i + 1 ≤ length s = omega (arith, w.inside) in
      let x = decoded_at s (i + 1) in (
        omega (arith, h.0),
        l,
        omega (arith, e),
        h.3 ∙ ap (print_of p) (raw_at s i b w.is w.raw) ∙ print-byte p b x ∙ ap (λ (n : ℕ). print_of n x) (sym e),
        λ r g. h.4 r (end_on s i b w.is w.raw l r g),
      )

  pub starts-twice : (i p b c q : ℕ) → StartsTo s at i p → PlainAt s i b → PlainAt s (i + 1) c → q ≡ stir (stir p b) c → StartsTo s at (i + 2) q
  starts-twice i p b c q h w v e =
      let two : i + 1 + 1 ≡ i + 2 = omega arith in
      subst (λ (n : ℕ). StartsTo s at n q) two (starts-on (i + 1) (stir p b) c q (starts-on i p b (stir p b) h w refl) v e)
