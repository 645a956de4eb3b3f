-- Bytes of a string that stand for themselves, and their copy.
use Rattle.std.specs.Prelude.{◌≡◌, Bool, true, false, ◌++◌, ℕ, ◌+◌, ◌≤◌, ◌<◌, length}
use Rattle.std.proofs.Math.Option.{some}
use Prim.Native.Char.{code}
use Rattle.text.specs.Bytes.{Bytes}
use Rattle.output.specs.Put.{Sofar}
use Rattle.json_strings.specs.Decoded.{left}

-- a byte that is said to stand for itself does so; of the others nothing is said: they are decoded, whatever they are
abbrev pub BareByte : ℕ → Bool → Type 0
BareByte b true = (32 ≤ b) × (b < 256) × (b ≡ code "\"" → ⊥) × (b ≡ code "\\" → ⊥)
BareByte b false = Unit {0}

-- n bytes of what is still to come, from a place on and with the bytes that h holds, are written; the others are still to come
pub record Copied (s : Bytes) (at h : ℕ) (room : Bytes) (n : ℕ) (out : Bytes) : Type 0 where
  pub within : at + n ≤ length s
  pub text : Bytes
  pub so : Sofar room text n out
  pub rest : (x : Bytes) → left s at h ≡ some x → (todo : Bytes) × (left s (at + n) h ≡ some todo) × (x ≡ text ++ todo)
