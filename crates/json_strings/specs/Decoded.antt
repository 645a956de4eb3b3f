-- What a string of a text stands for, from a place on: what the contracts of this crate cite.
use Rattle.std.specs.Prelude.{Bool, false, [], ◌∷◌, ℕ, zero, suc, ◌+◌, ◌-◌, ◌*◌, ◌/◌, ◌%◌, ◌≤◌, ◌<◌, length, drop, eqb, ltb}
use Rattle.std.proofs.Math.Option.{Option, none, some}
use Rattle.text.specs.Choice.{pick, with-some}
use Rattle.text.specs.Bytes.{Bytes, same}
use Rattle.text.specs.Utf8.{encode}
use Rattle.text.specs.Reader.{Got, got, bad}
use Rattle.json_text.specs.Strings.{before, decode_after}
use Rattle.json_escapes.specs.Units.{units}
use Rattle.json_strings.specs.declared.Letter.{Letter}
use Rattle.json_strings.specs.declared.Letter.TheVariants.{Raw, Code, End as LEnd, Alone as LAlone}
use Rattle.json_strings.specs.declared.Byte.{Byte}
use Rattle.json_strings.specs.declared.Byte.TheVariants.{One, End as BEnd, Alone as BAlone}

-- the bytes that units stand for, after the high surrogate h (0: none); none where a surrogate is alone, or no string is read
abbrev pub told : ℕ → Got Bytes → Option Bytes
told h (got us t) = decode_after h us
told h (bad t) = none

-- the bytes that the string from a place on stands for
unfoldable pub decoded_at : Bytes → ℕ → Option Bytes
decoded_at s at = told 0 (units (drop at s))

-- the same as bytes: no bytes where it stands for nothing
unfoldable pub text_at : Bytes → ℕ → Bytes
text_at s at = with-some (decoded_at s at) (λ x. x) []

abbrev pub pair_of : ℕ → Bytes → ℕ → Option Bytes
pair_of high s at = told high (units (drop at s))

abbrev pub letter_of : Bytes → Letter → Option Bytes
letter_of s (Raw b e) = before (b ∷ []) (decoded_at s e)
letter_of s (Code v e) = before (encode v) (decoded_at s e)
letter_of s LEnd = some []
letter_of s LAlone = none

abbrev pub LetterIn : ℕ → ℕ → Letter → Type 0
LetterIn at n (Raw b e) = (at < e) × (e ≤ n)
LetterIn at n (Code v e) = (at < e) × (e ≤ n) × (v < 0x110000)
LetterIn at n LEnd = at < n
LetterIn at n LAlone = Unit {0}

-- the bytes that a number holds, the first in its lowest eight bits
unfoldable pub held_in : ℕ → ℕ → Bytes
held_in zero h = []
held_in (suc n) h = pick (eqb h 0) [] (h % 256 ∷ held_in n (h / 256))

abbrev pub held : ℕ → Bytes
held h = held_in 4 h

-- the first byte of a code point's UTF-8, and a number that holds the others
unfoldable pub lead_of : ℕ → ℕ
lead_of v = pick (ltb v 0x80) v (pick (ltb v 0x800) (0xc0 + v / 64) (pick (ltb v 0x10000) (0xe0 + v / 4096) (0xf0 + v / 262144)))

unfoldable pub rest_of : ℕ → ℕ
rest_of v =
    pick (ltb v 0x80) 0
    (pick (ltb v 0x800) (0x80 + v % 64)
    (pick (ltb v 0x10000) (0x80 + v / 64 % 64 + 256 * (0x80 + v % 64))
    (0x80 + v / 4096 % 64 + 256 * (0x80 + v / 64 % 64 + 256 * (0x80 + v % 64)))))

-- what is still to come: held bytes, then the string from a place on
unfoldable pub left : Bytes → ℕ → ℕ → Option Bytes
left s at h = before (held h) (decoded_at s at)

-- how much that is at most: it falls with each byte
unfoldable pub weight : Bytes → ℕ → ℕ → ℕ
weight s at h = (length s - at) * 5 + length (held h)

abbrev pub byte_of : Bytes → Byte → Option Bytes
byte_of s (One b i h) = before (b ∷ []) (left s i h)
byte_of s BEnd = some []
byte_of s BAlone = none

abbrev pub ByteIn : Bytes → ℕ → ℕ → Byte → Type 0
ByteIn s at h (One b i k) = (i ≤ length s) × (weight s i k < weight s at h)
ByteIn s at h BEnd = Unit {0}
ByteIn s at h BAlone = Unit {0}

-- whether the string stands for these bytes, and whether two strings stand for the same
abbrev pub spells : Option Bytes → Bytes → Bool
spells none bs = false
spells (some x) bs = same bs x

abbrev pub agree : Option Bytes → Option Bytes → Bool
agree none b = false
agree (some x) none = false
agree (some x) (some y) = same x y
