-- UTF-8 as RFC 3629, section 4 prints it.
use Rattle.std.specs.Prelude.{Bool, true, false, List, [], ◌∷◌, ◌++◌, ℕ, zero, suc, ◌+◌, ◌/◌, ◌%◌, ltb}
use Prim.Native.Char.{code}
use Prim.Native.String.{String, [] as []ˢ, ◌∷◌ as ◌∷ˢ◌}
use Rattle.text.specs.Choice.{pick}
use Rattle.text.specs.Bytes.{Bytes, between}

-- One row of UTF8-2, UTF8-3 or UTF8-4: the first byte from..to, the second low..high, and so many tails (80-BF) after these.
pub data Row : Type 0 where
  row : (from to low high tails : ℕ) → Row

abbrev pub rows : List Row
rows =
    row 0xc2 0xdf 0x80 0xbf 0
    ∷ row 0xe0 0xe0 0xa0 0xbf 1
    ∷ row 0xe1 0xec 0x80 0xbf 1
    ∷ row 0xed 0xed 0x80 0x9f 1
    ∷ row 0xee 0xef 0x80 0xbf 1
    ∷ row 0xf0 0xf0 0x90 0xbf 2
    ∷ row 0xf1 0xf3 0x80 0xbf 2
    ∷ row 0xf4 0xf4 0x80 0x8f 2
    ∷ []

-- What must follow: the start of a character, or a byte from low to high and then so many tails; or nothing can.
pub data Due : Type 0 where
  start : Due
  due : (low high tails : ℕ) → Due
  broken : Due

unfoldable pub by_row : List Row → ℕ → Due
by_row [] c = broken
by_row (row from to low high tails ∷ rs) c = pick (between from to c) (due low high tails) (by_row rs c)

-- after the first byte of a character
unfoldable pub lead : ℕ → Due
lead c = pick (ltb c 128) start (by_row rows c)

abbrev pub tails : ℕ → Due
tails zero = start
tails (suc k) = due 0x80 0xbf k

unfoldable pub next : Due → ℕ → Due
next start c = lead c
next (due low high k) c = pick (between low high c) (tails k) broken
next broken c = broken

unfoldable pub run : Due → Bytes → Due
run d [] = d
run d (c ∷ s) = run (next d c) s

abbrev pub at_start : Due → Bool
at_start start = true
at_start (due low high k) = false
at_start broken = false

-- whole characters, each by a row
unfoldable pub utf8 : Bytes → Bool
utf8 s = at_start (run start s)

-- The bytes of a code point.
unfoldable pub encode : ℕ → Bytes
encode u =
    pick (ltb u 0x80) (u ∷ [])
    (pick (ltb u 0x800) ((0xc0 + u / 64) ∷ (0x80 + u % 64) ∷ [])
    (pick (ltb u 0x10000) ((0xe0 + u / 4096) ∷ (0x80 + u / 64 % 64) ∷ (0x80 + u % 64) ∷ [])
    ((0xf0 + u / 262144) ∷ (0x80 + u / 4096 % 64) ∷ (0x80 + u / 64 % 64) ∷ (0x80 + u % 64) ∷ [])))

-- The bytes of a text, for examples beyond ASCII.
unfoldable pub encoded : String → Bytes
encoded []ˢ = []
encoded (c ∷ˢ s) = encode (code c) ++ encoded s
