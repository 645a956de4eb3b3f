-- RFC 8259's grammar as it is printed there, as a relation: `Text d s` says that the bytes s are JSON of depth d at most.
-- It is no reader: it is what the reader (Read.antt) is proved to accept, and what the place of refusal 11 is worded by.
use Rattle.std.specs.Prelude.{◌≡◌, Bool, true, ◌||◌, [], ◌∷◌, ◌++◌, ◌⊎◌, ℕ, zero, suc, ◌≤◌, ◌<◌, length, take, eqb}
use Prim.Native.Char.{code}
use Rattle.text.specs.Bytes.{Bytes, ascii, is, between, is_digit}
use Rattle.text.specs.Utf8.{utf8}
use Rattle.text.specs.Reader.{first}

-- ---- ABNF

-- a set of byte strings
abbrev pub Lang : Type 1
Lang = Bytes → Type 0

-- one byte that passes a test
abbrev pub One : (ℕ → Bool) → Lang
One p s = (c : ℕ) × (s ≡ c ∷ []) × (p c ≡ true)

-- exactly these bytes
abbrev pub Exactly : Bytes → Lang
Exactly w s = s ≡ w

-- one after the other
infixr 40 ◌then◌
abbrev pub ◌then◌ : Lang → Lang → Lang
(P then Q) s = (a : Bytes) × (b : Bytes) × (s ≡ a ++ b) × P a × Q b

-- one or the other
infixr 35 ◌or◌
abbrev pub ◌or◌ : Lang → Lang → Lang
(P or Q) s = P s ⊎ Q s

-- [ P ]
abbrev pub Maybe : Lang → Lang
Maybe P = Exactly [] or P

-- *P
pub data Many (P : Lang) : Bytes → Type 0 where
  none_more : (s : Bytes) → s ≡ [] → Many P s
  one_more : (s a b : Bytes) → s ≡ a ++ b → P a → Many P b → Many P s

-- ---- section 2: white space and structural characters

unfoldable pub is_space : ℕ → Bool
is_space c = eqb c 32 || eqb c 9 || eqb c 10 || eqb c 13

unfoldable pub Ws : Lang
Ws = Many (One is_space)

-- a structural character, with the white space around it
unfoldable pub Mark : ℕ → Lang
Mark c = Ws then One (is c) then Ws

-- ---- section 6: numbers

unfoldable pub Digits : Lang
Digits = One is_digit then Many (One is_digit)

unfoldable pub Int : Lang
Int = One (is (code "0")) or (One (between (code "1") (code "9")) then Many (One is_digit))

unfoldable pub Frac : Lang
Frac = One (is (code ".")) then Digits

unfoldable pub is_e : ℕ → Bool
is_e c = eqb c (code "e") || eqb c (code "E")

unfoldable pub is_sign : ℕ → Bool
is_sign c = eqb c (code "+") || eqb c (code "-")

unfoldable pub Exp : Lang
Exp = One is_e then Maybe (One is_sign) then Digits

unfoldable pub Number : Lang
Number = Maybe (One (is (code "-"))) then Int then Maybe Frac then Maybe Exp

-- ---- section 7: strings, their characters in UTF-8 (section 8.1)

unfoldable pub is_hex : ℕ → Bool
is_hex c = between (code "0") (code "9") c || between (code "A") (code "F") c || between (code "a") (code "f") c

-- what may stand after a backslash, besides u: " \ / b f n r t
unfoldable pub is_short : ℕ → Bool
is_short c = eqb c (code "\"") || eqb c (code "\\") || eqb c (code "/") || eqb c (code "b") || eqb c (code "f") || eqb c (code "n") || eqb c (code "r") || eqb c (code "t")

-- %x20-21 / %x23-5B / %x5D-7F, and characters of several bytes
unfoldable pub is_plain : ℕ → Bool
is_plain c = between 32 33 c || between 35 91 c || between 93 127 c

-- one character of several bytes: UTF-8 of which no part is whole characters
unfoldable pub Wide : Lang
Wide s = (utf8 s ≡ true) × (128 ≤ first s) × (first s < 256) × ((a b : Bytes) → s ≡ a ++ b → utf8 a ≡ true → (a ≡ []) ⊎ (b ≡ []))

unfoldable pub Character : Lang
Character =
    One is_plain or Wide or (One (is (code "\\")) then One is_short)
    or (One (is (code "\\")) then One (is (code "u")) then One is_hex then One is_hex then One is_hex then One is_hex)

unfoldable pub String : Lang
String = One (is (code "\"")) then Many Character then One (is (code "\""))

-- ---- sections 3 to 5: values; the depth is the number of arrays and objects around what is inside

unfoldable pub Scalar : Lang
Scalar = Exactly (ascii "true") or Exactly (ascii "false") or Exactly (ascii "null") or Number or String

unfoldable pub Array : Lang → Lang
Array Item = Mark (code "[") then Maybe (Item then Many (Mark (code ",") then Item)) then Mark (code "]")

unfoldable pub Named : Lang → Lang
Named Item = String then Mark (code ":") then Item

unfoldable pub Object : Lang → Lang
Object Item = Mark (code "{") then Maybe (Named Item then Many (Mark (code ",") then Named Item)) then Mark (code "}")

unfoldable pub Value : ℕ → Lang
Value zero = Scalar
Value (suc d) = Scalar or Array (Value d) or Object (Value d)

-- ---- section 2: JSON-text

unfoldable pub Text : ℕ → Lang
Text d = Ws then Value d then Ws

-- ---- the place of refusal 11, in 01's words

-- JSON of depth d can still follow these bytes
unfoldable pub Completes : ℕ → Lang
Completes d p = (q : Bytes) × Text d (p ++ q)

-- the offset of the first byte at which no JSON of depth d can still follow; the length if the text only stops short
pub record FirstBad (d : ℕ) (s : Bytes) (n : ℕ) : Type 0 where
  pub within : n ≤ length s
  pub before : Completes d (take n s)
  pub no_text : Text d s → ⊥
  pub with_it : n < length s → Completes d (take (suc n) s) → ⊥
