-- What a JSON text may have at a place, said once more from RFC 8259 as the list of its bytes: of the 256 texts with each byte there, those that are read.
use Rattle.std.specs.Prelude.{◌≡◌, Bool, true, false, [], ◌∷◌, ◌++◌, map, replicate}
use Rattle.std.proofs.Math.Option.{Option, none, some}
use Rattle.text.specs.Choice.{with-some}
use Rattle.text.specs.Bytes.{Bytes, ascii, flat}
use Rattle.text.specs.Listed.{count_from, bytes_that, changes}
use Rattle.json_text.specs.Tree.{as_string}
use Rattle.json_text.specs.Grammar.{is_space, is_e, is_sign, is_hex, is_short, is_plain}
use Rattle.json_text.specs.Read.{Reading, tree, refused, reading}
use Rattle.json_text.specs.Compact.{spelled_all}

abbrev pub is_read : Reading → Bool
is_read (tree j) = true
is_read (refused n) = false

abbrev pub string_of : Reading → Option Bytes
string_of (tree j) = as_string j
string_of (refused n) = none

-- the bytes that may stand between these two parts of a text
abbrev pub fitting : Bytes → Bytes → Bytes
fitting a b = bytes_that (λ c. is_read (reading 16 (a ++ c ∷ b)))

-- the same where the text is a string: each of them with the string
abbrev pub standing : Bytes → Bytes → Bytes
standing a b = flat (map (λ c. with-some (string_of (reading 16 (a ++ c ∷ b))) (λ s. c ∷ s) []) (count_from 0 256))

pub record ListedJson : Type 0 where
  -- section 2: white space, before and after every structural character and the text
  pub spaces : bytes_that is_space ≡ ascii "\t\n\r "
  pub space-places :
      fitting [] (ascii "[]") ∷ fitting (ascii "[]") [] ∷ fitting (ascii "[[]") (ascii "]") ∷ fitting (ascii "[[]") (ascii ",[]]") ∷ fitting (ascii "[[],") (ascii "[]]")
      ∷ fitting (ascii "{") (ascii "\"a\":[]}") ∷ fitting (ascii "{\"a\"") (ascii ":[]}") ∷ fitting (ascii "{\"a\":") (ascii "[]}") ∷ fitting (ascii "{\"a\":[]") (ascii "}")
      ∷ fitting (ascii "{\"a\":[],") (ascii "\"b\":[]}") ∷ fitting (ascii "{") (ascii "}") ∷ []
      ≡ replicate 11 (ascii "\t\n\r ")
  -- section 6: numbers
  pub one_byte : fitting [] [] ≡ ascii "0123456789"
  pub before-one : fitting [] (ascii "1") ≡ ascii "\t\n\r -123456789"
  pub after_one : fitting (ascii "1") [] ≡ ascii "\t\n\r 0123456789"
  pub after-zero : fitting (ascii "0") [] ≡ ascii "\t\n\r "
  pub after_minus : fitting (ascii "-") [] ≡ ascii "0123456789"
  pub after-point : fitting (ascii "1.") [] ≡ ascii "0123456789"
  pub inside : fitting (ascii "1") (ascii "1") ≡ ascii ".0123456789Ee"
  pub after-e : fitting (ascii "1e") (ascii "1") ≡ ascii "+-0123456789"
  pub es : bytes_that is_e ≡ ascii "Ee"
  pub signs : bytes_that is_sign ≡ ascii "+-"
  -- section 7: strings. Every byte stands for itself but controls, the quote and the backslash; from 128 on none stands alone
  pub plain : standing (ascii "\"") (ascii "\"")
      ≡ flat (map (λ c. c ∷ c ∷ []) (ascii " !#$%&'()*+,-./0123456789:;<=>?@ABCDEFGHIJKLMNOPQRSTUVWXYZ[]^_`abcdefghijklmnopqrstuvwxyz{|}~\u{7f}"))
  pub plains : bytes_that is_plain ≡ ascii " !#$%&'()*+,-./0123456789:;<=>?@ABCDEFGHIJKLMNOPQRSTUVWXYZ[]^_`abcdefghijklmnopqrstuvwxyz{|}~\u{7f}"
  -- after a backslash, each with what it stands for
  pub escapes : standing (ascii "\"\\") (ascii "\"") ≡ ascii "\"\"//\\\\b\u{8}f\u{c}n\nr\rt\t"
  pub shorts : bytes_that is_short ≡ ascii "\"/\\bfnrt"
  -- hex digits, each with the character of that number from U+0040 on; and at each of the four places
  pub hex : standing (ascii "\"\\u004") (ascii "\"") ≡ ascii "0@1A2B3C4D5E6F7G8H9IAJBKCLDMENFOaJbKcLdMeNfO"
  pub hex-places : fitting (ascii "\"\\u") (ascii "041\"") ∷ fitting (ascii "\"\\u0") (ascii "41\"") ∷ fitting (ascii "\"\\u00") (ascii "1\"") ∷ fitting (ascii "\"\\u004") (ascii "\"") ∷ []
      ≡ replicate 4 (ascii "0123456789ABCDEFabcdef")
  pub hexes : bytes_that is_hex ≡ ascii "0123456789ABCDEFabcdef"
  -- surrogates: D800 to DFFF are none alone; the first and the last pair are U+10000 and U+10FFFF
  pub alone : map (λ s. is_read (reading 16 s)) (ascii "\"\\ud7ff\"" ∷ ascii "\"\\ud800\"" ∷ ascii "\"\\udbff\"" ∷ ascii "\"\\udc00\"" ∷ ascii "\"\\udfff\"" ∷ ascii "\"\\ue000\"" ∷ [])
      ≡ true ∷ false ∷ false ∷ false ∷ false ∷ true ∷ []
  pub paired : map (λ s. string_of (reading 16 s)) (ascii "\"\\ud800\\udc00\"" ∷ ascii "\"\\udbff\\udfff\"" ∷ ascii "\"\\ud800\\ue000\"" ∷ ascii "\"\\udbff\\udbff\"" ∷ [])
      ≡ some (0xf0 ∷ 0x90 ∷ 0x80 ∷ 0x80 ∷ []) ∷ some (0xf4 ∷ 0x8f ∷ 0xbf ∷ 0xbf ∷ []) ∷ none ∷ none ∷ []
  -- 01: strings escape `"`, `\`, controls and DEL (\b \t \n \f \r, else \u00 and lower-case hex)
  pub written : changes (λ c. spelled_all (c ∷ []))
      ≡ (0 ∷ ascii "\\u0000") ∷ (1 ∷ ascii "\\u0001") ∷ (2 ∷ ascii "\\u0002") ∷ (3 ∷ ascii "\\u0003") ∷ (4 ∷ ascii "\\u0004")
      ∷ (5 ∷ ascii "\\u0005") ∷ (6 ∷ ascii "\\u0006") ∷ (7 ∷ ascii "\\u0007") ∷ (8 ∷ ascii "\\b") ∷ (9 ∷ ascii "\\t") ∷ (10 ∷ ascii "\\n")
      ∷ (11 ∷ ascii "\\u000b") ∷ (12 ∷ ascii "\\f") ∷ (13 ∷ ascii "\\r") ∷ (14 ∷ ascii "\\u000e") ∷ (15 ∷ ascii "\\u000f")
      ∷ (16 ∷ ascii "\\u0010") ∷ (17 ∷ ascii "\\u0011") ∷ (18 ∷ ascii "\\u0012") ∷ (19 ∷ ascii "\\u0013") ∷ (20 ∷ ascii "\\u0014")
      ∷ (21 ∷ ascii "\\u0015") ∷ (22 ∷ ascii "\\u0016") ∷ (23 ∷ ascii "\\u0017") ∷ (24 ∷ ascii "\\u0018") ∷ (25 ∷ ascii "\\u0019")
      ∷ (26 ∷ ascii "\\u001a") ∷ (27 ∷ ascii "\\u001b") ∷ (28 ∷ ascii "\\u001c") ∷ (29 ∷ ascii "\\u001d") ∷ (30 ∷ ascii "\\u001e")
      ∷ (31 ∷ ascii "\\u001f") ∷ (34 ∷ ascii "\\\"") ∷ (92 ∷ ascii "\\\\") ∷ (127 ∷ ascii "\\u007f") ∷ []
