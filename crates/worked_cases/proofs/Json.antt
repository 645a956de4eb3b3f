-- Worked cases of JSON, by hand: RFC 8259's grammar with the place of refusal 11, what is written compactly, and the look-up.
use mathlib.Core.Path.{◌≡◌, refl}
use mathlib.Core.List.{List, [], ◌∷◌, ◌++◌, map}
use Prim.Native.Nat.{ℕ}
use Prim.Native.String.{String}
use Rattle.text.specs.Bytes.{Bytes, ascii}
use Rattle.json_text.specs.Read.{Reading, tree, refused, reading}
use Rattle.json_text.specs.Compact.{compact}
use Rattle.json_text.specs.Lookup.{look_up, part_of}
use Rattle.json_text.proofs.Opened.{json-opened}
use Rattle.convert.specs.Answers.{Answer, no, yes}
use Rattle.convert.specs.Worked.{text, worked-opened}

-- what is read, written compactly, or 11 with its place
abbrev answer : Reading → Answer
answer (tree j) = yes (compact j)
answer (refused p) = no 11 p

pub data Text : Type 0 where
  reads : (s compacted : Bytes) → Text
  fails-at : ℕ → (s : Bytes) → Text

unfoldable pub read_by : Text → Answer
read_by (reads s c) = answer (reading 16 s)
read_by (fails-at p s) = answer (reading 16 s)

unfoldable pub meant : Text → Answer
meant (reads s c) = yes c
meant (fails-at p s) = no 11 p

-- texts of one place; a text that is written as it stands
abbrev all-at : ℕ → List String → List Text
all-at p ss = map (λ s. fails-at p (text s)) ss

abbrev stays : String → Text
stays s = reads (text s) (text s)

unfoldable pub grammar : List Text
grammar =
    -- literals and numbers, as spelled
    stays "null" ∷ stays "true" ∷ stays "false" ∷ stays "0" ∷ stays "-0" ∷ stays "10" ∷ stays "1.50" ∷ stays "-1.0e5" ∷ stays "1E+05" ∷ stays "0e-0" ∷ []
    ++ all-at 0 ("True" ∷ "NULL" ∷ "+1" ∷ ".5" ∷ "a" ∷ "]" ∷ "}" ∷ "," ∷ ":" ∷ "\\" ∷ "/" ∷ [])
    ++ all-at 1 ("01" ∷ "1a" ∷ "0x1" ∷ "-a" ∷ "-" ∷ "-.5" ∷ "tRue" ∷ [])
    ++ all-at 2 ("1.a" ∷ "1." ∷ "1ea" ∷ "1e" ∷ "-01" ∷ "1 1" ∷ "1 ,1" ∷ "nu l" ∷ "{}{" ∷ "[]]" ∷ [])
    ++ all-at 3 ("tru" ∷ "nul" ∷ "1e+" ∷ "1e+a" ∷ "1.5.2" ∷ "1.0-" ∷ "1e5e" ∷ [])
    ++ all-at 4 ("nulll" ∷ "true1" ∷ "fals" ∷ [])
    -- white space is space, tab, LF and CR alone
    ++ reads (text " \t|^[ \t|^1 \t|^, \t|^{ \t|^'a' \t|^: \t|^2 \t|^} \t|^] \t|^") (text "[1,{'a':2}]")
    ∷ map (λ s. fails-at 1 (91 ∷ s ++ ascii "1]")) ((11 ∷ []) ∷ (12 ∷ []) ∷ (0 ∷ []) ∷ (8 ∷ []) ∷ (31 ∷ []) ∷ (127 ∷ []) ∷ (0xc2 ∷ 0xa0 ∷ []) ∷ (0xe2 ∷ 0x80 ∷ 0xa8 ∷ []) ∷ (0xef ∷ 0xbb ∷ 0xbf ∷ []) ∷ [])
    -- arrays
    ++ stays "[]" ∷ stays "[[],{}]" ∷ stays "[1,'a',null]"
    ∷ all-at 1 ("[" ∷ "[,1]" ∷ "[}" ∷ [])
    ++ all-at 2 ("[1" ∷ "[1}" ∷ "[1:2]" ∷ [])
    ++ all-at 3 ("[1,]" ∷ "[1," ∷ "[1,,2]" ∷ "[1 2]" ∷ [])
    -- objects
    ++ stays "{}" ∷ stays "{'':0}" ∷ stays "{'a':1,'A':2}" ∷ stays "{'a':{'a':1},'b':{'a':1}}"
    ∷ all-at 1 ("{" ∷ "{a:1}" ∷ "{1:2}" ∷ "{,}" ∷ "{]" ∷ "{null:1}" ∷ [])
    ++ all-at 4 ("{'a'" ∷ "{'a'}" ∷ "{'a',1}" ∷ "{'a'=1}" ∷ [])
    ++ all-at 5 ("{'a':" ∷ "{'a':}" ∷ "{'a':,}" ∷ "{'a'::1}" ∷ [])
    ++ all-at 6 ("{'a':1" ∷ "{'a':1]" ∷ "{'a':1:2}" ∷ "{'a':1'b':2}" ∷ [])
    ++ all-at 7 ("{'a':1,}" ∷ "{'a':1," ∷ "{'a':1,,'b':2}" ∷ "{'a':1,2}" ∷ [])
    -- strings: each escape
    ++ reads (ascii "\"\\\"\\\\\\/\\b\\f\\n\\r\\t\"") (ascii "\"\\\"\\\\/\\b\\f\\n\\r\\t\"")
    ∷ reads (ascii "\"\\u0041\\u00e9\\u00C9\\u20AC\\uD83D\\uDE00\\u002f\\u0022\\u005C\\u007f\\u0000\"") (text "'AéÉ€😀/" ++ ascii "\\\"\\\\\\u007f\\u0000\"")
    ∷ reads (ascii "\"\u{7f}'\"") (ascii "\"\\u007f'\"")
    ∷ map (λ s. fails-at 2 (ascii s)) ("\"\\'\"" ∷ "\"\\a\"" ∷ "\"\\v\"" ∷ "\"\\0\"" ∷ "\"\\x41\"" ∷ "\"\\N\"" ∷ "\"\\U0041\"" ∷ "\"\\ \"" ∷ [])
    ++ map (λ s. fails-at 3 (ascii s)) ("\"\\ug041\"" ∷ "\"\\u\"" ∷ "\"\\u-041\"" ∷ [])
    ++ map (λ s. fails-at 6 (ascii s)) ("\"\\u004\"" ∷ "\"\\u004G\"" ∷ "\"\\u004" ∷ [])
    -- a control as it is; a string that stops short
    ++ map (λ c. fails-at 2 (34 ∷ 97 ∷ c ∷ 34 ∷ [])) (0 ∷ 1 ∷ 8 ∷ 9 ∷ 10 ∷ 11 ∷ 12 ∷ 13 ∷ 27 ∷ 31 ∷ [])
    ++ all-at 1 ("'" ∷ []) ++ all-at 2 ("'a" ∷ "'\\" ∷ [])
    -- equal names, decoded; a surrogate alone, a low one first, two high ones: 0
    ++ all-at 0 ("{'a':1,'b':2,'a':3}" ∷ "[{'a':1,'\\u0061':1}]" ∷ "{'':1,'':2}" ∷ "'\\ud800'" ∷ "'\\udbff\\u0041'" ∷ "'\\udc00'" ∷ "'\\udfff\\ud800'" ∷ "'\\ud800\\ud800\\udc00'" ∷ "{'\\ud800':1}" ∷ [])

pub grammar-hold : map read_by grammar ≡ map meant grammar
unfolding grammar read_by meant json-opened worked-opened
grammar-hold = refl

-- ---- the look-up: that very part of the text, without the white space around it

-- a text, a name, and the part
pub data Sought : Type 0 where
  finds : (s name part : Bytes) → Sought

unfoldable pub found : Sought → Bytes
found (finds s n p) = part_of s (look_up s n)

unfoldable pub meant-part : Sought → Bytes
meant-part (finds s n p) = p

-- the text that is looked up in
abbrev sample : Bytes
sample = text " { 'a' :  [ 1 , 2 ] ,'b':{ 'c' : 3 },|'\\u0064\\u00e9':'x\\u0041', '' : -1.50 ,'A':null , 'e\\n':true } "

unfoldable pub looked-up : List Sought
looked-up =
    finds sample (ascii "a") (ascii "[ 1 , 2 ]") ∷ finds sample (ascii "b") (text "{ 'c' : 3 }") ∷ finds sample (text "dé") (text "'x\\u0041'") ∷ finds sample [] (ascii "-1.50")
    ∷ finds sample (ascii "A") (ascii "null") ∷ finds sample (ascii "e\n") (ascii "true")
    -- no such name at the top: a nested one, one in another case, a part of one, the spelling of one
    ∷ finds sample (ascii "c") [] ∷ finds sample (ascii "B") [] ∷ finds sample (ascii "aa") [] ∷ finds sample (ascii "e") [] ∷ finds sample (ascii "\\u0064\\u00e9") [] ∷ finds sample (ascii "d") []
    -- no object; 11
    ∷ finds (text "[{'a':1}]") (ascii "a") [] ∷ finds (text "'a'") (ascii "a") [] ∷ finds (text "{}") [] [] ∷ finds [] [] []
    ∷ finds (text "{'a':1,'b':2") (ascii "a") [] ∷ finds (text "{'a':1,'b':2,'b':3}") (ascii "a") [] ∷ finds (text "{'a':1,'b':'\\ud800'}") (ascii "a") [] ∷ finds (text "{'a':1} x") (ascii "a") []
    ∷ finds (text "{'a':[[[[[[[[[[[[[[[]]]]]]]]]]]]]]]}") (ascii "a") (ascii "[[[[[[[[[[[[[[[]]]]]]]]]]]]]]]") ∷ finds (text "{'a':[[[[[[[[[[[[[[[[]]]]]]]]]]]]]]]]}") (ascii "a") []
    ∷ []

pub looked-up-hold : map found looked-up ≡ map meant-part looked-up
unfolding looked-up found meant-part json-opened worked-opened
looked-up-hold = refl
