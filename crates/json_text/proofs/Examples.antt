-- JSON by worked examples: the place of refusal 11, decoding, compact writing, the look-up.
use mathlib.Core.Path.{◌≡◌, refl}
use mathlib.Core.List.{List, [], ◌∷◌, ◌++◌, map}
use lib.ListN.{replicate}
use Rattle.text.specs.Bytes.{Bytes, ascii}
use Rattle.text.specs.Utf8.{encoded}
use Rattle.json_text.specs.Read.{Reading, tree, refused, reading}
use Rattle.json_text.specs.Compact.{compact}
use Rattle.json_text.specs.Lookup.{look_up, part_of}
use Rattle.json_text.proofs.Opened.{json-opened}

-- ---- places

abbrev readings : List Bytes → List Reading
readings ss = map (reading 16) ss

places : readings (
    -- grammar
    ascii "[01]" ∷ ascii "[1.]" ∷ ascii "nulx" ∷ ascii "{\"a\":1,}" ∷ ascii "[1 2]" ∷ ascii "\"\\x\"" ∷ ascii "\"\t\"" ∷ ascii "1 x"
    -- stops short: the length
    ∷ [] ∷ ascii "[1" ∷ ascii "-" ∷ ascii "\"\\u12" ∷ ascii "[\"\\ud800" ∷ ascii "tru"
    -- UTF-8: the byte that breaks a sequence
    ∷ (34 ∷ 0xe0 ∷ 0x80 ∷ 34 ∷ []) ∷ (34 ∷ 0xed ∷ 0xa0 ∷ 34 ∷ []) ∷ (34 ∷ 0xc0 ∷ 34 ∷ []) ∷ (34 ∷ 0xf4 ∷ 0x90 ∷ 34 ∷ []) ∷ (0xef ∷ 0xbb ∷ 0xbf ∷ 49 ∷ [])
    -- depth: the 17th bracket
    ∷ replicate 17 91
    -- equal names and lone surrogates count only where the grammar holds to the end
    ∷ ascii "{\"a\":1,\"a\":2,}" ∷ ascii "{\"a\":1,\"\\u0061\":2}" ∷ ascii "[\"\\udc00\"]" ∷ ascii "[\"\\ud800\\ud800\"]" ∷ ascii "[{\"b\":{\"a\":1,\"a\":2}}]" ∷ [])
    ≡ map refused (2 ∷ 3 ∷ 3 ∷ 7 ∷ 3 ∷ 2 ∷ 1 ∷ 2 ∷ 0 ∷ 2 ∷ 1 ∷ 5 ∷ 8 ∷ 3 ∷ 2 ∷ 2 ∷ 1 ∷ 2 ∷ 0 ∷ 16 ∷ 13 ∷ 0 ∷ 0 ∷ 0 ∷ 0 ∷ [])
unfolding json-opened
places = refl

-- ---- what is read, written compactly

abbrev compact_of : Reading → Bytes
compact_of (tree j) = compact j
compact_of (refused n) = []

abbrev compacts : List Bytes → List Bytes
compacts ss = map (λ s. compact_of (reading 16 s)) ss

written : compacts (ascii " { \"a\" : [ 1.50E+2 , -0 , true ] , \"\" : null } " ∷ ascii "\"\\u0041\\/\\\"\\\\\\b\\f\\n\\r\\t\\u001f\\u007f\"" ∷ encoded "\"\\ud83d\\uDE00\\u00eb\\u20ac😀\"" ∷ (replicate 16 91 ++ replicate 16 93) ∷ [])
    ≡ ascii "{\"a\":[1.50E+2,-0,true],\"\":null}" ∷ ascii "\"A/\\\"\\\\\\b\\f\\n\\r\\t\\u001f\\u007f\"" ∷ encoded "\"😀ë€😀\"" ∷ (replicate 16 91 ++ replicate 16 93) ∷ []
unfolding json-opened
written = refl

-- ---- the look-up: that very part, without the white space around it

abbrev looked : Bytes → Bytes → Bytes
looked s m = part_of s (look_up s m)

abbrev sample : Bytes
sample = ascii " {\"a\" : [1, 2] ,\"\\u0062\":{\"a\":3}, \"\": \"x\" }"

parts : looked sample (ascii "a") ∷ looked sample (ascii "b") ∷ looked sample [] ∷ looked sample (ascii "c") ∷ looked (ascii "[\"a\"]") (ascii "a") ∷ looked (ascii "{\"a\":1,}") (ascii "a") ∷ looked (ascii "{}") (ascii "a") ∷ []
    ≡ ascii "[1, 2]" ∷ ascii "{\"a\":3}" ∷ ascii "\"x\"" ∷ [] ∷ [] ∷ [] ∷ [] ∷ []
unfolding json-opened
parts = refl
