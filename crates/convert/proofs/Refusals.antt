-- Each refusal number with its place, and their order.
use mathlib.Core.Path.{◌≡◌, refl}
use mathlib.Core.List.{List, [], ◌∷◌, ◌++◌, map}
use lib.ListN.{replicate}
use Rattle.text.specs.Bytes.{ascii}
use Rattle.convert.specs.Answers.{no, yes, card_to_json, json_to_card}
use Rattle.convert.proofs.Opened.{convert-opened}
use Rattle.convert.specs.Worked.{text, card, lines, made, json, Case, refuses, turns-away, given, wanted, worked-opened}

unfoldable pub refusals : List Case
refusals =
    -- 1: BEGIN first, END last, no other such line
    refuses (text "VERSION:4.0|FN:a|END:VCARD|") 1 0
    ∷ refuses (text "BEGIN:VCARD|VERSION:4.0|FN:a|") 1 0
    ∷ refuses (card "VERSION:4.0|begin:vcard|FN:a") 1 0
    ∷ refuses (card "VERSION:4.0|FN:a|End:VCard|FN:b") 1 0
    -- 4, before 5 wherever it stands
    ∷ refuses (card "VERSION:4.0|no colon|FN:\u{7}") 4 3
    ∷ refuses (ascii "BEGIN:VCARD\nVERSION:4.0\nFN:" ++ (195 ∷ 40 ∷ []) ++ ascii "\nEND:VCARD\n") 4 2
    -- 5
    ∷ refuses (card "VERSION:4.0|FN:a|TEL;HOME:1") 5 3
    ∷ refuses (card "VERSION:4.0|FN:a|X;A='b'c:1") 5 3
    ∷ refuses (card "no colon|UID:|UID:") 5 1
    -- 6, before 7
    ∷ refuses (card "VERSION:3.0|FN;GROUP=g:a") 6 0
    ∷ refuses (card "a.VERSION:4.0|FN:a") 6 0
    -- 7, before 8
    ∷ refuses (card "VERSION:4.0|UID:1|UID:2|UID;TYPE=x:3|FN:a") 7 4
    ∷ refuses (lines "X;group=a:b") 7 3
    ∷ refuses (lines "X;VALUE=uri,text:b") 7 3
    ∷ refuses (lines "X;VALUE='a b':c") 7 3
    -- 8, before 9
    ∷ refuses (lines "KIND:org|KIND:") 8 4
    ∷ refuses (lines "a.VERSION:4.0") 8 3
    -- 9, before 10
    ∷ refuses (card "VERSION:4.0|NOTE:n|UID:") 9 3
    ∷ refuses (lines "KIND:a\\,b") 9 3
    -- 10
    ∷ refuses (card "VERSION:4.0|N:a") 10 0
    -- 11
    ∷ turns-away (text "{'a':1,}") 11 7
    ∷ turns-away (text "{'@type") 11 7
    ∷ turns-away (json ",'a':1,'a':2") 11 0
    ∷ turns-away (json ",'a':'\\ud800'") 11 0
    -- 12, before 13
    ∷ turns-away (text "[]") 12 0
    ∷ turns-away (json ",'':1,'notes':{'a':{'note':'\\u0007'}}") 12 0
    ∷ turns-away (text "{'@type':'Card','version':'1.0','uid':''}") 12 0
    -- 13
    ∷ turns-away (json ",'notes':{'a':{'note':'\\u0007'}}") 13 0
    ∷ turns-away (json ",'a\\'b':1") 13 0
    ∷ []

pub refusals-hold : map given refusals ≡ map wanted refusals
unfolding refusals convert-opened worked-opened
refusals-hold = refl

-- ---- what depends on the stem, the number or the room

-- 15, before all else
stem-first : card_to_json (ascii "a b") 1 0 [] ≡ no 15 0
unfolding convert-opened
stem-first = refl

number-first : card_to_json (ascii "reg") 1000000 0 [] ≡ no 15 0
unfolding convert-opened
number-first = refl

-- 3: the input, and for JSON to card
input-over : card_to_json (ascii "reg") 1 65536 (replicate 32769 10) ≡ no 3 0
unfolding convert-opened
input-over = refl

-- the supposed LF is counted
supposed-over : card_to_json (ascii "reg") 1 65536 (replicate 32768 65) ≡ no 3 0
unfolding convert-opened
supposed-over = refl

-- 3 comes before 1 (the input) and after it (the lines)
lines-over : card_to_json (ascii "reg") 1 65536 (ascii "BEGIN:VCARD\n" ++ replicate 513 10 ++ ascii "END:VCARD\n") ≡ no 3 0
unfolding convert-opened
lines-over = refl

lines-just : card_to_json (ascii "reg") 1 65536 (ascii "BEGIN:VCARD\n" ++ replicate 512 10 ++ ascii "END:VCARD\n") ≡ no 5 1
unfolding convert-opened
lines-just = refl

json-over : json_to_card 32768 (replicate 65537 32) ≡ no 3 0
unfolding convert-opened
json-over = refl

-- 14: one byte short of room
room-short : card_to_json (ascii "reg") 1 65 (card "VERSION:4.0|FN:a") ≡ no 14 0
unfolding convert-opened worked-opened
room-short = refl

room-just : card_to_json (ascii "reg") 1 66 (card "VERSION:4.0|FN:a") ≡ yes (made "")
unfolding convert-opened worked-opened
room-just = refl
