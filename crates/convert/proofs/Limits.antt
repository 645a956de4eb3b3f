-- 01's limits and orders, each by an input on either side. Where the input is too long to compute, a law has the number.
use mathlib.Core.Path.{◌≡◌, refl}
use mathlib.Core.Bool.{true, not, ◌&&◌}
use mathlib.Core.List.{List, [], ◌∷◌, ◌++◌, map}
use Prim.Native.Nat.{ℕ}
use lib.ListN.{length, replicate}
use lib.Dec.{ltb}
use Rattle.text.specs.Choice.{pick}
use Rattle.text.specs.Bytes.{Bytes, ascii, flat}
use Rattle.json_text.specs.Read.{reading}
use Rattle.line.specs.Grammar.{Line}
use Rattle.line.specs.Physical.{size_of}
use Rattle.convert.specs.Model.{Card}
use Rattle.convert.specs.FromCard.{card_of_lines}
use Rattle.convert.specs.Carry.{carried}
use Rattle.convert.specs.ToCard.{card_lines, print_card}
use Rattle.convert.specs.ToJson.{print_json}
use Rattle.convert.specs.Answers.{no, yes, seek, is_stem_text, is_card_number, raw_lines, line_tests, convert_lines, convert_card, card_to_json, convert_model, convert_tree, json_to_card}
use Rattle.convert.proofs.Opened.{convert-opened}
use Rattle.convert.proofs.Demand1.{fitted-grounds, model_is}
use Rattle.convert.specs.Worked.{text, card, lines, made, json, home_lines, Case, converts, refuses, comes_home, turns-away, returns_as, given, wanted, worked-opened}

-- ---- room: laws, for every input

-- a card has at most 32,768 bytes, the supposed LF counted: 3 exactly over that, and before the frame is looked for
pub card-bytes : (stem : Bytes) (n lent : ℕ) (s : Bytes) → is_stem_text stem && is_card_number n ≡ true
    → card_to_json stem n lent s ≡ pick (ltb 32768 (size_of s)) (no 3 0) (convert_card stem n lent (raw_lines s))
unfolding card_to_json
card-bytes stem n lent s v = rw v

-- JSON has at most 65,536 bytes and depth 16
pub json-bytes : (lent : ℕ) (s : Bytes) → json_to_card lent s ≡ pick (ltb 65536 (length s)) (no 3 0) (convert_tree lent (reading 16 s))
unfolding json_to_card
json-bytes lent s = refl

-- a result: 3 exactly over its room, and then 14 exactly over the lent output
pub json-result : (stem : Bytes) (n lent : ℕ) (raw : List Bytes) (ls : List Line)
    → convert_lines stem n lent raw ls
    ≡ seek (line_tests raw ls) (pick (ltb 65536 (length (print_json (card_of_lines stem n ls)))) (no 3 0)
    (pick (ltb lent (length (print_json (card_of_lines stem n ls)))) (no 14 0) (yes (print_json (card_of_lines stem n ls)))))
unfolding convert_lines
json-result stem n lent raw ls = rw (fitted-grounds 65536 lent (print_json (card_of_lines stem n ls)))

-- of JSON to card: 13, then 512 lines, then 32,768 bytes, then the output
pub card-result : (lent : ℕ) (c : Card)
    → convert_model lent c
    ≡ pick (not (carried c)) (no 13 0) (pick (ltb 512 (length (card_lines c))) (no 3 0)
    (pick (ltb 32768 (length (print_card c))) (no 3 0) (pick (ltb lent (length (print_card c))) (no 14 0) (yes (print_card c)))))
card-result lent c = model_is lent c

-- ---- lines: 512, and 3 before 4

-- VERSION, FN and so many lines of one byte and a colon
abbrev many : ℕ → Bytes
many n = ascii "BEGIN:VCARD\nVERSION:4.0\nFN:a\n" ++ flat (replicate n (ascii "X:\n")) ++ ascii "FN:\u{7}\nEND:VCARD\n"

control-just : card_to_json (ascii "reg") 1 65536 (many 509) ≡ no 4 512
unfolding convert-opened
control-just = refl

control-over : card_to_json (ascii "reg") 1 65536 (many 510) ≡ no 3 0
unfolding convert-opened
control-over = refl

-- ---- stem, number, key

stem-200 : card_to_json (replicate 200 97) 1 65536 (card "VERSION:4.0|FN:a|UID:u") ≡ yes (text "{'@type':'Card','version':'1.0','uid':'u','name':{'full':'a'}}")
unfolding convert-opened worked-opened
stem-200 = refl

stem-201 : card_to_json (replicate 201 97) 1 65536 (card "VERSION:4.0|FN:a|UID:u") ≡ no 15 0
unfolding convert-opened worked-opened
stem-201 = refl

stem-0 : card_to_json [] 1 65536 (card "VERSION:4.0|FN:a|UID:u") ≡ no 15 0
unfolding convert-opened worked-opened
stem-0 = refl

number-999999 : card_to_json (ascii "reg") 999999 65536 (card "VERSION:4.0|FN:a") ≡ yes (text "{'@type':'Card','version':'1.0','uid':'reg-999999','name':{'full':'a'}}")
unfolding convert-opened worked-opened
number-999999 = refl

number-1000000 : card_to_json (ascii "reg") 1000000 65536 (card "VERSION:4.0|FN:a") ≡ no 15 0
unfolding convert-opened worked-opened
number-1000000 = refl

number-0 : card_to_json (ascii "reg") 0 65536 (card "VERSION:4.0|FN:a") ≡ no 15 0
unfolding convert-opened worked-opened
number-0 = refl

-- a NOTE whose PROP-ID is so long
abbrev keyed_note : ℕ → Bytes
keyed_note n = ascii "BEGIN:VCARD\nVERSION:4.0\nFN:a\nNOTE;PROP-ID=" ++ replicate n 107 ++ ascii ":x\nEND:VCARD\n"

key-255 : card_to_json (ascii "reg") 1 65536 (keyed_note 255) ≡ yes (text "{'@type':'Card','version':'1.0','uid':'reg-1','name':{'full':'a'},'notes':{'" ++ replicate 255 107 ++ text "':{'note':'x'}}}")
unfolding convert-opened worked-opened
key-255 = refl

key-256 : card_to_json (ascii "reg") 1 65536 (keyed_note 256)
    ≡ yes (text "{'@type':'Card','version':'1.0','uid':'reg-1','name':{'full':'a'},'vCardProps':[['note',{'prop-id':'" ++ replicate 256 107 ++ text "'},'unknown','x']]}")
unfolding convert-opened worked-opened
key-256 = refl

-- ---- counts, depth, TYPE

unfoldable pub limits : List Case
limits =
    -- 32 parameters, and 33
    converts (card "VERSION:4.0|FN:a|X;A=;B=;C=;D=;E=;F=;G=;H=;I=;J=;K=;L=;M=;N=;O=;P=;Q=;R=;S=;T=;U=;V=;W=;X=;Y=;Z=;A1=;B1=;C1=;D1=;E1=;F1=:")
    (made ",'vCardProps':[['x',{'a':'','b':'','c':'','d':'','e':'','f':'','g':'','h':'','i':'','j':'','k':'','l':'','m':'','n':'','o':'','p':'','q':'','r':'','s':'','t':'','u':'','v':'','w':'','x':'','y':'','z':'','a1':'','b1':'','c1':'','d1':'','e1':'','f1':''},'unknown','']]")
    ∷ refuses (lines "X;A=;B=;C=;D=;E=;F=;G=;H=;I=;J=;K=;L=;M=;N=;O=;P=;Q=;R=;S=;T=;U=;V=;W=;X=;Y=;Z=;A1=;B1=;C1=;D1=;E1=;F1=;G1=:") 5 3
    -- 64 values, and 65
    ∷ converts (lines "X;A=,,,,,,,,,,,,,,,,,,,,,,,,,,,,,,,,,,,,,,,,,,,,,,,,,,,,,,,,,,,,,,,:")
    (made ",'vCardProps':[['x',{'a':['','','','','','','','','','','','','','','','','','','','','','','','','','','','','','','','','','','','','','','','','','','','','','','','','','','','','','','','','','','','','','','','']},'unknown','']]")
    ∷ refuses (lines "X;A=,,,,,,,,,,,,,,,,,,,,,,,,,,,,,,,,,,,,,,,,,,,,,,,,,,,,,,,,,,,,,,,,:") 5 3
    -- depth 16, the outer object included, and 17; of a JSPROP line 15, and 16
    ∷ comes_home (json ",'a':[[[[[[[[[[[[[[[]]]]]]]]]]]]]]]") (home_lines "FN;DERIVED=TRUE:^|JSPROP;JSPTR='a':[[[[[[[[[[[[[[[]]]]]]]]]]]]]]]")
    ∷ turns-away (json ",'a':[[[[[[[[[[[[[[[[]]]]]]]]]]]]]]]]") 11 61
    ∷ converts (lines "JSPROP;JSPTR='a':[[[[[[[[[[[[[[[]]]]]]]]]]]]]]]") (made ",'a':[[[[[[[[[[[[[[[]]]]]]]]]]]]]]]")
    ∷ converts (lines "JSPROP;JSPTR='a':[[[[[[[[[[[[[[[[]]]]]]]]]]]]]]]]") (made ",'vCardProps':[['jsprop',{'jsptr':'a'},'unknown','[[[[[[[[[[[[[[[[]]]]]]]]]]]]]]]]']]")
    -- all nine values of TYPE: contexts first, each alphabetical by JSON name
    ∷ converts (lines "TEL;TYPE=voice,video,textphone,text,pager,cell,fax,work,home:1")
    (made ",'phones':{'PHONE-1':{'number':'1','contexts':{'private':true,'work':true},'features':{'fax':true,'mobile':true,'pager':true,'text':true,'textphone':true,'video':true,'voice':true}}}")
    ∷ returns_as (card "VERSION:4.0|UID:u|FN:a|TEL;TYPE=voice,video,textphone,text,pager,cell,fax,work,home:1")
    (home_lines "FN:a^|TEL;PROP-ID=PHONE-1;TYPE=home,work,fax,cell,pager,text,textphone,video,voic^| e:1")
    ∷ comes_home (json ",'phones':{'k':{'number':'1','features':{'voice':true,'video':true,'textphone':true,'text':true,'pager':true,'mobile':true,'fax':true},'contexts':{'work':true,'private':true}}}")
    (home_lines "FN;DERIVED=TRUE:^|TEL;PROP-ID=k;TYPE=home,work,fax,cell,pager,text,textphone,video,voice:1")
    ∷ []

pub limits-hold : map given limits ≡ map wanted limits
unfolding limits convert-opened worked-opened
limits-hold = refl
