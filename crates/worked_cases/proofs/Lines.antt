-- Worked cases of 01's 'Refusal numbers' and 'Lines', by hand and in its order: the frame, folds, bytes (4), the grammar (5), VERSION (6), parameters (7),
-- second lines (8), empty values (9), no FN (10), and of two offenders the first.
use mathlib.Core.Path.{◌≡◌, refl}
use mathlib.Core.List.{List, [], ◌∷◌, ◌++◌, map}
use Prim.Native.Nat.{ℕ}
use Prim.Native.String.{String}
use Rattle.text.specs.Bytes.{Bytes, ascii}
use Rattle.convert.proofs.Opened.{convert-opened}
use Rattle.convert.specs.Worked.{text, card, lines, made, Case, converts, refuses, given, wanted, worked-opened}

-- ---- the frame (1) and folds

unfoldable pub frames : List Case
frames =
    -- BEGIN and END in any letter case, each line end its own way, the last one missing
    converts (text "begin:vCard^|version:4.0|fn:a^|eNd:VCARD") (made "")
    ∷ converts (text "BEGIN:VCARD|VERSION:4.0|FN:a|END:VCARD^|") (made "")
    -- nothing before BEGIN, after it on its line, or after END
    ∷ refuses (text "|BEGIN:VCARD|VERSION:4.0|FN:a|END:VCARD|") 1 0
    ∷ refuses (text " BEGIN:VCARD|VERSION:4.0|FN:a|END:VCARD|") 1 0
    ∷ refuses (text "BEGIN:VCARD |VERSION:4.0|FN:a|END:VCARD|") 1 0
    ∷ refuses (text "BEGIN:VCARD|VERSION:4.0|FN:a|END:VCARD|END:VCARD|") 1 0
    ∷ refuses (text "BEGIN:VCARD|VERSION:4.0|FN:a|END:VCARD|FN:b|") 1 0
    ∷ refuses (text "BEGIN:VCARD|") 1 0
    ∷ refuses (text "END:VCARD|") 1 0
    -- they are never folded
    ∷ refuses (text "BEGIN:VC| ARD|VERSION:4.0|FN:a|END:VCARD|") 1 0
    ∷ refuses (text "BEGIN:VCARD|VERSION:4.0|FN:a|END:VC| ARD|") 1 0
    -- a line that goes on is none of them
    ∷ converts (card "VERSION:4.0|FN:a| END:VCARD|\tBEGIN:VCARD") (text "{'@type':'Card','version':'1.0','uid':'reg-1','name':{'full':'aEND:VCARDBEGIN:VCARD'}}")
    -- 1 before 4 to 10
    ∷ refuses (text "BEGIN:VCARD|X|\u{1}|VERSION:3.0|") 1 0
    -- folds by space and by tab, after LF and after CR LF: one byte goes, the next blank stays
    ∷ converts (lines "NOTE:a|\tb|  c^|\t d|\t\te^| f") (made ",'notes':{'NOTE-1':{'note':'ab c d\\tef'}}")
    -- a fold anywhere in a line; one that leaves nothing
    ∷ converts (lines "n|\tot| e|\t;prop| -id=| k|\t:| x| | y|\t") (made ",'notes':{'k':{'note':'xy'}}")
    ∷ converts (lines "g| .X;A|\t='b|  c':d") (made ",'vCardProps':[['x',{'group':'g','a':'b c'},'unknown','d']]")
    -- no fold before the first line
    ∷ refuses (card "\tVERSION:4.0|FN:a") 5 1
    ∷ refuses (card " |VERSION:4.0|FN:a") 5 1
    -- a fold between any two bytes of a character; characters are looked at after unfolding
    ∷ converts (ascii "BEGIN:VCARD\nVERSION:4.0\nFN:a\nNOTE:" ++ (240 ∷ 10 ∷ 32 ∷ 159 ∷ 13 ∷ 10 ∷ 9 ∷ 152 ∷ 10 ∷ 9 ∷ 128 ∷ []) ++ ascii "\nEND:VCARD\n") (made ",'notes':{'NOTE-1':{'note':'😀'}}")
    ∷ refuses (ascii "BEGIN:VCARD\nVERSION:4.0\nFN:a\nNOTE:" ++ (195 ∷ 10 ∷ 32 ∷ 32 ∷ 169 ∷ []) ++ ascii "\nEND:VCARD\n") 4 3
    ∷ refuses (ascii "BEGIN:VCARD\nVERSION:4.0\nFN:a\nNOTE:" ++ (195 ∷ 10 ∷ 169 ∷ []) ++ ascii ":\nEND:VCARD\n") 4 3
    ∷ []

pub frames-hold : map given frames ≡ map wanted frames
unfolding frames convert-opened worked-opened
frames-hold = refl

-- ---- 4: controls, all of them

-- every control but tab; LF ends a line
abbrev controls : List ℕ
controls =
    0 ∷ 1 ∷ 2 ∷ 3 ∷ 4 ∷ 5 ∷ 6 ∷ 7 ∷ 8 ∷ 11 ∷ 12 ∷ 13 ∷ 14 ∷ 15 ∷ 16 ∷ 17 ∷ 18 ∷ 19 ∷ 20 ∷ 21 ∷ 22 ∷ 23 ∷ 24 ∷ 25 ∷ 26 ∷ 27 ∷ 28 ∷ 29 ∷ 30 ∷ 31 ∷ 127 ∷ []

-- a card whose third line has this byte in its value
abbrev holding : Bytes → Bytes
holding bs = ascii "BEGIN:VCARD\nVERSION:4.0\nFN:a\nX:b" ++ bs ++ ascii "c\nEND:VCARD\n"

unfoldable pub garbled-lines : List Case
garbled-lines =
    map (λ c. refuses (holding (c ∷ [])) 4 3) controls
    -- tab is none; LF ends the line, and what follows has no colon
    ++ converts (holding (9 ∷ [])) (made ",'vCardProps':[['x',{},'unknown','b\\tc']]")
    ∷ refuses (holding (10 ∷ [])) 5 4
    -- the bytes beside them
    ∷ converts (holding (32 ∷ 126 ∷ [])) (made ",'vCardProps':[['x',{},'unknown','b ~c']]")
    -- in a parameter, in its quotes, in a name, alone
    ∷ refuses (lines "X;A=\u{7f}:b") 4 3
    ∷ refuses (lines "X;A='\u{1}':b") 4 3
    ∷ refuses (lines "X\u{1f}:b") 4 3
    ∷ refuses (card "VERSION:4.0|FN:a|\u{b}") 4 3
    -- what is not UTF-8: a byte that begins nothing, a long form, a surrogate, past U+10FFFF, cut short
    ∷ map (λ bs. refuses (holding bs) 4 3)
    ((128 ∷ []) ∷ (191 ∷ []) ∷ (0xc0 ∷ 128 ∷ []) ∷ (0xc1 ∷ 191 ∷ []) ∷ (0xe0 ∷ 159 ∷ 191 ∷ []) ∷ (0xed ∷ 160 ∷ 128 ∷ []) ∷ (0xed ∷ 191 ∷ 191 ∷ []) ∷ (0xf0 ∷ 143 ∷ 191 ∷ 191 ∷ [])
    ∷ (0xf4 ∷ 144 ∷ 128 ∷ 128 ∷ []) ∷ (0xf5 ∷ 128 ∷ 128 ∷ 128 ∷ []) ∷ (0xff ∷ []) ∷ (0xc2 ∷ []) ∷ (0xc2 ∷ 192 ∷ []) ∷ (0xe1 ∷ 128 ∷ []) ∷ (0xe1 ∷ 128 ∷ 192 ∷ []) ∷ (0xf1 ∷ 128 ∷ 128 ∷ [])
    ∷ (0xf1 ∷ 128 ∷ 127 ∷ 128 ∷ []) ∷ [])
    -- and the ends of what is
    ++ converts (lines "X:\u{80}\u{7ff}\u{800}\u{d7ff}\u{e000}\u{ffff}𐀀\u{10ffff}") (made ",'vCardProps':[['x',{},'unknown','\u{80}\u{7ff}\u{800}\u{d7ff}\u{e000}\u{ffff}𐀀\u{10ffff}']]")
    ∷ []

pub garbled-hold : map given garbled-lines ≡ map wanted garbled-lines
unfolding garbled-lines convert-opened worked-opened
garbled-hold = refl

-- ---- 5: the grammar

-- each of these lines, after VERSION and FN, is refused so
abbrev each-is : ℕ → List String → List Case
each-is n ss = map (λ s. refuses (lines s) n 3) ss

unfoldable pub grammar : List Case
grammar =
    -- group and name: letters, digits, hyphens, non-empty; one group at most
    each-is 5 (".TEL:1" ∷ "a..TEL:1" ∷ "a.b.TEL:1" ∷ "a.:1" ∷ ":1" ∷ "TEL" ∷ "T EL:1" ∷ "TEL :1" ∷ "T_L:1" ∷ "TÉL:1" ∷ "a_b.TEL:1" ∷ "a .TEL:1" ∷ "TEL/:1" ∷ "TEL@:1" ∷ [])
    -- parameters: a name, an equals sign, values
    ++ each-is 5 ("TEL;:1" ∷ "TEL;=a:1" ∷ "TEL;A:1" ∷ "TEL;A=b" ∷ "TEL;A=b;:1" ∷ ";A=b:1" ∷ "TEL;A_=b:1" ∷ "TEL;g.A=b:1" ∷ "TEL; A=b:1" ∷ "TEL;A =b:1" ∷ [])
    -- values: bare, or quoted
    ++ each-is 5 ("X;A=b'c:" ∷ "X;A=b':" ∷ "X;A='b:" ∷ "X;A='b'c:" ∷ "X;A='b''c':" ∷ "X;A=b,'c:" ∷ "X;A='b',c'd:" ∷ [])
    -- named BEGIN or END
    ++ each-is 5 ("BEGIN:x" ∷ "begin:" ∷ "g.Begin:VCARD" ∷ "BEGIN;A=b:VCARD" ∷ "END:x" ∷ "end:" ∷ "g.END:VCARD" ∷ "End;A=b:VCARD" ∷ "END:VCARDS" ∷ [])
    -- just within: names of one hyphen or digit, what begins as BEGIN and END do
    ++ converts (lines "-.0;9=:|BEGINS:a|ENDS.END-:b|a:")
    (made ",'vCardProps':[['0',{'group':'-','9':''},'unknown',''],['begins',{},'unknown','a'],['end-',{'group':'ends'},'unknown','b'],['a',{},'unknown','']]")
    -- bare values hold blanks, equals signs and all but four marks; quoted ones all but the quote; both may be empty
    ∷ converts (lines "X;A= b=c\td.é\\n;B='e;f:g,h';C='',,'':i;j=k:'l'")
    (made ",'vCardProps':[['x',{'a':' b=c\\td.é\\\\n','b':'e;f:g,h','c':['','','']},'unknown','i;j=k:\\'l\\'']]")
    -- the caret stands for itself
    ∷ converts (ascii "BEGIN:VCARD\nVERSION:4.0\nFN:a\nX;A=^n^^^':^n\nEND:VCARD\n") (text "{'@type':'Card','version':'1.0','uid':'reg-1','name':{'full':'a'},'vCardProps':[['x',{'a':'" ++ ascii "^n^^^'" ++ text "'},'unknown','" ++ ascii "^n" ++ text "']]}")
    ∷ []

pub grammar-hold : map given grammar ≡ map wanted grammar
unfolding grammar convert-opened worked-opened
grammar-hold = refl

-- ---- 6 to 10

unfoldable pub line-tests : List Case
line-tests =
    -- 6: VERSION:4.0 first, its name in any case, nothing else
    map (λ s. refuses (card s) 6 0)
    ("VERSION:4.1|FN:a" ∷ "VERSION:4|FN:a" ∷ "VERSION:4.00|FN:a" ∷ "VERSION:4.0 |FN:a" ∷ "VERSION: 4.0|FN:a" ∷ "VERSION:|FN:a" ∷ "VERSION:4\\.0|FN:a" ∷ "VERSIONS:4.0|FN:a"
    ∷ "VERSION;X=1:4.0|FN:a" ∷ "VERSION;VALUE=text:4.0|FN:a" ∷ "VERSION;VALUE=unknown:4.0|FN:a" ∷ "g.VERSION:4.0|FN:a" ∷ "FN:a|VERSION:4.0" ∷ "FN:a" ∷ [])
    ++ converts (card "vErSiOn:4.0|FN:a") (made "")
    -- 7: UID with group or parameter, but VALUE=uri alone
    ∷ each-is 7 ("g.UID:u" ∷ "UID;X=1:u" ∷ "UID;TYPE=home:u" ∷ "UID;PREF=1:u" ∷ "UID;PROP-ID=k:u" ∷ "UID;VALUE=uri;X=1:u" ∷ "UID;X=1;VALUE=uri:u" ∷ "UID;VALUE=uri,uri:u" ∷ "UID;VALUE=uris:u" ∷ "g.UID;VALUE=uri:u" ∷ [])
    -- KIND with group or parameter
    ++ each-is 7 ("g.KIND:org" ∷ "KIND;X=1:org" ∷ "KIND;VALUE=uri:org" ∷ "KIND;VALUE=text:org" ∷ "KIND;VALUE=unknown:org" ∷ [])
    -- a GROUP parameter on any line, its name in any case
    ++ each-is 7 ("FN;GROUP=g:b" ∷ "X;A=b;gRoUp='':c" ∷ "TEL;GROUP=g:1" ∷ [])
    -- several VALUE values, or one not a name
    ++ each-is 7 ("X;VALUE=a;VALUE=a:" ∷ "X;value=a;A=b;Value=a:" ∷ "X;VALUE=a,a:" ∷ "X;VALUE='':" ∷ "X;VALUE='a,b':" ∷ "X;VALUE=a_b:" ∷ "X;VALUE=a.b:" ∷ "X;VALUE=é:" ∷ "NOTE;VALUE= text:n" ∷ "X;VALUE=unknown,unknown:" ∷ [])
    ++ converts (lines "X;VALUE='A-1':|GROUP;GROUPS=g:b") (made ",'vCardProps':[['x',{},'a-1',''],['group',{'groups':'g'},'unknown','b']]")
    -- 8: a second one, by its name in any case
    ∷ refuses (lines "version:4.0") 8 3
    ∷ refuses (lines "UID:u|uid:u") 8 4
    ∷ refuses (lines "KIND:org|NOTE:n|Kind:org") 8 5
    ∷ refuses (lines "g.version;X=1:3.0") 8 3
    -- 9: UID empty, KIND empty or with another byte than names have
    ∷ each-is 9 ("UID:" ∷ "UID;VALUE=uri:" ∷ "KIND:" ∷ "KIND:a b" ∷ "KIND:a_b" ∷ "KIND:a.b" ∷ "KIND:é" ∷ "KIND:org " ∷ "KIND: org" ∷ "KIND:a/b" ∷ [])
    -- 10: no FN line at all
    ++ refuses (card "VERSION:4.0|N:a|FNS:b|X-FN:c|FN.X:d") 10 0
    ∷ refuses (card "VERSION:4.0") 10 0
    -- an FN line with a group or a parameter, of another VALUE or of a bad escape is one, and kept
    ∷ converts (card "VERSION:4.0|g.FN:b") (text "{'@type':'Card','version':'1.0','uid':'reg-1','vCardProps':[['fn',{'group':'g'},'unknown','b']]}")
    ∷ converts (card "VERSION:4.0|FN;X=1:b") (text "{'@type':'Card','version':'1.0','uid':'reg-1','vCardProps':[['fn',{'x':'1'},'unknown','b']]}")
    ∷ converts (card "VERSION:4.0|FN;VALUE=text:b") (text "{'@type':'Card','version':'1.0','uid':'reg-1','vCardProps':[['fn',{},'text','b']]}")
    ∷ converts (card "VERSION:4.0|fn:\\x") (text "{'@type':'Card','version':'1.0','uid':'reg-1','vCardProps':[['fn',{},'unknown','\\\\x']]}")
    ∷ converts (card "VERSION:4.0|FN;derived=True:b") (text "{'@type':'Card','version':'1.0','uid':'reg-1'}")
    ∷ []

pub line-tests-hold : map given line-tests ≡ map wanted line-tests
unfolding line-tests convert-opened worked-opened
line-tests-hold = refl

-- ---- places: of two offenders the first, and each number over all lines before the next

unfoldable pub places : List Case
places =
    refuses (lines "X:\u{1}|NOTE:n|X:\u{2}") 4 3
    ∷ refuses (lines "NOTE:n|X|Y") 5 4
    ∷ refuses (lines "X;GROUP=a:b|NOTE:n|UID;X=1:u") 7 3
    ∷ refuses (lines "NOTE:n|KIND;X=1:a|X;VALUE=a,b:c") 7 4
    ∷ refuses (lines "UID:a|UID:b|UID:c") 8 4
    ∷ refuses (lines "UID:a|KIND:b|KIND:c|UID:d") 8 5
    ∷ refuses (lines "KIND:b|UID:a|UID:d|KIND:c|VERSION:4.0") 8 5
    ∷ refuses (lines "UID:|KIND:") 9 3
    ∷ refuses (lines "NOTE:n|KIND:a b|UID:") 9 4
    -- a later line of an earlier number
    ∷ refuses (lines "X|X:\u{1}") 4 4
    ∷ refuses (card "VERSION:3.0|FN:a|X") 5 3
    ∷ refuses (lines "X;GROUP=a:b|X") 5 4
    ∷ refuses (lines "UID:u|UID:u|X;GROUP=a:b") 7 5
    ∷ refuses (lines "UID:|X;GROUP=a:b") 7 4
    ∷ refuses (lines "UID:|KIND:a|KIND:b") 8 5
    ∷ refuses (card "VERSION:4.0|NOTE:n|X;GROUP=a:b") 7 3
    ∷ refuses (card "VERSION:4.0|UID:u|UID:u") 8 3
    ∷ refuses (card "VERSION:4.0|KIND:") 9 2
    -- a folded line counts once; a line of the first place
    ∷ refuses (lines "NOTE:a| b|\tc|X") 5 4
    ∷ refuses (card "VERSION|FN:a") 5 1
    ∷ refuses (card "VERSION:\u{1}|FN:a") 4 1
    ∷ []

pub places-hold : map given places ≡ map wanted places
unfolding places convert-opened worked-opened
places-hold = refl
