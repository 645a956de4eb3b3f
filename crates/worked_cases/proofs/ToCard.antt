-- Worked cases of 01's 'To vCard', by hand: what is no card (12), member by member and map by map; what no line can carry (13); and what comes home.
use mathlib.Core.Path.{◌≡◌, refl}
use mathlib.Core.List.{List, [], ◌∷◌, ◌++◌, map}
use Prim.Native.Nat.{ℕ}
use Prim.Native.String.{String}
use lib.ListN.{replicate}
use Rattle.text.specs.Bytes.{Bytes, ascii}
use Rattle.convert.proofs.Opened.{convert-opened}
use Rattle.convert.specs.Worked.{text, json, home_lines, Case, comes_home, turns-away, given, wanted, worked-opened}

-- these members make JSON of this refusal
abbrev all_are : ℕ → List String → List Case
all_are n ss = map (λ s. turns-away (json s) n 0) ss

-- each of these values, as this member of an entry k that has this content besides
abbrev each-with : Bytes → Bytes → Bytes → List String → List Case
each-with map' content member ss = map (λ s. turns-away (text "{'@type':'Card','version':'1.0','uid':'u','" ++ map' ++ text "':{'k':{'" ++ content ++ text "':'a','" ++ member ++ text "':" ++ text s ++ text "}}}") 12 0) ss

-- ---- 12: the head

unfoldable pub heads : List Case
heads =
    -- no object
    map (λ s. turns-away (text s) 12 0) ("null" ∷ "true" ∷ "1" ∷ "'a'" ∷ "[]" ∷ "[{'@type':'Card','version':'1.0','uid':'u'}]" ∷ "{}" ∷ [])
    -- @type, version and uid are required, and what they are
    ++ map (λ s. turns-away (text s) 12 0)
    ("{'version':'1.0','uid':'u'}" ∷ "{'@type':'card','version':'1.0','uid':'u'}" ∷ "{'@type':null,'version':'1.0','uid':'u'}" ∷ "{'@type':['Card'],'version':'1.0','uid':'u'}"
    ∷ "{'@type':'Card','uid':'u'}" ∷ "{'@type':'Card','version':'2.0','uid':'u'}" ∷ "{'@type':'Card','version':'1','uid':'u'}" ∷ "{'@type':'Card','version':1.0,'uid':'u'}"
    ∷ "{'@type':'Card','version':'1.0'}" ∷ "{'@type':'Card','version':'1.0','uid':''}" ∷ "{'@type':'Card','version':'1.0','uid':1}" ∷ "{'@type':'Card','version':'1.0','uid':null}" ∷ [])
    -- in any order, with white space, names and strings in escapes
    ++ comes_home (text " {|'uid' : '\\u0075' ,\t'\\u0076ersion':'1\\u002e0',^|'@type':'Card' } ") (home_lines "FN;DERIVED=TRUE:")
    -- an empty name; other members become JSPROP
    ∷ all_are 12 (",'':1" ∷ ",'a':1,'':null" ∷ [])
    ++ comes_home (json ",'b':[1, 2],'@Type':'x','Uid':null,' ':{'':1},'a':'\\u0041'") (home_lines "FN;DERIVED=TRUE:^|JSPROP;JSPTR='b':[1\\,2]^|JSPROP;JSPTR='@Type':'x'^|JSPROP;JSPTR='Uid':null^|JSPROP;JSPTR=' ':{'':1}^|JSPROP;JSPTR='a':'A'")
    -- kind: one that a KIND line gives
    ∷ all_are 12 (",'kind':''" ∷ ",'kind':'Org'" ∷ ",'kind':'a b'" ∷ ",'kind':'a_b'" ∷ ",'kind':'a.b'" ∷ ",'kind':'é'" ∷ ",'kind':'a\\n'" ∷ ",'kind':1" ∷ ",'kind':null" ∷ ",'kind':['org']" ∷ [])
    ++ comes_home (json ",'kind':'x-09-z'") (home_lines "KIND:x-09-z^|FN;DERIVED=TRUE:")
    -- name: its type, its members
    ∷ all_are 12 (",'name':null" ∷ ",'name':'a'" ∷ ",'name':[]" ∷ ",'name':{'full':1}" ∷ ",'name':{'full':null}" ∷ ",'name':{'full':['a']}" ∷ ",'name':{'full':'a','Full':'b'}" ∷ ",'name':{'full':'a','@type':'Name'}"
    ∷ ",'name':{'full':'a','components':null}" ∷ ",'name':{'components':{}}" ∷ ",'name':{'components':'a'}" ∷ ",'name':{'components':[1]}" ∷ ",'name':{'components':['a']}" ∷ ",'name':{'components':[[]]}" ∷ [])
    -- a component: kind and value, both strings, nothing more; isOrdered only false
    ++ all_are 12 (",'name':{'components':[{}]}" ∷ ",'name':{'components':[{'kind':'given'}]}" ∷ ",'name':{'components':[{'value':'a'}]}" ∷ ",'name':{'components':[{'kind':'given','value':1}]}"
    ∷ ",'name':{'components':[{'kind':'given','value':null}]}" ∷ ",'name':{'components':[{'kind':1,'value':'a'}]}" ∷ ",'name':{'components':[{'kind':'Given','value':'a'}]}" ∷ ",'name':{'components':[{'kind':'suffix','value':'a'}]}"
    ∷ ",'name':{'components':[{'kind':'','value':'a'}]}" ∷ ",'name':{'components':[{'kind':'separator','value':' '}]}" ∷ ",'name':{'components':[{'kind':'given','value':'a'},{'kind':'family','value':'b'}]}"
    ∷ ",'name':{'components':[{'kind':'given','value':'a','@type':'NameComponent'}]}" ∷ [])
    ++ all_are 12 (",'name':{'full':'a','isOrdered':true}" ∷ ",'name':{'full':'a','isOrdered':null}" ∷ ",'name':{'full':'a','isOrdered':0}" ∷ ",'name':{'full':'a','isOrdered':'false'}" ∷ ",'name':{'components':[],'isOrdered':true}" ∷ [])
    ++ comes_home (json ",'name':{'isOrdered':false,'full':''}") (home_lines "FN:")
    ∷ comes_home (json ",'name':{'components':[]}") (home_lines "FN;DERIVED=TRUE:")
    ∷ []

pub heads-hold : map given heads ≡ map wanted heads
unfolding heads convert-opened worked-opened
heads-hold = refl

-- ---- 12: the maps

-- of a map with this content member: the map no object, an entry no object, the content missing or no string, another member, a bad key
abbrev unfit : Bytes → Bytes → List Case
unfit m c =
    map (λ s. turns-away (text "{'@type':'Card','version':'1.0','uid':'u','" ++ m ++ text "':" ++ text s ++ text "}") 12 0) ("null" ∷ "[]" ∷ "'a'" ∷ "{'k':null}" ∷ "{'k':'a'}" ∷ "{'k':[]}" ∷ "{'k':{}}" ∷ "{'k':{'@type':'a'}}" ∷ [])
    ++ map (λ s. turns-away (text "{'@type':'Card','version':'1.0','uid':'u','" ++ m ++ text "':{'k':{'" ++ c ++ text "':" ++ text s ++ text "}}}") 12 0) ("1" ∷ "null" ∷ "['a']" ∷ "true" ∷ "{}" ∷ "'a','@type':'x'" ∷ "'a','Kind':'title'" ∷ "'a','vCardParams':{}" ∷ [])
    ++ map (λ s. turns-away (text "{'@type':'Card','version':'1.0','uid':'u','" ++ m ++ text "':{'j':{'" ++ c ++ text "':'a'},'" ++ text s ++ text "':{'" ++ c ++ text "':'b'}}}") 12 0) ("" ∷ "a.b" ∷ "a b" ∷ "é" ∷ "a/b" ∷ "a:b" ∷ "k\\n" ∷ [])

unfoldable pub unfit-maps : List Case
unfit-maps =
    unfit (ascii "nicknames") (ascii "name") ++ unfit (ascii "emails") (ascii "address") ++ unfit (ascii "phones") (ascii "number") ++ unfit (ascii "links") (ascii "uri")
    ++ unfit (ascii "notes") (ascii "note") ++ unfit (ascii "titles") (ascii "name") ++ unfit (ascii "organizations") (ascii "name")

pub unfit-maps-hold : map given unfit-maps ≡ map wanted unfit-maps
unfolding unfit-maps convert-opened worked-opened
unfit-maps-hold = refl

-- pref, contexts and features as a map of PREF and TYPE does not take them
abbrev flags : Bytes → Bytes → List Case
flags m c =
    each-with m c (ascii "pref") ("'1'" ∷ "0" ∷ "101" ∷ "1.0" ∷ "1e0" ∷ "1E2" ∷ "-1" ∷ "null" ∷ "true" ∷ "[1]" ∷ [])
    ++ each-with m c (ascii "contexts") ("null" ∷ "[]" ∷ "'work'" ∷ "{'home':true}" ∷ "{'Work':true}" ∷ "{'work':false}" ∷ "{'work':1}" ∷ "{'work':null}" ∷ "{'private':true,'work':'true'}" ∷ "{'voice':true}" ∷ "{'':true}" ∷ [])

-- none of them, not even empty
abbrev no-flags : Bytes → Bytes → List Case
no-flags m c = each-with m c (ascii "pref") ("1" ∷ []) ++ each-with m c (ascii "contexts") ("{}" ∷ "{'work':true}" ∷ []) ++ each-with m c (ascii "features") ("{}" ∷ "{'fax':true}" ∷ [])

unfoldable pub unfit-flags : List Case
unfit-flags =
    flags (ascii "nicknames") (ascii "name") ++ flags (ascii "emails") (ascii "address") ++ flags (ascii "phones") (ascii "number") ++ flags (ascii "links") (ascii "uri")
    ++ no-flags (ascii "notes") (ascii "note") ++ no-flags (ascii "titles") (ascii "name") ++ no-flags (ascii "organizations") (ascii "name")
    -- features are the phones' alone
    ++ each-with (ascii "nicknames") (ascii "name") (ascii "features") ("{}" ∷ "{'fax':true}" ∷ [])
    ++ each-with (ascii "emails") (ascii "address") (ascii "features") ("{}" ∷ "{'fax':true}" ∷ [])
    ++ each-with (ascii "links") (ascii "uri") (ascii "features") ("{}" ∷ "{'fax':true}" ∷ [])
    ++ each-with (ascii "phones") (ascii "number") (ascii "features")
    ("null" ∷ "[]" ∷ "'fax'" ∷ "{'cell':true}" ∷ "{'Fax':true}" ∷ "{'fax':false}" ∷ "{'fax':1}" ∷ "{'voice':true,'fax':null}" ∷ "{'work':true}" ∷ "{'private':true}" ∷ "{'main-number':true}" ∷ [])
    -- kind is the titles' alone, units the organizations'
    ++ each-with (ascii "titles") (ascii "name") (ascii "kind") ("'Title'" ∷ "''" ∷ "'org'" ∷ "1" ∷ "null" ∷ "['role']" ∷ [])
    ++ all_are 12 (",'nicknames':{'k':{'name':'a','kind':'title'}}" ∷ ",'emails':{'k':{'address':'a','kind':'title'}}" ∷ ",'phones':{'k':{'number':'a','kind':'title'}}" ∷ ",'links':{'k':{'uri':'a','kind':'title'}}"
    ∷ ",'notes':{'k':{'note':'a','kind':'title'}}" ∷ ",'organizations':{'k':{'name':'a','kind':'title'}}" ∷ ",'titles':{'k':{'name':'a','units':[]}}" ∷ ",'nicknames':{'k':{'name':'a','units':[]}}" ∷ [])
    -- a content member of another map
    ++ all_are 12 (",'nicknames':{'k':{'address':'a'}}" ∷ ",'emails':{'k':{'name':'a'}}" ∷ ",'phones':{'k':{'uri':'a'}}" ∷ ",'links':{'k':{'number':'a'}}" ∷ ",'notes':{'k':{'name':'a'}}" ∷ ",'titles':{'k':{'note':'a'}}" ∷ ",'titles':{'k':{'kind':'title'}}" ∷ [])
    -- organizations: name a string, units objects of one name
    ++ all_are 12 (",'organizations':{'k':{'units':{}}}" ∷ ",'organizations':{'k':{'units':null}}" ∷ ",'organizations':{'k':{'name':'a','units':null}}" ∷ ",'organizations':{'k':{'name':'a','units':{}}}" ∷ ",'organizations':{'k':{'name':'a','units':['b']}}"
    ∷ ",'organizations':{'k':{'name':'a','units':[{}]}}" ∷ ",'organizations':{'k':{'name':'a','units':[{'name':1}]}}" ∷ ",'organizations':{'k':{'name':'a','units':[{'name':'b'},{'name':null}]}}" ∷ ",'organizations':{'k':{'name':1,'units':[{'name':'b'}]}}" ∷ ",'organizations':{'k':{'name':'a','units':[{'name':'b','sortAs':'c'}]}}"
    -- and something left of them
    ∷ ",'organizations':{'k':{'name':''}}" ∷ ",'organizations':{'k':{'units':[]}}" ∷ ",'organizations':{'k':{'units':[{'name':''}]}}" ∷ ",'organizations':{'k':{'name':'','units':[]}}" ∷ [])

pub unfit-flags-hold : map given unfit-flags ≡ map wanted unfit-flags
unfolding unfit-flags convert-opened worked-opened
unfit-flags-hold = refl

-- a key of 255 characters, and of 256
abbrev keyed : ℕ → Bytes
keyed n = text "{'@type':'Card','version':'1.0','uid':'u','notes':{'" ++ replicate n 107 ++ text "':{'note':''}}}"

unfoldable pub long-keys : List Case
long-keys =
    comes_home (keyed 255)
    (text "BEGIN:VCARD^|VERSION:4.0^|UID:u^|FN;DERIVED=TRUE:^|NOTE;PROP-ID=" ++ replicate 62 107 ++ text "^| " ++ replicate 74 107 ++ text "^| " ++ replicate 74 107 ++ text "^| " ++ replicate 45 107 ++ text ":^|END:VCARD^|")
    ∷ turns-away (keyed 256) 12 0
    ∷ []

pub long-keys-hold : map given long-keys ≡ map wanted long-keys
unfolding long-keys convert-opened worked-opened
long-keys-hold = refl

-- ---- 12: vCardProps

unfoldable pub unfit-entries : List Case
unfit-entries =
    all_are 12 (",'vCardProps':null" ∷ ",'vCardProps':{}" ∷ ",'vCardProps':'x'" ∷ ",'vCardProps':['x']" ∷ ",'vCardProps':[{}]" ∷ ",'vCardProps':[[]]" ∷ ",'vCardProps':[['x',{},'unknown']]" ∷ ",'vCardProps':[['x',{},'unknown','a','b']]" ∷ [])
    -- each part of another type
    ++ all_are 12 (",'vCardProps':[[1,{},'unknown','a']]" ∷ ",'vCardProps':[[null,{},'unknown','a']]" ∷ ",'vCardProps':[['x',[],'unknown','a']]" ∷ ",'vCardProps':[['x',null,'unknown','a']]" ∷ ",'vCardProps':[['x',{},1,'a']]"
    ∷ ",'vCardProps':[['x',{},null,'a']]" ∷ ",'vCardProps':[['x',{},'unknown',1]]" ∷ ",'vCardProps':[['x',{},'unknown',null]]" ∷ ",'vCardProps':[['x',{},'unknown',['a']]]" ∷ [])
    -- names: of the property, of a parameter, of the type; all in lower case
    ++ all_are 12 (",'vCardProps':[['',{},'unknown','a']]" ∷ ",'vCardProps':[['X',{},'unknown','a']]" ∷ ",'vCardProps':[['x y',{},'unknown','a']]" ∷ ",'vCardProps':[['x_y',{},'unknown','a']]" ∷ ",'vCardProps':[['g.x',{},'unknown','a']]"
    ∷ ",'vCardProps':[['begin',{},'unknown','a']]" ∷ ",'vCardProps':[['end',{},'unknown','a']]" ∷ ",'vCardProps':[['version',{},'unknown','a']]" ∷ ",'vCardProps':[['uid',{},'unknown','a']]" ∷ ",'vCardProps':[['kind',{},'unknown','a']]" ∷ [])
    ++ all_are 12 (",'vCardProps':[['x',{'':'b'},'unknown','a']]" ∷ ",'vCardProps':[['x',{'B':'b'},'unknown','a']]" ∷ ",'vCardProps':[['x',{'b_':'b'},'unknown','a']]" ∷ ",'vCardProps':[['x',{'value':'text'},'unknown','a']]"
    ∷ ",'vCardProps':[['x',{'value':'text'},'text','a']]" ∷ ",'vCardProps':[['x',{},'','a']]" ∷ ",'vCardProps':[['x',{},'Text','a']]" ∷ ",'vCardProps':[['x',{},'a b','a']]" ∷ ",'vCardProps':[['x',{},'text\\n','a']]" ∷ [])
    -- values of a parameter: a string, or strings, one at least; the group one name
    ++ all_are 12 (",'vCardProps':[['x',{'b':1},'unknown','a']]" ∷ ",'vCardProps':[['x',{'b':null},'unknown','a']]" ∷ ",'vCardProps':[['x',{'b':{}},'unknown','a']]" ∷ ",'vCardProps':[['x',{'b':[]},'unknown','a']]" ∷ ",'vCardProps':[['x',{'b':['c',1]},'unknown','a']]"
    ∷ ",'vCardProps':[['x',{'group':''},'unknown','a']]" ∷ ",'vCardProps':[['x',{'group':'G'},'unknown','a']]" ∷ ",'vCardProps':[['x',{'group':'a b'},'unknown','a']]" ∷ ",'vCardProps':[['x',{'group':['a','b']},'unknown','a']]" ∷ ",'vCardProps':[['x',{'group':1},'unknown','a']]" ∷ [])
    -- a line that would convert, each property of the table
    ++ all_are 12 (",'vCardProps':[['fn',{},'unknown','a']]" ∷ ",'vCardProps':[['fn',{'derived':'true'},'unknown','a']]" ∷ ",'vCardProps':[['n',{},'unknown','a']]" ∷ ",'vCardProps':[['nickname',{},'unknown','a']]" ∷ ",'vCardProps':[['nickname',{'pref':'1','type':'home'},'unknown','a']]"
    ∷ ",'vCardProps':[['email',{},'unknown','a,b']]" ∷ ",'vCardProps':[['email',{'type':['home','work']},'unknown','a']]" ∷ ",'vCardProps':[['tel',{'type':'cell,home'},'unknown','1']]" ∷ ",'vCardProps':[['tel',{},'uri','tel:1']]" ∷ ",'vCardProps':[['url',{},'unknown','a']]"
    ∷ ",'vCardProps':[['url',{},'uri','\\\\x']]" ∷ ",'vCardProps':[['note',{'prop-id':'k'},'unknown','a']]" ∷ ",'vCardProps':[['title',{},'unknown','a']]" ∷ ",'vCardProps':[['role',{},'unknown','a']]" ∷ ",'vCardProps':[['org',{},'unknown',';a']]" ∷ ",'vCardProps':[['jsprop',{'jsptr':'a'},'unknown','1']]" ∷ [])
    -- one such entry among others is enough
    ++ all_are 12 (",'vCardProps':[['x',{},'unknown','a'],['note',{},'unknown','b'],['y',{},'unknown','c']]" ∷ ",'name':{'full':'a'},'vCardProps':[['fn',{},'unknown','b'],['fn',{'derived':'TRUE'},'unknown','c']]" ∷ [])

pub unfit-entries-hold : map given unfit-entries ≡ map wanted unfit-entries
unfolding unfit-entries convert-opened worked-opened
unfit-entries-hold = refl

-- ---- 13: a control but tab (LF allowed in TEXT), a quote in a parameter, equal surnames, equal suffixes

unfoldable pub not_carried : List Case
not_carried =
    -- TEXT: a control, CR, DEL
    all_are 13 (",'name':{'full':'\\u0001'}" ∷ ",'name':{'full':'a\\r'}" ∷ ",'name':{'full':'\\u007f'}" ∷ ",'name':{'components':[{'kind':'given','value':'\\u0000'}]}" ∷ ",'nicknames':{'k':{'name':'\\u001f'}}" ∷ ",'emails':{'k':{'address':'\\b'}}"
    ∷ ",'phones':{'k':{'number':'\\f'}}" ∷ ",'phones':{'k':{'number':'tel:\\f'}}" ∷ ",'notes':{'k':{'note':'\\u000b'}}" ∷ ",'titles':{'k':{'name':'\\r'}}" ∷ ",'organizations':{'k':{'name':'\\u007F'}}" ∷ ",'organizations':{'k':{'name':'a','units':[{'name':'b'},{'name':'\\u0008'}]}}" ∷ [])
    -- raw values: LF too
    ++ all_are 13 (",'links':{'k':{'uri':'\\n'}}" ∷ ",'links':{'k':{'uri':'a\\u007f'}}" ∷ ",'vCardProps':[['x',{},'unknown','\\n']]" ∷ ",'vCardProps':[['x',{},'unknown','\\u001b']]" ∷ [])
    ++ map (λ s. turns-away (text s) 13 0) ("{'@type':'Card','version':'1.0','uid':'\\n'}" ∷ "{'@type':'Card','version':'1.0','uid':'a\\r'}" ∷ "{'@type':'Card','version':'1.0','uid':'\\u007f'}" ∷ [])
    -- parameters: LF and the quote too; the pointer of a member is one
    ++ all_are 13 (",'a\\n':1" ∷ ",'\\u0001':1" ∷ ",'a\\u007f':1" ∷ ",'\\u0022':1" ∷ ",'vCardProps':[['x',{'b':'\\n'},'unknown','']]" ∷ ",'vCardProps':[['x',{'b':'\\u0001'},'unknown','']]" ∷ ",'vCardProps':[['x',{'b':'c\\'d'},'unknown','']]"
    ∷ ",'vCardProps':[['x',{'b':['c','\\'']},'unknown','']]" ∷ [])
    -- a surname equal to a surname2, a credential to a generation, any with any
    ++ all_are 13 (",'name':{'components':[{'kind':'surname2','value':'b'},{'kind':'surname','value':'a'},{'kind':'surname','value':'b'}]}" ∷ ",'name':{'full':'x','components':[{'kind':'generation','value':'a'},{'kind':'generation','value':'b'},{'kind':'credential','value':'b'}]}" ∷ [])
    -- just carried: other kinds equal, empty ones, tab, LF in TEXT, the quote in values, what JSON escapes in a member
    ++ comes_home (json ",'name':{'components':[{'kind':'surname','value':'a'},{'kind':'given','value':'a'},{'kind':'credential','value':'a'},{'kind':'surname2','value':'b'},{'kind':'generation','value':'b'},{'kind':'surname','value':''},{'kind':'surname2','value':''}]}")
    (home_lines "FN;DERIVED=TRUE:a a a b b^|N:a,b;a;;;a,b;b;b")
    ∷ comes_home (json ",'name':{'full':'\\t\\n\\''},'links':{'k':{'uri':'\\t\\''}},'a\\t':'\\n\\u0001','vCardProps':[['x',{'b':'\\t'},'unknown','\\t\\'']]") (home_lines "FN:\t\\n'^|URL;PROP-ID=k:\t'^|JSPROP;JSPTR='a\t':'\\\\n\\\\u0001'^|X;B=\t:\t'")
    -- 12 before 13
    ∷ all_are 12 (",'a\\n':1,'kind':'A'" ∷ ",'links':{'k':{'uri':'\\n'}},'emails':[]" ∷ ",'vCardProps':[['x',{},'unknown','\\n'],['note',{},'unknown','a']]" ∷ ",'vCardProps':[['email',{},'unknown','\\u0001']]" ∷ [])

pub not-carried-hold : map given not_carried ≡ map wanted not_carried
unfolding not_carried convert-opened worked-opened
not-carried-hold = refl

-- ---- what comes home

unfoldable pub homes : List Case
homes =
    -- each map: the content alone; with pref, contexts, features in any order
    comes_home (json ",'nicknames':{'k':{'name':'a'},'l':{'pref':100,'contexts':{'work':true,'private':true},'name':'b;c,d'}}") (home_lines "FN;DERIVED=TRUE:^|NICKNAME;PROP-ID=k:a^|NICKNAME;PROP-ID=l;PREF=100;TYPE=home,work:b;c\\,d")
    ∷ comes_home (json ",'emails':{'k':{'address':'a'},'l':{'contexts':{'private':true},'address':'b','pref':1}}") (home_lines "FN;DERIVED=TRUE:^|EMAIL;PROP-ID=k:a^|EMAIL;PROP-ID=l;PREF=1;TYPE=home:b")
    ∷ comes_home (json ",'phones':{'k':{'number':'a'},'l':{'features':{'mobile':true},'pref':10,'number':'tel:b','contexts':{'work':true}},'m':{'number':'c','contexts':{},'features':{}}}")
    (home_lines "FN;DERIVED=TRUE:^|TEL;PROP-ID=k:a^|TEL;PROP-ID=l;PREF=10;TYPE=work,cell;VALUE=uri:tel:b^|TEL;PROP-ID=m:c")
    ∷ comes_home (json ",'links':{'k':{'uri':'a\\\\,b;c'},'l':{'uri':'','contexts':{'work':true},'pref':2}}") (home_lines "FN;DERIVED=TRUE:^|URL;PROP-ID=k:a\\,b;c^|URL;PROP-ID=l;PREF=2;TYPE=work:")
    ∷ comes_home (json ",'notes':{'k':{'note':'a\\nb'},'AZaz09-_':{'note':''}}") (home_lines "FN;DERIVED=TRUE:^|NOTE;PROP-ID=k:a\\nb^|NOTE;PROP-ID=AZaz09-_:")
    ∷ comes_home (json ",'titles':{'k':{'name':'a'},'l':{'name':'b','kind':'role'},'m':{'kind':'title','name':'c'}}") (home_lines "FN;DERIVED=TRUE:^|TITLE;PROP-ID=k:a^|ROLE;PROP-ID=l:b^|TITLE;PROP-ID=m:c")
    ∷ comes_home (json ",'organizations':{'k':{'name':'a'},'l':{'units':[{'name':'b'},{'name':''},{'name':'c;d'}],'name':'e,f'},'m':{'name':'','units':[{'name':'g'}]},'n':{'name':'h','units':[]}}")
    (home_lines "FN;DERIVED=TRUE:^|ORG;PROP-ID=k:a^|ORG;PROP-ID=l:e\\,f;b;c\\;d^|ORG;PROP-ID=m:;g^|ORG;PROP-ID=n:h")
    -- each feature by itself
    ∷ comes_home (json ",'phones':{'a':{'number':'','features':{'fax':true}},'b':{'number':'','features':{'pager':true}},'c':{'number':'','features':{'text':true}},'d':{'number':'','features':{'textphone':true}},'e':{'number':'','features':{'video':true}},'f':{'number':'','features':{'voice':true}}}")
    (home_lines "FN;DERIVED=TRUE:^|TEL;PROP-ID=a;TYPE=fax:^|TEL;PROP-ID=b;TYPE=pager:^|TEL;PROP-ID=c;TYPE=text:^|TEL;PROP-ID=d;TYPE=textphone:^|TEL;PROP-ID=e;TYPE=video:^|TEL;PROP-ID=f;TYPE=voice:")
    -- VALUE=uri where the number begins tel: and has no control but tab
    ∷ comes_home (json ",'phones':{'a':{'number':'tel:1\\t2'},'b':{'number':'Tel:1'},'c':{'number':' tel:1'},'d':{'number':'tel'},'e':{'number':'tel:'},'f':{'number':'tel:1\\n2,3'},'g':{'number':'1,2;3'}}")
    (home_lines "FN;DERIVED=TRUE:^|TEL;PROP-ID=a;VALUE=uri:tel:1\t2^|TEL;PROP-ID=b:Tel:1^|TEL;PROP-ID=c: tel:1^|TEL;PROP-ID=d:tel^|TEL;PROP-ID=e;VALUE=uri:tel:^|TEL;PROP-ID=f:tel:1\\n2\\,3^|TEL;PROP-ID=g:1\\,2;3")
    -- N: seven parts, surname2 after the family, generation after the suffixes; FN made of the components by kind
    ∷ comes_home (json ",'name':{'full':'x','components':[{'kind':'generation','value':'g'},{'kind':'surname2','value':'f'},{'kind':'credential','value':'e'},{'kind':'title','value':'d'},{'kind':'given2','value':'c'},{'kind':'given','value':'b'},{'kind':'surname','value':'a'}]}")
    (home_lines "FN:x^|N:a,f;b;c;d;e,g;f;g")
    ∷ comes_home (json ",'name':{'components':[{'kind':'given','value':'J,K'},{'kind':'given','value':'L;M'},{'kind':'surname2','value':'S'},{'kind':'given','value':''}]}") (home_lines "FN;DERIVED=TRUE:J\\,K L;M S^|N:S;J\\,K,L\\;M;;;;S;")
    -- kept entries: parameters in their order, VALUE last, the group before the name wherever it stands; quotes only where needed
    ∷ comes_home (json ",'vCardProps':[['x',{'z':'1','group':'g','a':['b;c','d','e:f','','h,i'],'jsptr':['j','k']},'x-type','v\\\\;w'],['y',{},'unknown','']]") (home_lines "FN;DERIVED=TRUE:^|g.X;Z=1;A='b;c',d,'e:f',,'h,i';JSPTR='j','k';VALUE=x-type:v\\;w^|Y:")
    -- kept in its place: a bad PREF, TYPE or PROP-ID, another VALUE, a group, a bare comma, nothing in it, a name or key in use
    ∷ comes_home (json ",'vCardProps':[['email',{'pref':'0'},'unknown','a'],['tel',{'type':'x'},'unknown','b'],['note',{'prop-id':'a.b'},'unknown','c'],['title',{},'text','d'],['role',{'group':'g'},'unknown','e'],['nickname',{},'unknown','f,g'],['org',{},'unknown',';'],['tel',{},'uri','x'],['url',{},'text','y']]")
    (home_lines "FN;DERIVED=TRUE:^|EMAIL;PREF=0:a^|TEL;TYPE=x:b^|NOTE;PROP-ID=a.b:c^|TITLE;VALUE=text:d^|g.ROLE:e^|NICKNAME:f,g^|ORG:;^|TEL;VALUE=uri:x^|URL;VALUE=text:y")
    ∷ comes_home (json ",'name':{'full':'a','components':[{'kind':'given','value':'b'}]},'notes':{'k':{'note':'c'}},'d':1,'vCardProps':[['fn',{},'unknown','e'],['n',{},'unknown','f'],['note',{'prop-id':'k'},'unknown','g'],['jsprop',{'jsptr':'d'},'unknown','2'],['jsprop',{'jsptr':'kind'},'unknown','3'],['jsprop',{},'unknown','4']]")
    (home_lines "FN:a^|N:;b;;;;;^|NOTE;PROP-ID=k:c^|JSPROP;JSPTR='d':1^|FN:e^|N:f^|NOTE;PROP-ID=k:g^|JSPROP;JSPTR='d':2^|JSPROP;JSPTR='kind':3^|JSPROP:4")
    -- all sections, the members in reverse
    ∷ comes_home (text "{'vCardProps':[['x',{},'unknown','y']],'b':1,'organizations':{'k':{'name':'o'}},'titles':{'k':{'kind':'role','name':'r'},'j':{'name':'t'}},'notes':{'k':{'note':'n'}},'a':2,"
    ++ text "'links':{'k':{'uri':'l'}},'phones':{'k':{'number':'p'}},'emails':{'k':{'address':'e'}},'nicknames':{'k':{'name':'i'}},'name':{'components':[{'value':'s','kind':'surname'}],'full':'f'},'kind':'org','uid':'u','version':'1.0','@type':'Card'}")
    (home_lines "KIND:org^|FN:f^|N:s;;;;;;^|NICKNAME;PROP-ID=k:i^|EMAIL;PROP-ID=k:e^|TEL;PROP-ID=k:p^|URL;PROP-ID=k:l^|NOTE;PROP-ID=k:n^|ROLE;PROP-ID=k:r^|TITLE;PROP-ID=j:t^|ORG;PROP-ID=k:o^|JSPROP;JSPTR='b':1^|JSPROP;JSPTR='a':2^|X:y")
    ∷ []

pub homes-hold : map given homes ≡ map wanted homes
unfolding homes convert-opened worked-opened
homes-hold = refl
