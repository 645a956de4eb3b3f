-- Inputs that tell two readings of 01 apart, by the points of docs/DECISIONS.md.
use mathlib.Core.Path.{◌≡◌, refl}
use mathlib.Core.List.{List, [], ◌∷◌, ◌++◌, map}
use Rattle.text.specs.Bytes.{ascii}
use Rattle.convert.proofs.Opened.{convert-opened}
use Rattle.convert.specs.Worked.{text, card, lines, made, json, home_lines, Case, converts, refuses, comes_home, turns-away, returns_as, settles-as, given, wanted, worked-opened}

-- lines, bytes, unfolding, refusals 4 to 10
unfoldable pub line-readings : List Case
line-readings =
    -- line ends are fixed before unfolding: the stray CR stays
    refuses (lines "X:a^^| ") 4 3
    -- only BEGIN's own line end is never folded
    ∷ refuses (card " VERSION:4.0|FN:a") 5 1
    ∷ converts (card "| VERSION:4.0|FN:a") (made "")
    -- an empty line inside a card is off the grammar; after END it is a second line
    ∷ refuses (card "VERSION:4.0|FN:a|") 5 3
    ∷ refuses (card "VERSION:4.0|FN:a" ++ ascii "\n") 1 0
    ∷ refuses (card "VERSION:4.0|FN:a" ++ ascii " x\n") 1 0
    -- BEGIN and END are physical lines; what only looks like them is a line named so
    ∷ refuses (card "VERSION:4.0|BEG| IN:VCARD|FN:a") 5 2
    ∷ refuses (card "VERSION:4.0|FN:a|END:VCARD ") 5 3
    ∷ refuses (card "VERSION:4.0|a.end:x|FN:a") 5 2
    ∷ refuses (card "VERSION:4.0|BEGIN;X=1:VCARD|FN:a") 5 2
    -- END is not folded with the line after it
    ∷ refuses (text "BEGIN:VCARD|VERSION:4.0|FN:a|END:VCARD| |") 1 0
    -- counts: 64 values a line, 32 parameters
    ∷ refuses (lines "X;A=1,2,3,4,5,6,7,8,9,10,11,12,13,14,15,16,17,18,19,20,21,22,23,24,25,26,27,28,29,30,31,32,33;B=1,2,3,4,5,6,7,8,9,10,11,12,13,14,15,16,17,18,19,20,21,22,23,24,25,26,27,28,29,30,31,32:") 5 3
    -- a BOM is no line end; U+0080 is no control
    ∷ refuses ((239 ∷ 187 ∷ 191 ∷ []) ++ card "VERSION:4.0|FN:a") 1 0
    ∷ converts (card "VERSION:4.0|FN:\u{80}") (text "{'@type':'Card','version':'1.0','uid':'reg-1','name':{'full':'\u{80}'}}")
    -- VERSION: no line at all, folded, any case
    ∷ refuses (text "BEGIN:VCARD|END:VCARD|") 6 0
    ∷ converts (card "ver| sion:4.| 0|FN:a") (made "")
    -- VALUE on UID
    ∷ converts (lines "UID;value='URI':x") (text "{'@type':'Card','version':'1.0','uid':'x','name':{'full':'a'}}")
    ∷ refuses (lines "UID;VALUE=text:x") 7 3
    ∷ refuses (lines "UID;VALUE=unknown:x") 7 3
    ∷ refuses (lines "UID;VALUE=uri;VALUE=uri:x") 7 3
    ∷ refuses (lines "X;VALUE=:x") 7 3
    ∷ refuses (lines "VERSION;X=1:9") 8 3
    -- UID is raw, blanks are not empty
    ∷ converts (lines "UID: ") (text "{'@type':'Card','version':'1.0','uid':' ','name':{'full':'a'}}")
    -- a dropped FN is an FN line
    ∷ converts (card "VERSION:4.0|FN;DERIVED=TRUE:") (text "{'@type':'Card','version':'1.0','uid':'reg-1'}")
    ∷ []

pub line-readings-hold : map given line-readings ≡ map wanted line-readings
unfolding line-readings convert-opened worked-opened
line-readings-hold = refl

-- which lines convert
unfoldable pub class-readings : List Case
class-readings =
    -- another parameter or value
    converts (lines "TEL;TYPE=main-number:1|EMAIL;LANGUAGE=en:m|EMAIL;VALUE=text:n")
    (made ",'vCardProps':[['tel',{'type':'main-number'},'unknown','1'],['email',{'language':'en'},'unknown','m'],['email',{},'text','n']]")
    ∷ converts (lines "EMAIL;PREF=1;PREF=1:m|EMAIL;PREF=01:m|EMAIL;PREF=0:m")
    (made ",'vCardProps':[['email',{'pref':['1','1']},'unknown','m'],['email',{'pref':'01'},'unknown','m'],['email',{'pref':'0'},'unknown','m']]")
    ∷ converts (lines "EMAIL;TYPE=:m|EMAIL;TYPE='home,':m|TEL;TYPE=HOME;type='Cell,home':1")
    (made ",'phones':{'PHONE-1':{'number':'1','contexts':{'private':true},'features':{'mobile':true}}},'vCardProps':[['email',{'type':''},'unknown','m'],['email',{'type':'home,'},'unknown','m']]")
    -- VALUE=unknown counts as absent
    ∷ converts (lines "FN;DERIVED=true;VALUE=Unknown:b|NOTE;VALUE=unknown:n") (made ",'notes':{'NOTE-1':{'note':'n'}}")
    ∷ converts (lines "FN;DERIVED=TRUE,TRUE:b|FN;DERIVED='TRUE':\\x") (made ",'vCardProps':[['fn',{'derived':['TRUE','TRUE']},'unknown','b']]")
    -- keys: later PROP-IDs count, those of kept lines and made keys do not
    ∷ converts (lines "EMAIL:a|EMAIL;PROP-ID=EMAIL-1:b") (made ",'emails':{'EMAIL-2':{'address':'a'},'EMAIL-1':{'address':'b'}}")
    ∷ converts (lines "EMAIL;PROP-ID=EMAIL-1;X=1:a|EMAIL:b") (made ",'emails':{'EMAIL-1':{'address':'b'}},'vCardProps':[['email',{'prop-id':'EMAIL-1','x':'1'},'unknown','a']]")
    ∷ converts (lines "TITLE;PROP-ID=k:a|ROLE;PROP-ID=k:b|NOTE;PROP-ID=k:c")
    (made ",'notes':{'k':{'note':'c'}},'titles':{'k':{'kind':'title','name':'a'}},'vCardProps':[['role',{'prop-id':'k'},'unknown','b']]")
    -- tel: exactly
    ∷ converts (lines "TEL;VALUE=uri:TEL:1|TEL;VALUE=URI:tel:1,2") (made ",'phones':{'PHONE-1':{'number':'tel:1,2'}},'vCardProps':[['tel',{},'uri','TEL:1']]")
    -- N: trailing parts count, equal values go, a kept one before does not block
    ∷ converts (lines "N:a;;;;;;;|N:;;|N:Foo,Foo;;;;;Foo|N:b")
    (text "{'@type':'Card','version':'1.0','uid':'reg-1','name':{'full':'a','components':[{'kind':'surname2','value':'Foo'}]},'vCardProps':[['n',{},'unknown','a;;;;;;;'],['n',{},'unknown',';;'],['n',{},'unknown','b']]}")
    ∷ returns_as (lines "UID:u|N:Foo,Foo;;;;;Foo") (home_lines "FN:a^|N:Foo;;;;;Foo;")
    -- ORG: an empty name promotes no unit; nothing in it is kept
    ∷ converts (lines "ORG:;D|ORG:;;|ORG:A;;B") (made ",'organizations':{'ORG-1':{'units':[{'name':'D'}]},'ORG-2':{'name':'A','units':[{'name':'B'}]}},'vCardProps':[['org',{},'unknown',';;']]")
    ∷ returns_as (lines "UID:u|ORG:;D|ORG:A,b;;B\\;c") (home_lines "FN:a^|ORG;PROP-ID=ORG-1:;D^|ORG;PROP-ID=ORG-2:A\\,b;B\\;c")
    -- JSPROP: one part, new among converted ones, JSON of depth 15, spelled anew
    ∷ converts (lines "JSPROP;JSPTR='/a':1|JSPROP;JSPTR='~2':1|JSPROP;JSPTR='name':1|JSPROP;JSPTR='a':[|JSPROP;JSPTR=a: '\\\\u0041\\\\/' |JSPROP;JSPTR=a:1|JSPROP;JSPTR=b:1.50E+2")
    (made ",'a':'A/','b':1.50E+2,'vCardProps':[['jsprop',{'jsptr':'/a'},'unknown','1'],['jsprop',{'jsptr':'~2'},'unknown','1'],['jsprop',{'jsptr':'name'},'unknown','1'],['jsprop',{'jsptr':'a'},'unknown','['],['jsprop',{'jsptr':'a'},'unknown','1']]")
    ∷ converts (lines "JSPROP;JSPTR=a:[[[[[[[[[[[[[[[[]]]]]]]]]]]]]]]]|JSPROP;JSPTR=b:[[[[[[[[[[[[[[[1]]]]]]]]]]]]]]]|JSPROP;JSPTR=c:{'x':1,'x':2}")
    (made ",'b':[[[[[[[[[[[[[[[1]]]]]]]]]]]]]]],'vCardProps':[['jsprop',{'jsptr':'a'},'unknown','[[[[[[[[[[[[[[[[]]]]]]]]]]]]]]]]'],['jsprop',{'jsptr':'c'},'unknown','{\\'x\\':1,\\'x\\':2}']]")
    -- kept parameters merge at the first; group first
    ∷ converts (lines "G.X;A=1;B=2;a=3:v") (made ",'vCardProps':[['x',{'group':'g','a':['1','3'],'b':'2'},'unknown','v']]")
    -- bare commas; escapes
    ∷ returns_as (lines "UID:u|NOTE:a,b\\;c\\Nd|NICKNAME:x\\\\,y|NICKNAME:x\\,y") (home_lines "FN:a^|NICKNAME;PROP-ID=NICK-1:x\\,y^|NOTE;PROP-ID=NOTE-1:a\\,b;c\\nd^|NICKNAME:x\\\\,y")
    ∷ converts (lines "NOTE:\\:|TITLE:x\\") (made ",'vCardProps':[['note',{},'unknown','\\\\:'],['title',{},'unknown','x\\\\']]")
    ∷ []

pub class-readings-hold : map given class-readings ≡ map wanted class-readings
unfolding class-readings convert-opened worked-opened
class-readings-hold = refl

-- JSON to card: 12 and 13
unfoldable pub json-readings : List Case
json-readings =
    turns-away (json ",'name':{}") 12 0
    ∷ turns-away (json ",'name':{'isOrdered':false}") 12 0
    ∷ turns-away (json ",'name':{'full':'a','isOrdered':true}") 12 0
    ∷ comes_home (json ",'name':{'components':[{'kind':'given','value':''}]},'emails':{},'vCardProps':[]") (home_lines "FN;DERIVED=TRUE:")
    ∷ turns-away (json ",'vCardProps':{}") 12 0
    ∷ turns-away (json ",'emails':null") 12 0
    ∷ turns-away (json ",'vCardProps':[['x',{'x':[]},'unknown','']]") 12 0
    ∷ comes_home (json ",'vCardProps':[['x',{'y':[''],'group':'g'},'text','']]") (home_lines "FN;DERIVED=TRUE:^|g.X;Y=;VALUE=text:")
    -- an entry is judged as if what 13 forbids were allowed
    ∷ turns-away (json ",'vCardProps':[['note',{},'unknown','a\\nb']]") 12 0
    ∷ turns-away (json ",'vCardProps':[['jsprop',{'jsptr':'a\\'b'},'unknown','1']]") 12 0
    ∷ turns-away (json ",'vCardProps':[['x',{},'unknown','a\\nb']]") 13 0
    ∷ turns-away (json ",'vCardProps':[['x',{'y':'\\''},'unknown','']]") 13 0
    -- in its place: after all converted lines
    ∷ comes_home (json ",'name':{'full':'b'},'vCardProps':[['fn',{},'unknown','a']]") (home_lines "FN:b^|FN:a")
    ∷ turns-away (json ",'vCardProps':[['fn',{},'unknown','a']]") 12 0
    ∷ turns-away (json ",'name':{'full':'b','components':[{'kind':'given','value':''}]},'vCardProps':[['n',{},'unknown','a']]") 12 0
    ∷ comes_home (json ",'emails':{'k':{'address':'b'}},'vCardProps':[['email',{'prop-id':'k'},'unknown','a']]") (home_lines "FN;DERIVED=TRUE:^|EMAIL;PROP-ID=k:b^|EMAIL;PROP-ID=k:a")
    ∷ turns-away (json ",'vCardProps':[['email',{'prop-id':'k'},'unknown','a']]") 12 0
    -- names of entries
    ∷ turns-away (json ",'vCardProps':[['uid',{},'unknown','a']]") 12 0
    ∷ turns-away (json ",'vCardProps':[['X',{},'unknown','a']]") 12 0
    ∷ turns-away (json ",'vCardProps':[['x',{'value':'uri'},'unknown','a']]") 12 0
    ∷ turns-away (json ",'vCardProps':[['x',{'group':''},'unknown','a']]") 12 0
    ∷ comes_home (json ",'vCardProps':[['x',{'group':['a']},'unknown','a']]") (home_lines "FN;DERIVED=TRUE:^|a.X:a")
    ∷ turns-away (json ",'vCardProps':[['x',{},'','a']]") 12 0
    -- numbers begin tel:
    ∷ comes_home (json ",'phones':{'k':{'number':'tel:1,2'},'l':{'number':'tel:\\n'}}") (home_lines "FN;DERIVED=TRUE:^|TEL;PROP-ID=k;VALUE=uri:tel:1,2^|TEL;PROP-ID=l:tel:\\n")
    -- 13 in uid, uri, pointers; controls inside members are escaped JSON
    ∷ turns-away (text "{'@type':'Card','version':'1.0','uid':'a\\nb'}") 13 0
    ∷ turns-away (json ",'links':{'k':{'uri':'a\\nb'}}") 13 0
    ∷ comes_home (json ",'a':'\\u0007\\u007f'") (home_lines "FN;DERIVED=TRUE:^|JSPROP;JSPTR='a':'\\\\u0007\\\\u007f'")
    -- spelled as PREF
    ∷ turns-away (json ",'emails':{'k':{'address':'a','pref':1.0}}") 12 0
    ∷ turns-away (json ",'kind':'Org'") 12 0
    ∷ turns-away (json ",'emails':{'k':{'address':'a','features':{}}}") 12 0
    ∷ turns-away (json ",'notes':{'k':{'note':'a','contexts':{}}}") 12 0
    ∷ turns-away (json ",'organizations':{'k':{'name':'','units':[{'name':''}]}}") 12 0
    ∷ turns-away (json ",'organizations':{'k':{}}") 12 0
    ∷ []

pub json-readings-hold : map given json-readings ≡ map wanted json-readings
unfolding json-readings convert-opened worked-opened
json-readings-hold = refl

-- normal forms
unfoldable pub normal-readings : List Case
normal-readings =
    comes_home (json ",'name':{'components':[{'kind':'given','value':'Jane'},{'kind':'surname','value':'Doe'},{'kind':'given','value':''}]}")
    (home_lines "FN;DERIVED=TRUE:Doe Jane^|N:Doe;Jane;;;;;")
    ∷ settles-as (json ",'name':{'isOrdered':false,'components':[{'value':'Jane','kind':'given'},{'kind':'surname','value':'Doe'},{'kind':'given','value':''}]}")
    (json ",'name':{'components':[{'kind':'surname','value':'Doe'},{'kind':'given','value':'Jane'}]}")
    ∷ returns_as (lines "UID:u|TEL;TYPE=work,cell,work;TYPE=HOME,fax:1|TEL:tel:1\\,2|a.TEL:tel:1|TEL;VALUE=uri:x|URL;VALUE=URI:y|b.URL;VALUE=URI:y|X;JSPTR=a;B='c;d','e';VALUE=Uri:1")
    (home_lines "FN:a^|TEL;PROP-ID=PHONE-1;TYPE=home,work,fax,cell:1^|TEL;PROP-ID=PHONE-2;VALUE=uri:tel:1,2^|URL;PROP-ID=LINK-1:y^|a.TEL:tel:1^|TEL;VALUE=uri:x^|b.URL;VALUE=uri:y^|X;JSPTR='a';B='c;d',e;VALUE=uri:1")
    ∷ returns_as (card "VERSION:4.0|FN;X=1:k|N:Doe;Jane") (text "BEGIN:VCARD^|VERSION:4.0^|UID:reg-1^|FN;DERIVED=TRUE:Doe Jane^|N:Doe;Jane;;;;;^|FN;X=1:k^|END:VCARD^|")
    ∷ settles-as (text "{'vCardProps':[['x',{'b':['1'],'group':'g','a':['1','2']},'unknown','']],'z': 1.0e0 ,'titles':{'k':{'name':''}},'uid':'u','organizations':{'o':{'units':[{'name':''},{'name':'U'}],'name':''}},'phones':{'p':{'features':{'voice':true,'fax':true},'contexts':{'work':true,'private':true},'number':''}},'emails':{},'a':[],'version':'1.0','@type':'Card'}")
    (json ",'phones':{'p':{'number':'','contexts':{'private':true,'work':true},'features':{'fax':true,'voice':true}}},'titles':{'k':{'kind':'title','name':''}},'organizations':{'o':{'units':[{'name':'U'}]}},'z':1.0e0,'a':[],'vCardProps':[['x',{'group':'g','b':'1','a':['1','2']},'unknown','']]")
    ∷ []

pub normal-readings-hold : map given normal-readings ≡ map wanted normal-readings
unfolding normal-readings convert-opened worked-opened
normal-readings-hold = refl
