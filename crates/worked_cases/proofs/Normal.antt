-- Worked cases of 01's 'Normal forms', by hand and change by change: of a card, then of JSON.
use mathlib.Core.Path.{◌≡◌, refl}
use mathlib.Core.List.{List, [], ◌∷◌, ◌++◌, map}
use lib.ListN.{replicate}
use Rattle.text.specs.Bytes.{Bytes}
use Rattle.convert.proofs.Opened.{convert-opened}
use Rattle.convert.specs.Worked.{text, card, lines, json, home_lines, Case, returns_as, settles-as, given, wanted, worked-opened}

-- ---- cards

unfoldable pub normal-cards : List Case
normal-cards =
    -- names upper-case; groups, converted TYPE and KIND lower-case; other parameter values as they are
    returns_as (card "version:4.0|fn:a|uid:u|kind:oRg|tel;type=Cell,HOME;pref=1:b|Item1.x-abc;x-d=EfG;Type=HOME:h")
    (home_lines "KIND:org^|FN:a^|TEL;PROP-ID=PHONE-1;PREF=1;TYPE=home,cell:b^|item1.X-ABC;X-D=EfG;TYPE=HOME:h")
    -- repeated TYPE gone, the rest alphabetical by JSON name, contexts first
    ∷ returns_as (lines "UID:u|TEL;TYPE=voice,cell;TYPE=work,cell,fax,home,WORK,pager:b|EMAIL;TYPE='work,home',work:c|URL;TYPE=work;TYPE=home:d|NICKNAME;TYPE=Work,home:e")
    (home_lines "FN:a^|NICKNAME;PROP-ID=NICK-1;TYPE=home,work:e^|EMAIL;PROP-ID=EMAIL-1;TYPE=home,work:c^|TEL;PROP-ID=PHONE-1;TYPE=home,work,fax,cell,pager,voice:b^|URL;PROP-ID=LINK-1;TYPE=home,work:d")
    -- FN with only DERIVED=TRUE gone
    ∷ returns_as (lines "UID:u|FN;DERIVED=TRUE:b|FN;DERIVED=TRUE;X=1:c") (home_lines "FN:a^|FN;DERIVED=TRUE;X=1:c")
    -- quotes only where needed, JSPTR always
    ∷ returns_as (lines "UID:u|X;A='b','c;d','e:f','g,h','','i j',k=l:m|JSPROP;JSPTR=n:1|X;JSPTR=o,'p':q|TEL;PROP-ID='r';PREF='1';TYPE='cell':s")
    (home_lines "FN:a^|TEL;PROP-ID=r;PREF=1;TYPE=cell:s^|JSPROP;JSPTR='n':1^|X;A=b,'c;d','e:f','g,h',,i j,k=l:m^|X;JSPTR='o','p':q")
    -- parameters PROP-ID, PREF, TYPE, VALUE
    ∷ returns_as (lines "UID:u|TEL;VALUE=URI;TYPE=cell;PREF=3;PROP-ID=k:tel:1|EMAIL;TYPE=home;PROP-ID=k;PREF=2:m") (home_lines "FN:a^|EMAIL;PROP-ID=k;PREF=2;TYPE=home:m^|TEL;PROP-ID=k;PREF=3;TYPE=cell;VALUE=uri:tel:1")
    -- equal-named kept parameters merged, at the place of the first; VALUE last, lower-case
    ∷ returns_as (lines "UID:u|X;B=1;VALUE=TEXT;A=2;b=3,4;C=5:v") (home_lines "FN:a^|X;B=1,3,4;A=2;C=5;VALUE=text:v")
    -- VALUE dropped when unknown, or uri on UID and a converted URL; TEL's by its rule; on kept lines it stays
    ∷ returns_as (card "VERSION:4.0|UID;VALUE=uri:u|FN;VALUE=unknown:a|X;VALUE=Unknown:b|URL;VALUE=uri:c|URL;VALUE=uri;X=1:d|EMAIL;VALUE=uri:e|g.TEL:tel:1|TEL;VALUE=uri:f|TEL:tel:2\\,3|TEL;VALUE=uri:tel:4\\n|TEL:tel:5\\n")
    (home_lines "FN:a^|TEL;PROP-ID=PHONE-1;VALUE=uri:tel:2,3^|TEL;PROP-ID=PHONE-2;VALUE=uri:tel:4\\n^|TEL;PROP-ID=PHONE-3:tel:5\\n^|URL;PROP-ID=LINK-1:c^|X:b^|URL;X=1;VALUE=uri:d^|EMAIL;VALUE=uri:e^|g.TEL:tel:1^|TEL;VALUE=uri:f")
    -- made UID and PROP-ID
    ∷ returns_as (lines "NOTE:b|NOTE;PROP-ID=NOTE-1:c|ROLE:d") (text "BEGIN:VCARD^|VERSION:4.0^|UID:reg-1^|FN:a^|NOTE;PROP-ID=NOTE-2:b^|NOTE;PROP-ID=NOTE-1:c^|ROLE;PROP-ID=TITLE-1:d^|END:VCARD^|")
    -- N with 7 parts by its rule, empty values gone, missing parts empty
    ∷ returns_as (lines "UID:u|N:a") (home_lines "FN:a^|N:a;;;;;;")
    ∷ returns_as (lines "UID:u|N:,a,,b;c,") (home_lines "FN:a^|N:a,b;c;;;;;")
    ∷ returns_as (lines "UID:u|N:a;b;c;d;e;f;g") (home_lines "FN:a^|N:a,f;b;c;d;e,g;f;g")
    ∷ returns_as (lines "UID:u|N:f,a;;;;g,e;f;g") (home_lines "FN:a^|N:a,f;;;;e,g;f;g")
    ∷ returns_as (lines "UID:u|N:;;;;;f;g") (home_lines "FN:a^|N:f;;;;g;f;g")
    -- ORG: empty units gone, the empty name stays a part
    ∷ returns_as (lines "UID:u|ORG:a;;b;|ORG:a;|ORG:;;b|ORG:;") (home_lines "FN:a^|ORG;PROP-ID=ORG-1:a;b^|ORG;PROP-ID=ORG-2:a^|ORG;PROP-ID=ORG-3:;b^|ORG:;")
    -- JSON compact
    ∷ returns_as (lines "UID:u|JSPROP;JSPTR='b': { 'c' : [ 1.0 , '\\\\u0064' ] }|JSPROP;JSPTR='b': [ ]") (home_lines "FN:a^|JSPROP;JSPTR='b':{'c':[1.0\\,'d']}^|JSPROP;JSPTR='b': [ ]")
    -- with no converted FN one is made of the components, joined by spaces; kept FN lines stay
    ∷ returns_as (card "VERSION:4.0|g.FN:x|N:a,b;c;;d\\,;e;f;g|UID:u") (home_lines "FN;DERIVED=TRUE:a b c d\\, e f g^|N:a,b,f;c;;d\\,;e,g;f;g^|g.FN:x")
    ∷ returns_as (card "VERSION:4.0|FN;X=1:x|UID:u") (home_lines "FN;DERIVED=TRUE:^|FN;X=1:x")
    ∷ []

pub normal-cards-hold : map given normal-cards ≡ map wanted normal-cards
unfolding normal-cards convert-opened worked-opened
normal-cards-hold = refl

-- folds at 75 bytes at the latest whole character, the leading space counted

-- VERSION, UID and FN, then X: and these bytes; and as it is written
abbrev long : Bytes → Bytes
long v = text "BEGIN:VCARD|VERSION:4.0|UID:u|FN:a|X:" ++ v ++ text "|END:VCARD|"

abbrev long_home : Bytes → Bytes
long_home v = text "BEGIN:VCARD^|VERSION:4.0^|UID:u^|FN:a^|X:" ++ v ++ text "^|END:VCARD^|"

unfoldable pub folds : List Case
folds =
    -- X: and 73 bytes are 75; one more goes to the next line; a space and 74 bytes are 75
    returns_as (long (replicate 73 97)) (long_home (replicate 73 97))
    ∷ returns_as (long (replicate 74 97)) (long_home (replicate 73 97 ++ text "^| a"))
    ∷ returns_as (long (replicate 147 97)) (long_home (replicate 73 97 ++ text "^| " ++ replicate 74 97))
    ∷ returns_as (long (replicate 148 97)) (long_home (replicate 73 97 ++ text "^| " ++ replicate 74 97 ++ text "^| a"))
    -- characters of two, three and four bytes that end at 75, and at 76
    ∷ returns_as (long (replicate 71 97 ++ text "éb")) (long_home (replicate 71 97 ++ text "é^| b"))
    ∷ returns_as (long (replicate 72 97 ++ text "é")) (long_home (replicate 72 97 ++ text "^| é"))
    ∷ returns_as (long (replicate 70 97 ++ text "€b")) (long_home (replicate 70 97 ++ text "€^| b"))
    ∷ returns_as (long (replicate 71 97 ++ text "€")) (long_home (replicate 71 97 ++ text "^| €"))
    ∷ returns_as (long (replicate 69 97 ++ text "😀b")) (long_home (replicate 69 97 ++ text "😀^| b"))
    ∷ returns_as (long (replicate 70 97 ++ text "😀")) (long_home (replicate 70 97 ++ text "^| 😀"))
    -- a blank after the fold, an escape across it; folds that came are gone
    ∷ returns_as (long (replicate 73 97 ++ text "  b")) (long_home (replicate 73 97 ++ text "^|   b"))
    ∷ returns_as (long (replicate 72 97 ++ text "\\,")) (long_home (replicate 72 97 ++ text "\\^| ,"))
    ∷ returns_as (long (text "a| b^|\tc| | d")) (long_home (text "abcd"))
    ∷ []

pub folds-hold : map given folds ≡ map wanted folds
unfolding folds convert-opened worked-opened
folds-hold = refl

-- ---- JSON

unfoldable pub normal-jsons : List Case
normal-jsons =
    -- the stated order, compact, numbers as spelled
    settles-as (text " { 'vCardProps' : [ [ 'x' , { } , 'unknown' , 'y' ] ] , 'b' : [ 1.0E1 , -0 ] , 'organizations' : { 'k' : { 'name' : 'o' } } , 'titles' : { 'k' : { 'name' : 't' , 'kind' : 'role' } } , 'notes' : { 'k' : { 'note' : 'n' } } , "
    ++ text "'a' : { } , 'links' : { 'k' : { 'uri' : 'l' } } , 'phones' : { 'k' : { 'number' : 'p' } } , 'emails' : { 'k' : { 'address' : 'e' } } , 'nicknames' : { 'k' : { 'name' : 'i' } } , 'name' : { 'full' : 'f' } , 'kind' : 'org' , 'uid' : 'u' , 'version' : '1.0' , '@type' : 'Card' } ")
    (json ",'kind':'org','name':{'full':'f'},'nicknames':{'k':{'name':'i'}},'emails':{'k':{'address':'e'}},'phones':{'k':{'number':'p'}},'links':{'k':{'uri':'l'}},'notes':{'k':{'note':'n'}},'titles':{'k':{'kind':'role','name':'t'}},'organizations':{'k':{'name':'o'}},'b':[1.0E1,-0],'a':{},'vCardProps':[['x',{},'unknown','y']]")
    -- inside maps the order given; inside entries kind, the table's members, contexts, features, pref
    ∷ settles-as (json ",'phones':{'z':{'pref':1,'features':{'voice':true,'video':true,'textphone':true,'text':true,'pager':true,'mobile':true,'fax':true},'contexts':{'work':true,'private':true},'number':'a'},'b':{'number':'c'}}")
    (json ",'phones':{'z':{'number':'a','contexts':{'private':true,'work':true},'features':{'fax':true,'mobile':true,'pager':true,'text':true,'textphone':true,'video':true,'voice':true},'pref':1},'b':{'number':'c'}}")
    ∷ settles-as (json ",'emails':{'z':{'pref':1,'contexts':{'work':true},'address':'a'}},'links':{'z':{'pref':2,'contexts':{'work':true,'private':true},'uri':'a'}},'nicknames':{'z':{'contexts':{'private':true},'pref':3,'name':'a'}}")
    (json ",'nicknames':{'z':{'name':'a','contexts':{'private':true},'pref':3}},'emails':{'z':{'address':'a','contexts':{'work':true},'pref':1}},'links':{'z':{'uri':'a','contexts':{'private':true,'work':true},'pref':2}}")
    -- components stably by kind, kind before value, isOrdered gone, full first
    ∷ settles-as (json ",'name':{'isOrdered':false,'components':[{'value':'1','kind':'generation'},{'kind':'given','value':'2'},{'kind':'surname2','value':'3'},{'kind':'credential','value':'4'},{'kind':'given','value':'5'},{'kind':'title','value':'6'},{'kind':'given2','value':'7'},{'kind':'surname','value':'8'},{'kind':'given','value':'2'}],'full':'f'}")
    (json ",'name':{'full':'f','components':[{'kind':'surname','value':'8'},{'kind':'given','value':'2'},{'kind':'given','value':'5'},{'kind':'given','value':'2'},{'kind':'given2','value':'7'},{'kind':'title','value':'6'},{'kind':'credential','value':'4'},{'kind':'surname2','value':'3'},{'kind':'generation','value':'1'}]}")
    -- empty component values gone, and the list and the name that are left empty
    ∷ settles-as (json ",'name':{'components':[{'kind':'given','value':''},{'kind':'given','value':'a'},{'kind':'surname','value':''}]}") (json ",'name':{'components':[{'kind':'given','value':'a'}]}")
    ∷ settles-as (json ",'name':{'components':[{'kind':'given','value':''}],'full':'f'}") (json ",'name':{'full':'f'}")
    ∷ settles-as (json ",'name':{'components':[{'kind':'given','value':''}]}") (json "")
    ∷ settles-as (json ",'name':{'components':[],'isOrdered':false}") (json "")
    -- an empty full name is a name
    ∷ settles-as (json ",'name':{'full':'','components':[]}") (json ",'name':{'full':''}")
    -- empty maps and lists gone, contexts and features too; other empty strings stay
    ∷ settles-as (json ",'nicknames':{},'emails':{},'phones':{'k':{'number':'','contexts':{},'features':{}}},'links':{},'notes':{},'titles':{},'organizations':{},'vCardProps':[]") (json ",'phones':{'k':{'number':''}}")
    ∷ settles-as (json ",'nicknames':{'k':{'name':''}},'emails':{'k':{'address':'','contexts':{}}},'links':{'k':{'uri':''}},'notes':{'k':{'note':''}},'titles':{'k':{'name':''}}")
    (json ",'nicknames':{'k':{'name':''}},'emails':{'k':{'address':''}},'links':{'k':{'uri':''}},'notes':{'k':{'note':''}},'titles':{'k':{'kind':'title','name':''}}")
    -- empty units and organisation names gone
    ∷ settles-as (json ",'organizations':{'k':{'units':[{'name':''},{'name':'a'},{'name':''},{'name':'b'}],'name':''},'l':{'name':'c','units':[{'name':''}]},'m':{'units':[],'name':'d'}}")
    (json ",'organizations':{'k':{'units':[{'name':'a'},{'name':'b'}]},'l':{'name':'c'},'m':{'name':'d'}}")
    -- not in other members
    ∷ settles-as (json ",'a':{'name':'','units':[],'b':{}},'c':[],'d':['']") (json ",'a':{'name':'','units':[],'b':{}},'c':[],'d':['']")
    -- a missing title kind
    ∷ settles-as (json ",'titles':{'k':{'name':'a'},'l':{'name':'b','kind':'role'},'m':{'name':'c','kind':'title'}}") (json ",'titles':{'k':{'kind':'title','name':'a'},'l':{'kind':'role','name':'b'},'m':{'kind':'title','name':'c'}}")
    -- group first, the other parameters in their order, one-value arrays as strings
    ∷ settles-as (json ",'vCardProps':[['x',{'b':['1'],'a':'2','group':['g'],'c':['3','4'],'d':['']},'text','v'],['y',{'group':'h'},'unknown','']]") (json ",'vCardProps':[['x',{'group':'g','b':'1','a':'2','c':['3','4'],'d':''},'text','v'],['y',{'group':'h'},'unknown','']]")
    -- strings spelled anew
    ∷ settles-as (json ",'\\u0061':'\\u0041\\/\\u00e9\\u001F\\u007F\\n','notes':{'\\u006b':{'note':'\\ud83d\\ude00'}}") (json ",'notes':{'k':{'note':'😀'}},'a':'A/é\\u001f\\u007f\\n'")
    ∷ []

pub normal-jsons-hold : map given normal-jsons ≡ map wanted normal-jsons
unfolding normal-jsons convert-opened worked-opened
normal-jsons-hold = refl
