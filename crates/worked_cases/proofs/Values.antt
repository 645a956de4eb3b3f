-- Worked cases of values, by hand: TEXT and its escapes on each property, N's and ORG's parts, JSPROP's pointers and JSON, and kept lines.
use mathlib.Core.Path.{◌≡◌, refl}
use mathlib.Core.List.{List, [], ◌∷◌, ◌++◌, map}
use Prim.Native.String.{String}
use Rattle.convert.proofs.Opened.{convert-opened}
use Rattle.convert.specs.Worked.{text, card, lines, made, home_lines, Case, converts, returns_as, given, wanted, worked-opened}

-- ---- TEXT: \\ \, \; \n \N; a bare comma or semicolon stands for itself; a bad escape keeps the line

unfoldable pub texts : List Case
texts =
    -- FN: each escape by itself
    converts (card "VERSION:4.0|FN:a\\\\b") (text "{'@type':'Card','version':'1.0','uid':'reg-1','name':{'full':'a\\\\b'}}")
    ∷ converts (card "VERSION:4.0|FN:a\\,b") (text "{'@type':'Card','version':'1.0','uid':'reg-1','name':{'full':'a,b'}}")
    ∷ converts (card "VERSION:4.0|FN:a\\;b") (text "{'@type':'Card','version':'1.0','uid':'reg-1','name':{'full':'a;b'}}")
    ∷ converts (card "VERSION:4.0|FN:a\\nb") (text "{'@type':'Card','version':'1.0','uid':'reg-1','name':{'full':'a\\nb'}}")
    ∷ converts (card "VERSION:4.0|FN:a\\Nb") (text "{'@type':'Card','version':'1.0','uid':'reg-1','name':{'full':'a\\nb'}}")
    ∷ converts (card "VERSION:4.0|FN:a,b;c:d") (text "{'@type':'Card','version':'1.0','uid':'reg-1','name':{'full':'a,b;c:d'}}")
    ∷ converts (card "VERSION:4.0|FN:\\\\n\\\\\\,") (text "{'@type':'Card','version':'1.0','uid':'reg-1','name':{'full':'\\\\n\\\\,'}}")
    -- FN: bad escapes
    ∷ converts (card "VERSION:4.0|FN:a\\:b|FN:\\|FN:\\t|FN:\\\\\\|FN:\\ |FN:\\'")
    (text "{'@type':'Card','version':'1.0','uid':'reg-1','vCardProps':[['fn',{},'unknown','a\\\\:b'],['fn',{},'unknown','\\\\'],['fn',{},'unknown','\\\\t'],['fn',{},'unknown','\\\\\\\\\\\\'],['fn',{},'unknown','\\\\ '],['fn',{},'unknown','\\\\\\'']]}")
    -- the other TEXT lines
    ∷ converts (lines "NICKNAME:\\\\\\,\\;\\n\\N;|EMAIL:\\\\\\,\\;\\n\\N,;|TEL:\\\\\\,\\;\\n\\N,;|NOTE:\\\\\\,\\;\\n\\N,;|TITLE:\\\\\\,\\;\\n\\N,;|ROLE:\\\\\\,\\;\\n\\N,;|ORG:\\\\\\,\\;\\n\\N,")
    (made ",'nicknames':{'NICK-1':{'name':'\\\\,;\\n\\n;'}},'emails':{'EMAIL-1':{'address':'\\\\,;\\n\\n,;'}},'phones':{'PHONE-1':{'number':'\\\\,;\\n\\n,;'}},'notes':{'NOTE-1':{'note':'\\\\,;\\n\\n,;'}},'titles':{'TITLE-1':{'kind':'title','name':'\\\\,;\\n\\n,;'},'TITLE-2':{'kind':'role','name':'\\\\,;\\n\\n,;'}},'organizations':{'ORG-1':{'name':'\\\\,;\\n\\n,'}}")
    ∷ converts (lines "NICKNAME:\\x|EMAIL:\\x|TEL:\\x|NOTE:\\x|TITLE:\\x|ROLE:\\x|ORG:\\x|ORG:a;\\x|N:a;\\x")
    (made ",'vCardProps':[['nickname',{},'unknown','\\\\x'],['email',{},'unknown','\\\\x'],['tel',{},'unknown','\\\\x'],['note',{},'unknown','\\\\x'],['title',{},'unknown','\\\\x'],['role',{},'unknown','\\\\x'],['org',{},'unknown','\\\\x'],['org',{},'unknown','a;\\\\x'],['n',{},'unknown','a;\\\\x']]")
    -- empty values
    ∷ converts (lines "NICKNAME:|EMAIL:|TEL:|URL:|NOTE:|TITLE:|ROLE:|ORG:|N:")
    (made ",'nicknames':{'NICK-1':{'name':''}},'emails':{'EMAIL-1':{'address':''}},'phones':{'PHONE-1':{'number':''}},'links':{'LINK-1':{'uri':''}},'notes':{'NOTE-1':{'note':''}},'titles':{'TITLE-1':{'kind':'title','name':''},'TITLE-2':{'kind':'role','name':''}},'vCardProps':[['org',{},'unknown',''],['n',{},'unknown','']]")
    -- NICKNAME with a bare comma
    ∷ converts (lines "NICKNAME:a,b|NICKNAME:,|NICKNAME:a\\\\,b|NICKNAME:a\\,b|NICKNAME:a\\\\\\,b")
    (made ",'nicknames':{'NICK-1':{'name':'a,b'},'NICK-2':{'name':'a\\\\,b'}},'vCardProps':[['nickname',{},'unknown','a,b'],['nickname',{},'unknown',','],['nickname',{},'unknown','a\\\\\\\\,b']]")
    -- written: backslash, LF and comma escaped, the semicolon in N and ORG alone
    ∷ returns_as (card "VERSION:4.0|UID:u\\,;v|FN:\\\\\\,\\;\\n\\N,;|NICKNAME:\\\\\\,\\;\\n\\N;|EMAIL:\\\\\\,\\;\\n\\N,;|TEL:\\\\\\,\\;\\n\\N,;|URL:\\\\\\,\\;\\n\\N,;")
    (text "BEGIN:VCARD^|VERSION:4.0^|UID:u\\,;v^|FN:\\\\\\,;\\n\\n\\,;^|NICKNAME;PROP-ID=NICK-1:\\\\\\,;\\n\\n;^|EMAIL;PROP-ID=EMAIL-1:\\\\\\,;\\n\\n\\,;^|TEL;PROP-ID=PHONE-1:\\\\\\,;\\n\\n\\,;^|URL;PROP-ID=LINK-1:\\\\\\,\\;\\n\\N,;^|END:VCARD^|")
    ∷ returns_as (lines "UID:u|NOTE:\\\\\\,\\;\\n\\N,;|TITLE:\\\\\\,\\;\\n\\N,;|ROLE:\\\\\\,\\;\\n\\N,;|ORG:\\\\\\,\\;\\n\\N,;\\;|N:\\\\\\,\\;\\n\\N;\\;|X:\\;\\N,;\\x")
    (home_lines "FN:a^|N:\\\\\\,\\;\\n\\n;\\;;;;;;^|NOTE;PROP-ID=NOTE-1:\\\\\\,;\\n\\n\\,;^|TITLE;PROP-ID=TITLE-1:\\\\\\,;\\n\\n\\,;^|ROLE;PROP-ID=TITLE-2:\\\\\\,;\\n\\n\\,;^|ORG;PROP-ID=ORG-1:\\\\\\,\\;\\n\\n\\,;\\;^|X:\\;\\N,;\\x")
    ∷ []

pub texts-hold : map given texts ≡ map wanted texts
unfolding texts convert-opened worked-opened
texts-hold = refl

-- ---- N and ORG

-- the JSON of a card with FN:a, N of these components
abbrev named : String → String → Case
named n cs = converts (lines n) (text "{'@type':'Card','version':'1.0','uid':'reg-1','name':{'full':'a','components':[" ++ text cs ++ text "]}}")

unfoldable pub structured : List Case
structured =
    -- the seven parts and their kinds
    named "N:a;b;c;d;e;f;g"
    "{'kind':'surname','value':'a'},{'kind':'given','value':'b'},{'kind':'given2','value':'c'},{'kind':'title','value':'d'},{'kind':'credential','value':'e'},{'kind':'surname2','value':'f'},{'kind':'generation','value':'g'}"
    -- several values of each part, in their order; repeats stay
    ∷ named "N:a,b,a;c,d;e,f;g,h"
    "{'kind':'surname','value':'a'},{'kind':'surname','value':'b'},{'kind':'surname','value':'a'},{'kind':'given','value':'c'},{'kind':'given','value':'d'},{'kind':'given2','value':'e'},{'kind':'given2','value':'f'},{'kind':'title','value':'g'},{'kind':'title','value':'h'}"
    ∷ named "N:;;;;i,j,i;k,l,k;m,n,m"
    "{'kind':'credential','value':'i'},{'kind':'credential','value':'j'},{'kind':'credential','value':'i'},{'kind':'surname2','value':'k'},{'kind':'surname2','value':'l'},{'kind':'surname2','value':'k'},{'kind':'generation','value':'m'},{'kind':'generation','value':'n'},{'kind':'generation','value':'m'}"
    -- empty values vanish, missing parts are empty; escaped separators do not split
    ∷ named "N:,a,,b,;;,c" "{'kind':'surname','value':'a'},{'kind':'surname','value':'b'},{'kind':'given2','value':'c'}"
    ∷ named "N:;b" "{'kind':'given','value':'b'}"
    ∷ named "N:;;;;;;g" "{'kind':'generation','value':'g'}"
    ∷ named "N:a\\,b\\;c;d\\nd\\\\,e" "{'kind':'surname','value':'a,b;c'},{'kind':'given','value':'d\\nd\\\\'},{'kind':'given','value':'e'}"
    -- a family value among the secondary surnames, a suffix among the generations: ignored, and only these
    ∷ named "N:Foo,Bar,Foo;;;;;Baz,Foo" "{'kind':'surname','value':'Bar'},{'kind':'surname2','value':'Baz'},{'kind':'surname2','value':'Foo'}"
    ∷ named "N:;;;;Jr.,M.D.,Jr.;;Jr." "{'kind':'credential','value':'M.D.'},{'kind':'generation','value':'Jr.'}"
    ∷ named "N:Jr.;;;;Foo;Foo;Jr." "{'kind':'surname','value':'Jr.'},{'kind':'credential','value':'Foo'},{'kind':'surname2','value':'Foo'},{'kind':'generation','value':'Jr.'}"
    ∷ named "N:;Foo;Jr.;Foo;;Foo;Jr." "{'kind':'given','value':'Foo'},{'kind':'given2','value':'Jr.'},{'kind':'title','value':'Foo'},{'kind':'surname2','value':'Foo'},{'kind':'generation','value':'Jr.'}"
    ∷ named "N:a\\,b,foo;;;;;a\\,b,Foo" "{'kind':'surname','value':'foo'},{'kind':'surname2','value':'a,b'},{'kind':'surname2','value':'Foo'}"
    -- over 7 parts, every value empty: kept
    ∷ converts (lines "N:a;b;c;d;e;f;g;|N:;;;;;;;|N:|N:,|N:;;;;;;|N:,;,;")
    (made ",'vCardProps':[['n',{},'unknown','a;b;c;d;e;f;g;'],['n',{},'unknown',';;;;;;;'],['n',{},'unknown',''],['n',{},'unknown',','],['n',{},'unknown',';;;;;;'],['n',{},'unknown',',;,;']]")
    -- ORG: the name, then units; commas do not split; empty units vanish
    ∷ converts (lines "ORG:a|ORG:a;|ORG:a;b;c|ORG:a;;c;|ORG:;b|ORG:;;b|ORG:a,b;c,d|ORG:a\\;b;c\\;d\\,e")
    (made ",'organizations':{'ORG-1':{'name':'a'},'ORG-2':{'name':'a'},'ORG-3':{'name':'a','units':[{'name':'b'},{'name':'c'}]},'ORG-4':{'name':'a','units':[{'name':'c'}]},'ORG-5':{'units':[{'name':'b'}]},'ORG-6':{'units':[{'name':'b'}]},'ORG-7':{'name':'a,b','units':[{'name':'c,d'}]},'ORG-8':{'name':'a;b','units':[{'name':'c;d,e'}]}}")
    ∷ converts (lines "ORG:|ORG:;|ORG:;;;") (made ",'vCardProps':[['org',{},'unknown',''],['org',{},'unknown',';'],['org',{},'unknown',';;;']]")
    ∷ []

pub structured-hold : map given structured ≡ map wanted structured
unfolding structured convert-opened worked-opened
structured-hold = refl

-- ---- JSPROP

unfoldable pub members : List Case
members =
    -- each kind of JSON, compact, numbers as spelled, strings spelled anew
    converts (lines "JSPROP;JSPTR='a':null|JSPROP;JSPTR='b':true|JSPROP;JSPTR='c':false|jsprop;jsptr=d: -0.50E+02 |JSPROP;JSPTR='e':'x\\\\u0041\\\\n\\,y'|JSPROP;JSPTR='f':[ 1 \\, 2,\\n3 ]|JSPROP;JSPTR='g':{ 'h' : {} }|JSPROP;JSPTR='Z';VALUE=unknown:0")
    (made ",'a':null,'b':true,'c':false,'d':-0.50E+02,'e':'xA\\n,y','f':[1,2,3],'g':{'h':{}},'Z':0")
    -- a pointer is one part: ~0 is a tilde, ~1 a slash
    ∷ converts (lines "JSPROP;JSPTR=a~0b:1|JSPROP;JSPTR=~01:2|JSPROP;JSPTR=~10:3|JSPROP;JSPTR='a b;c':4|JSPROP;JSPTR=é:5|JSPROP;JSPTR=0:6|JSPROP;JSPTR=A:7|JSPROP;JSPTR=a:8")
    (made ",'a~b':1,'~1':2,'/0':3,'a b;c':4,'é':5,'0':6,'A':7,'a':8")
    ∷ converts (lines "JSPROP;JSPTR=:1|JSPROP;JSPTR=/:1|JSPROP;JSPTR=/a:1|JSPROP;JSPTR=a/b:1|JSPROP;JSPTR=a/:1|JSPROP;JSPTR=~:1|JSPROP;JSPTR=a~:1|JSPROP;JSPTR=~2:1")
    (made ",'vCardProps':[['jsprop',{'jsptr':''},'unknown','1'],['jsprop',{'jsptr':'/'},'unknown','1'],['jsprop',{'jsptr':'/a'},'unknown','1'],['jsprop',{'jsptr':'a/b'},'unknown','1'],['jsprop',{'jsptr':'a/'},'unknown','1'],['jsprop',{'jsptr':'~'},'unknown','1'],['jsprop',{'jsptr':'a~'},'unknown','1'],['jsprop',{'jsptr':'~2'},'unknown','1']]")
    -- the members that no JSPROP line makes
    ∷ converts (lines "JSPROP;JSPTR='@type':1|JSPROP;JSPTR=version:1|JSPROP;JSPTR=uid:1|JSPROP;JSPTR=kind:1|JSPROP;JSPTR=name:1|JSPROP;JSPTR=nicknames:1|JSPROP;JSPTR=emails:1")
    (made ",'vCardProps':[['jsprop',{'jsptr':'@type'},'unknown','1'],['jsprop',{'jsptr':'version'},'unknown','1'],['jsprop',{'jsptr':'uid'},'unknown','1'],['jsprop',{'jsptr':'kind'},'unknown','1'],['jsprop',{'jsptr':'name'},'unknown','1'],['jsprop',{'jsptr':'nicknames'},'unknown','1'],['jsprop',{'jsptr':'emails'},'unknown','1']]")
    ∷ converts (lines "JSPROP;JSPTR=phones:1|JSPROP;JSPTR=links:1|JSPROP;JSPTR=notes:1|JSPROP;JSPTR=titles:1|JSPROP;JSPTR=organizations:1|JSPROP;JSPTR=vCardProps:[]|JSPROP;JSPTR=Name:1|JSPROP;JSPTR=vcardprops:2|JSPROP;JSPTR=title:3")
    (made ",'Name':1,'vcardprops':2,'title':3,'vCardProps':[['jsprop',{'jsptr':'phones'},'unknown','1'],['jsprop',{'jsptr':'links'},'unknown','1'],['jsprop',{'jsptr':'notes'},'unknown','1'],['jsprop',{'jsptr':'titles'},'unknown','1'],['jsprop',{'jsptr':'organizations'},'unknown','1'],['jsprop',{'jsptr':'vCardProps'},'unknown','[]']]")
    -- exactly one JSPTR value, no other parameter, no group, no VALUE, a new name
    ∷ converts (lines "JSPROP:1|JSPROP;JSPTR=a,b:1|JSPROP;JSPTR=a;JSPTR=b:1|JSPROP;JSPTR=a;X=1:1|JSPROP;JSPTR=a;PROP-ID=k:1|JSPROP;JSPTR=a;VALUE=text:1|g.JSPROP;JSPTR=a:1|JSPROP;JSPTR=a:2|JSPROP;JSPTR='a':3")
    (made ",'a':2,'vCardProps':[['jsprop',{},'unknown','1'],['jsprop',{'jsptr':['a','b']},'unknown','1'],['jsprop',{'jsptr':['a','b']},'unknown','1'],['jsprop',{'jsptr':'a','x':'1'},'unknown','1'],['jsprop',{'jsptr':'a','prop-id':'k'},'unknown','1'],['jsprop',{'jsptr':'a'},'text','1'],['jsprop',{'group':'g','jsptr':'a'},'unknown','1'],['jsprop',{'jsptr':'a'},'unknown','3']]")
    -- TEXT that is no JSON: a bad escape, nothing, grammar, equal names, a surrogate alone
    ∷ converts (lines "JSPROP;JSPTR=a:[1\\]|JSPROP;JSPTR=a:|JSPROP;JSPTR=a:tru|JSPROP;JSPTR=a:1 2|JSPROP;JSPTR=a:01")
    (made ",'vCardProps':[['jsprop',{'jsptr':'a'},'unknown','[1\\\\]'],['jsprop',{'jsptr':'a'},'unknown',''],['jsprop',{'jsptr':'a'},'unknown','tru'],['jsprop',{'jsptr':'a'},'unknown','1 2'],['jsprop',{'jsptr':'a'},'unknown','01']]")
    ∷ converts (lines "JSPROP;JSPTR=a:{'b':1\\,'b':1}|JSPROP;JSPTR=a:'\\\\ud800'|JSPROP;JSPTR=a:'x\\ny'")
    (made ",'vCardProps':[['jsprop',{'jsptr':'a'},'unknown','{\\'b\\':1\\\\,\\'b\\':1}'],['jsprop',{'jsptr':'a'},'unknown','\\'\\\\\\\\ud800\\''],['jsprop',{'jsptr':'a'},'unknown','\\'x\\\\ny\\'']]")
    -- home: JSPTR in quotes, commas and backslashes escaped
    ∷ returns_as (lines "UID:u|JSPROP;JSPTR=a~0b: [1,'c\\\\n\\\\u0041;'] |JSPROP;JSPTR=/:1;2") (home_lines "FN:a^|JSPROP;JSPTR='a~0b':[1\\,'c\\\\nA;']^|JSPROP;JSPTR='/':1;2")
    ∷ []

pub members-hold : map given members ≡ map wanted members
unfolding members convert-opened worked-opened
members-hold = refl

-- ---- kept lines

unfoldable pub kept-lines : List Case
kept-lines =
    -- name, group, parameter names and VALUE in lower case; parameter values and the value as they are
    converts (lines "Item-1.X-ABC;Abc=DeF;VALUE=Text;Ghi='J;K':L\\,m\\N;\\x") (made ",'vCardProps':[['x-abc',{'group':'item-1','abc':'DeF','ghi':'J;K'},'text','L\\\\,m\\\\N;\\\\x']]")
    -- a string, or an array if several; parameters of one name at the place of the first
    ∷ converts (lines "X;A=1;B=2,3;C='4,5','6';a=7:v|ADR;TYPE='a,b';TYPE=c:w") (made ",'vCardProps':[['x',{'a':['1','7'],'b':['2','3'],'c':['4,5','6']},'unknown','v'],['adr',{'type':['a,b','c']},'unknown','w']]")
    -- VALUE is no parameter there, and unknown as if absent
    ∷ converts (lines "X;VALUE=UNKNOWN:1|X;A=1;value=Date-And-Or-Time;B=2:3|BDAY:4|PHOTO;VALUE=uri:data:x") (made ",'vCardProps':[['x',{},'unknown','1'],['x',{'a':'1','b':'2'},'date-and-or-time','3'],['bday',{},'unknown','4'],['photo',{},'uri','data:x']]")
    -- each line as often as it came, in its order
    ∷ converts (lines "X:1|Y:2|X:1") (made ",'vCardProps':[['x',{},'unknown','1'],['y',{},'unknown','2'],['x',{},'unknown','1']]")
    -- FN with the sole parameter DERIVED=TRUE, no group: gone; with anything more, kept
    ∷ converts (lines "FN;DERIVED=TRUE:b|fn;Derived=tRuE:c|FN;DERIVED=TRUE;VALUE=unknown:d|FN;DERIVED='TRUE':\\x") (made "")
    ∷ converts (lines "g.FN;DERIVED=TRUE:b|FN;DERIVED=FALSE:c|FN;DERIVED=TRUE;X=1:d|FN;X=1;DERIVED=TRUE:e|FN;DERIVED=TRUE;DERIVED=TRUE:f|FN;DERIVED=TRUE;VALUE=text:h")
    (made ",'vCardProps':[['fn',{'group':'g','derived':'TRUE'},'unknown','b'],['fn',{'derived':'FALSE'},'unknown','c'],['fn',{'derived':'TRUE','x':'1'},'unknown','d'],['fn',{'x':'1','derived':'TRUE'},'unknown','e'],['fn',{'derived':['TRUE','TRUE']},'unknown','f'],['fn',{'derived':'TRUE'},'text','h']]")
    ∷ converts (lines "N;DERIVED=TRUE:i|FN;DERIVED=TRUE :j|FN;DERIVED=:k") (made ",'vCardProps':[['n',{'derived':'TRUE'},'unknown','i'],['fn',{'derived':'TRUE '},'unknown','j'],['fn',{'derived':''},'unknown','k']]")
    -- strings of the JSON: quote, backslash, controls and DEL escaped, nothing else
    ∷ converts (lines "X;A=\t/:'\\\t/é\u{2028}") (made ",'vCardProps':[['x',{'a':'\\t/'},'unknown','\\'\\\\\\t/é\u{2028}']]")
    ∷ converts (lines "JSPROP;JSPTR=a:'\\\\b\\\\f\\\\n\\\\r\\\\t\\\\u0000\\\\u000b\\\\u001F\\\\u007f\\\\u0080\\\\/\\\\u0022\\\\u005c'") (made ",'a':'\\b\\f\\n\\r\\t\\u0000\\u000b\\u001f\\u007f\u{80}/\\'\\\\'")
    ∷ []

pub kept-lines-hold : map given kept-lines ≡ map wanted kept-lines
unfolding kept-lines convert-opened worked-opened
kept-lines-hold = refl
