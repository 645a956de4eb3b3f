-- Worked cases of 01's table 'Converted lines', by hand and row by row: what each line becomes, which parameters it takes and which keep it, keys, and the order of the JSON.
use mathlib.Core.Path.{◌≡◌, refl}
use mathlib.Core.List.{List, [], ◌∷◌, ◌++◌, map}
use Rattle.convert.proofs.Opened.{convert-opened}
use Rattle.convert.specs.Worked.{text, card, lines, made, home_lines, Case, converts, returns_as, given, wanted, worked-opened}

-- ---- each row: bare, PREF, TYPE=home, TYPE=work, PROP-ID, VALUE=unknown; then what keeps it: TYPE=cell, VALUE=uri, VALUE=text, a group, another parameter

unfoldable pub rows : List Case
rows =
    -- UID is raw
    converts (card "VERSION:4.0|FN:a|uid:a\\,b;c\\n") (text "{'@type':'Card','version':'1.0','uid':'a\\\\,b;c\\\\n','name':{'full':'a'}}")
    -- KIND in lower case
    ∷ converts (lines "KIND:Org") (text "{'@type':'Card','version':'1.0','uid':'reg-1','kind':'org','name':{'full':'a'}}")
    ∷ converts (lines "kind:X-AZaz-09") (text "{'@type':'Card','version':'1.0','uid':'reg-1','kind':'x-azaz-09','name':{'full':'a'}}")
    -- FN: the first that can
    ∷ converts (card "VERSION:4.0|FN;X=1:b|g.FN:c|FN;VALUE=text:d|FN:\\x|FN;VALUE=unknown:e|FN:f|FN:g")
    (text "{'@type':'Card','version':'1.0','uid':'reg-1','name':{'full':'e'},'vCardProps':[['fn',{'x':'1'},'unknown','b'],['fn',{'group':'g'},'unknown','c'],['fn',{},'text','d'],['fn',{},'unknown','\\\\x'],['fn',{},'unknown','f'],['fn',{},'unknown','g']]}")
    ∷ converts (card "VERSION:4.0|FN;PREF=1:b|FN;TYPE=home:c|FN;PROP-ID=k:d|FN:") (text "{'@type':'Card','version':'1.0','uid':'reg-1','name':{'full':''},'vCardProps':[['fn',{'pref':'1'},'unknown','b'],['fn',{'type':'home'},'unknown','c'],['fn',{'prop-id':'k'},'unknown','d']]}")
    -- none that can is no refusal: a grouped FN and a kept one are FN lines
    ∷ converts (card "VERSION:4.0|g.FN:b") (text "{'@type':'Card','version':'1.0','uid':'reg-1','vCardProps':[['fn',{'group':'g'},'unknown','b']]}")
    ∷ converts (card "VERSION:4.0|FN;X=1:b") (text "{'@type':'Card','version':'1.0','uid':'reg-1','vCardProps':[['fn',{'x':'1'},'unknown','b']]}")
    -- N: the first that can
    ∷ converts (lines "N;X=1:b|g.N:c|N;VALUE=text:d|N:\\x|N;PREF=1:e|N;PROP-ID=k:e|N;VALUE=unknown:f|N:h")
    (text "{'@type':'Card','version':'1.0','uid':'reg-1','name':{'full':'a','components':[{'kind':'surname','value':'f'}]},'vCardProps':[['n',{'x':'1'},'unknown','b'],['n',{'group':'g'},'unknown','c'],['n',{},'text','d'],['n',{},'unknown','\\\\x'],['n',{'pref':'1'},'unknown','e'],['n',{'prop-id':'k'},'unknown','e'],['n',{},'unknown','h']]}")
    -- NICKNAME: PREF, TYPE
    ∷ converts (lines "NICKNAME:a|NICKNAME;PREF=1:b|NICKNAME;TYPE=home:c|NICKNAME;TYPE=work:d|NICKNAME;PROP-ID=k:e|NICKNAME;VALUE=unknown:f")
    (made ",'nicknames':{'NICK-1':{'name':'a'},'NICK-2':{'name':'b','pref':1},'NICK-3':{'name':'c','contexts':{'private':true}},'NICK-4':{'name':'d','contexts':{'work':true}},'k':{'name':'e'},'NICK-5':{'name':'f'}}")
    ∷ converts (lines "NICKNAME;TYPE=cell:a|NICKNAME;VALUE=uri:b|NICKNAME;VALUE=text:c|g.NICKNAME:d|NICKNAME;X=1:e")
    (made ",'vCardProps':[['nickname',{'type':'cell'},'unknown','a'],['nickname',{},'uri','b'],['nickname',{},'text','c'],['nickname',{'group':'g'},'unknown','d'],['nickname',{'x':'1'},'unknown','e']]")
    -- EMAIL: PREF, TYPE
    ∷ converts (lines "EMAIL:a|EMAIL;PREF=1:b|EMAIL;TYPE=home:c|EMAIL;TYPE=work:d|EMAIL;PROP-ID=k:e|EMAIL;VALUE=unknown:f")
    (made ",'emails':{'EMAIL-1':{'address':'a'},'EMAIL-2':{'address':'b','pref':1},'EMAIL-3':{'address':'c','contexts':{'private':true}},'EMAIL-4':{'address':'d','contexts':{'work':true}},'k':{'address':'e'},'EMAIL-5':{'address':'f'}}")
    ∷ converts (lines "EMAIL;TYPE=cell:a|EMAIL;VALUE=uri:b|EMAIL;VALUE=text:c|g.EMAIL:d|EMAIL;X=1:e")
    (made ",'vCardProps':[['email',{'type':'cell'},'unknown','a'],['email',{},'uri','b'],['email',{},'text','c'],['email',{'group':'g'},'unknown','d'],['email',{'x':'1'},'unknown','e']]")
    -- TEL: PREF, TYPE with features, VALUE=uri
    ∷ converts (lines "TEL:a|TEL;PREF=1:b|TEL;TYPE=home:c|TEL;TYPE=work:d|TEL;PROP-ID=k:e|TEL;VALUE=unknown:f|TEL;TYPE=cell:g|TEL;VALUE=uri:tel:h")
    (made ",'phones':{'PHONE-1':{'number':'a'},'PHONE-2':{'number':'b','pref':1},'PHONE-3':{'number':'c','contexts':{'private':true}},'PHONE-4':{'number':'d','contexts':{'work':true}},'k':{'number':'e'},'PHONE-5':{'number':'f'},'PHONE-6':{'number':'g','features':{'mobile':true}},'PHONE-7':{'number':'tel:h'}}")
    ∷ converts (lines "TEL;VALUE=uri:b|TEL;VALUE=uri:xtel:b|TEL;VALUE=uri:tel|TEL;VALUE=text:c|g.TEL:d|TEL;X=1:e")
    (made ",'vCardProps':[['tel',{},'uri','b'],['tel',{},'uri','xtel:b'],['tel',{},'uri','tel'],['tel',{},'text','c'],['tel',{'group':'g'},'unknown','d'],['tel',{'x':'1'},'unknown','e']]")
    -- URL, raw: PREF, TYPE, VALUE=uri
    ∷ converts (lines "URL:a\\,b;c\\n|URL;PREF=1:b|URL;TYPE=home:c|URL;TYPE=work:d|URL;PROP-ID=k:e|URL;VALUE=unknown:f|URL;VALUE=uri:g|URL;VALUE=URI:\\x|URL:")
    (made ",'links':{'LINK-1':{'uri':'a\\\\,b;c\\\\n'},'LINK-2':{'uri':'b','pref':1},'LINK-3':{'uri':'c','contexts':{'private':true}},'LINK-4':{'uri':'d','contexts':{'work':true}},'k':{'uri':'e'},'LINK-5':{'uri':'f'},'LINK-6':{'uri':'g'},'LINK-7':{'uri':'\\\\x'},'LINK-8':{'uri':''}}")
    ∷ converts (lines "URL;TYPE=cell:a|URL;VALUE=text:c|g.URL:d|URL;X=1:e")
    (made ",'vCardProps':[['url',{'type':'cell'},'unknown','a'],['url',{},'text','c'],['url',{'group':'g'},'unknown','d'],['url',{'x':'1'},'unknown','e']]")
    -- NOTE takes neither PREF nor TYPE
    ∷ converts (lines "NOTE:a|NOTE;PROP-ID=k:b|NOTE;VALUE=unknown:c") (made ",'notes':{'NOTE-1':{'note':'a'},'k':{'note':'b'},'NOTE-2':{'note':'c'}}")
    ∷ converts (lines "NOTE;PREF=1:a|NOTE;TYPE=home:b|NOTE;TYPE=work:c|NOTE;TYPE=cell:d|NOTE;VALUE=uri:e|NOTE;VALUE=text:f|g.NOTE:g|NOTE;X=1:h")
    (made ",'vCardProps':[['note',{'pref':'1'},'unknown','a'],['note',{'type':'home'},'unknown','b'],['note',{'type':'work'},'unknown','c'],['note',{'type':'cell'},'unknown','d'],['note',{},'uri','e'],['note',{},'text','f'],['note',{'group':'g'},'unknown','g'],['note',{'x':'1'},'unknown','h']]")
    -- nor TITLE and ROLE
    ∷ converts (lines "TITLE:a|ROLE:b|TITLE;PROP-ID=k:c|ROLE;PROP-ID=l:d|ROLE;VALUE=unknown:e|TITLE;VALUE=unknown:f")
    (made ",'titles':{'TITLE-1':{'kind':'title','name':'a'},'TITLE-2':{'kind':'role','name':'b'},'k':{'kind':'title','name':'c'},'l':{'kind':'role','name':'d'},'TITLE-3':{'kind':'role','name':'e'},'TITLE-4':{'kind':'title','name':'f'}}")
    ∷ converts (lines "TITLE;PREF=1:a|TITLE;TYPE=home:b|TITLE;TYPE=work:c|TITLE;VALUE=uri:e|TITLE;VALUE=text:f|g.TITLE:g|TITLE;X=1:h")
    (made ",'vCardProps':[['title',{'pref':'1'},'unknown','a'],['title',{'type':'home'},'unknown','b'],['title',{'type':'work'},'unknown','c'],['title',{},'uri','e'],['title',{},'text','f'],['title',{'group':'g'},'unknown','g'],['title',{'x':'1'},'unknown','h']]")
    ∷ converts (lines "ROLE;PREF=1:a|ROLE;TYPE=home:b|ROLE;TYPE=work:c|ROLE;VALUE=uri:e|ROLE;VALUE=text:f|g.ROLE:g|ROLE;X=1:h")
    (made ",'vCardProps':[['role',{'pref':'1'},'unknown','a'],['role',{'type':'home'},'unknown','b'],['role',{'type':'work'},'unknown','c'],['role',{},'uri','e'],['role',{},'text','f'],['role',{'group':'g'},'unknown','g'],['role',{'x':'1'},'unknown','h']]")
    -- nor ORG
    ∷ converts (lines "ORG:a;b|ORG;PROP-ID=k:c|ORG;VALUE=unknown:d")
    (made ",'organizations':{'ORG-1':{'name':'a','units':[{'name':'b'}]},'k':{'name':'c'},'ORG-2':{'name':'d'}}")
    ∷ converts (lines "ORG;PREF=1:a|ORG;TYPE=home:b|ORG;TYPE=work:c|ORG;VALUE=uri:e|ORG;VALUE=text:f|g.ORG:g|ORG;X=1:h")
    (made ",'vCardProps':[['org',{'pref':'1'},'unknown','a'],['org',{'type':'home'},'unknown','b'],['org',{'type':'work'},'unknown','c'],['org',{},'uri','e'],['org',{},'text','f'],['org',{'group':'g'},'unknown','g'],['org',{'x':'1'},'unknown','h']]")
    ∷ []

pub rows-hold : map given rows ≡ map wanted rows
unfolding rows convert-opened worked-opened
rows-hold = refl

-- ---- PREF and TYPE

unfoldable pub parameters : List Case
parameters =
    -- PREF from 1 to 100, no leading zero, one value
    converts (lines "EMAIL;PREF=1:a|TEL;pref='9':b|URL;Pref=10:c|NICKNAME;PREF=99:d|EMAIL;PREF=100:e")
    (made ",'nicknames':{'NICK-1':{'name':'d','pref':99}},'emails':{'EMAIL-1':{'address':'a','pref':1},'EMAIL-2':{'address':'e','pref':100}},'phones':{'PHONE-1':{'number':'b','pref':9}},'links':{'LINK-1':{'uri':'c','pref':10}}")
    ∷ converts (lines "TEL;PREF=0:a|TEL;PREF=101:b|TEL;PREF=01:c|TEL;PREF=:d|TEL;PREF=1.0:e|TEL;PREF=+1:f|TEL;PREF= 1:g|TEL;PREF=1a:h")
    (made ",'vCardProps':[['tel',{'pref':'0'},'unknown','a'],['tel',{'pref':'101'},'unknown','b'],['tel',{'pref':'01'},'unknown','c'],['tel',{'pref':''},'unknown','d'],['tel',{'pref':'1.0'},'unknown','e'],['tel',{'pref':'+1'},'unknown','f'],['tel',{'pref':' 1'},'unknown','g'],['tel',{'pref':'1a'},'unknown','h']]")
    ∷ converts (lines "TEL;PREF=1,1:i|TEL;PREF=1;PREF=2:j|TEL;PREF=001:k|TEL;PREF=1000:l|TEL;PREF=-1:m")
    (made ",'vCardProps':[['tel',{'pref':['1','1']},'unknown','i'],['tel',{'pref':['1','2']},'unknown','j'],['tel',{'pref':'001'},'unknown','k'],['tel',{'pref':'1000'},'unknown','l'],['tel',{'pref':'-1'},'unknown','m']]")
    -- TYPE on TEL: each value by itself, in any case
    ∷ converts (lines "TEL;TYPE=Fax:a|TEL;TYPE=CELL:b|TEL;TYPE=pagEr:c|TEL;TYPE=Text:d|TEL;TYPE=TextPhone:e")
    (made ",'phones':{'PHONE-1':{'number':'a','features':{'fax':true}},'PHONE-2':{'number':'b','features':{'mobile':true}},'PHONE-3':{'number':'c','features':{'pager':true}},'PHONE-4':{'number':'d','features':{'text':true}},'PHONE-5':{'number':'e','features':{'textphone':true}}}")
    ∷ converts (lines "TEL;TYPE=VIDEO:f|TEL;TYPE=voicE:g|TEL;TYPE=Home:h|TEL;TYPE=WORK:i")
    (made ",'phones':{'PHONE-1':{'number':'f','features':{'video':true}},'PHONE-2':{'number':'g','features':{'voice':true}},'PHONE-3':{'number':'h','contexts':{'private':true}},'PHONE-4':{'number':'i','contexts':{'work':true}}}")
    -- JSON's own names are no values of TYPE
    ∷ converts (lines "TEL;TYPE=mobile:a|TEL;TYPE=private:b|TEL;TYPE=main-number:c|TEL;TYPE=msg:d|TEL;TYPE=home,x:e|TEL;TYPE=work;TYPE=y:f|EMAIL;TYPE=private:g")
    (made ",'vCardProps':[['tel',{'type':'mobile'},'unknown','a'],['tel',{'type':'private'},'unknown','b'],['tel',{'type':'main-number'},'unknown','c'],['tel',{'type':'msg'},'unknown','d'],['tel',{'type':['home','x']},'unknown','e'],['tel',{'type':['work','y']},'unknown','f'],['email',{'type':'private'},'unknown','g']]")
    -- the features are TEL's alone
    ∷ converts (lines "EMAIL;TYPE=fax:a|EMAIL;TYPE=pager:b|EMAIL;TYPE=text:c|URL;TYPE=textphone:d|URL;TYPE=video:e|NICKNAME;TYPE=voice:f|URL;TYPE=home,fax:g")
    (made ",'vCardProps':[['email',{'type':'fax'},'unknown','a'],['email',{'type':'pager'},'unknown','b'],['email',{'type':'text'},'unknown','c'],['url',{'type':'textphone'},'unknown','d'],['url',{'type':'video'},'unknown','e'],['nickname',{'type':'voice'},'unknown','f'],['url',{'type':['home','fax']},'unknown','g']]")
    -- TYPE repeats: parameters, values, commas inside quotes; contexts and features alphabetical; then pref
    ∷ converts (lines "TEL;TYPE=voice;PREF=7;TYPE=work,'cell,fax';type=home,VOICE:1|EMAIL;TYPE='work,home';PREF=2;TYPE=Work:m|URL;TYPE=home,home:l|NICKNAME;TYPE=work;TYPE=home:n")
    (made ",'nicknames':{'NICK-1':{'name':'n','contexts':{'private':true,'work':true}}},'emails':{'EMAIL-1':{'address':'m','contexts':{'private':true,'work':true},'pref':2}},'phones':{'PHONE-1':{'number':'1','contexts':{'private':true,'work':true},'features':{'fax':true,'mobile':true,'voice':true},'pref':7}},'links':{'LINK-1':{'uri':'l','contexts':{'private':true}}}")
    -- an empty value of TYPE is none of the table
    ∷ converts (lines "TEL;TYPE=:a|TEL;TYPE='':b|TEL;TYPE=home,:c|TEL;TYPE='home, work':d|TEL;TYPE=',home':e")
    (made ",'vCardProps':[['tel',{'type':''},'unknown','a'],['tel',{'type':''},'unknown','b'],['tel',{'type':['home','']},'unknown','c'],['tel',{'type':'home, work'},'unknown','d'],['tel',{'type':',home'},'unknown','e']]")
    -- VALUE in any case; TEL with VALUE=uri is raw, and without it TEXT
    ∷ converts (lines "TEL;VALUE=Uri:tel:1\\,2\\x|TEL:tel:1\\,2|TEL:tel:1\\x|TEL;VALUE='URI';TYPE=cell:tel:|TEL;VALUE=UNKNOWN:tel:3\\n")
    (made ",'phones':{'PHONE-1':{'number':'tel:1\\\\,2\\\\x'},'PHONE-2':{'number':'tel:1,2'},'PHONE-3':{'number':'tel:','features':{'mobile':true}},'PHONE-4':{'number':'tel:3\\n'}},'vCardProps':[['tel',{},'unknown','tel:1\\\\x']]")
    ∷ []

pub parameters-hold : map given parameters ≡ map wanted parameters
unfolding parameters convert-opened worked-opened
parameters-hold = refl

-- ---- keys

unfoldable pub made-keys : List Case
made-keys =
    -- twelve lines of one map
    converts (lines "NOTE:a|NOTE:b|NOTE:c|NOTE:d|NOTE:e|NOTE:f|NOTE:g|NOTE:h|NOTE:i|NOTE:j|NOTE:k|NOTE:l")
    (made ",'notes':{'NOTE-1':{'note':'a'},'NOTE-2':{'note':'b'},'NOTE-3':{'note':'c'},'NOTE-4':{'note':'d'},'NOTE-5':{'note':'e'},'NOTE-6':{'note':'f'},'NOTE-7':{'note':'g'},'NOTE-8':{'note':'h'},'NOTE-9':{'note':'i'},'NOTE-10':{'note':'j'},'NOTE-11':{'note':'k'},'NOTE-12':{'note':'l'}}")
    -- the smallest number that no PROP-ID of the map has, earlier or later
    ∷ converts (lines "ORG:a|ORG;PROP-ID=ORG-2:b|ORG:c|ORG:d|ORG;PROP-ID=ORG-3:e|ORG;PROP-ID=ORG-01:f")
    (made ",'organizations':{'ORG-1':{'name':'a'},'ORG-2':{'name':'b'},'ORG-4':{'name':'c'},'ORG-5':{'name':'d'},'ORG-3':{'name':'e'},'ORG-01':{'name':'f'}}")
    -- each map counts its own; TITLE and ROLE are one map
    ∷ converts (lines "TITLE:a|NOTE:b|ROLE:c|URL:d|NOTE;PROP-ID=TITLE-3:e|TITLE:f|ROLE;PROP-ID=TITLE-1:g")
    (made ",'links':{'LINK-1':{'uri':'d'}},'notes':{'NOTE-1':{'note':'b'},'TITLE-3':{'note':'e'}},'titles':{'TITLE-2':{'kind':'title','name':'a'},'TITLE-3':{'kind':'role','name':'c'},'TITLE-4':{'kind':'title','name':'f'},'TITLE-1':{'kind':'role','name':'g'}}")
    -- letter case counts in keys
    ∷ converts (lines "NOTE;PROP-ID=note-1:a|NOTE:b|NOTE;PROP-ID=k:c|NOTE;PROP-ID=K:d|NOTE;prop-id='AZaz09-_':e")
    (made ",'notes':{'note-1':{'note':'a'},'NOTE-1':{'note':'b'},'k':{'note':'c'},'K':{'note':'d'},'AZaz09-_':{'note':'e'}}")
    -- PROP-ID invalid, twice, or used by a converted line before
    ∷ converts (lines "NOTE;PROP-ID=:a|NOTE;PROP-ID=a.b:b|NOTE;PROP-ID=a b:c|NOTE;PROP-ID=é:d|NOTE;PROP-ID='a,b':e|NOTE;PROP-ID=a,b:f|NOTE;PROP-ID=a;PROP-ID=a:g|NOTE;PROP-ID=a/b:h|NOTE;PROP-ID=a+b:i")
    (made ",'vCardProps':[['note',{'prop-id':''},'unknown','a'],['note',{'prop-id':'a.b'},'unknown','b'],['note',{'prop-id':'a b'},'unknown','c'],['note',{'prop-id':'é'},'unknown','d'],['note',{'prop-id':'a,b'},'unknown','e'],['note',{'prop-id':['a','b']},'unknown','f'],['note',{'prop-id':['a','a']},'unknown','g'],['note',{'prop-id':'a/b'},'unknown','h'],['note',{'prop-id':'a+b'},'unknown','i']]")
    ∷ converts (lines "EMAIL;PROP-ID=k:a|EMAIL;PROP-ID=k:b|TEL;PROP-ID=k:c|EMAIL;PROP-ID=k;X=1:d|NICKNAME;PROP-ID=j:x,y|NICKNAME;PROP-ID=j:z")
    (made ",'nicknames':{'j':{'name':'z'}},'emails':{'k':{'address':'a'}},'phones':{'k':{'number':'c'}},'vCardProps':[['email',{'prop-id':'k'},'unknown','b'],['email',{'prop-id':'k','x':'1'},'unknown','d'],['nickname',{'prop-id':'j'},'unknown','x,y']]")
    ∷ []

pub made-keys-hold : map given made-keys ≡ map wanted made-keys
unfolding made-keys convert-opened worked-opened
made-keys-hold = refl

-- ---- order: lines in reverse, the JSON and the normal form in 01's

unfoldable pub order : List Case
order =
    converts (card "VERSION:4.0|X-Z:z|JSPROP;JSPTR='j':1|JSPROP;JSPTR='i':2|ORG:o|ROLE:r|TITLE:t|NOTE:n|URL:l|TEL:p|EMAIL:e|NICKNAME:i|N:s|FN:f|KIND:org|UID:u")
    (text "{'@type':'Card','version':'1.0','uid':'u','kind':'org','name':{'full':'f','components':[{'kind':'surname','value':'s'}]},'nicknames':{'NICK-1':{'name':'i'}},'emails':{'EMAIL-1':{'address':'e'}},'phones':{'PHONE-1':{'number':'p'}},'links':{'LINK-1':{'uri':'l'}},"
    ++ text "'notes':{'NOTE-1':{'note':'n'}},'titles':{'TITLE-1':{'kind':'role','name':'r'},'TITLE-2':{'kind':'title','name':'t'}},'organizations':{'ORG-1':{'name':'o'}},'j':1,'i':2,'vCardProps':[['x-z',{},'unknown','z']]}")
    ∷ returns_as (card "VERSION:4.0|X-Z:z|JSPROP;JSPTR='j':1|JSPROP;JSPTR='i':2|ORG:o|ROLE:r|TITLE:t|NOTE:n|URL:l|TEL:p|EMAIL:e|NICKNAME:i|N:s|FN:f|KIND:Org|UID:u")
    (home_lines "KIND:org^|FN:f^|N:s;;;;;;^|NICKNAME;PROP-ID=NICK-1:i^|EMAIL;PROP-ID=EMAIL-1:e^|TEL;PROP-ID=PHONE-1:p^|URL;PROP-ID=LINK-1:l^|NOTE;PROP-ID=NOTE-1:n^|ROLE;PROP-ID=TITLE-1:r^|TITLE;PROP-ID=TITLE-2:t^|ORG;PROP-ID=ORG-1:o^|JSPROP;JSPTR='j':1^|JSPROP;JSPTR='i':2^|X-Z:z")
    -- inside each section the order of the lines
    ∷ converts (lines "Z:1|EMAIL:b|A:2|EMAIL;PROP-ID=a:a|EMAIL:c|FN:d|Z:3")
    (made ",'emails':{'EMAIL-1':{'address':'b'},'a':{'address':'a'},'EMAIL-2':{'address':'c'}},'vCardProps':[['z',{},'unknown','1'],['a',{},'unknown','2'],['fn',{},'unknown','d'],['z',{},'unknown','3']]")
    ∷ returns_as (lines "UID:u|Z:1|EMAIL:b|A:2|EMAIL;PROP-ID=a:a|EMAIL:c|FN:d|Z:3") (home_lines "FN:a^|EMAIL;PROP-ID=EMAIL-1:b^|EMAIL;PROP-ID=a:a^|EMAIL;PROP-ID=EMAIL-2:c^|Z:1^|A:2^|FN:d^|Z:3")
    ∷ []

pub order-holds : map given order ≡ map wanted order
unfolding order convert-opened worked-opened
order-holds = refl
