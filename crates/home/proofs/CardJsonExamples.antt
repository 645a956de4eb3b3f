-- Worked examples of `CardJson`, by computation: for each of its conditions texts that are a card of 01, and texts that are none.
use mathlib.Core.Path.{◌≡◌, refl}
use mathlib.Core.Bool.{Bool, true, false}
use mathlib.Core.List.{List, [], ◌∷◌, ◌++◌, map}
use mathlib.Core.Option.{Option, none, some}
use Prim.Native.Nat.{ℕ}
use Prim.Native.String.{String}
use Rattle.text.specs.Bytes.{Bytes, ascii, flat}
use Rattle.text.proofs.Cases.{up_to}
use Rattle.json_text.specs.Read.{Reading, tree, refused, reading}
use Rattle.json_text.proofs.Opened.{json-opened}
use Rattle.line.proofs.Opened.{line-opened}
use Rattle.convert.specs.Worked.{text, json, worked-opened}
use Rattle.home.specs.Allowed.{part_strings, name_strings, carries}
use Rattle.home.specs.StandsFor.{part_name}
use Rattle.home.specs.Reasons.{key_fits, pref_number, bad_escape, has_reason}
use Rattle.home.specs.CardJson.{shaped, lower_name, a_name, organization, others, full_before, parts_before, entries_before, before, prop_line, is_prop, is_card}

unfoldable card-json-opened : Unit {0}
unfolding shaped lower_name a_name organization others full_before parts_before entries_before before prop_line is_prop is_card part_strings name_strings carries part_name key_fits pref_number bad_escape has_reason
    json-opened line-opened worked-opened
card-json-opened = tt

-- none where the text does not read
abbrev judged : Reading → Option Bool
judged (tree j) = some (is_card j)
judged (refused p) = none

-- ---- whole texts

abbrev Each : Bool → List Bytes → Type 0
Each b ss = map (λ s. judged (reading 16 s)) ss ≡ map (λ s. some b) ss

required : Each true (text "{'@type':'Card','version':'1.0','uid':'u'}" ∷ text "{'uid':' ','version':'1.0','@type':'Card'}" ∷ [])
unfolding card-json-opened
required = refl

missing :
    Each false
    (text "{}" ∷ text "[]" ∷ text "{'version':'1.0','uid':'u'}" ∷ text "{'@type':'Card','uid':'u'}" ∷ text "{'@type':'Card','version':'1.0'}" ∷ text "{'@type':'card','version':'1.0','uid':'u'}"
    ∷ text "{'@type':'Card','version':'2.0','uid':'u'}" ∷ text "{'@type':'Card','version':1.0,'uid':'u'}" ∷ text "{'@type':'Card','version':'1.0','uid':''}" ∷ text "{'@type':'Card','version':'1.0','uid':1}" ∷ [])
unfolding card-json-opened
missing = refl

-- ---- with @type, version and uid

abbrev Cards : List String → Type 0
Cards ss = Each true (map json ss)

abbrev NoCards : List String → Type 0
NoCards ss = Each false (map json ss)

-- other members, KIND
members : Cards (",'x':{'':1}" ∷ ",'a/b':null,'~':[]" ∷ ",'kind':'org'" ∷ ",'kind':'x-1'" ∷ [])
unfolding card-json-opened
members = refl

no-members : NoCards (",'':1" ∷ ",'kind':'Org'" ∷ ",'kind':''" ∷ ",'kind':'a b'" ∷ ",'kind':'a_'" ∷ ",'kind':null" ∷ [])
unfolding card-json-opened
no-members = refl

-- name
names :
    Cards
    (",'name':{'full':''}" ∷ ",'name':{'full':'a','isOrdered':false}" ∷ ",'name':{'components':[]}"
    ∷ ",'name':{'components':[{'kind':'surname','value':'a'},{'value':'b','kind':'given'},{'kind':'given2','value':''},{'kind':'title','value':'a'}]}"
    ∷ ",'name':{'components':[{'kind':'credential','value':'a'},{'kind':'surname2','value':'b'},{'kind':'generation','value':'c'}],'full':'d'}" ∷ [])
unfolding card-json-opened
names = refl

no_names :
    NoCards
    (",'name':{}" ∷ ",'name':{'isOrdered':false}" ∷ ",'name':{'full':'a','isOrdered':true}" ∷ ",'name':{'full':'a','isOrdered':null}" ∷ ",'name':{'full':null}" ∷ ",'name':{'full':'a','sortAs':{}}" ∷ ",'name':'a'"
    ∷ ",'name':{'components':{}}" ∷ ",'name':{'components':['a']}" ∷ ",'name':{'components':[{'kind':'middle','value':'a'}]}" ∷ ",'name':{'components':[{'kind':'given'}]}" ∷ ",'name':{'components':[{'value':'a'}]}"
    ∷ ",'name':{'components':[{'kind':'given','value':'a','x':1}]}" ∷ ",'name':{'components':[{'kind':'given','value':1}]}" ∷ [])
unfolding card-json-opened
no_names = refl

-- entries: each map's members
entries :
    Cards
    (",'nicknames':{}" ∷ ",'nicknames':{'k':{'name':'','contexts':{},'pref':1}}" ∷ ",'emails':{'k':{'pref':100,'contexts':{'work':true,'private':true},'address':'m'},'l':{'address':'n'}}"
    ∷ ",'phones':{'k':{'number':'1','contexts':{'private':true},'features':{'fax':true,'mobile':true,'pager':true,'text':true,'textphone':true,'video':true,'voice':true},'pref':10}}"
    ∷ ",'links':{'k':{'uri':'u','contexts':{'work':true},'pref':99}}" ∷ ",'notes':{'k':{'note':'n'}}" ∷ ",'titles':{'k':{'name':'t'},'l':{'kind':'title','name':'t'},'m':{'kind':'role','name':''}}"
    ∷ ",'organizations':{'k':{'name':'o'},'l':{'units':[{'name':'u'}]},'m':{'name':'','units':[{'name':''},{'name':'u'}]},'n':{'name':'o','units':[]}}" ∷ [])
unfolding card-json-opened
entries = refl

no-entries :
    NoCards
    (",'nicknames':null" ∷ ",'nicknames':[]" ∷ ",'nicknames':{'k':{}}" ∷ ",'nicknames':{'k':'a'}" ∷ ",'nicknames':{'k':{'name':1}}" ∷ ",'nicknames':{'k':{'@type':'Nickname','name':'a'}}"
    ∷ ",'emails':{'k':{'address':'m','features':{'voice':true}}}" ∷ ",'emails':{'k':{'name':'m'}}" ∷ ",'phones':{'k':{'number':'1','label':'l'}}" ∷ ",'phones':{'k':{'features':{}}}" ∷ ",'links':{'k':{'uri':null}}"
    ∷ ",'notes':{'k':{'note':'n','pref':1}}" ∷ ",'notes':{'k':{'note':'n','contexts':{}}}" ∷ ",'titles':{'k':{'kind':'title'}}" ∷ ",'titles':{'k':{'kind':'job','name':'t'}}" ∷ ",'titles':{'k':{'kind':'Title','name':'t'}}"
    ∷ ",'organizations':{'k':{}}" ∷ ",'organizations':{'k':{'name':''}}" ∷ ",'organizations':{'k':{'units':[]}}" ∷ ",'organizations':{'k':{'name':'','units':[{'name':''}]}}" ∷ ",'organizations':{'k':{'name':'o','units':{}}}"
    ∷ ",'organizations':{'k':{'name':'o','units':[{}]}}" ∷ ",'organizations':{'k':{'name':'o','units':['u']}}" ∷ ",'organizations':{'k':{'name':'o','units':[{'name':'u','sortAs':'u'}]}}" ∷ [])
unfolding card-json-opened
no-entries = refl

-- contexts, features, pref
no-flags :
    NoCards
    (",'emails':{'k':{'address':'m','contexts':[]}}" ∷ ",'emails':{'k':{'address':'m','contexts':{'home':true}}}" ∷ ",'emails':{'k':{'address':'m','contexts':{'work':false}}}" ∷ ",'emails':{'k':{'address':'m','contexts':{'work':1}}}"
    ∷ ",'phones':{'k':{'number':'1','features':{'cell':true}}}" ∷ ",'phones':{'k':{'number':'1','features':{'private':true}}}" ∷ ",'phones':{'k':{'number':'1','contexts':{'voice':true}}}" ∷ ",'phones':{'k':{'number':'1','features':{'voice':null}}}"
    ∷ ",'links':{'k':{'uri':'u','pref':0}}" ∷ ",'links':{'k':{'uri':'u','pref':101}}" ∷ ",'links':{'k':{'uri':'u','pref':1.0}}" ∷ ",'links':{'k':{'uri':'u','pref':1e0}}" ∷ ",'links':{'k':{'uri':'u','pref':-1}}"
    ∷ ",'links':{'k':{'uri':'u','pref':'1'}}" ∷ [])
unfolding card-json-opened
no-flags = refl

-- keys
abbrev note_at : Bytes → Bytes
note_at k = text "{'@type':'Card','version':'1.0','uid':'u','notes':{'" ++ k ++ text "':{'note':'n'}}}"

abbrev letters : ℕ → Bytes
letters n = map (λ i. 97) (up_to n)

keys : Each true (note_at (ascii "Az09-_") ∷ note_at (letters 255) ∷ [])
unfolding card-json-opened
keys = refl

no_keys : Each false (note_at [] ∷ note_at (ascii "a.b") ∷ note_at (ascii "a b") ∷ note_at (ascii "a:") ∷ note_at (letters 256) ∷ [])
unfolding card-json-opened
no_keys = refl

-- vCardProps: the form of an entry
props :
    Cards
    (",'vCardProps':[]" ∷ ",'vCardProps':[['x',{},'unknown',''],['x-y',{'a':'b','b':['c'],'c':['d','']},'text','v']]" ∷ ",'vCardProps':[['note',{'group':'g1'},'unknown','v']]"
    ∷ ",'vCardProps':[['x',{'a':'b','group':['g']},'unknown','v']]" ∷ [])
unfolding card-json-opened
props = refl

no-props :
    NoCards
    (",'vCardProps':{}" ∷ ",'vCardProps':['x']" ∷ ",'vCardProps':[['x',{},'unknown']]" ∷ ",'vCardProps':[['x',{},'unknown','v','w']]" ∷ ",'vCardProps':[['X',{},'unknown','v']]" ∷ ",'vCardProps':[['',{},'unknown','v']]"
    ∷ ",'vCardProps':[['x_y',{},'unknown','v']]" ∷ ",'vCardProps':[['x',{},'Text','v']]" ∷ ",'vCardProps':[['x',{},'','v']]" ∷ ",'vCardProps':[['x',{},'unknown',1]]" ∷ ",'vCardProps':[['x',[],'unknown','v']]"
    ∷ ",'vCardProps':[['x',{'p':[]},'unknown','v']]" ∷ ",'vCardProps':[['x',{'p':1},'unknown','v']]" ∷ ",'vCardProps':[['x',{'p':['a',1]},'unknown','v']]" ∷ ",'vCardProps':[['x',{'P':'a'},'unknown','v']]"
    ∷ ",'vCardProps':[['x',{'':'a'},'unknown','v']]" ∷ ",'vCardProps':[['x',{'value':'text'},'unknown','v']]" ∷ ",'vCardProps':[['x',{'group':'G'},'unknown','v']]" ∷ ",'vCardProps':[['x',{'group':''},'unknown','v']]"
    ∷ ",'vCardProps':[['x',{'group':['g','h']},'unknown','v']]" ∷ ",'vCardProps':[['begin',{},'unknown','v']]" ∷ ",'vCardProps':[['end',{},'unknown','v']]" ∷ ",'vCardProps':[['version',{},'unknown','v']]"
    ∷ ",'vCardProps':[['uid',{'x':'y'},'unknown','v']]" ∷ ",'vCardProps':[['kind',{'x':'y'},'unknown','v']]" ∷ [])
unfolding card-json-opened
no-props = refl

-- counts: 32 parameters, VALUE among them; 64 values
abbrev prop_with : Bytes → String → Bytes
prop_with ps type = text "{'@type':'Card','version':'1.0','uid':'u','vCardProps':[['x',{" ++ ps ++ text "},'" ++ text type ++ text "','v']]}"

-- so many parameters and one more; a parameter of so many values and one more
abbrev params : ℕ → Bytes
params n = text "'a':'1'" ++ flat (map (λ i. text ",'b" ++ letters i ++ text "':'1'") (up_to n))

abbrev values : ℕ → Bytes
values n = text "'a':['1'" ++ flat (map (λ i. text ",'1'") (up_to n)) ++ text "]"

counts : Each true (prop_with (params 31) "unknown" ∷ prop_with (params 30) "text" ∷ prop_with (values 63) "unknown" ∷ prop_with (values 62) "text" ∷ [])
unfolding card-json-opened
counts = refl

no-counts : Each false (prop_with (params 32) "unknown" ∷ prop_with (params 31) "text" ∷ prop_with (values 64) "unknown" ∷ prop_with (values 63) "text" ∷ [])
unfolding card-json-opened
no-counts = refl

-- in its place: a line that would convert after all others is no kept line
places :
    Cards
    (",'vCardProps':[['note',{'x':'y'},'unknown','v'],['note',{},'text','v'],['note',{},'unknown','a\\\\x']]" ∷ ",'name':{'full':'a'},'vCardProps':[['fn',{},'unknown','v']]"
    ∷ ",'name':{'components':[{'kind':'given','value':'a'}]},'vCardProps':[['n',{},'unknown','v']]" ∷ ",'emails':{'k':{'address':'m'}},'vCardProps':[['email',{'prop-id':'k'},'unknown','v'],['email',{'pref':'101'},'unknown','v']]"
    ∷ ",'titles':{'k':{'name':'m'}},'vCardProps':[['role',{'prop-id':'k'},'unknown','v']]" ∷ ",'x':1,'vCardProps':[['jsprop',{'jsptr':'x'},'unknown','1']]" ∷ ",'vCardProps':[['jsprop',{'jsptr':'uid'},'unknown','1'],['jsprop',{},'unknown','1']]"
    ∷ ",'vCardProps':[['tel',{},'uri','1'],['nickname',{},'unknown','a,b'],['org',{},'unknown',';'],['n',{},'unknown',';;']]" ∷ [])
unfolding card-json-opened
places = refl

no-places :
    NoCards
    (",'vCardProps':[['note',{},'unknown','v']]" ∷ ",'vCardProps':[['note',{},'unknown','a\\nb']]" ∷ ",'vCardProps':[['fn',{},'unknown','v']]" ∷ ",'name':{'full':'a'},'vCardProps':[['fn',{'derived':'true'},'unknown','v']]"
    ∷ ",'name':{'full':'a'},'vCardProps':[['n',{},'unknown','v']]" ∷ ",'name':{'components':[{'kind':'given','value':''}]},'vCardProps':[['n',{},'unknown','v']]"
    ∷ ",'emails':{'l':{'address':'m'}},'vCardProps':[['email',{'prop-id':'k'},'unknown','v']]" ∷ ",'phones':{'k':{'number':'1'}},'vCardProps':[['email',{'prop-id':'k'},'unknown','v']]" ∷ ",'vCardProps':[['email',{'pref':'100'},'unknown','v']]"
    ∷ ",'y':1,'vCardProps':[['jsprop',{'jsptr':'x'},'unknown','1']]" ∷ ",'vCardProps':[['jsprop',{'jsptr':'a\\'b'},'unknown','1']]" ∷ ",'vCardProps':[['tel',{},'uri','tel:1']]" ∷ ",'vCardProps':[['org',{},'unknown',';a']]" ∷ [])
unfolding card-json-opened
no-places = refl
