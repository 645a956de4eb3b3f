-- What a paper's table does not name is never let in and lost: an unknown member is 12 at every level but the top, where it becomes a JSPROP line; a line with a group or an unknown parameter is kept.
use mathlib.Core.Path.{◌≡◌, refl}
use mathlib.Core.List.{List, [], ◌∷◌, map}
use Rattle.convert.proofs.Opened.{convert-opened}
use Rattle.convert.specs.Worked.{lines, made, json, home_lines, Case, converts, comes_home, turns-away, settles-as, given, wanted, worked-opened}

unfoldable pub unknown-members : List Case
unknown-members =
    -- top level
    comes_home (json ",'language':'de','label':1") (home_lines "FN;DERIVED=TRUE:^|JSPROP;JSPTR='language':'de'^|JSPROP;JSPTR='label':1")
    -- name and its components
    ∷ turns-away (json ",'name':{'full':'a','sortAs':{}}") 12 0
    ∷ turns-away (json ",'name':{'components':[{'kind':'given','value':'a','phonetic':'b'}]}") 12 0
    ∷ turns-away (json ",'name':{'components':[{'kind':'middle','value':'a'}]}") 12 0
    -- entries of the seven maps
    ∷ turns-away (json ",'nicknames':{'k':{'name':'a','label':'x'}}") 12 0
    ∷ turns-away (json ",'emails':{'k':{'address':'a','label':'x'}}") 12 0
    ∷ turns-away (json ",'phones':{'k':{'number':'1','label':'x'}}") 12 0
    ∷ turns-away (json ",'links':{'k':{'uri':'a','label':'x'}}") 12 0
    ∷ turns-away (json ",'notes':{'k':{'note':'a','label':'x'}}") 12 0
    ∷ turns-away (json ",'titles':{'k':{'name':'a','label':'x'}}") 12 0
    ∷ turns-away (json ",'organizations':{'k':{'name':'a','label':'x'}}") 12 0
    -- units, contexts, features; what another map takes
    ∷ turns-away (json ",'organizations':{'k':{'units':[{'name':'a','sortAs':'b'}]}}") 12 0
    ∷ turns-away (json ",'phones':{'k':{'number':'1','contexts':{'school':true}}}") 12 0
    ∷ turns-away (json ",'phones':{'k':{'number':'1','features':{'work':true}}}") 12 0
    ∷ turns-away (json ",'emails':{'k':{'address':'a','features':{'fax':true}}}") 12 0
    ∷ turns-away (json ",'notes':{'k':{'note':'a','pref':1}}") 12 0
    -- entries of vCardProps
    ∷ turns-away (json ",'vCardProps':[['x',{},'unknown','a',1]]") 12 0
    ∷ turns-away (json ",'vCardProps':[['x',{'a':1},'unknown','a']]") 12 0
    ∷ []

pub unknown-members-hold : map given unknown-members ≡ map wanted unknown-members
unfolding unknown-members convert-opened worked-opened
unknown-members-hold = refl

unfoldable pub unknown-params : List Case
unknown-params =
    converts (lines "TEL;USERNAME=x:1|g.TEL:1|NOTE;PREF=1:n|JSPROP;JSPTR='a';LABEL=b:1|g.JSPROP;JSPTR='a':1|N;TYPE=x:b|g.N:b")
    (made ",'vCardProps':[['tel',{'username':'x'},'unknown','1'],['tel',{'group':'g'},'unknown','1'],['note',{'pref':'1'},'unknown','n'],['jsprop',{'jsptr':'a','label':'b'},'unknown','1'],['jsprop',{'group':'g','jsptr':'a'},'unknown','1'],['n',{'type':'x'},'unknown','b'],['n',{'group':'g'},'unknown','b']]")
    -- a parameter that no map takes, on a line of each
    ∷ converts (lines "NICKNAME;LABEL=x:a|EMAIL;LABEL=x:a|TEL;LABEL=x:1|URL;LABEL=x:a|NOTE;LABEL=x:a|TITLE;LABEL=x:a|ROLE;LABEL=x:a|ORG;LABEL=x:a")
    (made ",'vCardProps':[['nickname',{'label':'x'},'unknown','a'],['email',{'label':'x'},'unknown','a'],['tel',{'label':'x'},'unknown','1'],['url',{'label':'x'},'unknown','a'],['note',{'label':'x'},'unknown','a'],['title',{'label':'x'},'unknown','a'],['role',{'label':'x'},'unknown','a'],['org',{'label':'x'},'unknown','a']]")
    ∷ []

pub unknown-params-hold : map given unknown-params ≡ map wanted unknown-params
unfolding unknown-params convert-opened worked-opened
unknown-params-hold = refl

-- what is written as it came, spelled and placed by its rule
unfoldable pub written-forms : List Case
written-forms =
    -- TEL's VALUE=uri; units; a pointer's tilde and slash; surname2 and generation
    comes_home (json ",'phones':{'k':{'number':'tel:1'}},'organizations':{'o':{'units':[{'name':'u;v'}]}},'a~/b':[1]")
    (home_lines "FN;DERIVED=TRUE:^|TEL;PROP-ID=k;VALUE=uri:tel:1^|ORG;PROP-ID=o:;u\\;v^|JSPROP;JSPTR='a~0~1b':[1]")
    ∷ comes_home (json ",'name':{'components':[{'kind':'generation','value':'g'},{'kind':'surname2','value':'t'},{'kind':'surname','value':'s'}]}") (home_lines "FN;DERIVED=TRUE:s t g^|N:s,t;;;;g;t;g")
    -- 13: a control, a quotation mark in a parameter, credential equal to generation
    ∷ turns-away (json ",'links':{'k':{'uri':'a\\nb'}}") 13 0
    ∷ turns-away (json ",'vCardProps':[['x',{'a':'\\''},'unknown','a']]") 13 0
    ∷ turns-away (json ",'name':{'components':[{'kind':'credential','value':'c'},{'kind':'generation','value':'c'}]}") 13 0
    -- normal forms: isOrdered gone, the group first, one-value arrays as strings, a title's kind
    ∷ settles-as (json ",'vCardProps':[['x',{'a':['1'],'group':'g'},'unknown','v']],'titles':{'t':{'name':'n'}},'name':{'isOrdered':false,'full':'f'}")
    (json ",'name':{'full':'f'},'titles':{'t':{'kind':'title','name':'n'}},'vCardProps':[['x',{'group':'g','a':'1'},'unknown','v']]")
    ∷ []

pub written-forms-hold : map given written-forms ≡ map wanted written-forms
unfolding written-forms convert-opened worked-opened
written-forms-hold = refl
