-- RFC 9555's figures that lie within 01's rules (a card around them, folds with one space, members in 01's order), and a folded card cut inside a letter.
use mathlib.Core.Path.{◌≡◌, refl}
use mathlib.Core.List.{List, [], ◌∷◌, ◌++◌, map}
use Rattle.text.specs.Bytes.{Bytes, ascii}
use Rattle.convert.proofs.Opened.{convert-opened}
use Rattle.convert.specs.Worked.{text, card, lines, made, json, home_lines, Case, converts, comes_home, returns_as, given, wanted, worked-opened}

-- N of figure 12, less SORT-AS, both ways
abbrev figure12 : Bytes
figure12 =
    text "{'@type':'Card','version':'1.0','uid':'reg-1','name':{'components':[{'kind':'surname','value':'Stevenson'},{'kind':'given','value':'John'},{'kind':'given2','value':'Philip'},{'kind':'given2','value':'Paul'},{'kind':'title','value':'Dr.'},{'kind':'credential','value':'M.D.'},{'kind':'credential','value':'A.C.P.'},{'kind':'generation','value':'Jr.'}]}}"

unfoldable pub figures : List Case
figures =
    -- figure 2, both ways
    converts (lines "item2.X-FOO:bar") (made ",'vCardProps':[['x-foo',{'group':'item2'},'unknown','bar']]")
    ∷ comes_home (json ",'vCardProps': [|['x-foo', {|'group': 'item2'|}, 'unknown', 'bar']|]") (home_lines "FN;DERIVED=TRUE:^|item2.X-FOO:bar")
    -- figure 6
    ∷ converts (lines "TEL;PROP-ID=PHONE-A;VALUE=uri;PREF=1;TYPE='voice,home'| :tel:+1-555-555-5555;ext=5555|TEL;PROP-ID=PHONE-B;VALUE=uri;TYPE=home| :tel:+33-01-23-45-67")
    (made ",'phones':{'PHONE-A':{'number':'tel:+1-555-555-5555;ext=5555','contexts':{'private':true},'features':{'voice':true},'pref':1},'PHONE-B':{'number':'tel:+33-01-23-45-67','contexts':{'private':true}}}")
    -- figure 7, both ways
    ∷ converts (lines "KIND:individual") (text "{'@type':'Card','version':'1.0','uid':'reg-1','kind':'individual','name':{'full':'a'}}")
    ∷ comes_home (json ",'kind': 'individual'") (home_lines "KIND:individual^|FN;DERIVED=TRUE:")
    -- figure 10, both ways: the comma comes home escaped
    ∷ converts (card "VERSION:4.0|FN:John Q. Public, Esq.") (text "{'@type':'Card','version':'1.0','uid':'reg-1','name':{'full':'John Q. Public, Esq.'}}")
    ∷ comes_home (json ",'name': {|'full': 'John Q. Public, Esq.'|}") (home_lines "FN:John Q. Public\\, Esq.")
    -- figure 12
    ∷ converts (card "VERSION:4.0|FN;DERIVED=TRUE:x|N:Stevenson;John;Philip,Paul;Dr.;Jr.,M.D.,A.C.P.;;Jr.") figure12
    ∷ comes_home figure12
    (text "BEGIN:VCARD^|VERSION:4.0^|UID:reg-1^|FN;DERIVED=TRUE:Stevenson John Philip Paul Dr. M.D. A.C.P. Jr.^|N:Stevenson;John;Philip,Paul;Dr.;M.D.,A.C.P.,Jr.;;Jr.^|END:VCARD^|")
    -- figure 13
    ∷ converts (lines "NICKNAME:Johnny") (made ",'nicknames':{'NICK-1':{'name':'Johnny'}}")
    -- figure 16
    ∷ converts (lines "EMAIL;TYPE=work:jqpublic@xyz.example.com|EMAIL;PREF=1:jane_doe@example.com")
    (made ",'emails':{'EMAIL-1':{'address':'jqpublic@xyz.example.com','contexts':{'work':true}},'EMAIL-2':{'address':'jane_doe@example.com','pref':1}}")
    -- figure 21
    ∷ converts (lines "TEL;VALUE=uri;PREF=1;TYPE='voice,home':tel:+1-555-555-5555;ext=5555|TEL;VALUE=uri;TYPE=home:tel:+33-01-23-45-67")
    (made ",'phones':{'PHONE-1':{'number':'tel:+1-555-555-5555;ext=5555','contexts':{'private':true},'features':{'voice':true},'pref':1},'PHONE-2':{'number':'tel:+33-01-23-45-67','contexts':{'private':true}}}")
    -- figure 25
    ∷ converts (lines "ORG:ABC\\, Inc.;North American Division;Marketing")
    (made ",'organizations':{'ORG-1':{'name':'ABC, Inc.','units':[{'name':'North American Division'},{'name':'Marketing'}]}}")
    -- figure 27, less the group
    ∷ converts (lines "TITLE:Research Scientist|ROLE:Project Leader|ORG:ABC, Inc.")
    (made ",'titles':{'TITLE-1':{'kind':'title','name':'Research Scientist'},'TITLE-2':{'kind':'role','name':'Project Leader'}},'organizations':{'ORG-1':{'name':'ABC, Inc.'}}")
    -- figure 38, both ways
    ∷ converts (lines "UID:urn:uuid:f81d4fae-7dec-11d0-a765-00a0c91e6bf6") (text "{'@type':'Card','version':'1.0','uid':'urn:uuid:f81d4fae-7dec-11d0-a765-00a0c91e6bf6','name':{'full':'a'}}")
    ∷ comes_home (text "{'@type':'Card','version':'1.0','uid': 'urn:uuid:f81d4fae-7dec-11d0-a765-00a0c91e6bf6'}") (text "BEGIN:VCARD^|VERSION:4.0^|UID:urn:uuid:f81d4fae-7dec-11d0-a765-00a0c91e6bf6^|FN;DERIVED=TRUE:^|END:VCARD^|")
    -- figure 39, both ways
    ∷ converts (lines "URL:https://example.org/restaurant.french/~chezchic.html") (made ",'links':{'LINK-1':{'uri':'https://example.org/restaurant.french/~chezchic.html'}}")
    ∷ comes_home (json ",'links': {|'LINK-1': {|'uri': 'https://example.org/restaurant.french/~chezchic.html'|}|}") (home_lines "FN;DERIVED=TRUE:^|URL;PROP-ID=LINK-1:https://example.org/restaurant.french/~chezchic.html")
    -- figure 45
    ∷ converts (lines "item1.X-FOO;X-BAR=Hello:World!") (made ",'vCardProps':[['x-foo',{'group':'item1','x-bar':'Hello'},'unknown','World!']]")
    -- figure 48
    ∷ comes_home (json ",'someUnknownProperty':true") (home_lines "FN;DERIVED=TRUE:^|JSPROP;JSPTR='someUnknownProperty':true")
    -- figure 49
    ∷ comes_home (json ",'example.com:foo': {| 'bar': 1234|}") (home_lines "FN;DERIVED=TRUE:^|JSPROP;JSPTR='example.com:foo':{'bar':1234}")
    -- é cut between its two bytes, by a tab after CR LF
    ∷ converts (ascii "BEGIN:VCARD\r\nVERSION:4.0\r\nFN:Caf" ++ (195 ∷ 13 ∷ 10 ∷ 9 ∷ 169 ∷ []) ++ ascii "\r\nEND:VCARD")
    (text "{'@type':'Card','version':'1.0','uid':'reg-1','name':{'full':'Café'}}")
    -- 76 bytes: the fold comes before the é that would pass 75
    ∷ returns_as (card "VERSION:4.0|FN:123456789 123456789 123456789 123456789 123456789 123456789 123456789 1é|UID:u")
    (home_lines "FN:123456789 123456789 123456789 123456789 123456789 123456789 123456789 1^| é")
    ∷ []

pub figures-hold : map given figures ≡ map wanted figures
unfolding figures convert-opened worked-opened
figures-hold = refl
