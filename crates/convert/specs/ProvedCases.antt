-- 01's section 'Proved cases', P1 to P12, as one list.
use Rattle.std.specs.Prelude.{List, [], ◌∷◌}
use Rattle.convert.specs.Worked.{text, card, lines, made, json, Case, converts, refuses, comes_home, turns-away}

unfoldable pub proved-cases : List Case
proved-cases =
    -- P1
    converts (card "VERSION:4.0|FN:Ada Moss|TEL;TYPE=cell:+41 1")
    (text "{'@type':'Card','version':'1.0','uid':'reg-1','name':{'full':'Ada Moss'},'phones':{'PHONE-1':{'number':'+41 1','features':{'mobile':true}}}}")
    -- P2
    ∷ comes_home (text "{'@type':'Card','version':'1.0','uid':'reg-1','name':{'full':'Ada Moss'},'phones':{'PHONE-1':{'number':'+41 1','features':{'mobile':true}}}}")
    (text "BEGIN:VCARD^|VERSION:4.0^|UID:reg-1^|FN:Ada Moss^|TEL;PROP-ID=PHONE-1;TYPE=cell:+41 1^|END:VCARD^|")
    -- P3
    ∷ refuses [] 1 0
    -- P4
    ∷ refuses (card "VERSION:4.0|NOTE:no name") 10 0
    -- P5
    ∷ converts (lines "TEL:+41 1|TEL:+41 1") (made ",'phones':{'PHONE-1':{'number':'+41 1'},'PHONE-2':{'number':'+41 1'}}")
    -- P6
    ∷ converts (lines "EMAIL;PREF=100:m") (made ",'emails':{'EMAIL-1':{'address':'m','pref':100}}")
    -- P7
    ∷ converts (lines "EMAIL;PREF=101:m") (made ",'vCardProps':[['email',{'pref':'101'},'unknown','m']]")
    -- P8
    ∷ converts (lines "X-A;X-B=c:d\\,e") (made ",'vCardProps':[['x-a',{'x-b':'c'},'unknown','d\\\\,e']]")
    -- P9
    ∷ converts (card "VERSION:4.0|FN:a|N:Foo,Bar;;;;;Foo")
    (text "{'@type':'Card','version':'1.0','uid':'reg-1','name':{'full':'a','components':[{'kind':'surname','value':'Bar'},{'kind':'surname2','value':'Foo'}]}}")
    -- P10
    ∷ turns-away (json ",'name':{'components':[{'kind':'surname','value':'Foo'},{'kind':'surname2','value':'Foo'}]}") 13 0
    -- P11
    ∷ refuses (lines "UID:1|UID:1") 8 4
    -- P12
    ∷ converts (lines "JSPROP;JSPTR='a~1b':1") (made ",'a/b':1")
    ∷ []
