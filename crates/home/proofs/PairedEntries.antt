-- What stands for a line of a map: each row of the table, by its property's name.
use mathlib.Core.Path.{◌≡◌, refl, sym, ap, ap₂, subst, ◌∙◌}
use mathlib.Core.Bool.{true, false, not}
use mathlib.Core.List.{List, [], ◌∷◌, ◌++◌, map, append-nil}
use mathlib.Core.Option
use mathlib.Core.Option.{some}
use Prim.Native.Nat.{ℕ}
use lib.ListN.{length, get_or}
use lib.Dec.{eqb}
use Rattle.text.specs.Choice.{pick}
use Rattle.text.specs.Bytes.{Bytes, ascii, empty, any, same, among, lowered, begins, flat, keep, each}
use Rattle.text.proofs.Cases.{by_bool, not-both}
use Rattle.text.proofs.Choices.{none-some, some_same}
use Rattle.text.proofs.Same.{same_true}
use Rattle.json_text.specs.Tree.{jstr, jnum, Member, member, object, array}
use Rattle.line.specs.Grammar.{Line}
use Rattle.line.specs.Params.{values_named, only_named, value_type, besides_value}
use Rattle.line.specs.Text.{read_text, split_text}
use Rattle.convert.specs.Table.{text, single, uri, phone, organization, Map, maps, Slot, slot_from, slot_of, position, context_codes, feature_codes}
use Rattle.convert.specs.Model.{Entry}
use Rattle.convert.specs.Value.{filled, organized, read_as}
use Rattle.convert.specs.Classify.{nothing, types_from, entry_of}
use Rattle.convert.specs.ToJson.{where', content_json, flags_json}
use Rattle.home.specs.Allowed.{typed, taken}
use Rattle.home.proofs.LineEntries.{unnamed}
use Rattle.home.specs.StandsFor as S
use Rattle.home.proofs.Known.{on_provided, on_chain, on_map}
use Rattle.home.proofs.NormalCardEntries.{on_entry}
use Rattle.home.proofs.OwnEntry.{OwnEntry, own-entry, where_filled}
use Rattle.home.proofs.PairedTypes.{contexts-paired, features-paired, features-none, no-types}

-- ---- the table's rows

abbrev no_map : Map
no_map = record { member = []; prefix = []; properties = []; kinds = []; content = []; form = text; parameters = []; types = 0 }

abbrev pub map_at : ℕ → Map
map_at i = get_or maps i no_map

-- the member of each, as StandsFor names it
abbrev pub name_at : ℕ → Bytes
name_at i =
    pick (eqb i 0) (ascii "nicknames") (pick (eqb i 1) (ascii "emails") (pick (eqb i 2) (ascii "phones") (pick (eqb i 3) (ascii "links")
    (pick (eqb i 4) (ascii "notes") (pick (eqb i 5) (ascii "titles") (pick (eqb i 6) (ascii "organizations") []))))))

abbrev pub body_of : Map → Entry → List Member
body_of m e =
    where' (not (empty m.kinds)) (member (ascii "kind") (jstr (get_or m.kinds e.which [])))
    ++ content_json m.form m.content (flat e.parts)
    ++ flags_json (ascii "contexts") context_codes e.types
    ++ flags_json (ascii "features") feature_codes e.types
    ++ where' (filled e.pref) (member (ascii "pref") (jnum e.pref))

abbrev pub stand_entry : ℕ → Entry → S.Stand
stand_entry i e = S.an-entry (name_at i) (where_filled e.key) (body_of (map_at i) e)

abbrev pub slot : ℕ → ℕ → Slot
slot i k = record { index = i; map = map_at i; which = k }

-- ---- members

pref-member : (p : Bytes) → where' (filled p) (member (ascii "pref") (jnum p)) ≡ map (λ p. member (ascii "pref") (jnum p)) (where_filled p)
pref-member [] = refl
pref-member (c ∷ p) = refl

pref-paired : (l : Line) (e : Entry) → values_named (ascii "pref") l.params ≡ where_filled e.pref → where' (filled e.pref) (member (ascii "pref") (jnum e.pref)) ≡ S.pref l
unfolding S.pref
pref-paired l e h = rw h (pref-member e.pref)

org-paired : (vs : List Bytes) → content_json organization (ascii "name") (organized vs) ≡ S.organization vs
unfolding content_json organized keep
org-paired [] = refl
org-paired (v ∷ vs) = ap₂ ◌++◌ (name v) (units (keep filled vs))
  where
    name : (v : Bytes) → where' (filled v) (member (ascii "name") (jstr v)) ≡ S.where_text (ascii "name") v
    name [] = refl
    name (c ∷ s) = refl

    units : (us : List Bytes) → where' (not (empty us)) (member (ascii "units") (array (map (λ u. object (member (ascii "name") (jstr u) ∷ [])) us))) ≡ S.where_units us
    units [] = refl
    units (u ∷ us) = refl

-- the same thing, otherwise said
same-stand : (l : Line) (x : Bytes) (is js : List Bytes) (ms ns : List Member) → js ≡ is → ms ≡ ns → S.StandsFor l (S.an-entry x js ns) → S.StandsFor l (S.an-entry x is ms)
same-stand l x is js ms ns e f h = subst (λ (u : List Bytes). S.StandsFor l (S.an-entry x u ms)) e (subst (λ (u : List Member). S.StandsFor l (S.an-entry x js u)) (sym f) h)

-- ---- bodies, by the TYPE that the row takes

abbrev types : Line → List Bytes
types l = values_named (ascii "type") (besides_value l.params)

abbrev rest : Entry → List Member → List Member
rest e ms = ms ++ flags_json (ascii "contexts") context_codes e.types ++ flags_json (ascii "features") feature_codes e.types ++ where' (filled e.pref) (member (ascii "pref") (jnum e.pref))

module _ (l : Line) (e : Entry) (p : values_named (ascii "pref") l.params ≡ where_filled e.pref) where
  -- contexts
  context-body : (m : Member) → types_from 2 (types l) ≡ some e.types → rest e (m ∷ []) ≡ m ∷ (S.contexts l ++ S.pref l)
  context-body m t =
      rw (contexts-paired 2 l e.types t, features-none (types l) e.types t, pref-paired l e p, append-nil (S.contexts l))

  -- contexts and features
  feature-body : (m : Member) → types_from 9 (types l) ≡ some e.types → rest e (m ∷ []) ≡ m ∷ (S.contexts l ++ S.features l ++ S.pref l)
  feature-body m t = rw (contexts-paired 9 l e.types t, features-paired 9 l e.types t, pref-paired l e p)

-- neither
plain_body : (l : Line) (e : Entry) (ms : List Member) → types_from 0 (types l) ≡ some e.types → empty e.pref ≡ true → rest e ms ≡ ms
unfolding flags_json keep
plain_body l e ms t p = rw (no-types (types l) e.types t, p) (append-nil _ ∙ append-nil _ ∙ append-nil ms)

-- ---- the rows

no_value : (p : Bytes) → [] ≡ where_filled p → empty p ≡ true
no_value [] e = refl
no_value (c ∷ p) e = not-both refl (ap (λ (x : List Bytes). empty x) e)

not-uri : (n t : Bytes) → typed n t ≡ true → same t (ascii "uri") ≡ false → t ≡ ascii "unknown"
not-uri n t h e = by_bool (same t (ascii "unknown")) (λ q. same_true t (ascii "unknown") q) (λ q. not-both h (rw (q, e)))

module _ (l : Line) (e : Entry) (own : OwnEntry l e) where
  abbrev name : Bytes
  name = lowered l.name

  -- a line that takes PROP-ID alone has no PREF
  no-pref : (x : Bytes) → same name x ≡ true → among (ascii "pref") (taken x) ≡ false → empty e.pref ≡ true
  no-pref x q a =
      let only : only_named (taken x) l.params ≡ true = subst (λ (n : Bytes). only_named (taken n) l.params ≡ true) (same_true name x q) own.takes.1 in
      no_value e.pref (sym (unnamed (taken x) (ascii "pref") l.params only a) ∙ own.prefs)

  nickname-row : same name (ascii "nickname") ≡ true → entry_of nothing (slot 0 0) l ≡ some e → S.StandsFor l (stand_entry 0 e)
  unfolding read_as content_json
  nickname-row q h =
      on_entry nothing (slot 0 0) l e h λ k p t v n.
      on_provided (eqb (length (split_text 44 l.value)) 1) (Option.map (λ s. s ∷ []) (read_text l.value)) v λ one v'.
      on_map _ (read_text l.value) v' λ s r f.
      same-stand l (ascii "nicknames") _ _ _ _ own.ids (ap (λ (vs : List Bytes). rest e (content_json single (ascii "name") vs)) (sym f) ∙ context-body l e own.prefs _ t) (S.nickname q r)

  email-row : same name (ascii "email") ≡ true → entry_of nothing (slot 1 0) l ≡ some e → S.StandsFor l (stand_entry 1 e)
  unfolding read_as content_json
  email-row q h =
      on_entry nothing (slot 1 0) l e h λ k p t v n.
      on_map _ (read_text l.value) v λ s r f.
      same-stand l (ascii "emails") _ _ _ _ own.ids (ap (λ (vs : List Bytes). rest e (content_json text (ascii "address") vs)) (sym f) ∙ context-body l e own.prefs _ t) (S.email q r)

  tel-row : same name (ascii "tel") ≡ true → entry_of nothing (slot 2 0) l ≡ some e → S.StandsFor l (stand_entry 2 e)
  unfolding read_as content_json
  tel-row q h =
      on_entry nothing (slot 2 0) l e h λ k p t v n.
      by_bool (same (value_type l.params) (ascii "uri"))
      (λ u. on_provided (begins (ascii "tel:") l.value) (some (l.value ∷ [])) (rw u at v) λ b f.
      same-stand l (ascii "phones") _ _ _ _ own.ids (ap (λ (vs : List Bytes). rest e (content_json phone (ascii "number") vs)) (sym (some_same f)) ∙ feature-body l e own.prefs _ t) (S.tel-uri q (same_true _ (ascii "uri") u)))
      (λ u. on_map _ (read_text l.value) (rw u at v) λ s r f.
      same-stand l (ascii "phones") _ _ _ _ own.ids (ap (λ (vs : List Bytes). rest e (content_json phone (ascii "number") vs)) (sym f) ∙ feature-body l e own.prefs _ t) (S.tel q (not-uri name _ own.value u) r))

  url-row : same name (ascii "url") ≡ true → entry_of nothing (slot 3 0) l ≡ some e → S.StandsFor l (stand_entry 3 e)
  unfolding read_as content_json
  url-row q h =
      on_entry nothing (slot 3 0) l e h λ k p t v n.
      same-stand l (ascii "links") _ _ _ _ own.ids (ap (λ (vs : List Bytes). rest e (content_json uri (ascii "uri") vs)) (sym (some_same v)) ∙ context-body l e own.prefs _ t) (S.url q)

  note-row : same name (ascii "note") ≡ true → entry_of nothing (slot 4 0) l ≡ some e → S.StandsFor l (stand_entry 4 e)
  unfolding read_as content_json among any same
  note-row q h =
      on_entry nothing (slot 4 0) l e h λ k p t v n.
      on_map _ (read_text l.value) v λ s r f.
      same-stand l (ascii "notes") _ _ _ _ own.ids (ap (λ (vs : List Bytes). rest e (content_json text (ascii "note") vs)) (sym f) ∙ plain_body l e _ t (no-pref (ascii "note") q refl)) (S.note q r)

  abbrev titled : ℕ → List Bytes → List Member
  titled k vs = rest e (member (ascii "kind") (jstr (get_or (map_at 5).kinds k [])) ∷ content_json text (ascii "name") vs)

  title-row : same name (ascii "title") ≡ true → entry_of nothing (slot 5 0) l ≡ some e → S.StandsFor l (stand_entry 5 e)
  unfolding read_as content_json among any same
  title-row q h =
      on_entry nothing (slot 5 0) l e h λ k p t v n.
      on_map _ (read_text l.value) v λ s r f.
      same-stand l (ascii "titles") _ _ _ _ own.ids (ap₂ titled (sym n) (sym f) ∙ plain_body l e _ t (no-pref (ascii "title") q refl)) (S.title q r)

  role-row : same name (ascii "role") ≡ true → entry_of nothing (slot 5 1) l ≡ some e → S.StandsFor l (stand_entry 5 e)
  unfolding read_as content_json among any same
  role-row q h =
      on_entry nothing (slot 5 1) l e h λ k p t v n.
      on_map _ (read_text l.value) v λ s r f.
      same-stand l (ascii "titles") _ _ _ _ own.ids (ap₂ titled (sym n) (sym f) ∙ plain_body l e _ t (no-pref (ascii "role") q refl)) (S.role q r)

  org-row : same name (ascii "org") ≡ true → entry_of nothing (slot 6 0) l ≡ some e → S.StandsFor l (stand_entry 6 e)
  unfolding read_as among any same
  org-row q h =
      on_entry nothing (slot 6 0) l e h λ k p t v n.
      on_chain (each read_text (split_text 59 l.value)) _ v λ vs r a.
      on_provided (any filled vs) (some (organized vs)) a λ b f.
      same-stand l (ascii "organizations") _ _ _ _ own.ids
      (ap (λ (vs : List Bytes). rest e (content_json organization (ascii "name") vs)) (sym (some_same f)) ∙ ap (rest e) (org-paired vs) ∙ plain_body l e _ t (no-pref (ascii "org") q refl)) (S.org q r)

-- ---- which row: by the property's name

-- the names of the table, one after the other; a slot is that of the first that fits
rows-by-name : (n : Bytes) (w : Slot) (P : Slot → Type 0) → slot_of n ≡ some w
    → (same n (ascii "nickname") ≡ true → P (slot 0 0)) → (same n (ascii "email") ≡ true → P (slot 1 0)) → (same n (ascii "tel") ≡ true → P (slot 2 0)) → (same n (ascii "url") ≡ true → P (slot 3 0))
    → (same n (ascii "note") ≡ true → P (slot 4 0)) → (same n (ascii "title") ≡ true → P (slot 5 0)) → (same n (ascii "role") ≡ true → P (slot 5 1)) → (same n (ascii "org") ≡ true → P (slot 6 0)) → P w
unfolding slot_of slot_from position
rows-by-name n w P o a b c d e f g h =
    by_bool (same n (ascii "nickname")) (λ q. subst P (some_same (rw q at o)) (a q)) λ q0.
    by_bool (same n (ascii "email")) (λ q. subst P (some_same (rw (q0, q) at o)) (b q)) λ q1.
    by_bool (same n (ascii "tel")) (λ q. subst P (some_same (rw (q0, q1, q) at o)) (c q)) λ q2.
    by_bool (same n (ascii "url")) (λ q. subst P (some_same (rw (q0, q1, q2, q) at o)) (d q)) λ q3.
    by_bool (same n (ascii "note")) (λ q. subst P (some_same (rw (q0, q1, q2, q3, q) at o)) (e q)) λ q4.
    by_bool (same n (ascii "title")) (λ q. subst P (some_same (rw (q0, q1, q2, q3, q4, q) at o)) (f q)) λ q5.
    by_bool (same n (ascii "role")) (λ q. subst P (some_same (rw (q0, q1, q2, q3, q4, q5, q) at o)) (g q)) λ q6.
    by_bool (same n (ascii "org")) (λ q. subst P (some_same (rw (q0, q1, q2, q3, q4, q5, q6, q) at o)) (h q)) λ q7.
    none-some (rw (q0, q1, q2, q3, q4, q5, q6, q7) at o)

pub entry-stands : (l : Line) (w : Slot) (e : Entry) → slot_of (lowered l.name) ≡ some w → entry_of nothing w l ≡ some e → S.StandsFor l (stand_entry w.index e)
entry-stands l w e o h =
    let own : OwnEntry l e = own-entry w l e o h in
    rows-by-name (lowered l.name) w (λ (v : Slot). entry_of nothing v l ≡ some e → S.StandsFor l (stand_entry v.index e)) o
    (nickname-row l e own) (email-row l e own) (tel-row l e own) (url-row l e own) (note-row l e own) (title-row l e own) (role-row l e own) (org-row l e own) h
