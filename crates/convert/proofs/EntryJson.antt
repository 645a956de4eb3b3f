-- An entry is read back from its JSON.
use mathlib.Core.Path.{◌≡◌, refl, sym, ap, ◌∙◌}
use mathlib.Core.Bool.{Bool, true, false, ◌&&◌, ◌||◌, not}
use mathlib.Core.List.{List, [], ◌∷◌, ◌++◌, map}
use mathlib.Core.Option
use mathlib.Core.Option.{none, some}
use Prim.Native.Nat.{ℕ}
use native.Mathlib.Omega.{arith}
use borrow.Author.Tests.{eqb-true, leb-true, ltb-true, ne_eqb}
use lib.ListN.{length, get_or, take, drop}
use lib.Dec.{eqb, ltb, leb}
use Rattle.text.specs.Choice.{pick, provided, chain, with-some, is_some}
use Rattle.text.specs.Bytes.{Bytes, ascii, any, all, empty, same, among, keep, each, flat}
use Rattle.text.proofs.Cases.{by_bool, and_left, and_right, not-both}
use Rattle.text.proofs.Same.{same_true, same_self, same-swap}
use Rattle.text.proofs.Lists.{all_none, keep_all, keep-none, each_map}
use Rattle.json_text.specs.Tree.{Json, jstr, jnum, Member, member, object, array, field, as_string, as_number, as_array}
use Rattle.json_text.proofs.Listed.{members-listed, elems-listed, field-append, field-here}
use Rattle.convert.specs.Table.{Form, text, single, uri, phone, organization, Map, type_names, position}
use Rattle.convert.specs.Model.{Entry}
use Rattle.convert.specs.Value.{filled, head_or, is_pref}
use Rattle.convert.specs.FromJson.{only_members, required, optional, flags_from, unit_from, organization_from, content_from, entry_members, entry_from}
use Rattle.convert.specs.ToJson.{where', content_json, entry_json}
use Rattle.convert.proofs.Forms.{formed, one-string}
use Rattle.convert.proofs.Types.{below}
use Rattle.convert.proofs.Entries.{Proper}
use Rattle.convert.proofs.Flags.{is_context, is_feature, flag_json, contexts-read, features-read, kinds-order}
use Rattle.convert.proofs.EntryParts.{right-none, where-same, where-other, only-where, only-append, is_organization, Row, kind_part, content_part, contexts_part, features_part, pref_part, whole, whole-json, look-content, content-apart, look-kind, look-contexts, look-features, look-pref}

-- ---- the strings

abbrev pub unit_json : Bytes → Json
unit_json u = object (member (ascii "name") (jstr u) ∷ [])

unit-back : (u : Bytes) → unit_from (unit_json u) ≡ some u
unfolding unit_from only_members all among any same field
unit-back u = rw (members-listed (member (ascii "name") (jstr u) ∷ []))

units-back : (us : List Bytes) → chain (as_array (array (map unit_json us))) (each unit_from) ≡ some us
units-back us = rw (elems-listed (map unit_json us)) (each_map unit_json unit_from unit-back us)

-- a member that is there or not, read with what stands for its absence
absent-name : (v : Bytes) → with-some (pick (filled v) (some (jstr v)) none) as_string (some []) ≡ some v
absent-name [] = refl
absent-name (c ∷ v) = refl

absent-units : (us : List Bytes) → with-some (pick (not (empty us)) (some (array (map unit_json us))) none) (λ v. chain (as_array v) (each unit_from)) (some []) ≡ some us
absent-units [] = refl
absent-units (u ∷ us) = units-back (u ∷ us)

some-pick : (b : Bool) (j : Json) → is_some (pick b (some j) none) ≡ b
some-pick true j = refl
some-pick false j = refl

something : (v : Bytes) (us : List Bytes) → any filled (v ∷ us) ≡ true → filled v || not (empty us) ≡ true
unfolding any
something v [] h = h
something v (u ∷ us) h = by_bool (filled v) (λ e. rw e) (λ e. rw e)

organization-back : (v : Bytes) (us : List Bytes) (ms : List Member) → field (ascii "name") ms ≡ pick (filled v) (some (jstr v)) none → field (ascii "units") ms ≡ pick (not (empty us)) (some (array (map unit_json us))) none
    → any filled (v ∷ us) ≡ true → all filled us ≡ true → organization_from ms ≡ some (v ∷ us)
unfolding organization_from
organization-back v us ms n u h k =
    rw (n, u, some-pick (filled v) (jstr v), some-pick (not (empty us)) (array (map unit_json us)), something v us h, absent-name v, absent-units us, h, keep_all filled us k)

string-back : (c : Bytes) (vs : List Bytes) (ms : List Member) → eqb (length vs) 1 ≡ true → field c ms ≡ field c (member c (jstr (head_or [] vs)) ∷ []) → Option.map (λ v. v ∷ []) (required c as_string ms) ≡ some vs
string-back c vs ms h e = rw (e, field-here c c (jstr (head_or [] vs)) [] (same_self c)) (one-string (λ vs. some (head_or [] vs ∷ []) ≡ some vs) (λ v. refl) vs h)

unit-field : (n v : Bytes) (us : List Bytes) → same n (ascii "units") ≡ false
    → (field n (where' (filled v) (member n (jstr v)) ++ where' (not (empty us)) (member (ascii "units") (array (map unit_json us)))) ≡ pick (filled v) (some (jstr v)) none)
    × (field (ascii "units") (where' (filled v) (member n (jstr v)) ++ where' (not (empty us)) (member (ascii "units") (array (map unit_json us)))) ≡ pick (not (empty us)) (some (array (map unit_json us))) none)
unit-field n v us a = (
  field-append n (where' (filled v) (member n (jstr v))) _ ∙ rw (where-same n (filled v) (jstr v), where-other n (ascii "units") (not (empty us)) (array (map unit_json us)) (same-swap (ascii "units") n ∙ a)) (right-none (pick (filled v) (some (jstr v)) none)),
  field-append (ascii "units") (where' (filled v) (member n (jstr v))) _ ∙ rw (where-other (ascii "units") n (filled v) (jstr v) a, where-same (ascii "units") (not (empty us)) (array (map unit_json us))),
)

content-back : (f : Form) (c : Bytes) (vs : List Bytes) (ms : List Member) → formed f vs ≡ true → not (is_organization f) || same c (ascii "name") ≡ true → same c (ascii "units") ≡ false
    → field c ms ≡ field c (content_json f c vs) → field (ascii "units") ms ≡ field (ascii "units") (content_json f c vs) → content_from f c ms ≡ some vs
unfolding content_from content_json formed any
content-back text c vs ms h n a e u = string-back c vs ms h e
content-back single c vs ms h n a e u = string-back c vs ms h e
content-back uri c vs ms h n a e u = string-back c vs ms h e
content-back phone c vs ms h n a e u = string-back c vs ms h e
content-back organization c [] ms h n a e u = not-both refl (sym h)
content-back organization c (v ∷ vs) ms h n a e u =
    let f = unit-field c v vs a in
    organization-back v vs ms (ap (λ (x : Bytes). field x ms) (sym (same_true c (ascii "name") n)) ∙ e ∙ f.0) (u ∙ f.1) (and_left _ _ h) (and_right (any filled (v ∷ vs)) _ h)

-- ---- no other members

content-only : (f : Form) (c : Bytes) (vs : List Bytes) (ns : List Bytes) → among c ns ≡ true → not (is_organization f) || among (ascii "units") ns ≡ true → only_members ns (content_json f c vs) ≡ true
unfolding content_json
content-only text c vs ns p q = only-where ns true c _ (λ e. p)
content-only single c vs ns p q = only-where ns true c _ (λ e. p)
content-only uri c vs ns p q = only-where ns true c _ (λ e. p)
content-only phone c vs ns p q = only-where ns true c _ (λ e. p)
content-only organization c [] ns p q = only-where ns false c (jstr []) (λ e. p)
content-only organization c (v ∷ vs) ns p q = only-append ns (where' (filled v) (member c (jstr v))) _ (only-where ns (filled v) c (jstr v) (λ e. p)) (only-where ns (not (empty vs)) (ascii "units") _ (λ e. q))

-- a known name, unless what would bring it cannot be
known : (z b : Bool) (n : Bytes) (ns : List Bytes) → z || among n ns ≡ true → (z ≡ true → b ≡ false) → b ≡ true → among n ns ≡ true
known true b n ns h f e = not-both e (f refl)
known false b n ns h f e = h

no-codes : (p : ℕ → Bool) (n : ℕ) (ts : List ℕ) → all (below n) ts ≡ true → ((c : ℕ) → ltb c n ≡ true → p c ≡ false) → not (empty (keep p ts)) ≡ false
no-codes p n ts h f = rw (keep-none p ts (all_none (below n) p f ts h))

small-code : (n : ℕ) → leb n 2 ≡ true → (c : ℕ) → ltb c n ≡ true → is_feature c ≡ false
unfolding any
small-code n h c l =
    let a = leb-true n 2 h in
    let b = ltb-true c n l in
    rw (ne_eqb c 2 (omega arith), ne_eqb c 3 (omega arith), ne_eqb c 4 (omega arith), ne_eqb c 5 (omega arith), ne_eqb c 6 (omega arith), ne_eqb c 7 (omega arith), ne_eqb c 8 (omega arith))

no_code : (n : ℕ) → eqb n 0 ≡ true → (c : ℕ) → ltb c n ≡ true → is_context c ≡ false
no_code n h c l = let a = eqb-true n 0 h in let b = ltb-true c n l in absurd (omega arith)

no-pref : (b : Bool) (p : Bytes) → not b ≡ true → empty p || (b && is_pref p) ≡ true → filled p ≡ false
no-pref true p q h = not-both q refl
no-pref false [] q h = refl
no-pref false (c ∷ p) q h = not-both h refl

module _ (m : Map) (e : Entry) (r : Row m) (g : Proper m e) where
  only-known : only_members (entry_members m) (whole m e) ≡ true
  only-known =
      let ns : List Bytes = entry_members m in
      only-append ns (kind_part m e ++ content_part m e ++ contexts_part m e ++ features_part m e) (pref_part m e)
      (only-append ns (kind_part m e ++ content_part m e ++ contexts_part m e) (features_part m e)
      (only-append ns (kind_part m e ++ content_part m e) (contexts_part m e)
      (only-append ns (kind_part m e) (content_part m e) (only-where ns (not (empty m.kinds)) (ascii "kind") _ (known (empty m.kinds) _ (ascii "kind") ns r.kind-known (λ z. rw z)))
      (content-only m.form m.content (flat e.parts) ns r.content-known r.units-known))
      (only-where ns _ (ascii "contexts") _ (known (eqb m.types 0) _ (ascii "contexts") ns r.contexts-known (λ z. no-codes is_context m.types e.types g.codes (no_code m.types z)))))
      (only-where ns _ (ascii "features") _ (known (leb m.types 2) _ (ascii "features") ns r.features-known (λ z. no-codes is_feature m.types e.types g.codes (small-code m.types z)))))
      (only-where ns (filled e.pref) (ascii "pref") _ (known (not (among (ascii "pref") m.parameters)) _ (ascii "pref") ns r.pref-known (λ z. no-pref (among (ascii "pref") m.parameters) e.pref z g.pref)))

  read-kind : (w : ℕ) → pick (empty m.kinds) (some 0) (position (same (get_or m.kinds e.which [])) m.kinds) ≡ some w
      → optional (ascii "kind") 0 (λ v. chain (as_string v) λ s. position (same s) m.kinds) (whole m e) ≡ some w
  read-kind w k = rw (look-kind m e r) (by_bool (empty m.kinds) (λ z. rw z (rw z at k)) (λ z. rw z (rw z at k)))

  read-contexts : optional (ascii "contexts") [] (flags_from 0 (take 2 type_names)) (whole m e) ≡ some (keep is_context e.types)
  read-contexts = rw (look-contexts m e r) (by (keep is_context e.types) (contexts-read e.types))
    where
      by : (cs : List ℕ) → flags_from 0 (take 2 type_names) (object (map flag_json cs)) ≡ some cs → with-some (pick (not (empty cs)) (some (object (map flag_json cs))) none) (flags_from 0 (take 2 type_names)) (some []) ≡ some cs
      by [] h = refl
      by (c ∷ cs) h = h

  read-features : optional (ascii "features") [] (flags_from 2 (drop 2 type_names)) (whole m e) ≡ some (keep is_feature e.types)
  read-features = rw (look-features m e r) (by (keep is_feature e.types) (features-read e.types))
    where
      by : (cs : List ℕ) → flags_from 2 (drop 2 type_names) (object (map flag_json cs)) ≡ some cs → with-some (pick (not (empty cs)) (some (object (map flag_json cs))) none) (flags_from 2 (drop 2 type_names)) (some []) ≡ some cs
      by [] h = refl
      by (c ∷ cs) h = h

  read-pref : optional (ascii "pref") [] (λ v. chain (as_number v) λ p. provided (is_pref p) (some p)) (whole m e) ≡ some e.pref
  read-pref = rw (look-pref m e r) (by e.pref (among (ascii "pref") m.parameters) g.pref)
    where
      by : (p : Bytes) (b : Bool) → empty p || (b && is_pref p) ≡ true → with-some (pick (filled p) (some (jnum p)) none) (λ v. chain (as_number v) λ p. provided (is_pref p) (some p)) (some []) ≡ some p
      by [] b h = refl
      by (c ∷ p) b h = rw (and_right b _ h)

  read-content : content_from m.form m.content (whole m e) ≡ some (flat e.parts)
  unfolding same
  read-content =
      let a = content-apart m e r in
      content-back m.form m.content (flat e.parts) (whole m e) g.texts r.name a.1
      (look-content m e m.content (same-swap (ascii "kind") m.content ∙ a.0) (same-swap (ascii "contexts") m.content ∙ a.2) (same-swap (ascii "features") m.content ∙ a.3) (same-swap (ascii "pref") m.content ∙ a.4))
      (look-content m e (ascii "units") refl refl refl refl)

  -- the kind of a title tells which of the map's properties it is
  pub entry-json : pick (empty m.kinds) (some 0) (position (same (get_or m.kinds e.which [])) m.kinds) ≡ some e.which → entry_from m (entry_json m e) ≡ some e
  unfolding entry_from
  entry-json k =
      ap (entry_from m) (whole-json m e)
      ∙ rw (g.key, members-listed (whole m e), only-known, read-kind e.which k, read-content, g.one_each, read-contexts, read-features, read-pref, kinds-order e.types, g.order)
