-- The normal form of each line is allowed for it.
use mathlib.Core.Path.{◌≡◌, refl, sym, ap, ◌∙◌}
use mathlib.Core.Logic.{inl, inr}
use mathlib.Core.Bool.{true, false, ◌&&◌, not}
use mathlib.Core.List.{List, [], ◌∷◌, append-nil}
use mathlib.Core.Option.{some}
use Prim.Native.Nat.{ℕ}
use lib.ListN.{length}
use lib.Dec.{leb}
use Rattle.text.specs.Choice.{provided}
use Rattle.text.specs.Bytes.{Bytes, ascii, any, all, empty, same, among, between, lower, lowered, keep, flat, each}
use Rattle.text.proofs.Cases.{by_bool, not-both, and_left}
use Rattle.text.proofs.Choices.{none-some, some_same}
use Rattle.text.proofs.Lists.{each-length}
use Rattle.text.proofs.Letters.{lowered-lowered}
use Rattle.text.proofs.Same.{same_true}
use Rattle.json_text.specs.Tree.{Json}
use Rattle.json_text.specs.Compact.{compact}
use Rattle.json_text.specs.Read.{Reading, tree, refused, reading}
use Rattle.json_text.proofs.Trees.{reading-compact}
use Rattle.line.specs.Grammar.{Param, param, Line}
use Rattle.line.specs.Params.{named, values_named, lacking, only_named, value_type, besides_value}
use Rattle.line.specs.Text.{read_text, split_text, write_text}
use Rattle.line.proofs.Texts.{read-write}
use Rattle.convert.specs.Table.{Slot, slot_of, name_row}
use Rattle.convert.specs.Model.{Entry, Kept, part}
use Rattle.convert.specs.Value.{filled, is_key_text, part_values, without, own_parts, read_name, read_parts, write_name, write_parts, written_parts}
use Rattle.convert.specs.Classify.{nothing, bare, sole, tree_of, member_name, member_value, entry_of}
use Rattle.convert.specs.FromCard.{kept_line}
use Rattle.convert.specs.FromJson.{kept_as_line}
use Rattle.convert.specs.Property.{property}
use Rattle.convert.specs.NormalCard.{renewed, name_values, name_text, entry_form, kept_form, prop_id}
use Rattle.convert.specs.Answers.{is_named, only_uri, misused}
use Rattle.convert.proofs.Names.{read-parts}
use Rattle.convert.proofs.Entries.{coherent, Proper, entry_read}
use Rattle.convert.proofs.KeptLines.{ProperKept, kept_line_lem}
use Rattle.home.specs.Allowed.{plain, name_strings, part_strings, SameName, SameKept, Converted, uid, kind, full, parts, entry, member}
use Rattle.home.proofs.Known.{on_provided, on_chain}
use Rattle.home.proofs.CleanLines.{CleanLine}
use Rattle.home.proofs.ReadNames.{name-well}
use Rattle.home.proofs.Bridge.{all-filled}
use Rattle.home.proofs.NormalCardParts.{name-read}
use Rattle.home.proofs.NormalCardRest.{values-besides, sole-inv}
use Rattle.home.proofs.NormalCardEntries.{rekeyed, entry_key, entry-which, entry-line}
use Rattle.home.proofs.Slots.{slot_row}
use Rattle.home.proofs.MapLines.{key-filled}
use Rattle.home.proofs.OwnEntry.{OwnEntry, own-entry, with_value}
use Rattle.home.proofs.LineEntries.{entry-drawn}
use Rattle.home.proofs.Pointed.{value-sound}
use Rattle.line.proofs.Merging.{none_left}
use Rattle.home.proofs.Merged.{merged-none}
use Rattle.home.proofs.LineKept.{LineFine, fine}

plain-line : (n v : Bytes) → plain (property n [] v) ≡ true
unfolding same value_type values_named besides_value lacking keep flat lowered lower between
plain-line n v = refl

own-names : (same (lowered (ascii "kind")) (ascii "kind") ≡ true) × (same (lowered (ascii "jsprop")) (ascii "jsprop") ≡ true)
unfolding same lowered lower between
own-names = (refl, refl)

-- ---- UID and KIND

module _ (l : Line) (h : LineFine l) where
  uid-used : is_named (ascii "uid") l ≡ true → empty l.group && only_uri l.params ≡ true
  unfolding misused
  uid-used n = by_bool (empty l.group && only_uri l.params) (λ e. e) (λ e. not-both (bad e) h.used)
    where
      bad : empty l.group && only_uri l.params ≡ false → misused l ≡ true
      bad e = rw (n, e)

  kind-used : is_named (ascii "kind") l ≡ true → empty l.group && empty l.params ≡ true
  unfolding misused same
  kind-used n = by_bool (empty l.group && empty l.params) (λ e. e) (λ e. not-both (bad e) h.used)
    where
      bad : empty l.group && empty l.params ≡ false → misused l ≡ true
      bad e = rw (same_true (lowered l.name) (ascii "kind") n, e)

  pub uid-allowed : is_named (ascii "uid") l ≡ true → Converted l (property (ascii "uid") [] l.value)
  unfolding same lowered lower between only_uri
  uid-allowed n = uid (n, refl) (uid-used n) refl refl

  pub kind-allowed : is_named (ascii "kind") l ≡ true → Converted l (property (ascii "kind") [] (lowered l.value))
  kind-allowed n = kind (n, own-names.0) (kind-used n) refl refl

-- ---- FN and N

full_back : (v t : Bytes) → read_text v ≡ some t → read_text (renewed false v) ≡ some t
unfolding renewed
full_back v t e = rw e (read-write false t)

pub full-allowed : (l : Line) (v : Bytes) → is_named (ascii "fn") l ≡ true → plain l ≡ true → read_text l.value ≡ some v → Converted l (property (ascii "fn") [] (renewed false l.value))
unfolding same lowered lower between
full-allowed l v n p e = full (n, refl) p (plain-line (ascii "fn") (renewed false l.value)) v e (full_back l.value v e)

written-name : (ps : List (List Bytes)) → name_text ps ≡ write_name ps
unfolding write_parts written_parts name_text
written-name ps = refl

-- the strings of each part, as they came and as they are written
parts-back : (l : Line) (ps : List (List Bytes)) → CleanLine l → read_name l.value ≡ some ps → SameName l.value (name_text (name_values l.value))
unfolding read_parts name_strings part_strings part_values own_parts written_parts without
parts-back l ps c e =
    let w = name-well l.value ps c.value e in
    on_provided (leb (length (split_text 59 l.value)) 7) _ e λ few a.
    on_chain (each part_values (split_text 59 l.value)) _ a λ came p b.
    on_provided (any (λ vs. not (empty vs)) came) (some (own_parts name_row came)) b λ t r.
    let i : own_parts name_row came ≡ ps = some_same r in
    let j : ps ≡ name_values l.value = (name-read l.value ps e).0 in
    let written : name_text (name_values l.value) ≡ write_name (own_parts name_row came) = ap name_text (sym j ∙ sym i) ∙ written-name (own_parts name_row came) in
    let g : all (all filled) (own_parts name_row came) ≡ true = rw (← i) at (all-filled ps w.0.whole) in
    record {
      came = came;
      came-is = p;
      few = ap (λ (k : ℕ). leb k 7) (each-length part_values (split_text 59 l.value) came p) ∙ few;
      home-is = ap (λ (x : Bytes). each part_values (split_text 59 x)) written
          ∙ read-parts (without (part came 5) (part came 0)) (part came 1) (part came 2) (part came 3) (without (part came 6) (part came 4)) (part came 5) (part came 6) g;
    }

pub parts-allowed : (l : Line) (ps : List (List Bytes)) → CleanLine l → is_named (ascii "n") l ≡ true → plain l ≡ true → read_name l.value ≡ some ps → Converted l (property (ascii "n") [] (name_text (name_values l.value)))
unfolding same lowered lower between
parts-allowed l ps c n p e = parts (n, refl) p (plain-line (ascii "n") (name_text (name_values l.value))) (parts-back l ps c e)

-- ---- the maps

module _ (l : Line) (w : Slot) (e : Entry) (c : CleanLine l) (o : slot_of (lowered l.name) ≡ some w) (t : coherent w.map ≡ true) (h : entry_of nothing w l ≡ some e) where
  proper : (k : Bytes) → is_key_text k ≡ true → Proper w.map (rekeyed k e)
  proper k v =
      let d = (entry-drawn nothing w l e c (slot_row (lowered l.name) w o).1 h).0 in
      record { key = v; texts = d.texts.form; one_each = d.one_each; codes = d.codes; order = d.order; row = t; pref = d.pref }

  entry-back : (k : Bytes) → is_key_text k ≡ true → entry_of nothing w (entry_form w.map k l) ≡ some (rekeyed k e)
  unfolding any
  entry-back k v = ap (entry_of nothing w) (sym (entry-line nothing w l e h o k)) ∙ entry_read nothing w (rekeyed k e) (proper k v) (entry-which nothing w l e h) refl

  form-name : (k : Bytes) → (entry_form w.map k l).name ≡ lowered l.name
  unfolding entry_form
  form-name k = refl

  pub entry-allowed : (k : Bytes) → is_key_text k ≡ true → (empty (prop_id l) ≡ false → k ≡ prop_id l) → Converted l (entry_form w.map k l)
  entry-allowed k v q =
      let i : e.key ≡ prop_id l = entry_key nothing w l e h in
      let name : lowered (entry_form w.map k l).name ≡ lowered l.name = ap lowered (form-name k) ∙ lowered-lowered l.name in
      let came : OwnEntry l e = own-entry w l e o h in
      let home : OwnEntry (entry_form w.map k l) (rekeyed k e) = own-entry w (entry_form w.map k l) (rekeyed k e) (ap slot_of name ∙ o) (entry-back k v) in
      entry
      (record {
        name = name;
        listed = came.listed;
        takes = (came.takes, home.takes);
        value = (came.value, home.value);
        key = k;
        made = home.ids ∙ rw (key-filled k v);
        given = by_bool (empty e.key) (λ t. inl (came.ids ∙ rw t)) (λ t. inr (came.ids ∙ rw t (ap (λ (x : Bytes). x ∷ []) (i ∙ sym (q (ap (λ (x : Bytes). empty x) (sym i) ∙ t))))));
        pref = home.prefs ∙ sym came.prefs;
        types = λ t. home.types t ∙ sym (came.types t);
        strings = flat e.parts;
        said = (came.said, home.said);
      })

-- ---- JSPROP

abbrev pub pointing : List Bytes → List Param
pointing vs = param (ascii "jsptr") vs ∷ []

pointing-bare : (vs v : Bytes) (ps : List Bytes) → bare (property v (pointing ps) vs) ≡ true
unfolding same value_type values_named named keep flat lowered lower between
pointing-bare vs v ps = refl

pointing-values : (vs : List Bytes) → (besides_value (pointing vs) ≡ pointing vs) × (only_named (ascii "jsptr" ∷ []) (pointing vs) ≡ true) × (values_named (ascii "jsptr") (pointing vs) ≡ vs)
unfolding besides_value lacking only_named all among any named same lowered lower between values_named keep flat
pointing-values vs = (refl, refl, append-nil vs)

pointing-taken : (vs : List Bytes) → only_named (ascii "jsptr" ∷ ascii "value" ∷ []) (pointing vs) ≡ true
unfolding only_named all among any same lowered lower between
pointing-taken vs = refl

-- a line that takes JSPTR, besides VALUE
pointer-taken : (ps : List Param) → only_named (ascii "jsptr" ∷ []) (besides_value ps) ≡ true → only_named (ascii "jsptr" ∷ ascii "value" ∷ []) ps ≡ true
unfolding among any same
pointer-taken ps h = with_value (ascii "jsptr" ∷ []) (ascii "jsptr" ∷ ascii "value" ∷ []) (λ n e. by_bool (same n (ascii "jsptr")) (λ q. rw q) (λ q. not-both e (rw q))) refl ps h

pub tree-read : (r : Reading) (j : Json) → tree_of r ≡ some j → r ≡ tree j
tree-read (tree i) j e = ap tree (some_same e)
tree-read (refused n) j e = none-some e

pub member-allowed : (l : Line) (n : Bytes) (j : Json) → is_named (ascii "jsprop") l ≡ true → bare l ≡ true → member_name nothing (besides_value l.params) ≡ some n → member_value l.value ≡ some j
    → Converted l (property (ascii "jsprop") (pointing (values_named (ascii "jsptr") l.params)) (write_text false (compact j)))
unfolding member_name member_value same
member-allowed l n j a b m v =
    let ps : List Param = besides_value l.params in
    let us : List Bytes = values_named (ascii "jsptr") l.params in
    on_chain (provided (only_named (ascii "jsptr" ∷ []) ps) (sole (values_named (ascii "jsptr") ps))) _ m λ p c d.
    on_provided (only_named (ascii "jsptr" ∷ []) ps) (sole (values_named (ascii "jsptr") ps)) c λ t r.
    on_chain (read_text l.value) _ v λ came e f.
    let one : us ≡ p ∷ [] = sym (values-besides (ascii "jsptr") l.params refl) ∙ sole-inv (values_named (ascii "jsptr") ps) p r in
    member (a, own-names.1)
    (record {
      takes = ((and_left (empty l.group) _ b, pointer-taken l.params t), (refl, pointing-taken us));
      value = (b, pointing-bare (write_text false (compact j)) (ascii "jsprop") us);
      pointer = p;
      points = (one, (pointing-values us).2 ∙ one);
      json = j;
      came = came;
      home = compact j;
      came-is = (e, tree-read (reading 15 came) j f);
      home-is = (read-write false (compact j), reading-compact 15 j (value-sound l.value j v));
    })

-- ---- kept lines

module _ (l : Line) (h : LineFine l) where
  kept_fine : ProperKept (kept_line l)
  unfolding kept_line besides_value value_type
  kept_fine =
      let f = fine l h in
      record {
        name = lowered-lowered l.name;
        group = lowered-lowered l.group;
        word = f.group;
        type = lowered-lowered _;
        params = f.params;
        no_value = merged-none (ascii "value") (besides_value l.params) (none_left (ascii "value") l.params);
        no-group = f.no-group;
        values = f.values;
      }

  as_line : kept_form l ≡ kept_as_line (kept_line l)
  unfolding kept_as_line kept_line kept_form
  as_line = refl

  pub kept_same : SameKept l (kept_form l)
  unfolding kept_line
  kept_same =
      let e : kept_line (kept_form l) ≡ kept_line l = ap kept_line as_line ∙ kept_line_lem (kept_line l) kept_fine in
      record {
        name = ap (λ (k : Kept). k.name) e;
        group = ap (λ (k : Kept). k.group) e;
        params = ap (λ (k : Kept). k.params) e;
        type = ap (λ (k : Kept). k.type) e;
        value = ap (λ (k : Kept). k.value) e;
      }
