-- A line of a map is kept exactly where it has a reason.
use mathlib.Core.Path.{◌≡◌, refl, sym, ap, ap₂, ◌∙◌}
use mathlib.Core.Bool.{Bool, true, false, ◌&&◌, ◌||◌, not}
use mathlib.Core.List.{List, [], ◌∷◌, map}
use mathlib.Core.Option
use mathlib.Core.Option.{Option, none, some}
use Prim.Native.Nat.{ℕ, suc}
use lib.ListN.{length, take}
use lib.Dec.{eqb}
use Rattle.text.specs.Choice.{pick, provided, chain, both, with-some, is_some}
use Rattle.text.specs.Bytes.{Bytes, ascii, any, all, empty, same, among, lowered, begins, parts, flat, each}
use Rattle.text.proofs.Cases.{by_bool}
use Rattle.text.proofs.Lists.{any-not}
use Rattle.line.specs.Grammar.{Line}
use Rattle.line.specs.Params.{values_named, only_named, value_type, besides_value}
use Rattle.line.specs.Text.{read_text, split_text}
use Rattle.convert.specs.Table.{Slot, position, TypeName, type_names, vcard_type}
use Rattle.convert.specs.Model.{singly}
use Rattle.convert.specs.Value.{filled, is_key_text, is_pref, organized, alone, read_as, takes_type}
use Rattle.convert.specs.Classify.{Seen, key_from, pref_from, types_from, entry_of}
use Rattle.convert.proofs.Types.{code_of}
use Rattle.home.specs.Allowed.{types_of}
use Rattle.home.specs.Reasons.{Paired, key_fits, pref_number, id_fits, pref_fits, bad_escape, all_empty, reasons_for}
use Rattle.home.proofs.NormalCardRest.{values-besides}
use Rattle.home.proofs.PairedEntries.{slot}
use Rattle.home.proofs.PairedWhole.{Named, named_by}
use Rattle.home.proofs.ReasonsSeen.{Knows}

-- ---- whether there is a value

pub some-provided : {A : Type 0} (b : Bool) (x : Option A) → is_some (provided b x) ≡ b && is_some x
some-provided true x = refl
some-provided false x = refl

some-map : {A B : Type 0} (f : A → B) (x : Option A) → is_some (Option.map f x) ≡ is_some x
some-map f none = refl
some-map f (some a) = refl

some-both : {A B C : Type 0} (f : A → B → C) (x : Option A) (y : Option B) → is_some (both f x y) ≡ is_some x && is_some y
some-both f none y = refl
some-both f (some a) none = refl
some-both f (some a) (some b) = refl

-- four readings, one after the other
some-four : {A B C D E : Type 0} (g : Bool) (a : Option A) (b : Option B) (c : Option C) (d : Option D) (f : A → B → C → D → E)
    → is_some (provided g (chain a λ w. chain b λ x. chain c λ y. chain d λ z. some (f w x y z))) ≡ g && (is_some a && (is_some b && (is_some c && is_some d)))
some-four true (some a) (some b) (some c) (some d) f = refl
some-four true (some a) (some b) (some c) none f = refl
some-four true (some a) (some b) none d f = refl
some-four true (some a) none c d f = refl
some-four true none b c d f = refl
some-four false a b c d f = refl

-- ---- parameters

key-text : (k : Bytes) → is_key_text k ≡ key_fits k
unfolding is_key_text key_fits
key-text k = refl

pref-text : (p : Bytes) → is_pref p ≡ pref_number p
unfolding is_pref pref_number
pref-text p = refl

pub and_one : (b : Bool) → b && true ≡ b
and_one true = refl
and_one false = refl

module _ (s : Seen) (before : List Paired) (h : Knows s before) where
  key_fits_lem : (i : ℕ) (x : Bytes) → Named i x → (vs : List Bytes) → is_some (key_from s i vs) ≡ id_fits before x vs
  key_fits_lem i x n [] = refl
  key_fits_lem i x n (k ∷ []) = some-provided (is_key_text k && not (any _ s.ids)) (some k) ∙ and_one _ ∙ ap₂ (λ (a b : Bool). a && not b) (key-text k) (h.ids i x n k)
  key_fits_lem i x n (k ∷ (j ∷ ks)) = refl

pref-fits : (vs : List Bytes) → is_some (pref_from vs) ≡ pref_fits vs
pref-fits [] = refl
pref-fits (p ∷ []) = some-provided (is_pref p) (some p) ∙ and_one _ ∙ pref-text p
pref-fits (p ∷ (q ∷ ps)) = refl

found : (v : Bytes) (ts : List TypeName) → is_some (position (λ t. same (lowered v) (vcard_type t)) ts) ≡ among (lowered v) (map vcard_type ts)
unfolding position among any
found v [] = refl
found v (t ∷ ts) = by_bool (same (lowered v) (vcard_type t)) (λ q. rw q) (λ q. rw q (later (position (λ t. same (lowered v) (vcard_type t)) ts) ∙ found v ts))
  where
    later : (o : Option ℕ) → is_some (with-some o (λ n. some (suc n)) none) ≡ is_some o
    later none = refl
    later (some n) = refl

all_found : (n : ℕ) (vs : List Bytes) → is_some (each (code_of n) vs) ≡ all (λ t. among t (map vcard_type (take n type_names))) (map lowered vs)
unfolding each all
all_found n [] = refl
all_found n (v ∷ vs) = some-both ◌∷◌ (code_of n v) (each (code_of n) vs) ∙ ap₂ ◌&&◌ (found v (take n type_names)) (all_found n vs)

types-fit : (n : ℕ) (vs : List Bytes) → is_some (types_from n vs) ≡ all (λ t. among t (map vcard_type (take n type_names))) (map lowered (flat (map (parts 44) vs)))
unfolding types_from
types-fit n vs = some-map _ (each (code_of n) (flat (map (parts 44) vs))) ∙ all_found n (flat (map (parts 44) vs))

-- ---- an entry

abbrev words_of : ℕ → List Bytes
words_of n = map vcard_type (take n type_names)

module _ (s : Seen) (before : List Paired) (h : Knows s before) (l : Line) where
  abbrev fits : Bytes → Slot → Bool
  fits x w =
      (empty l.group && only_named w.map.parameters (besides_value l.params) && takes_type w.map.form (value_type l.params))
      && (id_fits before x (values_named (ascii "prop-id") l.params) && (pref_fits (values_named (ascii "pref") l.params)
      && (all (λ t. among t (words_of w.map.types)) (types_of l) && is_some (read_as w.map.form (value_type l.params) l.value))))

  abbrev goes : Slot → Bool
  goes w = empty l.group && only_named w.map.parameters (besides_value l.params) && takes_type w.map.form (value_type l.params)

  abbrev besides : Bytes → List Bytes
  besides n = values_named n (besides_value l.params)

  entry-fits : (x : Bytes) (w : Slot) → Named w.index x → is_some (entry_of s w l) ≡ fits x w
  unfolding entry_of same
  entry-fits x w n =
      let v : Option (List Bytes) = read_as w.map.form (value_type l.params) l.value in
      some-four (goes w) (key_from s w.index (besides (ascii "prop-id"))) (pref_from (besides (ascii "pref"))) (types_from w.map.types (besides (ascii "type"))) v
      (λ (k p : Bytes) (ts : List ℕ) (vs : List Bytes). record { key = k; which = w.which; parts = singly vs; types = ts; pref = p })
      ∙ ap (λ (b : Bool). goes w && b)
      (ap₂ ◌&&◌ (key_fits_lem s before h w.index x n (besides (ascii "prop-id")) ∙ ap (id_fits before x) (values-besides (ascii "prop-id") l.params refl))
      (ap₂ ◌&&◌ (pref-fits (besides (ascii "pref")) ∙ ap pref_fits (values-besides (ascii "pref") l.params refl))
      (ap (λ (b : Bool). b && is_some v)
      (types-fit w.map.types (besides (ascii "type")) ∙ ap (λ (vs : List Bytes). all (λ t. among t (words_of w.map.types)) (map lowered (flat (map (parts 44) vs)))) (values-besides (ascii "type") l.params refl)))))

-- ---- reasons of an entry

-- those of the value, after all others
abbrev pub some_of : List Bool → Bool
some_of bs = any (λ b. b) bs

entry-reasons : (g o y k p t v : Bool) (rs : List Bool) → some_of rs ≡ not v → not ((g && o && y) && (k && (p && (t && v)))) ≡ some_of (false ∷ not g ∷ not o ∷ not y ∷ not k ∷ not p ∷ not t ∷ false ∷ false ∷ rs)
unfolding any
entry-reasons false o y k p t v rs e = refl
entry-reasons true false y k p t v rs e = refl
entry-reasons true true false k p t v rs e = refl
entry-reasons true true true false p t v rs e = refl
entry-reasons true true true true false t v rs e = refl
entry-reasons true true true true true false v rs e = refl
entry-reasons true true true true true true v rs e = sym e

-- ---- values

some_alone : (v : Option Bytes) → is_some (alone v) ≡ is_some v
some_alone v = some-map (λ t. t ∷ []) v

pub or-none : (b : Bool) → b || false ≡ b
or-none true = refl
or-none false = refl

-- ORG: a bad escape, or nothing in it
some-org : (o : Option (List Bytes)) → some_of (not (is_some o) ∷ all_empty o ∷ []) ≡ not (is_some (chain o λ vs. provided (any filled vs) (some (organized vs))))
unfolding any
some-org none = refl
some-org (some vs) = or-none (all empty vs) ∙ sym (ap not (some-provided (any filled vs) (some (organized vs)) ∙ and_one (any filled vs) ∙ any-not empty vs) ∙ twice (all empty vs))
  where
    twice : (b : Bool) → not (not b) ≡ b
    twice true = refl
    twice false = refl

-- TEL
some-tel : (u t r : Bool) → some_of ((not u && not r) ∷ (u && not t) ∷ []) ≡ not (pick u t r)
unfolding any
some-tel true true r = refl
some-tel true false r = refl
some-tel false t true = refl
some-tel false t false = refl

-- NICKNAME
some-nickname : (r c : Bool) → some_of (not r ∷ not c ∷ []) ≡ not (c && r)
unfolding any
some-nickname true true = refl
some-nickname true false = refl
some-nickname false true = refl
some-nickname false false = refl

-- ---- the rows

module _ (s : Seen) (before : List Paired) (h : Knows s before) (l : Line) where
  abbrev unknown : Bool
  unknown = same (value_type l.params) (ascii "unknown")

  abbrev uri' : Bool
  uri' = same (value_type l.params) (ascii "uri")

  abbrev read : Slot → Option (List Bytes)
  read w = read_as w.map.form (value_type l.params) l.value

  -- y: what VALUE may be; rs: the reasons of the value
  row : (x : Bytes) (w : Slot) (y : Bool) (rs : List Bool) → Named w.index x → takes_type w.map.form (value_type l.params) ≡ y → some_of rs ≡ not (is_some (read w))
      → not (is_some (entry_of s w l))
      ≡ some_of (false ∷ not (empty l.group) ∷ not (only_named w.map.parameters (besides_value l.params)) ∷ not y ∷ not (id_fits before x (values_named (ascii "prop-id") l.params))
      ∷ not (pref_fits (values_named (ascii "pref") l.params)) ∷ not (all (λ t. among t (words_of w.map.types)) (types_of l)) ∷ false ∷ false ∷ rs)
  row x w y rs n t e =
      let g : Bool = empty l.group in
      let o : Bool = only_named w.map.parameters (besides_value l.params) in
      let k : Bool = id_fits before x (values_named (ascii "prop-id") l.params) in
      let p : Bool = pref_fits (values_named (ascii "pref") l.params) in
      let ts : Bool = all (λ t. among t (words_of w.map.types)) (types_of l) in
      ap not (entry-fits s before h l x w n) ∙ ap (λ (b : Bool). not ((g && o && b) && (k && (p && (ts && is_some (read w)))))) t ∙ entry-reasons g o y k p ts (is_some (read w)) rs e

  -- a TEXT that has no other reason
  text-reason : (v : Bytes) → some_of (not (is_some (read_text v)) ∷ false ∷ false ∷ false ∷ false ∷ false ∷ false ∷ false ∷ []) ≡ not (is_some (alone (read_text v)))
  unfolding any
  text-reason v = or-none (not (is_some (read_text v))) ∙ ap not (sym (some_alone (read_text v)))

  pub nickname-kept : not (is_some (entry_of s (slot 0 0) l)) ≡ some_of (reasons_for (ascii "nickname") before l)
  unfolding among any same takes_type read_as bad_escape
  nickname-kept =
      let one : Bool = eqb (length (split_text 44 l.value)) 1 in
      row (ascii "nicknames") (slot 0 0) (unknown || false) (not (is_some (read_text l.value)) ∷ not one ∷ false ∷ false ∷ false ∷ false ∷ false ∷ false ∷ []) (named_by 0 (ascii "nicknames") refl refl (λ j n. n.0)) (sym (or-none unknown))
      (some-nickname (is_some (read_text l.value)) one ∙ ap not (sym (some-provided one (alone (read_text l.value)) ∙ ap (λ (b : Bool). one && b) (some_alone (read_text l.value)))))

  pub email-kept : not (is_some (entry_of s (slot 1 0) l)) ≡ some_of (reasons_for (ascii "email") before l)
  unfolding among any same takes_type read_as bad_escape
  email-kept =
      row (ascii "emails") (slot 1 0) (unknown || false) (not (is_some (read_text l.value)) ∷ false ∷ false ∷ false ∷ false ∷ false ∷ false ∷ false ∷ []) (named_by 1 (ascii "emails") refl refl (λ j n. n.1.0)) (sym (or-none unknown))
      (text-reason l.value)

  tel-value : (u b : Bool) (v : Bytes) (r : Option Bytes) → is_some (pick u (provided b (some (v ∷ []))) (alone r)) ≡ pick u b (is_some r)
  tel-value true b v r = some-provided b (some (v ∷ [])) ∙ and_one b
  tel-value false b v r = some_alone r

  pub tel-kept : not (is_some (entry_of s (slot 2 0) l)) ≡ some_of (reasons_for (ascii "tel") before l)
  unfolding among any same takes_type read_as bad_escape
  tel-kept =
      let r : Bool = is_some (read_text l.value) in
      let b : Bool = begins (ascii "tel:") l.value in
      row (ascii "phones") (slot 2 0) (unknown || uri') ((not uri' && not r) ∷ false ∷ false ∷ false ∷ false ∷ (uri' && not b) ∷ false ∷ false ∷ []) (named_by 2 (ascii "phones") refl refl (λ j n. n.1.1.0))
      (ap (λ (x : Bool). unknown || x) (or-none uri')) (some-tel uri' b r ∙ ap not (sym (tel-value uri' b l.value (read_text l.value))))

  pub url-kept : not (is_some (entry_of s (slot 3 0) l)) ≡ some_of (reasons_for (ascii "url") before l)
  unfolding among any same takes_type read_as bad_escape
  url-kept =
      row (ascii "links") (slot 3 0) (unknown || uri') (false ∷ false ∷ false ∷ false ∷ false ∷ false ∷ false ∷ false ∷ []) (named_by 3 (ascii "links") refl refl (λ j n. n.1.1.1.0))
      (ap (λ (x : Bool). unknown || x) (or-none uri')) refl

  pub note-kept : not (is_some (entry_of s (slot 4 0) l)) ≡ some_of (reasons_for (ascii "note") before l)
  unfolding among any same takes_type read_as bad_escape
  note-kept =
      row (ascii "notes") (slot 4 0) (unknown || false) (not (is_some (read_text l.value)) ∷ false ∷ false ∷ false ∷ false ∷ false ∷ false ∷ false ∷ []) (named_by 4 (ascii "notes") refl refl (λ j n. n.1.1.1.1.0))
      (sym (or-none unknown)) (text-reason l.value)

  pub title-kept : not (is_some (entry_of s (slot 5 0) l)) ≡ some_of (reasons_for (ascii "title") before l)
  unfolding among any same takes_type read_as bad_escape
  title-kept =
      row (ascii "titles") (slot 5 0) (unknown || false) (not (is_some (read_text l.value)) ∷ false ∷ false ∷ false ∷ false ∷ false ∷ false ∷ false ∷ []) (named_by 5 (ascii "titles") refl refl (λ j n. n.1.1.1.1.1.0))
      (sym (or-none unknown)) (text-reason l.value)

  pub role_kept : not (is_some (entry_of s (slot 5 1) l)) ≡ some_of (reasons_for (ascii "role") before l)
  unfolding among any same takes_type read_as bad_escape
  role_kept =
      row (ascii "titles") (slot 5 1) (unknown || false) (not (is_some (read_text l.value)) ∷ false ∷ false ∷ false ∷ false ∷ false ∷ false ∷ false ∷ []) (named_by 5 (ascii "titles") refl refl (λ j n. n.1.1.1.1.1.0))
      (sym (or-none unknown)) (text-reason l.value)

  pub org-kept : not (is_some (entry_of s (slot 6 0) l)) ≡ some_of (reasons_for (ascii "org") before l)
  unfolding among any same takes_type read_as bad_escape
  org-kept =
      let o : Option (List Bytes) = each read_text (split_text 59 l.value) in
      row (ascii "organizations") (slot 6 0) (unknown || false) (not (is_some o) ∷ false ∷ false ∷ false ∷ all_empty o ∷ false ∷ false ∷ false ∷ []) (named_by 6 (ascii "organizations") refl refl (λ j n. n.1.1.1.1.1.1.0))
      (sym (or-none unknown)) (some-org o)
