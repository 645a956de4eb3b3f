-- The lines of the maps are fair.
use mathlib.Core.Path.{◌≡◌, refl, ap}
use mathlib.Core.Bool.{Bool, true, false, ◌&&◌, ◌||◌, not}
use mathlib.Core.List.{List, [], ◌∷◌, ◌++◌, map}
use Prim.Native.Nat.{ℕ, ◌≤◌}
use native.Mathlib.Omega.{arith}
use lib.ListN.{length, length-append, length-map}
use lib.Dec.{eqb, ltb, leb}
use borrow.Author.Tests.{le-leb}
use Rattle.text.specs.Choice.{pick}
use Rattle.text.specs.Bytes.{Bytes, ascii, any, all, empty, same, among, between, lowered, is_digit, flat}
use Rattle.text.proofs.Cases.{by_bool, by_below, tests, and_left, and_right, and-true, or-second}
use Rattle.text.proofs.Lists.{all_head, all_tail, all_both, all-imply, any-tail, length-keep}
use Rattle.line.specs.Class.{is_name, is_lower_name}
use Rattle.line.specs.Grammar.{Param, param, value_count, fits, is_frame_name}
use Rattle.line.proofs.Lines.{count-append}
use Rattle.convert.specs.Table.{Form, text, single, uri, phone, organization, Map, in_order, context_codes, feature_codes}
use Rattle.convert.specs.Model.{Entry}
use Rattle.convert.specs.Value.{head_or, is_key_text, is_pref, is_tel_uri, written_type}
use Rattle.convert.specs.Carry.{carried_as}
use Rattle.convert.specs.FromJson.{is_lower_word}
use Rattle.convert.specs.Property.{param_of}
use Rattle.convert.specs.ToCard.{entry_line}
use Rattle.convert.proofs.Types.{type_text, below}
use Rattle.convert.proofs.Entries.{few-types, Proper}
use Rattle.home.proofs.Proper.{ProperEntry}
use Rattle.home.proofs.Rows.{others, Row}
use Rattle.home.proofs.Fair.{Fair, fair_value, fair_param}
use Rattle.home.proofs.FairValues.{keys-fair, names-fair, form-clean}

-- ---- parameters

of-fair : (n : Bytes) (vs : List Bytes) → is_lower_word n ≡ true → all fair_value vs ≡ true → all fair_param (param_of n vs) ≡ true
unfolding all
of-fair n [] w h = refl
of-fair n (v ∷ vs) w h = rw (w, h)

key-fair : (k : Bytes) → is_key_text k ≡ true → fair_value k ≡ true
unfolding is_key_text
key-fair k h = keys-fair k (and_right (not (empty k) && leb (length k) 255) _ h)

digit-name : (c : ℕ) → is_digit c ≡ true → is_name c ≡ true
unfolding is_name
digit-name c h = rw (or-second (between 65 90 c || between 97 122 c) (is_digit c) h)

pref-digits : (p : Bytes) → is_pref p ≡ true → all is_digit p ≡ true
unfolding is_pref
pref-digits p h = and_right (not (empty p) && leb (length p) 3) _ (and_left _ _ (and_left _ _ h))

pref_param : Bytes → List Param
pref_param p = pick (empty p) [] (param (ascii "pref") (p ∷ []) ∷ [])

pref-word : is_lower_word (ascii "pref") ≡ true
unfolding all is_lower_name between
pref-word = refl

pref-fair : (p : Bytes) (b : Bool) → empty p || (b && is_pref p) ≡ true → all fair_param (pref_param p) ≡ true
unfolding pref_param all
pref-fair [] b h = refl
pref-fair (c ∷ p) b h = rw (pref-word, names-fair (c ∷ p) (all-imply is_digit is_name digit-name (c ∷ p) (pref-digits (c ∷ p) (and_right b _ h))))

-- the names of the table of TYPE are words
type-names : (n t : ℕ) → ltb n 10 ≡ true → ltb t n ≡ true → all is_name (type_text t) ≡ true
unfolding all is_name between
type-names n t h l = by_below (λ t. all is_name (type_text t)) (λ t. true) t 9 refl (λ k. absurd (omega tests))

types-fair : (n : ℕ) (ts : List ℕ) → ltb n 10 ≡ true → all (below n) ts ≡ true → all fair_value (map type_text ts) ≡ true
unfolding all
types-fair n [] h k = refl
types-fair n (t ∷ ts) h k = rw (names-fair (type_text t) (type-names n t h (all_head (below n) t ts k)), types-fair n ts h (all_tail (below n) t ts k))

uri-fair : all fair_value (ascii "uri" ∷ []) ≡ true
unfolding all is_name between
uri-fair = and-true (names-fair (ascii "uri") refl) refl

written-fair : (f : Form) (vs : List Bytes) → all fair_value (written_type f vs) ≡ true
unfolding written_type all
written-fair text vs = refl
written-fair single vs = refl
written-fair uri vs = refl
written-fair phone vs = by_bool (is_tel_uri (head_or [] vs)) (λ e. rw e uri-fair) (λ e. rw e)
written-fair organization vs = refl

-- ---- counts

count_of : (n : Bytes) (vs : List Bytes) → (length (param_of n vs) ≤ 1) × (value_count (param_of n vs) ≤ length vs)
unfolding value_count
count_of n [] = (omega arith, omega arith)
count_of n (v ∷ vs) = (omega arith, omega arith)

count-pref : (p : Bytes) → (length (pref_param p) ≤ 1) × (value_count (pref_param p) ≤ 1)
unfolding pref_param value_count
count-pref [] = (omega arith, omega arith)
count-pref (c ∷ p) = (omega arith, omega arith)

count-written : (f : Form) (vs : List Bytes) → length (written_type f vs) ≤ 1
unfolding written_type
count-written text vs = omega arith
count-written single vs = omega arith
count-written uri vs = omega arith
count-written phone vs = by_bool (is_tel_uri (head_or [] vs)) (λ e. rw e (omega arith)) (λ e. rw e (omega arith))
count-written organization vs = omega arith

-- at most the nine codes
length_types : (ts : List ℕ) → in_order ts ≡ ts → length ts ≤ 9
unfolding in_order
length_types ts o = omega (arith, length-keep (λ c. any (eqb c) ts) (context_codes ++ feature_codes), ap length o)

-- ---- the line

entry_params : Map → Entry → List Param
entry_params m e = param (ascii "prop-id") (e.key ∷ []) ∷ (pref_param e.pref ++ param_of (ascii "type") (map type_text e.types) ++ param_of (ascii "value") (written_type m.form (flat e.parts)))

entry-words : (is_lower_word (ascii "prop-id") ≡ true) × (is_lower_word (ascii "type") ≡ true) × (is_lower_word (ascii "value") ≡ true)
unfolding all is_lower_name between
entry-words = (refl, refl, refl)

params-fair : (m : Map) (e : Entry) → Proper m e → all fair_param (entry_params m e) ≡ true
unfolding entry_params all
params-fair m e g =
    rw (entry-words.0, key-fair e.key g.key)
    (all_both fair_param (pref_param e.pref ++ param_of (ascii "type") (map type_text e.types)) (param_of (ascii "value") (written_type m.form (flat e.parts)))
    (all_both fair_param (pref_param e.pref) (param_of (ascii "type") (map type_text e.types)) (pref-fair e.pref (among (ascii "pref") m.parameters) g.pref) (of-fair (ascii "type") (map type_text e.types) entry-words.1 (types-fair m.types e.types (few-types m g.row) g.codes)))
    (of-fair (ascii "value") (written_type m.form (flat e.parts)) entry-words.2 (written-fair m.form (flat e.parts))))

params_fit : (m : Map) (e : Entry) → Proper m e → fits (entry_params m e) ≡ true
unfolding entry_params fits value_count
params_fit m e g =
    let ps : List Param = pref_param e.pref in
    let ts : List Param = param_of (ascii "type") (map type_text e.types) in
    let vs : List Param = param_of (ascii "value") (written_type m.form (flat e.parts)) in
    let p = count-pref e.pref in
    let t = count_of (ascii "type") (map type_text e.types) in
    let v = count_of (ascii "value") (written_type m.form (flat e.parts)) in
    let w = count-written m.form (flat e.parts) in
    let k = length_types e.types g.order in
    let l = length-map e.types type_text in
    and-true
    (le-leb (length (param (ascii "prop-id") (e.key ∷ []) ∷ (ps ++ ts ++ vs))) 32 (omega (arith, length-append (ps ++ ts) vs, length-append ps ts, p.0, t.0, v.0)))
    (le-leb (value_count (param (ascii "prop-id") (e.key ∷ []) ∷ (ps ++ ts ++ vs))) 64 (omega (arith, count-append (ps ++ ts) vs, count-append ps ts, p.1, t.1, v.1, w, k, l)))

-- BEGIN and END are no names of the table
no-frame : (n : Bytes) → among (lowered n) others ≡ false → is_frame_name n ≡ false
unfolding is_frame_name among
no-frame n h =
    let p = same (lowered n) in
    any-tail p (ascii "jsprop") _ (any-tail p (ascii "n") _ (any-tail p (ascii "fn") _ (any-tail p (ascii "kind") _ (any-tail p (ascii "uid") _ (any-tail p (ascii "version") _ h)))))

pub entry-fair : (i : ℕ) (m : Map) (e : Entry) → Row i m e.which → ProperEntry m e → carried_as m.form (flat e.parts) ≡ true → Fair (entry_line m e)
unfolding entry_line entry_params pref_param
entry-fair i m e r g h =
    record {
      group = refl;
      name = r.word;
      frame = no-frame (entry_line m e).name r.own;
      params = params-fair m e g.proper;
      fits = params_fit m e g.proper;
      value = form-clean m.form (flat e.parts) g.texts-utf8 h;
    }
