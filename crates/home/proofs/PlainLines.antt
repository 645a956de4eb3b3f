-- Plain lines, as all but VERSION, UID and KIND are: not misused, not emptied, no second of those three.
use mathlib.Core.Path.{◌≡◌, refl}
use mathlib.Core.Bool.{Bool, true, false, not}
use mathlib.Core.List.{List, [], ◌∷◌, ◌++◌, map}
use mathlib.Core.Option.{Option, none, some}
use Prim.Native.Nat.{ℕ, suc}
use lib.ListN.{length}
use lib.Dec.{ltb}
use Rattle.text.specs.Choice.{with-some}
use Rattle.text.specs.Bytes.{Bytes, ascii, any, all, empty, same, among, lower, lowered, between, keep, flat}
use Rattle.text.proofs.Cases.{by_bool, and_left, and_right, and-true}
use Rattle.text.proofs.Lists.{all_head, all_tail, any_head, any-tail, any-neither}
use Rattle.json_text.specs.Tree.{Member, member}
use Rattle.line.specs.Class.{is_name}
use Rattle.line.specs.Grammar.{Param, param, Line}
use Rattle.line.specs.Params.{named, values_named}
use Rattle.line.specs.Text.{write_text}
use Rattle.line.proofs.Named.{values_named-append, values_named-one, values_named-none}
use Rattle.convert.specs.Table.{Form, text, single, uri, phone, organization, Map}
use Rattle.convert.specs.Model.{Entry, Kept}
use Rattle.convert.specs.Value.{head_or, is_tel_uri, written_type}
use Rattle.convert.specs.Classify.{Seen}
use Rattle.convert.specs.FromJson.{is_lower_word, is_group, never_kept, kept_as_line, kept_stands}
use Rattle.convert.specs.Property.{property, param_of}
use Rattle.convert.specs.ToCard.{line_where, derived_line, entry_line, maps_lines, member_line}
use Rattle.convert.specs.Answers.{value_fits}
use Rattle.convert.proofs.Types.{type_text}
use Rattle.convert.proofs.Entries.{four, the_value, pref_values, entry-params}
use Rattle.convert.proofs.KeptLines.{no-values, value_param}
use Rattle.home.proofs.Proper.{ProperEntries, ProperMaps, KeptFine, AllKeptFine}
use Rattle.home.proofs.Rows.{others, Row, Rows}
use Rattle.home.proofs.KeptFacts.{no_value}
use Rattle.home.proofs.Words.{word-lowered, names-lower}
use Rattle.home.proofs.Stands.{stands-inv, Stands, lower_param}
use Rattle.home.proofs.Alls.{All, all-joined}

-- lines that stand once, before the others
abbrev pub heads : List Bytes
heads = ascii "version" ∷ ascii "uid" ∷ ascii "kind" ∷ []

pub record Plain (l : Line) : Type 0 where
  pub own : among (lowered l.name) heads ≡ false
  pub group : any (named (ascii "group")) l.params ≡ false
  pub value : value_fits (values_named (ascii "value") l.params) ≡ true

-- three names and no other
three : (n : Bytes) → same n (ascii "version") ≡ false → same n (ascii "uid") ≡ false → same n (ascii "kind") ≡ false → among n heads ≡ false
unfolding among any
three n a b c = rw (a, b, c)

-- ---- FN, N and JSPROP

pub full-plain : (v : Option Bytes) (pss : List (List Bytes)) → Plain (with-some v (λ v. property (ascii "fn") [] (write_text false v)) (derived_line pss))
unfolding derived_line among any same lowered lower between named values_named keep flat
full-plain (some v) pss = record { own = refl; group = refl; value = refl }
full-plain none pss = record { own = refl; group = refl; value = refl }

pub name-plain : (b : Bool) (v : Bytes) → All Plain (line_where b (property (ascii "n") [] v))
unfolding among any same lowered lower between named values_named keep flat
name-plain true v = (record { own = refl; group = refl; value = refl }, tt)
name-plain false v = tt

pub members_plain : (ms : List Member) → All Plain (map member_line ms)
unfolding member_line among any same lowered lower between named values_named keep flat
members_plain [] = tt
members_plain (member n j ∷ ms) = (record { own = refl; group = refl; value = refl }, members_plain ms)

-- ---- the maps

of-group : (n : Bytes) (vs : List Bytes) → same (lowered n) (ascii "group") ≡ false → any (named (ascii "group")) (param_of n vs) ≡ false
unfolding any named
of-group n [] h = refl
of-group n (v ∷ vs) h = rw h

written-fits : (f : Form) (vs : List Bytes) → value_fits (written_type f vs) ≡ true
unfolding written_type all is_name between
written-fits text vs = refl
written-fits single vs = refl
written-fits uri vs = refl
written-fits phone vs = by_bool (is_tel_uri (head_or [] vs)) (λ e. rw e) (λ e. rw e)
written-fits organization vs = refl

module _ (ks ps ts vs : List Bytes) where
  four-group : any (named (ascii "group")) (four ks ps ts vs) ≡ false
  unfolding same lowered lower between
  four-group =
      any-neither (named (ascii "group")) (param_of (ascii "prop-id") ks) _ (of-group (ascii "prop-id") ks refl)
      (any-neither (named (ascii "group")) (param_of (ascii "pref") ps ++ param_of (ascii "type") ts) (param_of (ascii "value") vs)
      (any-neither (named (ascii "group")) (param_of (ascii "pref") ps) (param_of (ascii "type") ts) (of-group (ascii "pref") ps refl) (of-group (ascii "type") ts refl)) (of-group (ascii "value") vs refl))

row-own : (n : Bytes) → among n others ≡ false → among n heads ≡ false
unfolding among
row-own n h =
    let u = any-tail (same n) (ascii "version") _ h in
    let k = any-tail (same n) (ascii "uid") _ u in
    three n (any_head (same n) (ascii "version") _ h) (any_head (same n) (ascii "uid") _ u) (any_head (same n) (ascii "kind") _ k)

entry-own : (i : ℕ) (m : Map) (e : Entry) → Row i m e.which → among (lowered (entry_line m e).name) heads ≡ false
unfolding entry_line
entry-own i m e r = row-own _ r.own

entry-plain : (i : ℕ) (m : Map) (e : Entry) → Row i m e.which → Plain (entry_line m e)
entry-plain i m e r =
    let ts : List Bytes = map type_text e.types in
    let vs : List Bytes = written_type m.form (flat e.parts) in
    record {
      own = entry-own i m e r;
      group = rw (entry-params m e) (four-group (e.key ∷ []) (pref_values e.pref) ts vs);
      value = rw (entry-params m e, the_value (e.key ∷ []) (pref_values e.pref) ts vs) (written-fits m.form (flat e.parts));
    }

entries-plain : (i : ℕ) (m : Map) (es : List Entry) → ((w : ℕ) → ltb w (length m.properties) ≡ true → Row i m w) → ProperEntries m es → All Plain (map (entry_line m) es)
entries-plain i m [] r g = tt
entries-plain i m (e ∷ es) r g = (entry-plain i m e (r e.which g.0.which), entries-plain i m es r g.1)

pub maps-plain : (i : ℕ) (ms : List Map) (ess : List (List Entry)) → Rows i ms → ProperMaps ms ess → All Plain (maps_lines ms ess)
unfolding maps_lines
maps-plain i [] [] r g = tt
maps-plain i [] (es ∷ ess) r g = absurd g
maps-plain i (m ∷ ms) [] r g = absurd g
maps-plain i (m ∷ ms) (es ∷ ess) r g = all-joined Plain (map (entry_line m) es) (maps_lines ms ess) (entries-plain i m es r.0 g.0) (maps-plain (suc i) ms ess r.1 g.2)

-- ---- kept lines

pub never-own : (n : Bytes) → among n never_kept ≡ false → among n heads ≡ false
unfolding among
never-own n h =
    let e = any-tail (same n) (ascii "begin") _ h in
    any-tail (same n) (ascii "end") _ e

pub no-group : (ps : List Param) → all lower_param ps ≡ true → any is_group ps ≡ false → any (named (ascii "group")) ps ≡ false
unfolding any named
no-group [] s h = refl
no-group (param n vs ∷ ps) s h =
    rw (word-lowered n (and_left (is_lower_word n) _ (all_head lower_param (param n vs) ps s)), any_head is_group (param n vs) ps h)
    (no-group ps (all_tail lower_param (param n vs) ps s) (any-tail is_group (param n vs) ps h))

pub value-group : (t : Bytes) → any (named (ascii "group")) (value_param t) ≡ false
unfolding any named same lowered lower between
value-group t = by_bool (same t (ascii "unknown")) (λ e. rw e) (λ e. rw e)

pub type-fits : (t : Bytes) → is_lower_word t ≡ true → value_fits (values_named (ascii "value") (value_param t)) ≡ true
unfolding same lowered lower between
type-fits t h =
    by_bool (same t (ascii "unknown"))
    (λ e. rw (e, values_named-none (ascii "value")))
    (λ e. rw (e, values_named-one (ascii "value") (ascii "value") (t ∷ []) refl) (and-true (and_left (not (empty t)) _ h) (names-lower t (and_right (not (empty t)) _ h))))

kept-plain : (s : Seen) (k : Kept) → KeptFine k → Stands s k → Plain (kept_as_line k)
unfolding kept_as_line
kept-plain s k f t =
    record {
      own = rw (word-lowered k.name t.name) (never-own k.name t.never);
      group = any-neither (named (ascii "group")) k.params (value_param k.type) (no-group k.params t.params f.no-group) (value-group k.type);
      value = rw (values_named-append (ascii "value") k.params (value_param k.type), no-values k.params (no_value k.params t.params)) (type-fits k.type t.type);
    }

pub kepts-plain : (s : Seen) (ks : List Kept) → AllKeptFine ks → all (kept_stands s) ks ≡ true → All Plain (map kept_as_line ks)
kepts-plain s [] f h = tt
kepts-plain s (k ∷ ks) f h = (kept-plain s k f.0 (stands-inv s k (all_head (kept_stands s) k ks h)), kepts-plain s ks f.1 (all_tail (kept_stands s) k ks h))
