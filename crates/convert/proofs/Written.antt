-- What written lines are classed as: FN, N, JSPROP.
use mathlib.Core.Path.{◌≡◌, refl, ap, ◌∙◌}
use mathlib.Core.Bool.{true, false}
use mathlib.Core.List.{List, [], ◌∷◌}
use mathlib.Core.Option.{some}
use Rattle.text.specs.Bytes.{Bytes, ascii, any, all, empty, same, among, lower, lowered, between, flat, keep}
use Rattle.json_text.specs.Tree.{Json, member}
use Rattle.json_text.specs.Compact.{compact}
use Rattle.json_text.proofs.Sound.{Sound}
use Rattle.json_text.proofs.Trees.{reading-compact}
use Rattle.line.specs.Grammar.{Param, param}
use Rattle.line.specs.Params.{named, values_named, lacking, only_named, value_type, besides_value}
use Rattle.line.specs.Text.{write_text}
use Rattle.line.proofs.Texts.{read-write}
use Rattle.convert.specs.Table.{reserved}
use Rattle.convert.specs.Value.{read_name, write_name}
use Rattle.convert.specs.Pointer.{pointer}
use Rattle.convert.specs.Classify.{as-version, as-uid, as-kind, as_dropped, as-full, as_parts, as_member, Seen, is_derived, full_class, parts_class, member_name, member_value, member_class, classify}
use Rattle.convert.specs.Property.{property}
use Rattle.convert.specs.ToCard.{derived_line, member_line}
use Rattle.convert.proofs.Pointers.{pointed-pointer}

-- ---- lines with no parameters

unknown : value_type [] ≡ ascii "unknown"
unfolding value_type values_named keep flat lowered lower between
unknown = refl

no-params : besides_value [] ≡ []
unfolding besides_value lacking keep
no-params = refl

unknown-same : same (ascii "unknown") (ascii "unknown") ≡ true
unfolding same
unknown-same = refl

not-derived : is_derived [] ≡ false
unfolding is_derived
not-derived = refl

pub full-written : (s : Seen) (v : Bytes) → s.full ≡ false → full_class s (property (ascii "fn") [] (write_text false v)) ≡ as-full v
unfolding full_class
full-written s v h = rw (unknown, unknown-same, no-params, not-derived, h, read-write false v)

pub parts-written : (s : Seen) (ps : List (List Bytes)) → s.parts ≡ false → read_name (write_name ps) ≡ some ps → parts_class s (property (ascii "n") [] (write_name ps)) ≡ as_parts ps
unfolding parts_class
parts-written s ps h r = rw (unknown, unknown-same, no-params, h, r)

-- ---- a made FN is dropped

derived-params : (besides_value (param (ascii "derived") (ascii "TRUE" ∷ []) ∷ []) ≡ param (ascii "derived") (ascii "TRUE" ∷ []) ∷ []) × (value_type (param (ascii "derived") (ascii "TRUE" ∷ []) ∷ []) ≡ ascii "unknown")
unfolding besides_value lacking keep named same lowered lower between value_type values_named flat
derived-params = (refl, refl)

derived-true : is_derived (param (ascii "derived") (ascii "TRUE" ∷ []) ∷ []) ≡ true
unfolding is_derived same lowered lower between
derived-true = refl

pub derived-written : (s : Seen) (ps : List (List Bytes)) → full_class s (derived_line ps) ≡ as_dropped
unfolding full_class derived_line
derived-written s ps = rw (derived-params.0, derived-params.1, unknown-same, derived-true)

-- ---- JSPROP

pointer-params : (p : Bytes) → (besides_value (param (ascii "jsptr") (p ∷ []) ∷ []) ≡ param (ascii "jsptr") (p ∷ []) ∷ []) × (value_type (param (ascii "jsptr") (p ∷ []) ∷ []) ≡ ascii "unknown")
unfolding besides_value lacking keep named same lowered lower between value_type values_named flat
pointer-params p = (refl, refl)

pointer-named : (p : Bytes) → (only_named (ascii "jsptr" ∷ []) (param (ascii "jsptr") (p ∷ []) ∷ []) ≡ true) × (values_named (ascii "jsptr") (param (ascii "jsptr") (p ∷ []) ∷ []) ≡ p ∷ [])
unfolding only_named all among any named same lowered lower between values_named keep flat
pointer-named p = (refl, refl)

member-name : (s : Seen) (n : Bytes) → empty n ≡ false → among n reserved ≡ false → among n s.members ≡ false → member_name s (param (ascii "jsptr") (pointer n ∷ []) ∷ []) ≡ some n
unfolding member_name
member-name s n h r m = rw ((pointer-named (pointer n)).0, (pointer-named (pointer n)).1, pointed-pointer n h, r, m)

member-value : (j : Json) → Sound 15 j → member_value (write_text false (compact j)) ≡ some j
unfolding member_value
member-value j o = rw (read-write false (compact j), reading-compact 15 j o)

pub member-written : (s : Seen) (n : Bytes) (j : Json) → empty n ≡ false → among n reserved ≡ false → among n s.members ≡ false → Sound 15 j → member_class s (member_line (member n j)) ≡ as_member n j
unfolding member_class member_line
member-written s n j h r m o = rw ((pointer-params (pointer n)).0, (pointer-params (pointer n)).1, unknown-same, member-name s n h r m, member-value j o)

-- ---- by their names

pub version-class : (s : Seen) (ps : List Param) (v : Bytes) → classify s (property (ascii "version") ps v) ≡ as-version
unfolding classify same lowered lower between
version-class s ps v = refl

pub uid-class : (s : Seen) (ps : List Param) (v : Bytes) → classify s (property (ascii "uid") ps v) ≡ as-uid v
unfolding classify same lowered lower between
uid-class s ps v = refl

kind-of : (s : Seen) (ps : List Param) (v : Bytes) → classify s (property (ascii "kind") ps v) ≡ as-kind (lowered v)
unfolding classify same lower between lowered
kind-of s ps v = refl

pub kind-class : (s : Seen) (ps : List Param) (v : Bytes) → lowered v ≡ v → classify s (property (ascii "kind") ps v) ≡ as-kind v
kind-class s ps v h = kind-of s ps v ∙ ap as-kind h

pub full-class : (s : Seen) (ps : List Param) (v : Bytes) → classify s (property (ascii "fn") ps v) ≡ full_class s (property (ascii "fn") ps v)
unfolding classify same lowered lower between
full-class s ps v = refl

pub parts-class : (s : Seen) (ps : List Param) (v : Bytes) → classify s (property (ascii "n") ps v) ≡ parts_class s (property (ascii "n") ps v)
unfolding classify same lowered lower between
parts-class s ps v = refl

pub member-class : (s : Seen) (ps : List Param) (v : Bytes) → classify s (property (ascii "jsprop") ps v) ≡ member_class s (property (ascii "jsprop") ps v)
unfolding classify same lowered lower between
member-class s ps v = refl
