-- Which line converts does not depend on the letter case of its name and of its parameters' names.
use mathlib.Core.Path.{◌≡◌, refl}
use mathlib.Core.List.{List, [], ◌∷◌, map}
use mathlib.Core.Option.{Option, none, some}
use Rattle.text.specs.Choice.{with-some}
use Rattle.text.specs.Bytes.{ascii, empty, lowered}
use Rattle.text.proofs.Letters.{lowered-uppered}
use Rattle.line.specs.Grammar.{Param, param, Line}
use Rattle.line.specs.Params.{besides_value}
use Rattle.line.proofs.Parameters.{upper_param}
use Rattle.line.proofs.Lines.{upper_line}
use Rattle.line.proofs.Uppered.{values_named-upper, besides_value-upper, value_type-upper, only_named-upper, merged-upper}
use Rattle.convert.specs.Table.{Slot, slot_of}
use Rattle.convert.specs.Classify.{as-kept, Seen, is_derived, full_class, parts_class, member_name, member_class, entry_of, entry_class, classify}
use Rattle.convert.specs.FromCard.{kept_line}

derived-upper : (ps : List Param) → is_derived (map upper_param ps) ≡ is_derived ps
unfolding is_derived
derived-upper [] = refl
derived-upper (param n [] ∷ ps) = refl
derived-upper (param n (v ∷ []) ∷ []) = rw (lowered-uppered n)
derived-upper (param n (v ∷ []) ∷ (p ∷ ps)) = rw (lowered-uppered n)
derived-upper (param n (v ∷ (w ∷ ws)) ∷ ps) = refl

pub empty-upper : (ps : List Param) → empty (map upper_param ps) ≡ empty ps
empty-upper [] = refl
empty-upper (p ∷ ps) = refl

full-upper : (s : Seen) (l : Line) → full_class s (upper_line l) ≡ full_class s l
unfolding full_class
full-upper s l = rw (value_type-upper l.params, besides_value-upper l.params, derived-upper (besides_value l.params), empty-upper (besides_value l.params))

parts-upper : (s : Seen) (l : Line) → parts_class s (upper_line l) ≡ parts_class s l
unfolding parts_class
parts-upper s l = rw (value_type-upper l.params, besides_value-upper l.params, empty-upper (besides_value l.params))

member-upper : (s : Seen) (l : Line) → member_class s (upper_line l) ≡ member_class s l
unfolding member_class member_name
member-upper s l = rw (value_type-upper l.params, besides_value-upper l.params, only_named-upper (ascii "jsptr" ∷ []) (besides_value l.params), values_named-upper (ascii "jsptr") (besides_value l.params))

pub entry-upper : (s : Seen) (w : Slot) (l : Line) → entry_of s w (upper_line l) ≡ entry_of s w l
unfolding entry_of
entry-upper s w l = simp (value_type-upper, besides_value-upper, only_named-upper, values_named-upper)

slot-upper : (s : Seen) (l : Line) (w : Option Slot) → with-some w (λ w. entry_class s w (upper_line l)) as-kept ≡ with-some w (λ w. entry_class s w l) as-kept
unfolding entry_class
slot-upper s l (some w) = rw (entry-upper s w l)
slot-upper s l none = refl

pub classify-upper : (s : Seen) (l : Line) → classify s (upper_line l) ≡ classify s l
unfolding classify
classify-upper s l =
    rw (lowered-uppered l.name, full-upper s l, parts-upper s l, member-upper s l, slot-upper s l (slot_of (lowered l.name)))

pub kept-upper : (l : Line) → kept_line (upper_line l) ≡ kept_line l
unfolding kept_line
kept-upper l = rw (lowered-uppered l.name, besides_value-upper l.params, merged-upper (besides_value l.params), value_type-upper l.params)
