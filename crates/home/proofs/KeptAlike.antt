-- Lines that are kept as the same entry are classed alike.
use mathlib.Core.Path.{◌≡◌, refl, sym, ap, ◌∙◌}
use mathlib.Core.Bool.{not}
use mathlib.Core.List.{List, [], ◌∷◌}
use mathlib.Core.Option.{Option, none, some}
use Rattle.text.specs.Choice.{with-some}
use Rattle.text.specs.Bytes.{Bytes, ascii, empty, lowered}
use Rattle.text.proofs.Letters.{lowered-empty}
use Rattle.line.specs.Grammar.{Param, Line}
use Rattle.line.specs.Params.{named, values_named, lacking, only_named, value_type, besides_value, merged}
use Rattle.convert.specs.Table.{Slot, slot_of}
use Rattle.convert.specs.Model.{Kept}
use Rattle.convert.specs.Classify.{as-kept, Seen, is_derived, full_class, parts_class, member_name, member_class, entry_of, entry_class, classify}
use Rattle.convert.specs.FromCard.{kept_line}
use Rattle.home.proofs.Alls.{All, all-kept}
use Rattle.home.proofs.Merged.{Filled, merged-values, merged-only, merged-empty, merged-derived}

-- what the class of a line depends on
pub record Alike (l m : Line) : Type 0 where
  pub name : lowered l.name ≡ lowered m.name
  pub group : empty l.group ≡ empty m.group
  pub type : value_type l.params ≡ value_type m.params
  pub value : l.value ≡ m.value
  pub none : empty (besides_value l.params) ≡ empty (besides_value m.params)
  pub derived : is_derived (besides_value l.params) ≡ is_derived (besides_value m.params)
  pub only : (ns : List Bytes) → only_named ns (besides_value l.params) ≡ only_named ns (besides_value m.params)
  pub values : (n : Bytes) → values_named n (besides_value l.params) ≡ values_named n (besides_value m.params)

module _ (s : Seen) (l m : Line) (a : Alike l m) where
  full-alike : full_class s l ≡ full_class s m
  unfolding full_class
  full-alike = rw (a.group, a.type, a.value, a.none, a.derived)

  parts-alike : parts_class s l ≡ parts_class s m
  unfolding parts_class
  parts-alike = rw (a.group, a.type, a.value, a.none)

  member_alike : member_class s l ≡ member_class s m
  unfolding member_class member_name
  member_alike = rw (a.group, a.type, a.value, a.only (ascii "jsptr" ∷ []), a.values (ascii "jsptr"))

  entry-alike : (w : Slot) → entry_of s w l ≡ entry_of s w m
  unfolding entry_of
  entry-alike w = simp (a.group, a.type, a.value, a.only, a.values)

  slot-alike : (w : Option Slot) → with-some w (λ w. entry_class s w l) as-kept ≡ with-some w (λ w. entry_class s w m) as-kept
  unfolding entry_class
  slot-alike (some w) = rw (entry-alike w)
  slot-alike none = refl

  pub class-alike : classify s l ≡ classify s m
  unfolding classify
  class-alike = rw (full-alike, parts-alike, member_alike, slot-alike (slot_of (lowered l.name)), a.name, a.value)

-- ---- the same kept entry

pub filled-besides : (ps : List Param) → All Filled ps → All Filled (besides_value ps)
unfolding besides_value lacking
filled-besides ps h = all-kept Filled (λ p. not (named (ascii "value") p)) ps h

pub kept-alike : (l m : Line) → All Filled l.params → All Filled m.params → kept_line l ≡ kept_line m → Alike l m
unfolding kept_line
kept-alike l m f g e =
    let ps : merged (besides_value l.params) ≡ merged (besides_value m.params) = ap (λ (k : Kept). k.params) e in
    record {
      name = ap (λ (k : Kept). k.name) e;
      group = sym (lowered-empty l.group) ∙ ap (λ (k : Kept). empty k.group) e ∙ lowered-empty m.group;
      type = ap (λ (k : Kept). k.type) e;
      value = ap (λ (k : Kept). k.value) e;
      none = sym (merged-empty (besides_value l.params)) ∙ ap (λ (x : List Param). empty x) ps ∙ merged-empty (besides_value m.params);
      derived = sym (merged-derived (besides_value l.params) (filled-besides l.params f)) ∙ ap is_derived ps ∙ merged-derived (besides_value m.params) (filled-besides m.params g);
      only = λ ns. sym (merged-only ns (besides_value l.params)) ∙ ap (only_named ns) ps ∙ merged-only ns (besides_value m.params);
      values = λ n. sym (merged-values n (besides_value l.params)) ∙ ap (values_named n) ps ∙ merged-values n (besides_value m.params);
    }
