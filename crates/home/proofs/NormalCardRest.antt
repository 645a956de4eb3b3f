-- JSPROP lines and kept lines.
use mathlib.Core.Path.{◌≡◌, refl, sym, ap, ◌∙◌}
use mathlib.Core.Bool.{true, false, ◌&&◌, not}
use mathlib.Core.List.{List, [], ◌∷◌, map}
use mathlib.Core.Option.{some}
use Rattle.text.specs.Choice.{provided}
use Rattle.text.specs.Bytes.{Bytes, ascii, same, among, lowered, flat}
use Rattle.text.proofs.Choices.{none-some, some_same}
use Rattle.text.proofs.Same.{same_true}
use Rattle.json_text.specs.Compact.{compact}
use Rattle.line.specs.Grammar.{Param, param, param_name, Line}
use Rattle.line.specs.Params.{named, values_named, lacking, only_named, besides_value}
use Rattle.line.specs.Text.{write_text}
use Rattle.convert.specs.Table.{reserved}
use Rattle.convert.specs.Pointer.{pointed, pointer}
use Rattle.convert.specs.Classify.{Class, as-version, as-uid, as-kind, as_dropped, as-full, as_parts, as-entry, as_member, as-kept, Seen, sole, member_name, classed_after}
use Rattle.convert.specs.FromJson.{kept_as_line}
use Rattle.convert.specs.FromCard.{Gives, gives, gathered, kept_line}
use Rattle.convert.specs.Property.{property}
use Rattle.convert.specs.ToCard.{member_line}
use Rattle.convert.specs.NormalCard.{kepts, section, member_form, kept_form}
use Rattle.convert.proofs.Pointers.{pointer-pointed}
use Rattle.home.proofs.Known.{on_provided, on_chain}
use Rattle.home.proofs.Images.{keep-weaker}
use Rattle.home.proofs.Classes.{Fact, Agrees, gathered-section, gathered-forms, elsewhere}

-- ---- parameters of another name than VALUE are the same without VALUE

other_name : (n : Bytes) (p : Param) → same n (ascii "value") ≡ false → named n p ≡ true → not (named (ascii "value") p) ≡ true
unfolding named
other_name n p h e = rw (same_true (lowered (param_name p)) n e, h)

pub values-besides : (n : Bytes) (ps : List Param) → same n (ascii "value") ≡ false → values_named n (besides_value ps) ≡ values_named n ps
unfolding values_named besides_value lacking
values-besides n ps h = rw (keep-weaker (named n) (λ p. not (named (ascii "value") p)) (λ p e. other_name n p h e) ps)

-- ---- JSPROP

pub sole-inv : (vs : List Bytes) (v : Bytes) → sole vs ≡ some v → vs ≡ v ∷ []
sole-inv [] v e = none-some e
sole-inv (x ∷ []) v e = ap (λ (y : Bytes). y ∷ []) (some_same e)
sole-inv (x ∷ (y ∷ ys)) v e = none-some e

-- the pointer as it was given
pointer-given : (s : Seen) (ps : List Param) (n : Bytes) → member_name s (besides_value ps) ≡ some n → pointer n ∷ [] ≡ values_named (ascii "jsptr") ps
unfolding member_name same
pointer-given s ps n e =
    on_chain (provided (only_named (ascii "jsptr" ∷ []) (besides_value ps)) (sole (values_named (ascii "jsptr") (besides_value ps)))) _ e λ p a b.
    on_provided (only_named (ascii "jsptr" ∷ []) (besides_value ps)) (sole (values_named (ascii "jsptr") (besides_value ps))) a λ t r.
    on_chain (pointed p) _ b λ m q c.
    on_provided (not (among m reserved) && not (among m s.members)) (some m) c λ u d.
    ap (λ (x : Bytes). pointer x ∷ []) (sym (some_same d)) ∙ ap (λ (x : Bytes). x ∷ []) (pointer-pointed p m q) ∙ sym (sole-inv _ p r) ∙ values-besides (ascii "jsptr") ps refl

member-agrees : (s : Seen) (l : Line) (c : Class) → Fact s l c → map member_line (gives l c).member ≡ member_form (record { line = l; class = c })
unfolding member_line
member-agrees s l as-version h = refl
member-agrees s l (as-uid v) h = refl
member-agrees s l (as-kind v) h = refl
member-agrees s l as_dropped h = refl
member-agrees s l (as-full v) h = refl
member-agrees s l (as_parts ps) h = refl
member-agrees s l (as-entry i e) h = refl
member-agrees s l (as_member n j) h = ap (λ (x : List Bytes). property (ascii "jsprop") (param (ascii "jsptr") x ∷ []) (write_text false (compact j)) ∷ []) (pointer-given s l.params n h.0)
member-agrees s l as-kept h = refl

pub members-part : (s : Seen) (ls : List Line) → map member_line (gathered (λ (g : Gives). g.member) (classed_after s ls)) ≡ flat (map member_form (classed_after s ls))
members-part s ls = gathered-forms (λ (g : Gives). g.member) member_line member_form member-agrees s ls

-- ---- kept lines

kept-agrees : (s : Seen) (l : Line) (c : Class) → Fact s l c → Agrees (λ (g : Gives). g.kept) kepts kept_as_line kept_form l c
unfolding kept_as_line kept_line kept_form
kept-agrees s l as-version h = refl
kept-agrees s l (as-uid v) h = refl
kept-agrees s l (as-kind v) h = refl
kept-agrees s l as_dropped h = refl
kept-agrees s l (as-full v) h = refl
kept-agrees s l (as_parts ps) h = refl
kept-agrees s l (as-entry i e) h = rw (elsewhere i 6 refl)
kept-agrees s l (as_member n j) h = refl
kept-agrees s l as-kept h = refl

pub kept-part : (s : Seen) (ls : List Line) → map kept_as_line (gathered (λ (g : Gives). g.kept) (classed_after s ls)) ≡ map kept_form (section kepts (classed_after s ls))
kept-part s ls = gathered-section (λ (g : Gives). g.kept) kepts kept_as_line kept_form kept-agrees s ls
