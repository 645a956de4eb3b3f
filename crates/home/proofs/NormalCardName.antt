-- FN and N: the first that converts, and what is made where there is no FN.
use mathlib.Core.Path.{◌≡◌, refl, sym, ap, ◌∙◌}
use mathlib.Core.Bool.{true, false}
use mathlib.Core.List.{List, [], ◌∷◌, map, map-id}
use Rattle.text.specs.Choice.{with-some}
use Rattle.text.specs.Bytes.{Bytes, ascii, any, all, flat}
use Rattle.text.proofs.Cases.{not-both}
use Rattle.text.proofs.Lists.{all_head}
use Rattle.line.specs.Grammar.{Line}
use Rattle.line.specs.Text.{write_text}
use Rattle.convert.specs.Model.{has_parts, no_parts}
use Rattle.convert.specs.Value.{written_parts, write_name, write_parts}
use Rattle.convert.specs.Classify.{Class, as-version, as-uid, as-kind, as_dropped, as-full, as_parts, as-entry, as_member, as-kept, Seen, classed_after}
use Rattle.convert.specs.FromCard.{Gives, gives, gathered, first_of, or_else}
use Rattle.convert.specs.Property.{property}
use Rattle.convert.specs.ToCard.{line_where, derived_line}
use Rattle.convert.specs.NormalCard.{renewed, name_values, name_text, fulls, names, section, or_made, name_strings, derived_form}
use Rattle.convert.proofs.CardParts.{has-no-parts}
use Rattle.home.proofs.Images.{AtMostOne}
use Rattle.home.proofs.Classes.{Fact, Agrees, gathered-section, elsewhere}
use Rattle.home.proofs.NormalCardParts.{name-read}
use Rattle.home.proofs.Once.{ByFlag, few, one_seen, gathered-all}

-- ---- FN

abbrev full-line : Bytes → Line
full-line v = property (ascii "fn") [] (write_text false v)

full-agrees : (s : Seen) (l : Line) (c : Class) → Fact s l c → Agrees (λ (g : Gives). g.full) fulls full-line (λ (l : Line). property (ascii "fn") [] (renewed false l.value)) l c
unfolding renewed
full-agrees s l as-version h = refl
full-agrees s l (as-uid v) h = refl
full-agrees s l (as-kind v) h = refl
full-agrees s l as_dropped h = refl
full-agrees s l (as-full v) h = rw h.0
full-agrees s l (as_parts ps) h = refl
full-agrees s l (as-entry i e) h = rw (elsewhere i 3 refl)
full-agrees s l (as_member n j) h = refl
full-agrees s l as-kept h = refl

pub full-once : ByFlag (λ (g : Gives). g.full) (λ (t : Seen). t.full)
full-once s l as-version h = (λ e. (e, refl), λ e. refl)
full-once s l (as-uid v) h = (λ e. (e, refl), λ e. refl)
full-once s l (as-kind v) h = (λ e. (e, refl), λ e. refl)
full-once s l as_dropped h = (λ e. (e, refl), λ e. refl)
full-once s l (as-full v) h = (λ e. not-both e h.1, λ e. not-both refl e)
full-once s l (as_parts ps) h = (λ e. (e, refl), λ e. refl)
full-once s l (as-entry i e) h = (λ e. (e, refl), λ e. refl)
full-once s l (as_member n j) h = (λ e. (e, refl), λ e. refl)
full-once s l as-kept h = (λ e. (e, refl), λ e. refl)

full-there : (vs : List Bytes) (d : Line) → AtMostOne vs → with-some (first_of vs) full-line d ∷ [] ≡ or_made (map full-line vs) d
full-there [] d h = refl
full-there (v ∷ []) d h = refl
full-there (v ∷ (w ∷ vs)) d h = absurd h

full-part : (s : Seen) (ls : List Line) (d : Line)
    → with-some (first_of (gathered (λ (g : Gives). g.full) (classed_after s ls))) full-line d ∷ []
    ≡ or_made (map (λ (l : Line). property (ascii "fn") [] (renewed false l.value)) (section fulls (classed_after s ls))) d
full-part s ls d =
    full-there (gathered (λ (g : Gives). g.full) (classed_after s ls)) d
    (one_seen (λ (g : Gives). g.full) (λ (t : Seen). t.full) full-once (λ l c. (few l c).2) s ls)
    ∙ ap (λ (x : List Line). or_made x d) (gathered-section (λ (g : Gives). g.full) fulls full-line (λ (l : Line). property (ascii "fn") [] (renewed false l.value)) full-agrees s ls)

-- ---- N

parts-agrees : (s : Seen) (l : Line) (c : Class) → Fact s l c → Agrees (λ (g : Gives). g.parts) names (λ ps. ps) (λ (l : Line). name_values l.value) l c
parts-agrees s l as-version h = refl
parts-agrees s l (as-uid v) h = refl
parts-agrees s l (as-kind v) h = refl
parts-agrees s l as_dropped h = refl
parts-agrees s l (as-full v) h = refl
parts-agrees s l (as_parts ps) h = ap (λ (x : List (List Bytes)). x ∷ []) (name-read l.value ps h.0).0
parts-agrees s l (as-entry i e) h = rw (elsewhere i 4 refl)
parts-agrees s l (as_member n j) h = refl
parts-agrees s l as-kept h = refl

pub parts-once : ByFlag (λ (g : Gives). g.parts) (λ (t : Seen). t.parts)
parts-once s l as-version h = (λ e. (e, refl), λ e. refl)
parts-once s l (as-uid v) h = (λ e. (e, refl), λ e. refl)
parts-once s l (as-kind v) h = (λ e. (e, refl), λ e. refl)
parts-once s l as_dropped h = (λ e. (e, refl), λ e. refl)
parts-once s l (as-full v) h = (λ e. (e, refl), λ e. refl)
parts-once s l (as_parts ps) h = (λ e. not-both e h.1, λ e. not-both refl e)
parts-once s l (as-entry i e) h = (λ e. (e, refl), λ e. refl)
parts-once s l (as_member n j) h = (λ e. (e, refl), λ e. refl)
parts-once s l as-kept h = (λ e. (e, refl), λ e. refl)

-- a converted N has a component
pub parts-left : (s : Seen) (l : Line) (c : Class) → Fact s l c → false ≡ false → all has_parts (gives l c).parts ≡ true
unfolding all
parts-left s l as-version h e = refl
parts-left s l (as-uid v) h e = refl
parts-left s l (as-kind v) h e = refl
parts-left s l as_dropped h e = refl
parts-left s l (as-full v) h e = refl
parts-left s l (as_parts ps) h e = rw (name-read l.value ps h.0).1
parts-left s l (as-entry i x) h e = refl
parts-left s l (as_member n j) h e = refl
parts-left s l as-kept h e = refl

pub any-nothing : (ls : List Line) → any (λ l. false) ls ≡ false
unfolding any
any-nothing [] = refl
any-nothing (l ∷ ls) = any-nothing ls

parts-form : (s : Seen) (ls : List Line) → gathered (λ (g : Gives). g.parts) (classed_after s ls) ≡ map (λ (l : Line). name_values l.value) (section names (classed_after s ls))
parts-form s ls =
    sym (map-id (gathered (λ (g : Gives). g.parts) (classed_after s ls))) ∙ gathered-section (λ (g : Gives). g.parts) names (λ ps. ps) (λ (l : Line). name_values l.value) parts-agrees s ls

written-name : (ps : List (List Bytes)) → write_name ps ≡ name_text ps
unfolding write_parts written_parts name_text
written-name ps = refl

module _ (ns : List Line) where
  abbrev values : List (List (List Bytes))
  values = map (λ (l : Line). name_values l.value) ns

derived-lines : (ns : List Line) → derived_line (or_else (first_of (values ns)) no_parts) ≡ derived_form ns
unfolding derived_line derived_form name_strings flat
derived-lines [] = refl
derived-lines (l ∷ ls) = refl

name-lines : (ns : List Line) → AtMostOne (values ns) → all has_parts (values ns) ≡ true
    → line_where (has_parts (or_else (first_of (values ns)) no_parts)) (property (ascii "n") [] (write_name (or_else (first_of (values ns)) no_parts))) ≡ map (λ (l : Line). property (ascii "n") [] (name_text (name_values l.value))) ns
name-lines [] o h = rw has-no-parts
name-lines (l ∷ []) o h = rw (all_head has_parts (name_values l.value) [] h, written-name (name_values l.value))
name-lines (l ∷ (k ∷ ls)) o h = absurd o

derived-part : (s : Seen) (ls : List Line) → derived_line (or_else (first_of (gathered (λ (g : Gives). g.parts) (classed_after s ls))) no_parts) ≡ derived_form (section names (classed_after s ls))
derived-part s ls = rw (parts-form s ls) (derived-lines (section names (classed_after s ls)))

-- FN, or one made of N
pub fn-part : (s : Seen) (ls : List Line)
    → with-some (first_of (gathered (λ (g : Gives). g.full) (classed_after s ls))) full-line (derived_line (or_else (first_of (gathered (λ (g : Gives). g.parts) (classed_after s ls))) no_parts)) ∷ []
    ≡ or_made (map (λ (l : Line). property (ascii "fn") [] (renewed false l.value)) (section fulls (classed_after s ls))) (derived_form (section names (classed_after s ls)))
fn-part s ls = rw (derived-part s ls) (full-part s ls (derived_form (section names (classed_after s ls))))

pub name-part : (s : Seen) (ls : List Line)
    → line_where (has_parts (or_else (first_of (gathered (λ (g : Gives). g.parts) (classed_after s ls))) no_parts)) (property (ascii "n") [] (write_name (or_else (first_of (gathered (λ (g : Gives). g.parts) (classed_after s ls))) no_parts)))
    ≡ map (λ (l : Line). property (ascii "n") [] (name_text (name_values l.value))) (section names (classed_after s ls))
name-part s ls =
    let o : AtMostOne (gathered (λ (g : Gives). g.parts) (classed_after s ls)) =
    one_seen (λ (g : Gives). g.parts) (λ (t : Seen). t.parts) parts-once (λ l c. (few l c).3) s ls in
    let h : all has_parts (gathered (λ (g : Gives). g.parts) (classed_after s ls)) ≡ true = gathered-all (λ (g : Gives). g.parts) has_parts (λ l. false) parts-left s ls (any-nothing ls) in
    rw (parts-form s ls) (name-lines (section names (classed_after s ls)) (rw (parts-form s ls) at o) (rw (parts-form s ls) at h))
