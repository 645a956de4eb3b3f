-- N's value: the components that are read, as the normal form has them.
use mathlib.Core.Path.{◌≡◌, refl, sym, ap, ◌∙◌}
use mathlib.Core.Bool.{Bool, true, false, ◌||◌, not, or-true}
use mathlib.Core.List.{List, [], ◌∷◌, map, map-id}
use mathlib.Core.Option.{some}
use lib.ListN.{length}
use lib.Dec.{leb}
use Rattle.text.specs.Bytes.{Bytes, any, empty, keep, each}
use Rattle.text.proofs.Cases.{tests}
use Rattle.text.proofs.Choices.{some_same}
use Rattle.text.proofs.Lists.{each-length, all-anything}
use Rattle.line.specs.Text.{read_text, split_text}
use Rattle.convert.specs.Model.{has_parts, part}
use Rattle.convert.specs.Table.{name_row}
use Rattle.convert.specs.Value.{filled, part_values, without, own_parts, read_name, read_parts}
use Rattle.convert.specs.NormalCard.{text_of, part_texts, name_values}
use Rattle.convert.proofs.Names.{without-none, full}
use Rattle.home.proofs.Known.{on_provided, on_chain, on_map}
use Rattle.home.proofs.Images.{each_same}

-- ---- the strings

part-text : (v t : Bytes) → read_text v ≡ some t → t ≡ text_of v
part-text v t e = rw e

part-values : (s : Bytes) (vs : List Bytes) → part_values s ≡ some vs → vs ≡ part_texts s
unfolding part_values part_texts
part-values s vs e =
    on_map (keep filled) (each read_text (split_text 44 s)) e λ ts p q.
    sym q ∙ ap (keep filled) (sym (map-id ts) ∙ each_same read_text (λ v. true) (λ t. t) text_of (λ v t u r. part-text v t r) (split_text 44 s) ts (all-anything (split_text 44 s)) p)

parts-values : (ss : List Bytes) (ps : List (List Bytes)) → each part_values ss ≡ some ps → ps ≡ map part_texts ss
parts-values ss ps e = sym (map-id ps) ∙ each_same part_values (λ v. true) (λ t. t) part_texts (λ v t u r. part-values v t r) ss ps (all-anything ss) e

-- ---- something is left of it

still_full : (vs others : List Bytes) → full (without others vs) || full others ≡ full vs || full others
still_full vs [] = rw (without-none vs)
still_full vs (o ∷ os) = or-true (full (without (o ∷ os) vs)) ∙ sym (or-true (full vs))

-- the tests made variables
still-some : (a b c d e f g x y : Bool) → x || f ≡ a || f → y || g ≡ e || g → a || (b || (c || (d || (e || (f || (g || false)))))) ≡ true → x || (b || (c || (d || (y || (f || (g || false)))))) ≡ true
still-some a b c d e f g true y p q h = refl
still-some a true c d e f g false y p q h = refl
still-some a false true d e f g false y p q h = refl
still-some a false false true e f g false y p q h = refl
still-some a false false false e f g false true p q h = refl
still-some a false false false e true g false false p q h = refl
still-some a false false false e false true false false p q h = refl
still-some true false false false e false false false false p q h = p
still-some false false false false true false false false false p q h = q
still-some false false false false false false false false false p q h = h

-- of seven parts at most none is passed over
seven : (ps : List (List Bytes)) → leb (length ps) 7 ≡ true → any full ps ≡ true
    → full (part ps 0) || (full (part ps 1) || (full (part ps 2) || (full (part ps 3) || (full (part ps 4) || (full (part ps 5) || (full (part ps 6) || false)))))) ≡ true
unfolding any
seven [] l h = h
seven (a ∷ []) l h = h
seven (a ∷ (b ∷ [])) l h = h
seven (a ∷ (b ∷ (c ∷ []))) l h = h
seven (a ∷ (b ∷ (c ∷ (d ∷ [])))) l h = h
seven (a ∷ (b ∷ (c ∷ (d ∷ (e ∷ []))))) l h = h
seven (a ∷ (b ∷ (c ∷ (d ∷ (e ∷ (f ∷ [])))))) l h = h
seven (a ∷ (b ∷ (c ∷ (d ∷ (e ∷ (f ∷ (g ∷ []))))))) l h = h
seven (a ∷ (b ∷ (c ∷ (d ∷ (e ∷ (f ∷ (g ∷ (x ∷ xs)))))))) l h = absurd (omega tests)

own-some : (ps : List (List Bytes)) → leb (length ps) 7 ≡ true → any full ps ≡ true → has_parts (own_parts name_row ps) ≡ true
unfolding has_parts own_parts any
own-some ps l h =
    still-some (full (part ps 0)) (full (part ps 1)) (full (part ps 2)) (full (part ps 3)) (full (part ps 4)) (full (part ps 5)) (full (part ps 6)) (full (without (part ps 5) (part ps 0))) (full (without (part ps 6) (part ps 4)))
    (still_full (part ps 0) (part ps 5)) (still_full (part ps 4) (part ps 6)) (seven ps l h)

own-values : (v : Bytes) → own_parts name_row (map part_texts (split_text 59 v)) ≡ name_values v
unfolding own_parts name_values without
own-values v = refl

pub name-read : (v : Bytes) (ps : List (List Bytes)) → read_name v ≡ some ps → (ps ≡ name_values v) × (has_parts ps ≡ true)
unfolding read_parts
name-read v ps e =
    on_provided (leb (length (split_text 59 v)) 7) _ e λ l a.
    on_chain (each part_values (split_text 59 v)) _ a λ qs p b.
    on_provided (any (λ vs. not (empty vs)) qs) (some (own_parts name_row qs)) b λ h c.
    rw (← some_same c)
    (ap (own_parts name_row) (parts-values (split_text 59 v) qs p) ∙ own-values v, own-some qs (rw (each-length part_values (split_text 59 v) qs p) l) h)
