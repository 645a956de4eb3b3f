-- N's value: which can be read.
use mathlib.Core.Path.{◌≡◌, refl, sym, ap, ◌∙◌}
use mathlib.Core.Bool.{Bool, true, false, ◌&&◌, not}
use mathlib.Core.List.{List, [], ◌∷◌}
use mathlib.Core.Option.{Option, none, some, map}
use lib.Dec.{leb}
use lib.ListN.{length}
use Rattle.text.specs.Choice.{chain, provided, is_some}
use Rattle.text.specs.Bytes.{Bytes, any, all, empty, keep, each}
use Rattle.text.proofs.Cases.{by_bool}
use Rattle.text.proofs.Choices.{map-inv}
use Rattle.line.specs.Text.{read_text, split_text}
use Rattle.line_parts.specs.Parts.{other_than}
use Rattle.line_parts.proofs.Escapes.{each-some, split-reads, split-each}
use Rattle.line_parts.proofs.Filled.{any-each, read-empty, filled-values}
use Rattle.convert.specs.Table.{name_row}
use Rattle.convert.specs.Value.{filled, part_values, own_parts, read_name, read_parts}

map-some : {A B : Type 0} (f : A → B) (o : Option A) → is_some (map f o) ≡ is_some o
map-some f none = refl
map-some f (some a) = refl

all_same : {A : Type 0} (p q : A → Bool) → ((x : A) → p x ≡ q x) → (xs : List A) → all p xs ≡ all q xs
unfolding all
all_same p q h [] = refl
all_same p q h (x ∷ xs) = rw (h x, all_same p q h xs)

part-reads : (s : Bytes) → is_some (part_values s) ≡ is_some (read_text s)
unfolding part_values
part-reads s = map-some (keep filled) (each read_text (split_text 44 s)) ∙ split-each 44 s

parts-read : (v : Bytes) → is_some (each part_values (split_text 59 v)) ≡ is_some (read_text v)
parts-read v =
    each-some part_values (split_text 59 v)
    ∙ all_same (λ x. is_some (part_values x)) (λ x. is_some (read_text x)) part-reads (split_text 59 v)
    ∙ split-reads 59 v

keep_some : {A : Type 0} (p : A → Bool) (xs : List A) → not (empty (keep p xs)) ≡ any p xs
unfolding keep any
keep_some p [] = refl
keep_some p (x ∷ xs) = by_bool (p x) (λ e. rw e) (λ e. rw e (keep_some p xs))

part_filled : (x : Bytes) (vs : List Bytes) → part_values x ≡ some vs → not (empty vs) ≡ any filled (split_text 44 x)
unfolding part_values
part_filled x vs e =
    let (us, a, b) = map-inv (keep filled) (each read_text (split_text 44 x)) e in
    ap (λ l. not (empty l)) (sym b) ∙ keep_some filled us ∙ any-each read_text filled filled (λ y u r. ap not (read-empty y u r)) (split_text 44 x) us a

some-filled : (o : Option (List (List Bytes))) (b : Bool) → ((ps : List (List Bytes)) → o ≡ some ps → any (λ vs. not (empty vs)) ps ≡ b)
    → is_some (chain o (λ ps. provided (any (λ vs. not (empty vs)) ps) (some (own_parts name_row ps)))) ≡ b && is_some o
some-filled none true h = refl
some-filled none false h = refl
some-filled (some ps) true h = rw (h ps refl)
some-filled (some ps) false h = rw (h ps refl)

some-provided : {A : Type 0} (b : Bool) (o : Option A) → is_some (provided b o) ≡ b && is_some o
some-provided true o = refl
some-provided false o = refl

name-reads : (v : Bytes) → is_some (read_name v) ≡ leb (length (split_text 59 v)) 7 && (any (other_than 59 44) v && is_some (read_text v))
unfolding read_parts
name-reads v =
    some-provided (leb (length (split_text 59 v)) 7) (chain (each part_values (split_text 59 v)) (λ ps. provided (any (λ vs. not (empty vs)) ps) (some (own_parts name_row ps))))
    ∙ ap (λ b. leb (length (split_text 59 v)) 7 && b)
    (some-filled (each part_values (split_text 59 v)) (any (other_than 59 44) v)
    (λ ps e. any-each part_values (λ x. any filled (split_text 44 x)) (λ vs. not (empty vs)) part_filled (split_text 59 v) ps e ∙ filled-values v)
    ∙ ap (λ b. any (other_than 59 44) v && b) (parts-read v))

-- the three tests of it, one after the other

pub too-many-parts : (v : Bytes) → leb (length (split_text 59 v)) 7 ≡ false → is_some (read_name v) ≡ false
too-many-parts v many = name-reads v ∙ rw many

pub all-empty : (v : Bytes) → leb (length (split_text 59 v)) 7 ≡ true → any (other_than 59 44) v ≡ false → is_some (read_name v) ≡ false
all-empty v few none_other = name-reads v ∙ rw (few, none_other)

pub escapes-alone : (v : Bytes) → leb (length (split_text 59 v)) 7 ≡ true → any (other_than 59 44) v ≡ true → is_some (read_name v) ≡ is_some (read_text v)
escapes-alone v few other = name-reads v ∙ rw (few, other)
