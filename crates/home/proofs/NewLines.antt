-- The lines that are made where none came, as `Allowed` says them, are those of the normal form.
use mathlib.Core.Path.{◌≡◌, refl, sym, ap, ap₂, ◌∙◌}
use mathlib.Core.Bool.{Bool, true, false, ◌&&◌, not}
use mathlib.Core.List.{List, [], ◌∷◌, ◌++◌, map, map-append}
use mathlib.Core.Option.{none, some}
use Prim.Native.Nat.{ℕ}
use lib.ListN.{length}
use lib.Dec.{eqb, leb}
use Rattle.text.specs.Choice.{pick, is_some}
use Rattle.text.specs.Bytes.{Bytes, ascii, any, empty, same, lowered, upper, uppered, between, joined, flat, keep, each}
use Rattle.text.specs.Decimal.{decimal}
use Rattle.text.proofs.Cases.{by_bool, not-both, and_left, and_right}
use Rattle.text.proofs.Choices.{some_same}
use Rattle.text.proofs.Lists.{each-length}
use Rattle.text.proofs.Same.{same_true}
use Rattle.line.specs.Grammar.{Param, param, Line}
use Rattle.line.specs.Params.{besides_value}
use Rattle.line.specs.Text.{read_text, split_text, write_text}
use Rattle.line.proofs.Lines.{upper_line}
use Rattle.convert.specs.Table.{name_row}
use Rattle.convert.specs.Value.{part_values, without, own_parts, read_parts, read_name}
use Rattle.convert.specs.Classify.{Class, as-version, as-uid, as-kind, as_dropped, as-full, as_parts, as-entry, as_member, as-kept, Seen, nothing, see, is_derived, full_class, parts_class, classify, Classed, classed_after, classed}
use Rattle.convert.specs.Property.{property}
use Rattle.convert.specs.NormalCard.{uids, fulls, names, section_of, section_number, section, name_strings as names_of, derived_form}
use Rattle.convert.specs.Answers.{is_named}
use Rattle.home.specs.Allowed.{called, plain, untyped, part_strings, name_strings, where_none, can_full, can_name, component_values, values_of_name, new_lines}
use Rattle.home.proofs.Known.{on_some, on_provided, on_chain}
use Rattle.home.proofs.Classes.{elsewhere}
use Rattle.home.proofs.NormalCardParts.{name-read}
use Rattle.home.proofs.LineSays.{Says, class-says}
use Rattle.home.proofs.SectionsStand.{new_of}

abbrev number : Class → ℕ
number c = section_number (section_of c)

-- a line and the lines of a section after it
first_of : (k : ℕ) (l : Line) (s : Seen) (ls : List Line)
    → map (λ (c : Classed). c.line) (keep (λ (c : Classed). eqb (number c.class) k) (classed_after s (l ∷ ls)))
    ≡ pick (eqb (number (classify s l)) k) (l ∷ map (λ (c : Classed). c.line) (keep (λ (c : Classed). eqb (number c.class) k) (classed_after (see s (classify s l)) ls)))
    (map (λ (c : Classed). c.line) (keep (λ (c : Classed). eqb (number c.class) k) (classed_after (see s (classify s l)) ls)))
unfolding classed_after keep
first_of k l s ls = by_bool (eqb (number (classify s l)) k) (λ e. rw e) (λ e. rw e)

-- ---- UID

is-uid : (s : Seen) (l : Line) → is_named (ascii "uid") l ≡ true → classify s l ≡ as-uid l.value
unfolding classify same
is-uid s l e = rw (same_true (lowered l.name) (ascii "uid") e)

no-uid : (l : Line) (c : Class) → Says l c → is_named (ascii "uid") l ≡ false → eqb (number c) 1 ≡ false
no-uid l as-version h e = refl
no-uid l (as-uid v) h e = not-both h e
no-uid l (as-kind v) h e = refl
no-uid l as_dropped h e = refl
no-uid l (as-full v) h e = refl
no-uid l (as_parts ps) h e = refl
no-uid l (as-entry i x) h e = elsewhere i 1 refl
no-uid l (as_member n j) h e = refl
no-uid l as-kept h e = refl

uid-made : (d : Line) (s : Seen) (ls : List Line) → where_none (section uids (classed_after s ls)) d ≡ where_none (keep (called (ascii "uid")) ls) d
unfolding section keep
uid-made d s [] = unfold classed_after in refl
uid-made d s (l ∷ ls) =
    by_bool (is_named (ascii "uid") l) (λ e. rw (first_of 1 l s ls, is-uid s l e, e)) (λ e. rw (first_of 1 l s ls, no-uid l (classify s l) (class-says s l) e, e) (uid-made d (see s (classify s l)) ls))

-- ---- FN

none-derived : (ps : List Param) → empty ps ≡ true → is_derived ps ≡ false
unfolding is_derived
none-derived [] h = refl
none-derived (p ∷ ps) h = not-both h refl

and_none : (b : Bool) → b && false ≡ false
and_none true = refl
and_none false = refl

is-full : (s : Seen) (l : Line) → s.full ≡ false → can_full l ≡ true → (v : Bytes) × (classify s l ≡ as-full v)
unfolding can_full classify full_class same
is-full s l f e =
    let np : is_named (ascii "fn") l && plain l ≡ true = and_left (is_named (ascii "fn") l && plain l) (is_some (read_text l.value)) e in
    let n : is_named (ascii "fn") l ≡ true = and_left (is_named (ascii "fn") l) _ np in
    let p : plain l ≡ true = and_right (is_named (ascii "fn") l) _ np in
    let d : untyped l && is_derived (besides_value l.params) ≡ false = ap (λ (b : Bool). untyped l && b) (none-derived (besides_value l.params) (and_right (untyped l) _ p)) ∙ and_none (untyped l) in
    on_some (read_text l.value) (λ r. not-both e (rw r (and_none (is_named (ascii "fn") l && plain l))))
    (λ v r. (v, rw (same_true (lowered l.name) (ascii "fn") n, d, p, f, r)))

no-full : (s : Seen) (l : Line) (c : Class) → Says l c → can_full l ≡ false → (eqb (number c) 3 ≡ false) × ((see s c).full ≡ s.full)
unfolding can_full
no-full s l as-version h e = (refl, refl)
no-full s l (as-uid v) h e = (refl, refl)
no-full s l (as-kind v) h e = (refl, refl)
no-full s l as_dropped h e = (refl, refl)
no-full s l (as-full v) h e = not-both (rw (h.0, h.1, h.2)) e
no-full s l (as_parts ps) h e = (refl, refl)
no-full s l (as-entry i x) h e = (elsewhere i 3 refl, refl)
no-full s l (as_member n j) h e = (refl, refl)
no-full s l as-kept h e = (refl, refl)

full-made : (d : Line) (s : Seen) (ls : List Line) → s.full ≡ false → where_none (section fulls (classed_after s ls)) d ≡ where_none (keep can_full ls) d
unfolding section keep
full-made d s [] f = unfold classed_after in refl
full-made d s (l ∷ ls) f =
    by_bool (can_full l) (λ e. rw (first_of 3 l s ls, (is-full s l f e).1, e))
    (λ e. let n = no-full s l (classify s l) (class-says s l) e in rw (first_of 3 l s ls, n.0, e) (full-made d (see s (classify s l)) ls (n.1 ∙ f)))

-- ---- N

-- the strings that N says, and the parts that are read
name-said : (l : Line) (ps : List (List Bytes)) → can_name l ≡ some ps → (is_named (ascii "n") l ≡ true) × (plain l ≡ true) × (read_name l.value ≡ some (own_parts name_row ps))
unfolding can_name name_strings part_strings part_values read_parts
name-said l ps e =
    on_provided (called (ascii "n") l && plain l) _ e λ np a.
    on_chain (each part_values (split_text 59 l.value)) _ a λ came p b.
    on_provided (leb (length came) 7 && any (λ vs. not (empty vs)) came) (some came) b λ t r.
    let few : leb (length (split_text 59 l.value)) 7 ≡ true = ap (λ k. leb k 7) (sym (each-length part_values (split_text 59 l.value) came p)) ∙ and_left (leb (length came) 7) _ t in
    (and_left (called (ascii "n") l) _ np, and_right (called (ascii "n") l) _ np, rw (few, p, and_right (leb (length came) 7) _ t) (ap (λ (x : List (List Bytes)). some (own_parts name_row x)) (some_same r)))

name-can : (l : Line) (ps : List (List Bytes)) → is_named (ascii "n") l ≡ true → plain l ≡ true → read_name l.value ≡ some ps → is_some (can_name l) ≡ true
unfolding can_name name_strings part_strings part_values read_parts
name-can l ps n p e =
    on_provided (leb (length (split_text 59 l.value)) 7) _ e λ few a.
    on_chain (each part_values (split_text 59 l.value)) _ a λ came q b.
    on_provided (any (λ vs. not (empty vs)) came) (some (own_parts name_row came)) b λ t r.
    rw (n, p, q, each-length part_values (split_text 59 l.value) came q, few, t)

is_name : (s : Seen) (l : Line) (ps : List (List Bytes)) → s.parts ≡ false → can_name l ≡ some ps → classify s l ≡ as_parts (own_parts name_row ps)
unfolding classify parts_class same
is_name s l ps f e = let n = name-said l ps e in rw (same_true (lowered l.name) (ascii "n") n.0, n.1, f, n.2)

no_name : (s : Seen) (l : Line) (c : Class) → Says l c → can_name l ≡ none → (eqb (number c) 4 ≡ false) × ((see s c).parts ≡ s.parts)
no_name s l as-version h e = (refl, refl)
no_name s l (as-uid v) h e = (refl, refl)
no_name s l (as-kind v) h e = (refl, refl)
no_name s l as_dropped h e = (refl, refl)
no_name s l (as-full v) h e = (refl, refl)
no_name s l (as_parts ps) h e = not-both (name-can l ps h.0 h.1 h.2) (rw e)
no_name s l (as-entry i x) h e = (elsewhere i 4 refl, refl)
no_name s l (as_member n j) h e = (refl, refl)
no_name s l as-kept h e = (refl, refl)

own-values : (ps : List (List Bytes)) → flat (own_parts name_row ps) ≡ component_values ps
unfolding own_parts without component_values
own-values ps = refl

name-made : (s : Seen) (ls : List Line) → s.parts ≡ false → names_of (section names (classed_after s ls)) ≡ values_of_name ls
unfolding section keep names_of values_of_name
name-made s [] f = unfold classed_after in refl
name-made s (l ∷ ls) f =
    on_some (can_name l)
    (λ e. let n = no_name s l (classify s l) (class-says s l) e in rw (first_of 4 l s ls, n.0, e) (name-made (see s (classify s l)) ls (n.1 ∙ f)))
    (λ ps e. rw (first_of 4 l s ls, is_name s l ps f e, e) (ap flat (sym (name-read l.value (own_parts name_row ps) (name-said l ps e).2).0) ∙ own-values ps))

-- ---- all three

none-upper : (ls : List Line) (d : Line) → map upper_line (where_none ls d) ≡ where_none ls (upper_line d)
none-upper [] d = refl
none-upper (l ∷ ls) d = refl

pub new-lines : (stem : Bytes) (n : ℕ) (ls : List Line) → map upper_line (new_of stem n (classed ls)) ≡ new_lines stem n ls
unfolding new_lines classed derived_form uppered upper between
new-lines stem n ls =
    let cs : List Classed = classed_after nothing ls in
    let u : Line = property (ascii "uid") [] (stem ++ 45 ∷ decimal n) in
    let made : List Bytes → Line = λ vs. property (ascii "fn") (param (ascii "derived") (ascii "TRUE" ∷ []) ∷ []) (write_text false (joined (ascii " ") vs)) in
    ap (λ (x : List Line). upper_line (property (ascii "version") [] (ascii "4.0")) ∷ x)
    (map-append upper_line (where_none (section uids cs) u) (where_none (section fulls cs) (derived_form (section names cs)))
    ∙ ap₂ ◌++◌ (none-upper (section uids cs) u ∙ uid-made (upper_line u) nothing ls)
    (none-upper (section fulls cs) (derived_form (section names cs)) ∙ full-made (upper_line (derived_form (section names cs))) nothing ls refl
    ∙ ap (λ (vs : List Bytes). where_none (keep can_full ls) (upper_line (made vs))) (name-made nothing ls refl)))
