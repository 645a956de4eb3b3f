-- Each section of a card's lines stands in the normal form.
use mathlib.Core.Path.{◌≡◌, refl, sym, ap, subst, ◌∙◌}
use mathlib.Core.Bool.{Bool, true, false}
use mathlib.Core.List.{List, [], ◌∷◌, ◌++◌, map, append-nil}
use mathlib.Core.Option.{some}
use Prim.Native.Nat.{ℕ, zero, suc, ◌+◌, ◌≤◌}
use native.Mathlib.Omega.{arith}
use lib.ListN.{length}
use lib.Dec.{eqb}
use borrow.Author.Tests.{eqb-true}
use Rattle.text.specs.Choice.{pick}
use Rattle.text.specs.Bytes.{Bytes, ascii, any, all, empty, same, among, lowered, keep, flat, between}
use Rattle.text.specs.Decimal.{decimal}
use Rattle.text.proofs.Cases.{by_bool, and-true, and_left, and_right}
use Rattle.text.proofs.Choices.{some_same}
use Rattle.text.proofs.Lists.{length-keep}
use Rattle.line.specs.Class.{is_name, is_key}
use Rattle.line.specs.Grammar.{Line}
use Rattle.convert.specs.Table.{Map, maps}
use Rattle.convert.specs.Value.{is_key_text}
use Rattle.convert.specs.Classify.{Class, as-version, as-uid, as-kind, as_dropped, as-full, as_parts, as-entry, as_member, as-kept, nothing, Classed}
use Rattle.convert.specs.Property.{property}
use Rattle.convert.specs.NormalCard.{renewed, name_values, name_text, entry_form, kept_form, Section, nowhere, uids, kinds, fulls, names, members, kepts, map_at, section_of, section_number, section, prop_id, entry_forms, map_forms, member_form, or_made, derived_form, normal_lines}
use Rattle.convert.specs.Keys.{fresh, keys_after, keys}
use Rattle.convert.proofs.Entries.{coherent}
use Rattle.home.specs.Allowed.{SameKept, Converted, here, AllStand, no_more, one_more, where_none}
use Rattle.home.specs.Members.{Pairwise, no-pair, pair}
use Rattle.home.proofs.Alls.{All}
use Rattle.home.proofs.Classes.{elsewhere}
use Rattle.home.proofs.Slots.{at, at_all, slot_row}
use Rattle.home.proofs.MadeKeys.{is_prefix, is_id_text, keys-texts}
use Rattle.home.proofs.LineEntries.{entry-drawn}
use Rattle.home.proofs.LineKept.{LineFine}
use Rattle.home.proofs.NormalCardEntries.{entry_key}
use Rattle.home.proofs.LineSays.{Says}
use Rattle.home.proofs.AllowedLines.{uid-allowed, kind-allowed, full-allowed, parts-allowed, entry-allowed, member-allowed, kept_same}
use Rattle.home.proofs.InSections.{map_sections, sectioned}
use Rattle.home.proofs.Standing.{stand-both, stand-each, stand-made}

-- ---- rows of the table

abbrev RowFits : Map → Type 0
RowFits m = (coherent m ≡ true) × (is_prefix m.prefix ≡ true)

rows_fit : All RowFits maps
unfolding all among any same is_key is_name between
rows_fit = ((refl, refl), ((refl, refl), ((refl, refl), ((refl, refl), ((refl, refl), ((refl, refl), ((refl, refl), tt)))))))

-- ---- one line

-- its PROP-ID is a key or empty, and its normal form with a fitting key is allowed
abbrev pub RowLine : Map → Line → Type 0
RowLine m l = (is_id_text (prop_id l) ≡ true) × ((k : Bytes) → is_key_text k ≡ true → (empty (prop_id l) ≡ false → k ≡ prop_id l) → Converted l (entry_form m k l))

-- what a line of the section is
abbrev pub Fits : Section → Line → Type 0
Fits nowhere l = Unit {0}
Fits uids l = Converted l (property (ascii "uid") [] l.value)
Fits kinds l = Converted l (property (ascii "kind") [] (lowered l.value))
Fits fulls l = Converted l (property (ascii "fn") [] (renewed false l.value))
Fits names l = Converted l (property (ascii "n") [] (name_text (name_values l.value)))
Fits members l = Unit {0}
Fits kepts l = SameKept l (kept_form l)
Fits (map_at i) l = (m : Map) → at i maps ≡ some m → RowLine m l

entry-fits : (l : Line) (i : ℕ) → LineFine l → (m : Map) → at i maps ≡ some m → (e : _) → Says l (as-entry i e) → RowLine m l
entry-fits l i f m r e h =
    let w = h.0 in
    let a = slot_row (lowered l.name) w h.1 in
    let t = at_all RowFits w.index maps w.map rows_fit a.0 in
    let d = (entry-drawn nothing w l e f.clean a.1 h.3).0 in
    let q : w.map ≡ m = some_same (sym a.0 ∙ ap (λ (i : ℕ). at i maps) h.2 ∙ r) in
    subst (λ (m : Map). RowLine m l) q
    (ap (λ (k : Bytes). is_id_text k) (sym (entry_key nothing w l e h.3)) ∙ d.key, λ k v q. entry-allowed l w e f.clean h.1 t.0 h.3 k v q)

line-fits : (l : Line) (c : Class) → LineFine l → Says l c → Fits (section_of c) l
line-fits l as-version f h = tt
line-fits l (as-uid v) f h = uid-allowed l f h
line-fits l (as-kind v) f h = kind-allowed l f h
line-fits l as_dropped f h = tt
line-fits l (as-full v) f h = full-allowed l v h.0 h.1 h.2
line-fits l (as_parts ps) f h = parts-allowed l ps f.clean h.0 h.1 h.2
line-fits l (as-entry i e) f h = λ m r. entry-fits l i f m r e h
line-fits l (as_member n j) f h = tt
line-fits l as-kept f h = kept_same l f

-- ---- the lines of one section

section_at : ℕ → Section
section_at zero = nowhere
section_at (suc zero) = uids
section_at (suc (suc zero)) = kinds
section_at (suc (suc (suc zero))) = fulls
section_at (suc (suc (suc (suc zero)))) = names
section_at (suc (suc (suc (suc (suc zero))))) = members
section_at (suc (suc (suc (suc (suc (suc zero)))))) = kepts
section_at (suc (suc (suc (suc (suc (suc (suc i))))))) = map_at i

at-number : (n : Section) → section_at (section_number n) ≡ n
unfolding section_at
at-number nowhere = refl
at-number uids = refl
at-number kinds = refl
at-number fulls = refl
at-number names = refl
at-number members = refl
at-number kepts = refl
at-number (map_at i) = let q : 7 + i ≡ suc (suc (suc (suc (suc (suc (suc i)))))) = omega arith in ap section_at q

same-section : (a b : Section) → eqb (section_number a) (section_number b) ≡ true → a ≡ b
same-section a b e = sym (at-number a) ∙ ap section_at (eqb-true (section_number a) (section_number b) e) ∙ at-number b

abbrev pub ClassedFine : Classed → Type 0
ClassedFine c = LineFine c.line × Says c.line c.class

section-first : (n : Section) (l : Line) (c : Class) (cs : List Classed) → section n (record { line = l; class = c } ∷ cs) ≡ pick (eqb (section_number (section_of c)) (section_number n)) (l ∷ section n cs) (section n cs)
unfolding section keep
section-first n l c cs = by_bool (eqb (section_number (section_of c)) (section_number n)) (λ e. rw e) (λ e. rw e)

pub section-fits : (n : Section) (cs : List Classed) → All ClassedFine cs → All (Fits n) (section n cs)
unfolding section keep
section-fits n [] h = tt
section-fits n (c ∷ cs) h =
    by_bool (eqb (section_number (section_of c.class)) (section_number n))
    (λ e. rw e (subst (λ (m : Section). Fits m c.line) (same-section (section_of c.class) n e) (line-fits c.line c.class h.0.0 h.0.1), section-fits n cs h.1))
    (λ e. rw e (section-fits n cs h.1))

-- ---- the maps

-- each PROP-ID is its key
abbrev KeysFit : List Bytes → List Bytes → Type 0
KeysFit [] [] = Unit {0}
KeysFit [] (k ∷ ks) = ⊥
KeysFit (i ∷ is) [] = ⊥
KeysFit (i ∷ is) (k ∷ ks) = (empty i ≡ false → k ≡ i) × KeysFit is ks

after-fit : (p : Bytes) (used is : List Bytes) → KeysFit is (keys_after p used is)
unfolding keys_after
after-fit p used [] = tt
after-fit p used (i ∷ is) = (λ e. rw e, after-fit p (pick (empty i) (fresh p used) i ∷ used) is)

keys-fit : (p : Bytes) (is : List Bytes) → KeysFit is (keys p is)
unfolding keys
keys-fit p is = after-fit p _ is

ids-text : (m : Map) (ls : List Line) → All (RowLine m) ls → all is_id_text (map prop_id ls) ≡ true
unfolding all
ids-text m [] h = refl
ids-text m (l ∷ ls) h = and-true h.0.0 (ids-text m ls h.1)

pair-stand : {ls hs : List Line} → Pairwise Converted ls hs → AllStand [] ls hs
pair-stand no-pair = no_more
pair-stand (pair a s) = one_more a (pair-stand s) here

forms-stand : (m : Map) (ks : List Bytes) (ls : List Line) → All (RowLine m) ls → all is_key_text ks ≡ true → KeysFit (map prop_id ls) ks → Pairwise Converted ls (entry_forms m ks ls)
unfolding entry_forms all
forms-stand m [] [] h a f = no-pair
forms-stand m [] (l ∷ ls) h a f = absurd f
forms-stand m (k ∷ ks) [] h a f = absurd f
forms-stand m (k ∷ ks) (l ∷ ls) h a f =
    pair (h.0.1 k (and_left (is_key_text k) (all is_key_text ks) a) f.0) (forms-stand m ks ls h.1 (and_right (is_key_text k) (all is_key_text ks) a) f.1)

length-map : {A B : Type 0} (f : A → B) (xs : List A) → length (map f xs) ≡ length xs
length-map f [] = refl
length-map f (x ∷ xs) = ap suc (length-map f xs)

section-length : (n : Section) (cs : List Classed) → length (section n cs) ≤ length cs
unfolding section
section-length n cs =
    let p : Classed → Bool = λ (c : Classed). eqb (section_number (section_of c.class)) (section_number n) in
    omega (arith, length-map (λ (c : Classed). c.line) (keep p cs), length-keep p cs)

module _ (cs : List Classed) (h : All ClassedFine cs) (few : length cs ≤ 512) where
  pub map-stands : (i : ℕ) (m : Map) → at i maps ≡ some m → Pairwise Converted (section (map_at i) cs) (entry_forms m (keys m.prefix (map prop_id (section (map_at i) cs))) (section (map_at i) cs))
  map-stands i m r =
      let ls : List Line = section (map_at i) cs in
      let a : All (RowLine m) ls = rows ls (section-fits (map_at i) cs h) in
      let t = at_all RowFits i maps m rows_fit r in
      forms-stand m (keys m.prefix (map prop_id ls)) ls a (keys-texts m.prefix (map prop_id ls) t.1 (omega (arith, length-map prop_id ls, section-length (map_at i) cs)) (ids-text m ls a)) (keys-fit m.prefix (map prop_id ls))
    where
      rows : (ls : List Line) → All (Fits (map_at i)) ls → All (RowLine m) ls
      rows [] a = tt
      rows (l ∷ ls) a = (a.0 m r, rows ls a.1)

  abbrev RowsFrom : ℕ → List Map → Type 0
  RowsFrom i [] = Unit {0}
  RowsFrom i (m ∷ ms) = (at i maps ≡ some m) × RowsFrom (suc i) ms

  maps-stand : (i : ℕ) (ms : List Map) → RowsFrom i ms → AllStand [] (map_sections i ms cs) (map_forms i ms cs)
  unfolding map_sections map_forms
  maps-stand i [] r = no_more
  maps-stand i (m ∷ ms) r = stand-both (pair-stand (map-stands i m r.0)) (maps-stand (suc i) ms r.1)

-- ---- JSPROP

member-stands : (l : Line) (c : Class) → Says l c → (ls hs : List Line) → Pairwise Converted ls hs
    → Pairwise Converted (pick (eqb (section_number (section_of c)) 5) (l ∷ ls) ls) (member_form (record { line = l; class = c }) ++ hs)
member-stands l as-version h ls hs s = s
member-stands l (as-uid v) h ls hs s = s
member-stands l (as-kind v) h ls hs s = s
member-stands l as_dropped h ls hs s = s
member-stands l (as-full v) h ls hs s = s
member-stands l (as_parts ps) h ls hs s = s
member-stands l (as-entry i e) h ls hs s = rw (elsewhere i 5 refl) s
member-stands l (as_member n j) h ls hs s = pair (member-allowed l n j h.0 h.1 h.2 h.3) s
member-stands l as-kept h ls hs s = s

pub members-stand : (cs : List Classed) → All ClassedFine cs → Pairwise Converted (section members cs) (flat (map member_form cs))
unfolding section keep flat
members-stand [] h = no-pair
members-stand (c ∷ cs) h = rw (section-first members c.line c.class cs) (member-stands c.line c.class h.0.1 (section members cs) _ (members-stand cs h.1))

-- ---- all sections

-- VERSION, and the lines made where none came
abbrev pub new_of : Bytes → ℕ → List Classed → List Line
new_of stem n cs = property (ascii "version") [] (ascii "4.0") ∷ (where_none (section uids cs) (property (ascii "uid") [] (stem ++ 45 ∷ decimal n)) ++ where_none (section fulls cs) (derived_form (section names cs)))

no-new : (v : Line) (u f : List Line) → v ∷ (u ++ [] ++ f ++ [] ++ [] ++ []) ≡ v ∷ (u ++ f)
no-new v u f = simp append-nil

-- the normal form without the kept lines
abbrev pub converted_forms : Bytes → ℕ → List Classed → List Line
converted_forms stem n cs =
    property (ascii "version") [] (ascii "4.0")
    ∷ (or_made (map (λ (l : Line). property (ascii "uid") [] l.value) (section uids cs)) (property (ascii "uid") [] (stem ++ 45 ∷ decimal n))
    ++ map (λ (l : Line). property (ascii "kind") [] (lowered l.value)) (section kinds cs)
    ++ or_made (map (λ (l : Line). property (ascii "fn") [] (renewed false l.value)) (section fulls cs)) (derived_form (section names cs))
    ++ map (λ (l : Line). property (ascii "n") [] (name_text (name_values l.value))) (section names cs)
    ++ map_forms 0 maps cs
    ++ flat (map member_form cs))

pub normal-parted : (stem : Bytes) (n : ℕ) (cs : List Classed) → normal_lines stem n cs ≡ converted_forms stem n cs ++ map kept_form (section kepts cs)
unfolding normal_lines
normal-parted stem n cs = refl

pub sections-stand : (stem : Bytes) (n : ℕ) (cs : List Classed) → All ClassedFine cs → length cs ≤ 512 → AllStand (new_of stem n cs) (sectioned cs) (converted_forms stem n cs)
sections-stand stem n cs h few =
    let version : Line = property (ascii "version") [] (ascii "4.0") in
    let vs : AllStand (version ∷ []) [] (version ∷ []) = no_more in
    let us = stand-made (λ (l : Line). property (ascii "uid") [] l.value) (property (ascii "uid") [] (stem ++ 45 ∷ decimal n)) (section uids cs) (section-fits uids cs h) in
    let ks = stand-each (λ (l : Line). property (ascii "kind") [] (lowered l.value)) (section kinds cs) (section-fits kinds cs h) in
    let fs = stand-made (λ (l : Line). property (ascii "fn") [] (renewed false l.value)) (derived_form (section names cs)) (section fulls cs) (section-fits fulls cs h) in
    let ns = stand-each (λ (l : Line). property (ascii "n") [] (name_text (name_values l.value))) (section names cs) (section-fits names cs h) in
    let ms = maps-stand cs h few 0 maps (refl, (refl, (refl, (refl, (refl, (refl, (refl, tt))))))) in
    let js = pair-stand (members-stand cs h) in
    rw (← no-new version (where_none (section uids cs) (property (ascii "uid") [] (stem ++ 45 ∷ decimal n))) (where_none (section fulls cs) (derived_form (section names cs))))
    (stand-both vs (stand-both (stand-both (stand-both (stand-both (stand-both us ks) fs) ns) ms) js))
