-- The seven maps: the lines of each section with their keys.
use mathlib.Core.Path.{◌≡◌, refl, sym, ap, ap₂, ◌∙◌, fun_ext}
use mathlib.Core.Bool.{true, false}
use mathlib.Core.List.{List, [], ◌∷◌, ◌++◌, map, map-map}
use mathlib.Core.Option.{some}
use Prim.Native.Nat.{ℕ, suc, ◌+◌}
use native.Mathlib.Omega.{arith}
use lib.Dec.{eqb, ltb}
use borrow.Author.Tests.{eqb-true, eq-eqb}
use Rattle.text.specs.Bytes.{Bytes, lowered, flat}
use Rattle.text.proofs.Cases.{by_bool, testing}
use Rattle.text.proofs.Choices.{some_same}
use Rattle.line.specs.Grammar.{Line}
use Rattle.convert.specs.Table.{Map, Slot, slot_of, maps}
use Rattle.convert.specs.Model.{Entry}
use Rattle.convert.specs.Keys.{keys}
use Rattle.convert.specs.Classify.{Class, as-version, as-uid, as-kind, as_dropped, as-full, as_parts, as-entry, as_member, as-kept, Seen, Classed, classed_after}
use Rattle.convert.specs.FromCard.{Gives, gives, gathered, in_map, with_keys, keyed_entries, maps_from}
use Rattle.convert.specs.ToCard.{entry_line, maps_lines}
use Rattle.convert.specs.NormalCard.{map_at, section, prop_id, entry_form, entry_forms, map_forms}
use Rattle.home.proofs.Classes.{Fact, Agrees, gathered-section}
use Rattle.home.proofs.NormalCardEntries.{rekeyed, entry_key, entry-line}
use Rattle.home.proofs.Given.{in_map-append}
use Rattle.home.proofs.Slots.{at, slot_row}

-- ---- rows of the table

-- m is the row at place i
abbrev At : ℕ → Map → Type 0
At i m = (n : Bytes) (w : Slot) → slot_of n ≡ some w → w.index ≡ i → w.map ≡ m

abbrev AllAt : ℕ → List Map → Type 0
AllAt i [] = Unit {0}
AllAt i (m ∷ ms) = At i m × AllAt (suc i) ms

row_at : (i : ℕ) (m : Map) → at i maps ≡ some m → At i m
row_at i m a n w e q = some_same (sym (slot_row n w e).0 ∙ ap (λ (x : ℕ). at x maps) q ∙ a)

all-at : AllAt 0 maps
all-at = (row_at 0 _ refl, (row_at 1 _ refl, (row_at 2 _ refl, (row_at 3 _ refl, (row_at 4 _ refl, (row_at 5 _ refl, (row_at 6 _ refl, tt)))))))

-- ---- entries and lines of one map

-- what an entry and a line both say: the PROP-ID, and the line for each key
record Says : Type 0 where
  id : Bytes
  line : Bytes → Line

abbrev entry-says : Map → Entry → Says
entry-says m e = record { id = e.key; line = λ k. entry_line m (rekeyed k e) }

abbrev line-says : Map → Line → Says
line-says m l = record { id = prop_id l; line = λ k. entry_form m k l }

abbrev says : Bytes → (Bytes → Line) → Says
says k f = record { id = k; line = f }

-- a section of a map is no other map's, and none of the others
before : (i k : ℕ) → ltb k 7 ≡ true → eqb k (7 + i) ≡ false
before i k h = omega testing

same-section : (i j : ℕ) → eqb (7 + j) (7 + i) ≡ eqb i j
same-section i j =
    by_bool (eqb i j)
    (λ e. let q = eqb-true i j e in eq-eqb (7 + j) (7 + i) (omega arith) ∙ sym e)
    (λ e. let q : eqb (7 + j) (7 + i) ≡ false = omega testing in q ∙ sym e)

agrees : (i : ℕ) (m : Map) → At i m → (s : Seen) (l : Line) (c : Class) → Fact s l c → Agrees (λ (g : Gives). in_map i g.entry) (map_at i) (entry-says m) (line-says m) l c
unfolding in_map
agrees i m a s l as-version h = rw (before i 0 refl)
agrees i m a s l (as-uid v) h = rw (before i 1 refl)
agrees i m a s l (as-kind v) h = rw (before i 2 refl)
agrees i m a s l as_dropped h = rw (before i 0 refl)
agrees i m a s l (as-full v) h = rw (before i 3 refl)
agrees i m a s l (as_parts ps) h = rw (before i 4 refl)
agrees i m a s l (as-entry j e) h =
    rw (same-section i j)
    (by_bool (eqb i j)
    (λ t. let q : h.0.map ≡ m = a (lowered l.name) h.0 h.1 (h.2 ∙ sym (eqb-true i j t)) in
    rw t (ap (λ (x : Says). x ∷ []) (ap₂ says (entry_key s h.0 l e h.3) (fun_ext (λ k. ap (λ (x : Map). entry_line x (rekeyed k e)) (sym q) ∙ entry-line s h.0 l e h.3 h.1 k ∙ ap (λ (x : Map). entry_form x k l) q)))))
    (λ t. rw t))
agrees i m a s l (as_member n j) h = rw (before i 5 refl)
agrees i m a s l as-kept h = rw (before i 6 refl)

-- ---- keys put to them

put : List Bytes → List Says → List Line
put [] xs = []
put (k ∷ ks) [] = []
put (k ∷ ks) (x ∷ xs) = x.line k ∷ put ks xs

put_entries : (m : Map) (ks : List Bytes) (es : List Entry) → map (entry_line m) (with_keys ks es) ≡ put ks (map (entry-says m) es)
unfolding with_keys put
put_entries m [] es = refl
put_entries m (k ∷ ks) [] = refl
put_entries m (k ∷ ks) (e ∷ es) = ap (λ (x : List Line). entry_line m (rekeyed k e) ∷ x) (put_entries m ks es)

put-lines : (m : Map) (ks : List Bytes) (ls : List Line) → entry_forms m ks ls ≡ put ks (map (line-says m) ls)
unfolding entry_forms put
put-lines m [] ls = refl
put-lines m (k ∷ ks) [] = refl
put-lines m (k ∷ ks) (l ∷ ls) = ap (λ (x : List Line). entry_form m k l ∷ x) (put-lines m ks ls)

abbrev ids : List Says → List Bytes
ids xs = map (λ (x : Says). x.id) xs

entries-form : (m : Map) (es : List Entry) (ls : List Line) → map (entry-says m) es ≡ map (line-says m) ls → map (entry_line m) (keyed_entries m es) ≡ entry_forms m (keys m.prefix (map prop_id ls)) ls
entries-form m es ls h =
    put_entries m (keys m.prefix (map (λ (e : Entry). e.key) es)) es
    ∙ ap (λ (x : List Bytes). put (keys m.prefix x) (map (entry-says m) es)) (sym (map-map (λ (x : Says). x.id) (entry-says m) es))
    ∙ ap (λ (x : List Says). put (keys m.prefix (ids x)) x) h
    ∙ ap (λ (x : List Bytes). put (keys m.prefix x) (map (line-says m) ls)) (map-map (λ (x : Says). x.id) (line-says m) ls)
    ∙ sym (put-lines m (keys m.prefix (map prop_id ls)) ls)

-- ---- all maps

in_map-gathered : (i : ℕ) (cs : List Classed) → in_map i (gathered (λ (g : Gives). g.entry) cs) ≡ gathered (λ (g : Gives). in_map i g.entry) cs
unfolding gathered flat in_map
in_map-gathered i [] = refl
in_map-gathered i (c ∷ cs) = in_map-append i (gives c.line c.class).entry _ ∙ ap (λ (x : List Entry). in_map i (gives c.line c.class).entry ++ x) (in_map-gathered i cs)

map-form : (i : ℕ) (m : Map) → At i m → (s : Seen) (ls : List Line)
    → map (entry_line m) (keyed_entries m (in_map i (gathered (λ (g : Gives). g.entry) (classed_after s ls)))) ≡ entry_forms m (keys m.prefix (map prop_id (section (map_at i) (classed_after s ls)))) (section (map_at i) (classed_after s ls))
map-form i m a s ls =
    entries-form m (in_map i (gathered (λ (g : Gives). g.entry) (classed_after s ls))) (section (map_at i) (classed_after s ls))
    (ap (map (entry-says m)) (in_map-gathered i (classed_after s ls)) ∙ gathered-section (λ (g : Gives). in_map i g.entry) (map_at i) (entry-says m) (line-says m) (agrees i m a) s ls)

maps-form : (i : ℕ) (ms : List Map) → AllAt i ms → (s : Seen) (ls : List Line) → maps_lines ms (maps_from i ms (gathered (λ (g : Gives). g.entry) (classed_after s ls))) ≡ map_forms i ms (classed_after s ls)
unfolding maps_lines maps_from map_forms
maps-form i [] a s ls = refl
maps-form i (m ∷ ms) a s ls = ap₂ ◌++◌ (map-form i m a.0 s ls) (maps-form (suc i) ms a.1 s ls)

pub maps-part : (s : Seen) (ls : List Line) → maps_lines maps (maps_from 0 maps (gathered (λ (g : Gives). g.entry) (classed_after s ls))) ≡ map_forms 0 maps (classed_after s ls)
maps-part s ls = maps-form 0 maps all-at s ls
