-- The PROP-IDs of a map's entries, line by line.
use mathlib.Core.Path.{◌≡◌, refl, sym, ap, ◌∙◌}
use mathlib.Core.Bool.{true, false, not}
use mathlib.Core.List.{List, [], ◌∷◌, ◌++◌, map}
use Prim.Native.Nat.{ℕ, suc, ◌≤◌}
use native.Mathlib.Omega.{arith}
use lib.ListN.{length, take, drop, length-append, take-append-drop}
use lib.Dec.{eqb}
use Rattle.text.specs.Bytes.{Bytes, empty, flat, keep, among}
use Rattle.text.proofs.Cases.{by_bool, or-second}
use Rattle.text.proofs.Lists.{keep_append, map_both, flat_append, length-keep}
use Rattle.text.proofs.Same.{among-append, among-head}
use Rattle.line.specs.Grammar.{Line}
use Rattle.convert.specs.Model.{Entry}
use Rattle.convert.specs.Classify.{Class, as-version, as-uid, as-kind, as_dropped, as-full, as_parts, as-entry, as_member, as-kept, Classed}
use Rattle.convert.specs.FromCard.{Placed, placed, Gives, gives, gathered, in_map}
use Rattle.to_json_maps.specs.Maps.{entries_of, ids_of}

in-append : (i : ℕ) (ps qs : List Placed) → in_map i (ps ++ qs) ≡ in_map i ps ++ in_map i qs
unfolding in_map
in-append i [] qs = refl
in-append i (placed j e ∷ ps) qs = by_bool (eqb i j) (λ q. rw (q, in-append i ps qs)) (λ q. rw q (in-append i ps qs))

gathered-append : (cs ds : List Classed) → gathered (λ (g : Gives). g.entry) (cs ++ ds) ≡ gathered (λ (g : Gives). g.entry) cs ++ gathered (λ (g : Gives). g.entry) ds
unfolding gathered
gathered-append cs ds =
    ap flat (map_both (λ (c : Classed). (gives c.line c.class).entry) cs ds)
    ∙ flat_append (map (λ (c : Classed). (gives c.line c.class).entry) cs) (map (λ (c : Classed). (gives c.line c.class).entry) ds)

pub entries-append : (i : ℕ) (cs ds : List Classed) → entries_of i (cs ++ ds) ≡ entries_of i cs ++ entries_of i ds
unfolding entries_of
entries-append i cs ds = ap (in_map i) (gathered-append cs ds) ∙ in-append i (gathered (λ (g : Gives). g.entry) cs) (gathered (λ (g : Gives). g.entry) ds)

pub ids-append : (es fs : List Entry) → ids_of (es ++ fs) ≡ ids_of es ++ ids_of fs
unfolding ids_of
ids-append es fs = ap (keep (λ k. not (empty k))) (map_both (λ (e : Entry). e.key) es fs) ∙ keep_append (λ k. not (empty k)) (map (λ (e : Entry). e.key) es) (map (λ (e : Entry). e.key) fs)

pub entries_none : (i : ℕ) → entries_of i [] ≡ []
unfolding entries_of in_map gathered flat
entries_none i = refl

pub ids-none : (i : ℕ) → ids_of (entries_of i []) ≡ []
unfolding ids_of entries_of in_map gathered flat keep
ids-none i = refl

-- ---- an entry's PROP-ID is one of the map's

own_first : (e : Entry) (es : List Entry) → empty e.key ≡ false → among e.key (ids_of (e ∷ es)) ≡ true
unfolding ids_of keep
own_first e es h = rw h (among-head e.key (keep (λ k. not (empty k)) (map (λ (e : Entry). e.key) es)))

pub own-among : (i : ℕ) (cs : List Classed) (k : ℕ) (e : Entry) (es : List Entry) → entries_of i (drop k cs) ≡ e ∷ es → empty e.key ≡ false → among e.key (ids_of (entries_of i cs)) ≡ true
own-among i cs k e es q h =
    let a : List Bytes = ids_of (entries_of i (take k cs)) in
    let z : ids_of (entries_of i cs) ≡ a ++ ids_of (e ∷ es)
    = ap (λ x. ids_of (entries_of i x)) (sym (take-append-drop k cs)) ∙ ap ids_of (entries-append i (take k cs) (drop k cs)) ∙ ids-append (entries_of i (take k cs)) (entries_of i (drop k cs)) ∙ ap (λ x. a ++ ids_of x) q in
    ap (among e.key) z ∙ among-append e.key a (ids_of (e ∷ es)) ∙ or-second (among e.key a) (among e.key (ids_of (e ∷ es))) (own_first e es h)

-- ---- no more than lines

in-length : (i : ℕ) (ps : List Placed) → length (in_map i ps) ≤ length ps
unfolding in_map
in-length i [] = omega arith
in-length i (placed j e ∷ ps) = by_bool (eqb i j) (λ q. rw q (omega (arith, in-length i ps))) (λ q. rw q (omega (arith, in-length i ps)))

length-map : (es : List Entry) → length (map (λ (e : Entry). e.key) es) ≡ length es
length-map [] = refl
length-map (e ∷ es) = ap suc (length-map es)

gives-few : (l : Line) (c : Class) → length (gives l c).entry ≤ 1
gives-few l as-version = omega arith
gives-few l (as-uid v) = omega arith
gives-few l (as-kind v) = omega arith
gives-few l as_dropped = omega arith
gives-few l (as-full v) = omega arith
gives-few l (as_parts v) = omega arith
gives-few l (as-entry i e) = omega arith
gives-few l (as_member n j) = omega arith
gives-few l as-kept = omega arith

gathered-few : (cs : List Classed) → length (gathered (λ (g : Gives). g.entry) cs) ≤ length cs
unfolding gathered flat
gathered-few [] = omega arith
gathered-few (c ∷ cs) = rw length-append (omega (arith, gives-few c.line c.class, gathered-few cs))

entries-length : (i : ℕ) (cs : List Classed) → length (entries_of i cs) ≤ length cs
unfolding entries_of
entries-length i cs = omega (arith, in-length i (gathered (λ (g : Gives). g.entry) cs), gathered-few cs)

pub ids-few : (i : ℕ) (cs : List Classed) → length (ids_of (entries_of i cs)) ≤ length cs
unfolding ids_of
ids-few i cs = omega (arith, length-keep (λ k. not (empty k)) (map (λ (e : Entry). e.key) (entries_of i cs)), length-map (entries_of i cs), entries-length i cs)
