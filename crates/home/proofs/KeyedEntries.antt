-- Entries drawn from lines are proper once they have their keys.
use mathlib.Core.Path.{◌≡◌, refl, sym, ap, subst, ◌∙◌}
use mathlib.Core.Logic.{inl, inr}
use mathlib.Core.Bool.{Bool, true, false, ◌&&◌, ◌||◌, not}
use mathlib.Core.List.{List, [], ◌∷◌, ◌++◌, map}
use mathlib.Core.Option.{some}
use Prim.Native.Nat.{ℕ, zero, suc, ◌+◌, ◌≤◌}
use native.Mathlib.Omega.{arith}
use lib.ListN.{length}
use lib.Dec.{eqb}
use borrow.Author.Tests.{eqb-true, eq-eqb}
use Rattle.text.specs.Choice.{pick}
use Rattle.text.specs.Bytes.{Bytes, any, all, empty, same, among, distinct, between, keep, flat}
use Rattle.text.proofs.Cases.{by_bool, and_left, and_right, and-true, or-second}
use Rattle.text.proofs.Same.{same_true, same_self, among-head, among_later}
use Rattle.text.proofs.Choices.{none-some}
use Rattle.text.proofs.Lists.{all_head, all_tail, any_append}
use Rattle.line.specs.Class.{is_name, is_key}
use Rattle.convert.specs.Table.{Map, maps}
use Rattle.convert.specs.Model.{Entry}
use Rattle.convert.specs.Value.{is_key_text}
use Rattle.convert.specs.Keys.{fresh, keys_after, keys}
use Rattle.convert.specs.Carry.{carried_as, carried_maps}
use Rattle.convert.specs.Classify.{id, is_id}
use Rattle.convert.specs.FromCard.{Placed, placed, in_map, with_keys, keyed_entries, maps_from}
use Rattle.convert.specs.FromJson.{ids_from}
use Rattle.convert.proofs.Keyed.{keys-distinct}
use Rattle.convert.proofs.Entries.{coherent}
use Rattle.home.proofs.Proper.{ProperEntries, ProperMaps}
use Rattle.home.proofs.Alls.{All, In}
use Rattle.home.proofs.Slots.{at}
use Rattle.home.proofs.LineEntries.{Drawn}
use Rattle.home.proofs.MadeKeys.{is_prefix, is_id_text, keys-texts, keys_length}
use Rattle.home.proofs.MapLines.{key_of}

-- ---- with keys

module _ (m : Map) (t : coherent m ≡ true) where
  with-proper : (ks : List Bytes) (es : List Entry) → all is_key_text ks ≡ true → All (Drawn m) es → ProperEntries m (with_keys ks es)
  unfolding with_keys
  with-proper [] es h d = tt
  with-proper (k ∷ ks) [] h d = tt
  with-proper (k ∷ ks) (e ∷ es) h d =
      let f = d.0 in (
        record {
          proper = record { key = all_head is_key_text k ks h; texts = f.texts.form; one_each = f.one_each; codes = f.codes; order = f.order; row = t; pref = f.pref };
          which = f.which;
          texts-utf8 = f.texts.in-utf8;
        },
        with-proper ks es (all_tail is_key_text k ks h) d.1,
      )

  with-carried : (ks : List Bytes) (es : List Entry) → All (Drawn m) es → all (λ (e : Entry). carried_as m.form (flat e.parts)) (with_keys ks es) ≡ true
  unfolding with_keys all
  with-carried [] es d = refl
  with-carried (k ∷ ks) [] d = refl
  with-carried (k ∷ ks) (e ∷ es) d = rw d.0.texts.carry (with-carried ks es d.1)

with_keys_lem : (ks : List Bytes) (es : List Entry) → length ks ≡ length es → map key_of (with_keys ks es) ≡ ks
unfolding with_keys
with_keys_lem [] es l = refl
with_keys_lem (k ∷ ks) [] l = absurd (omega arith)
with_keys_lem (k ∷ ks) (e ∷ es) l = ap (λ (x : List Bytes). k ∷ x) (with_keys_lem ks es (omega arith))

map-length : (es : List Entry) → length (map key_of es) ≡ length es
map-length [] = refl
map-length (e ∷ es) = ap suc (map-length es)

keyed-keys : (m : Map) (es : List Entry) → map key_of (keyed_entries m es) ≡ keys m.prefix (map key_of es)
keyed-keys m es = with_keys_lem (keys m.prefix (map key_of es)) es (keys_length m.prefix (map key_of es) ∙ map-length es)

drawn-ids : (m : Map) (es : List Entry) → All (Drawn m) es → all is_id_text (map key_of es) ≡ true
unfolding all
drawn-ids m [] d = refl
drawn-ids m (e ∷ es) d = rw d.0.key (drawn-ids m es d.1)

-- ---- the maps, from the entries placed in them

abbrev pub given : Bytes → Bool
given k = not (empty k)

abbrev fit_row : Map → Bool
fit_row m = coherent m && is_prefix m.prefix

fit-rows : all fit_row maps ≡ true
unfolding all among any same is_key is_name between
fit-rows = refl

abbrev pub PlacedWell : Placed → Type 0
PlacedWell (placed i e) = (m : Map) → at i maps ≡ some m → Drawn m e

in_map_lem : (m : Map) (i : ℕ) (ps : List Placed) → at i maps ≡ some m → All PlacedWell ps → All (Drawn m) (in_map i ps)
unfolding in_map
in_map_lem m i [] a h = tt
in_map_lem m i (placed j e ∷ ps) a h =
    let t = in_map_lem m i ps a h.1 in
    by_bool (eqb i j) (λ q. rw q (h.0 m (ap (λ (x : ℕ). at x maps) (sym (eqb-true i j q)) ∙ a), t)) (λ q. rw q t)

in-length : (i : ℕ) (ps : List Placed) → length (in_map i ps) ≤ length ps
unfolding in_map
in-length i [] = omega arith
in-length i (placed j e ∷ ps) = by_bool (eqb i j) (λ q. rw q (omega (arith, in-length i ps))) (λ q. rw q (omega (arith, in-length i ps)))

-- these are the table's rows from the place i on
abbrev Suffix : ℕ → List Map → Type 0
Suffix i ms = (k : ℕ) (m : Map) → at k ms ≡ some m → at (i + k) maps ≡ some m

suffix-later : (i : ℕ) (m : Map) (ms : List Map) → Suffix i (m ∷ ms) → Suffix (suc i) ms
suffix-later i m ms h k n e = let z : suc i + k ≡ i + suc k = omega arith in ap (λ (x : ℕ). at x maps) z ∙ h (suc k) n e

suffix-head : (i : ℕ) (m : Map) (ms : List Map) → Suffix i (m ∷ ms) → at i maps ≡ some m
suffix-head i m ms h = let z : i ≡ i + 0 = omega arith in ap (λ (x : ℕ). at x maps) z ∙ h 0 m refl

-- no two PROP-IDs of a map are equal
abbrev pub DistinctIds : List Placed → Type 0
DistinctIds ps = (i : ℕ) → distinct (keep given (map key_of (in_map i ps))) ≡ true

maps-from : (i : ℕ) (ms : List Map) (ps : List Placed) → Suffix i ms → all fit_row ms ≡ true → All PlacedWell ps → length ps ≤ 512 → DistinctIds ps
    → ProperMaps ms (maps_from i ms ps) × (carried_maps ms (maps_from i ms ps) ≡ true)
unfolding maps_from carried_maps
maps-from i [] ps x r h l d = (tt, refl)
maps-from i (m ∷ ms) ps x r h l d =
    let es : List Entry = in_map i ps in
    let f = all_head fit_row m ms r in
    let t : coherent m ≡ true = and_left (coherent m) _ f in
    let g = in_map_lem m i ps (suffix-head i m ms x) h in
    let later = maps-from (suc i) ms ps (suffix-later i m ms x) (all_tail fit_row m ms r) h l d in
    let texts = keys-texts m.prefix (map key_of es) (and_right (coherent m) _ f) (omega (arith, map-length es, in-length i ps)) (drawn-ids m es g) in (
      (with-proper m t (keys m.prefix (map key_of es)) es texts g, ap distinct (keyed-keys m es) ∙ keys-distinct m.prefix (map key_of es) (d i), later.0),
      and-true (with-carried m t (keys m.prefix (map key_of es)) es g) later.1,
    )

whole : Suffix 0 maps
whole k m e = let z : 0 + k ≡ k = omega arith in ap (λ (x : ℕ). at x maps) z ∙ e

pub placed-proper : (ps : List Placed) → All PlacedWell ps → length ps ≤ 512 → DistinctIds ps → ProperMaps maps (maps_from 0 maps ps) × (carried_maps maps (maps_from 0 maps ps) ≡ true)
placed-proper ps h l d = maps-from 0 maps ps whole fit-rows h l d

-- ---- every PROP-ID is among the ids of the card

keys-keep : (p : Bytes) (used ks : List Bytes) (k : Bytes) → empty k ≡ false → among k ks ≡ true → among k (keys_after p used ks) ≡ true
unfolding keys_after among any
keys-keep p used [] k n h = h
keys-keep p used (j ∷ ks) k n h =
    by_bool (same k j)
    (λ q. rw (← same_true k j q, n, same_self k))
    (λ q. later (pick (empty j) (fresh p used) j) (keys-keep p (pick (empty j) (fresh p used) j ∷ used) ks k n (rw q at h)))
  where
    later : (x : Bytes) → any (same k) (keys_after p (x ∷ used) ks) ≡ true → same k x || any (same k) (keys_after p (x ∷ used) ks) ≡ true
    later x e = by_bool (same k x) (λ q. rw q) (λ q. rw q e)

id-here : (i : ℕ) (k : Bytes) (es : List Entry) → among k (map key_of es) ≡ true → any (is_id i k) (map (λ (e : Entry). id i e.key) es) ≡ true
unfolding among any
id-here i k [] h = h
id-here i k (e ∷ es) h = by_bool (same k e.key) (λ q. rw (eq-eqb i i refl, q)) (λ q. rw (eq-eqb i i refl, q) (id-here i k es (rw q at h)))

or-first : (a b : Bool) → a ≡ true → a || b ≡ true
or-first a b e = rw e

ids-have : (j n : ℕ) (ms : List Map) (m : Map) (ps : List Placed) (k : Bytes) → at n ms ≡ some m → empty k ≡ false → among k (map key_of (in_map (j + n) ps)) ≡ true
    → any (is_id (j + n) k) (ids_from j (maps_from j ms ps)) ≡ true
unfolding ids_from maps_from keys
ids-have j n [] m ps k a e h = none-some a
ids-have j zero (o ∷ ms) m ps k a e h =
    let z : j + 0 ≡ j = omega arith in
    let h' : among k (map key_of (in_map j ps)) ≡ true = subst (λ (x : ℕ). among k (map key_of (in_map x ps)) ≡ true) z h in
    let es : List Entry = keyed_entries o (in_map j ps) in
    let q : among k (map key_of es) ≡ true =
    ap (among k) (keyed-keys o (in_map j ps)) ∙ keys-keep o.prefix (keep (λ k. not (empty k)) (map key_of (in_map j ps))) (map key_of (in_map j ps)) k e h' in
    subst (λ (x : ℕ). any (is_id x k) (map (λ (e : Entry). id j e.key) es ++ ids_from (suc j) (maps_from (suc j) ms ps)) ≡ true) (sym z)
    (any_append (is_id j k) (map (λ (e : Entry). id j e.key) es) (ids_from (suc j) (maps_from (suc j) ms ps)) ∙ or-first _ _ (id-here j k es q))
ids-have j (suc n) (o ∷ ms) m ps k a e h =
    let z : j + suc n ≡ suc j + n = omega arith in
    let r = ids-have (suc j) n ms m ps k a e (subst (λ (x : ℕ). among k (map key_of (in_map x ps)) ≡ true) z h) in
    let es : List Entry = keyed_entries o (in_map j ps) in
    any_append (is_id (j + suc n) k) (map (λ (e : Entry). id j e.key) es) (ids_from (suc j) (maps_from (suc j) ms ps))
    ∙ or-second (any (is_id (j + suc n) k) (map (λ (e : Entry). id j e.key) es)) _ (subst (λ (x : ℕ). any (is_id x k) (ids_from (suc j) (maps_from (suc j) ms ps)) ≡ true) (sym z) r)

in-key : (i : ℕ) (e : Entry) (ps : List Placed) → In (placed i e) ps → among e.key (map key_of (in_map i ps)) ≡ true
unfolding in_map
in-key i e [] h = absurd h
in-key i e (placed j f ∷ ps) (inl q) =
    let a : i ≡ j = cc in
    let b : e ≡ f = cc in
    rw (← a, ← b, eq-eqb i i refl) (among-head e.key (map key_of (in_map i ps)))
in-key i e (placed j f ∷ ps) (inr h) =
    by_bool (eqb i j) (λ q. rw q (among_later e.key f.key (map key_of (in_map i ps)) (in-key i e ps h))) (λ q. rw q (in-key i e ps h))

pub ids-cover : (i : ℕ) (e : Entry) (m : Map) (ps : List Placed) → at i maps ≡ some m → empty e.key ≡ false → In (placed i e) ps → any (is_id i e.key) (ids_from 0 (maps_from 0 maps ps)) ≡ true
ids-cover i e m ps a n h =
    let z : 0 + i ≡ i = omega arith in
    subst (λ (x : ℕ). any (is_id x e.key) (ids_from 0 (maps_from 0 maps ps)) ≡ true) z
    (ids-have 0 i maps m ps e.key a n (subst (λ (x : ℕ). among e.key (map key_of (in_map x ps)) ≡ true) (sym z) (in-key i e ps h)))
