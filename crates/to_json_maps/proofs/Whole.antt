-- A map's member entry by entry, and its entries line by line.
use mathlib.Core.Path.{◌≡◌, refl, sym, ap, ◌∙◌}
use mathlib.Core.Bool.{true, false, not}
use mathlib.Core.List.{List, [], ◌∷◌, ◌++◌, map, append_assoc, append-nil}
use Prim.Native.Nat.{ℕ, suc, ◌+◌, ◌≤◌, ◌<◌}
use native.Mathlib.Omega.{arith}
use native.Mathlib.Numerals.{add-one}
use lib.ListN.{length, drop, drop_of_length-le}
use lib.Seq.{drop-cons}
use borrow.Author.Tests.{ne_eqb, eq-eqb}
use Rattle.text.specs.Bytes.{Bytes, empty, flat, keep}
use Rattle.json_text.specs.Tree.{member, object}
use Rattle.json_text.specs.Compact.{quoted}
use Rattle.convert.specs.Table.{Map, maps}
use Rattle.convert.specs.Model.{Entry}
use Rattle.convert.specs.Classify.{Class, as-version, as-uid, as-kind, as_dropped, as-full, as_parts, as-entry, as_member, as-kept, Classed}
use Rattle.convert.specs.Keys.{key_or, keys_after, keys}
use Rattle.convert.specs.FromCard.{Placed, Gives, gives, gathered, in_map, with_keys, keyed_entries, maps_from}
use Rattle.convert.specs.ToJson.{where', entry_json, maps_json}
use Rattle.convert_entry.specs.Rows.{code_of}
use Rattle.convert_put.specs.Pieces.{member_bytes, after, closing}
use Rattle.convert_put.proofs.Card.{map-bytes}
use Rattle.convert_put.proofs.Compact.{after-append}
use Rattle.to_json_entry.specs.Entry.{keyed}
use Rattle.to_json_maps.specs.Maps.{no_map, map_at, map_bytes, entries_of, ids_of, map_member, head_piece, entry_piece, map_from}

-- ---- pieces

two : (x y : Bytes) → flat (x ∷ y ∷ []) ≡ x ++ y
unfolding flat
two x y = ap (λ z. x ++ z) (append-nil y)

abbrev keyed_by : List Bytes → Map → List Entry → List Entry
keyed_by used m es = with_keys (keys_after m.prefix used (map (λ (e : Entry). e.key) es)) es

from-begun : (m : Map) (used : List Bytes) (es : List Entry) → map_from m used true es ≡ after (map (entry_json m) (keyed_by used m es)) ++ (125 ∷ [])
unfolding map_from entry_piece head_piece keys_after with_keys after closing
from-begun m used [] = refl
from-begun m used (e ∷ es) =
    let k : Bytes = key_or m.prefix used e.key in
    let x : Bytes = member_bytes (entry_json m (keyed k e)) in
    rw (two (44 ∷ []) x, from-begun m (k ∷ used) es)
    (ap (λ (y : Bytes). 44 ∷ y) (sym (append_assoc x (after (map (entry_json m) (keyed_by (k ∷ used) m es))) (125 ∷ []))))

from_first : (m : Map) (used : List Bytes) (es : List Entry) → map_from m used false es ≡ after (map_member m (keyed_by used m es))
unfolding map_from entry_piece head_piece keys_after with_keys after closing map_member
from_first m used [] = refl
from_first m used (e ∷ es) =
    let k : Bytes = key_or m.prefix used e.key in
    let x : Bytes = member_bytes (entry_json m (keyed k e)) in
    let h : Bytes = 44 ∷ quoted m.member (58 ∷ 123 ∷ []) in
    ap (λ (y : Bytes). y ++ map_from m (k ∷ used) true es) (two h x)
    ∙ append_assoc h x (map_from m (k ∷ used) true es)
    ∙ ap (λ (y : Bytes). h ++ (x ++ y)) (from-begun m (k ∷ used) es)
    ∙ sym (map-bytes m (keyed k e) (keyed_by (k ∷ used) m es))

-- all entries, with no key used but their PROP-IDs
pub map_whole : (m : Map) (es : List Entry) → map_from m (ids_of es) false es ≡ after (map_member m (keyed_entries m es))
unfolding ids_of keys
map_whole m es = from_first m (keep (λ k. not (empty k)) (map (λ (e : Entry). e.key) es)) es

-- ---- lines

gathered-cons : (c : Classed) (cs : List Classed) → gathered (λ (g : Gives). g.entry) (c ∷ cs) ≡ (gives c.line c.class).entry ++ gathered (λ (g : Gives). g.entry) cs
unfolding gathered flat
gathered-cons c cs = refl

-- an entry of that map
pub entry-line : (i : ℕ) (c : Classed) (cs : List Classed) (e : Entry) → c.class ≡ as-entry i e → entries_of i (c ∷ cs) ≡ e ∷ entries_of i cs
unfolding entries_of in_map
entry-line i c cs e h = rw (gathered-cons c cs, h, eq-eqb i i refl)

-- another line
other-class : (i : ℕ) (c : Classed) (x : Class) (cs : List Classed) → c.class ≡ x → (code_of x ≡ i → ⊥) → entries_of i (c ∷ cs) ≡ entries_of i cs
unfolding entries_of in_map
other-class i c as-version cs h n = rw (gathered-cons c cs, h)
other-class i c (as-uid v) cs h n = rw (gathered-cons c cs, h)
other-class i c (as-kind v) cs h n = rw (gathered-cons c cs, h)
other-class i c as_dropped cs h n = rw (gathered-cons c cs, h)
other-class i c (as-full v) cs h n = rw (gathered-cons c cs, h)
other-class i c (as_parts v) cs h n = rw (gathered-cons c cs, h)
other-class i c (as-entry j e) cs h n = rw (gathered-cons c cs, h, ne_eqb i j (λ q. n (sym q)))
other-class i c (as_member a j) cs h n = rw (gathered-cons c cs, h)
other-class i c as-kept cs h n = rw (gathered-cons c cs, h)

pub other-line : (i : ℕ) (c : Classed) (cs : List Classed) → (code_of c.class ≡ i → ⊥) → entries_of i (c ∷ cs) ≡ entries_of i cs
other-line i c cs n = other-class i c c.class cs refl n

-- a number below 16 is that of an entry
pub entry-code : (x : Class) (i : ℕ) → code_of x ≡ i → i < 16 → (e : Entry) × (x ≡ as-entry i e)
entry-code (as-entry j e) i h l = (e, ap (λ k. as-entry k e) h)
entry-code as-version i h l = absurd (omega (arith, h))
entry-code (as-uid v) i h l = absurd (omega (arith, h))
entry-code (as-kind v) i h l = absurd (omega (arith, h))
entry-code as_dropped i h l = absurd (omega (arith, h))
entry-code (as-full v) i h l = absurd (omega (arith, h))
entry-code (as_parts v) i h l = absurd (omega (arith, h))
entry-code (as_member n j) i h l = absurd (omega (arith, h))
entry-code as-kept i h l = absurd (omega (arith, h))

-- ---- all maps

abbrev pub all_maps : List Classed → Bytes
all_maps cs = after (maps_json maps (maps_from 0 maps (gathered (λ (g : Gives). g.entry) cs)))

-- the members of the maps from the place i on
abbrev pub maps_after : ℕ → List Map → List Classed → Bytes
maps_after i [] cs = []
maps_after i (m ∷ ms) cs = after (map_member m (keyed_entries m (entries_of i cs))) ++ maps_after (suc i) ms cs

pub maps-bytes : (i : ℕ) (ms : List Map) (cs : List Classed) → after (maps_json ms (maps_from i ms (gathered (λ (g : Gives). g.entry) cs))) ≡ maps_after i ms cs
unfolding maps_json maps_from after entries_of map_member
maps-bytes i [] cs = refl
maps-bytes i (m ∷ ms) cs =
    let ps : List Placed = gathered (λ (g : Gives). g.entry) cs in
    let es : List Entry = keyed_entries m (in_map i ps) in
    after-append (where' (not (empty es)) (member m.member (object (map (entry_json m) es)))) (maps_json ms (maps_from (suc i) ms ps))
    ∙ ap (λ (y : Bytes). after (where' (not (empty es)) (member m.member (object (map (entry_json m) es)))) ++ y) (maps-bytes (suc i) ms cs)

-- one map more, and the end
pub maps-step : (i : ℕ) (cs : List Classed) → i < 7 → maps_after i (drop i maps) cs ≡ map_bytes i cs ++ maps_after (i + 1) (drop (i + 1) maps) cs
unfolding map_at
maps-step i cs l = rw (add-one, drop-cons maps i no_map)

pub maps-end : (i : ℕ) (cs : List Classed) → 7 ≤ i → maps_after i (drop i maps) cs ≡ []
maps-end i cs l = let h : length maps ≤ i = l in rw (drop_of_length-le maps h)
