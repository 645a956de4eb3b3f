-- A name is read back from its JSON.
use mathlib.Core.Path.{◌≡◌, refl, sym, ap, ◌∙◌}
use mathlib.Core.Bool.{true, false, ◌||◌, not}
use mathlib.Core.List.{List, [], ◌∷◌, ◌++◌, map, append-nil}
use mathlib.Core.Option.{Option, none, some}
use Prim.Native.Nat.{ℕ, suc}
use lib.Dec.{eqb, ltb}
use borrow.Author.Tests.{eq-eqb, eqb-true}
use lib.ListN.{get_or}
use Rattle.text.specs.Choice.{pick, chain, is_some}
use Rattle.text.specs.Bytes.{Bytes, ascii, any, all, empty, same, among, each, flat}
use Rattle.text.proofs.Cases.{by_bool, by_below, or_left, or_right, not-both}
use Rattle.text.proofs.Lists.{all_head, all_tail, flat_append, map_both, each_both}
use Rattle.json_text.specs.Tree.{Json, jstr, member, object, array, field, as_array}
use Rattle.json_text.proofs.Listed.{members-listed, elems-listed}
use Rattle.convert.specs.Table.{component_kinds, position}
use Rattle.convert.specs.Model.{has_parts, no_parts}
use Rattle.convert.specs.Value.{filled}
use Rattle.convert.specs.FromJson.{only_members, Component, component, component_of, component_in, of_kind, by_kind, name_from}
use Rattle.convert.specs.ToJson.{components_of, name_json}

-- ---- components

abbrev pub kind_at : ℕ → Bytes
kind_at i = get_or component_kinds i []

abbrev pub component_json : Bytes → Bytes → Json
component_json k v = object (member (ascii "kind") (jstr k) ∷ member (ascii "value") (jstr v) ∷ [])

kind-found : (i : ℕ) → ltb i 7 ≡ true → position (same (kind_at i)) component_kinds ≡ some i
unfolding position same
kind-found i h = by_below (λ i. position (same (kind_at i)) component_kinds) (λ i. some i) i 7 refl (λ l. not-both h l)

component-fields : (k v : Bytes) → (field (ascii "kind") (member (ascii "kind") (jstr k) ∷ member (ascii "value") (jstr v) ∷ []) ≡ some (jstr k)) × (field (ascii "value") (member (ascii "kind") (jstr k) ∷ member (ascii "value") (jstr v) ∷ []) ≡ some (jstr v))
unfolding field same
component-fields k v = (refl, refl)

component-only : (k v : Bytes) → only_members (ascii "kind" ∷ ascii "value" ∷ []) (member (ascii "kind") (jstr k) ∷ member (ascii "value") (jstr v) ∷ []) ≡ true
unfolding only_members all among any same
component-only k v = refl

component-back : (i : ℕ) (v : Bytes) → ltb i 7 ≡ true → component_of (component_json (kind_at i) v) ≡ some (component i v)
unfolding component_in
component-back i v h =
    rw (members-listed (member (ascii "kind") (jstr (kind_at i)) ∷ member (ascii "value") (jstr v) ∷ []), component-only (kind_at i) v, (component-fields (kind_at i) v).0, (component-fields (kind_at i) v).1, kind-found i h)

components-back : (i : ℕ) (vs : List Bytes) → ltb i 7 ≡ true → each component_of (map (component_json (kind_at i)) vs) ≡ some (map (component i) vs)
unfolding each
components-back i [] h = refl
components-back i (v ∷ vs) h = rw (component-back i v h, components-back i vs h)

-- the values of one kind, among those of one kind
of-same : (i : ℕ) (vs : List Bytes) → all filled vs ≡ true → flat (map (of_kind i) (map (component i) vs)) ≡ vs
unfolding flat
of-same i [] h = refl
of-same i (v ∷ vs) h = rw (eq-eqb i i refl, all_head filled v vs h, of-same i vs (all_tail filled v vs h))

of_other : (i k : ℕ) (vs : List Bytes) → eqb i k ≡ false → flat (map (of_kind i) (map (component k) vs)) ≡ []
unfolding flat
of_other i k [] e = refl
of_other i k (v ∷ vs) e = rw (e, of_other i k vs e)

-- ---- components of several kinds, from the kind k on

unfoldable placed : ℕ → List (List Bytes) → List Component
placed k [] = []
placed k (vs ∷ pss) = map (component k) vs ++ placed (suc k) pss

unfoldable values_at : ℕ → ℕ → List (List Bytes) → List Bytes
values_at i k [] = []
values_at i k (vs ∷ pss) = pick (eqb i k) vs [] ++ values_at i (suc k) pss

of-kind : (i k : ℕ) (vs : List Bytes) → all filled vs ≡ true → flat (map (of_kind i) (map (component k) vs)) ≡ pick (eqb i k) vs []
of-kind i k vs h = by_bool (eqb i k) (λ e. rw (e, ← eqb-true i k e) (of-same i vs h)) (λ e. rw e (of_other i k vs e))

of-placed : (i k : ℕ) (pss : List (List Bytes)) → all (all filled) pss ≡ true → flat (map (of_kind i) (placed k pss)) ≡ values_at i k pss
unfolding placed values_at flat
of-placed i k [] h = refl
of-placed i k (vs ∷ pss) h =
    rw (
      map_both (of_kind i) (map (component k) vs) (placed (suc k) pss),
      flat_append (map (of_kind i) (map (component k) vs)) (map (of_kind i) (placed (suc k) pss)),
      of-kind i k vs (all_head (all filled) vs pss h),
      of-placed i (suc k) pss (all_tail (all filled) vs pss h),
    )

module _ (a b c d e f g : List Bytes) where
  abbrev seven : List (List Bytes)
  seven = a ∷ b ∷ c ∷ d ∷ e ∷ f ∷ g ∷ []

  each-kind : values_at 0 0 seven ∷ values_at 1 0 seven ∷ values_at 2 0 seven ∷ values_at 3 0 seven ∷ values_at 4 0 seven ∷ values_at 5 0 seven ∷ values_at 6 0 seven ∷ [] ≡ seven
  unfolding values_at
  each-kind = rw (append-nil a, append-nil b, append-nil c, append-nil d, append-nil e, append-nil f, append-nil g)

  by-kind : all (all filled) seven ≡ true → by_kind (placed 0 seven) ≡ seven
  unfolding by_kind
  by-kind h = rw (of-placed 0 0 seven h, of-placed 1 0 seven h, of-placed 2 0 seven h, of-placed 3 0 seven h, of-placed 4 0 seven h, of-placed 5 0 seven h, of-placed 6 0 seven h) each-kind

  components-read : each component_of (components_of component_kinds seven) ≡ some (placed 0 seven)
  unfolding components_of placed each
  components-read =
      each_both component_of (map (component_json (kind_at 0)) a) _ (map (component 0) a) _ (components-back 0 a refl)
      (each_both component_of (map (component_json (kind_at 1)) b) _ (map (component 1) b) _ (components-back 1 b refl)
      (each_both component_of (map (component_json (kind_at 2)) c) _ (map (component 2) c) _ (components-back 2 c refl)
      (each_both component_of (map (component_json (kind_at 3)) d) _ (map (component 3) d) _ (components-back 3 d refl)
      (each_both component_of (map (component_json (kind_at 4)) e) _ (map (component 4) e) _ (components-back 4 e refl)
      (each_both component_of (map (component_json (kind_at 5)) f) _ (map (component 5) f) _ (components-back 5 f refl)
      (each_both component_of (map (component_json (kind_at 6)) g) [] (map (component 6) g) [] (components-back 6 g refl) refl))))))

  -- ---- the name

  abbrev components : Json
  components = array (components_of component_kinds seven)

  components-array : chain (as_array components) (each component_of) ≡ some (placed 0 seven)
  components-array = rw (elems-listed (components_of component_kinds seven)) components-read

  name-both : (v : Bytes) → all (all filled) seven ≡ true
      → name_from (object (member (ascii "full") (jstr v) ∷ member (ascii "components") components ∷ [])) ≡ some (record { full = some v; parts = seven })
  unfolding name_from field same only_members all among any
  name-both v h = rw (members-listed (member (ascii "full") (jstr v) ∷ member (ascii "components") components ∷ []), components-array, by-kind h)

  name-parts : all (all filled) seven ≡ true → name_from (object (member (ascii "components") components ∷ [])) ≡ some (record { full = none; parts = seven })
  unfolding name_from field same only_members all among any
  name-parts h = rw (members-listed (member (ascii "components") components ∷ []), components-array, by-kind h)

  name-full : (v : Bytes) → name_from (object (member (ascii "full") (jstr v) ∷ [])) ≡ some (record { full = some v; parts = no_parts })
  unfolding name_from field same only_members all among any by_kind flat
  name-full v = rw (members-listed (member (ascii "full") (jstr v) ∷ []))

  none-empty : (vs : List Bytes) → not (empty vs) ≡ false → vs ≡ []
  none-empty [] q = refl
  none-empty (v ∷ vs) q = not-both refl q

  pub no-parts : has_parts seven ≡ false → seven ≡ no_parts
  unfolding has_parts any
  no-parts q =
      let qb = or_right (not (empty a)) _ q in
      let qc = or_right (not (empty b)) _ qb in
      let qd = or_right (not (empty c)) _ qc in
      let qe = or_right (not (empty d)) _ qd in
      let qf = or_right (not (empty e)) _ qe in
      let qg = or_right (not (empty f)) _ qf in
      rw (none-empty a (or_left (not (empty a)) _ q), none-empty b (or_left (not (empty b)) _ qb), none-empty c (or_left (not (empty c)) _ qc), none-empty d (or_left (not (empty d)) _ qd), none-empty e (or_left (not (empty e)) _ qe), none-empty f (or_left (not (empty f)) _ qf), none-empty g (or_left (not (empty g)) _ qg))

  pub name-json : (full : Option Bytes) → all (all filled) seven ≡ true → is_some full || has_parts seven ≡ true → name_from (name_json full seven) ≡ some (record { full = full; parts = seven })
  unfolding name_json
  name-json (some v) h n =
      by_bool (has_parts seven) (λ q. rw q (name-both v h)) (λ q. rw q (name-full v ∙ ap (λ (ps : List (List Bytes)). some (record { full = some v; parts = ps })) (sym (no-parts q))))
  name-json none h n = rw n (name-parts h)
