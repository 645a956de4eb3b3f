-- The PROP-IDs of the maps are the names of the members in their slots.
use mathlib.Core.Path.{◌≡◌, refl, sym, ap, ap₂, ◌∙◌}
use mathlib.Core.Bool.{Bool, false, ◌||◌}
use mathlib.Core.List.{List, [], ◌∷◌, map}
use mathlib.Core.Option.{Option, none, some}
use Prim.Native.Nat.{ℕ, zero, suc, ◌+◌, ◌<◌}
use native.Mathlib.Omega.{arith}
use lib.ListN.{length, take, drop, get_or}
use lib.Dec.{eqb}
use borrow.Author.Tests.{eq-eqb, ne_eqb, eqb-true, eqb-false}
use Rattle.text.specs.Choice.{with-some, chain, provided}
use Rattle.text.specs.Bytes.{Bytes, ascii, any, same, among, each}
use Rattle.text.proofs.Cases.{by_bool}
use Rattle.text.proofs.Choices.{some_same, provided-inv, chain-inv, both-inv}
use Rattle.text.proofs.Lists.{any_append}
use Rattle.text.proofs.Same.{among_none}
use Rattle.json_text.specs.Tree.{Json, Member, member, name_of, as_string, as_number, as_object}
use Rattle.json_index.specs.Index.{first_at}
use Rattle.json_has.specs.Has.{named, has_name}
use Rattle.to_card_kept_names.specs.Groups.{names_of, HasName}
use Rattle.to_card_kept_names.proofs.Groups.{has-among, group_empty, group-slot}
use Rattle.convert.specs.Table.{Map, maps, type_names, position, reserved}
use Rattle.convert.specs.Model.{Entry}
use Rattle.convert.specs.Value.{is_key_text, is_pref}
use Rattle.convert.specs.Classify.{id, is_id}
use Rattle.convert.specs.FromJson.{only_members, optional, flags_from, content_from, entry_members, entry_from, map_from, ids_from}
use Rattle.convert.proofs.Proper.{keys_of}
use Rattle.home.proofs.Alls.{each-called}
use Rattle.to_card_params.proofs.Walk.{slot-none, slot-some}
use Rattle.to_card_entry.proofs.Rows.{organizations}
use Rattle.to_card_maps.specs.Seven.{value_as}
use Rattle.to_card_maps.proofs.Laws.{slot_map}
use Rattle.to_card_kept_used.specs.Used.{IdUsed}

-- ---- what was seen of a map

module _ (k : Bytes) where
  ids-same : (j : ℕ) (es : List Entry) → any (is_id j k) (map (λ (e : Entry). id j e.key) es) ≡ among k (keys_of es)
  unfolding any among
  ids-same j [] = refl
  ids-same j (e ∷ es) = rw (eq-eqb j j refl, ids-same j es)

  ids-other : (i j : ℕ) (es : List Entry) → (i ≡ j → ⊥) → any (is_id i k) (map (λ (e : Entry). id j e.key) es) ≡ false
  unfolding any
  ids-other i j [] n = refl
  ids-other i j (e ∷ es) n = rw (ne_eqb i j n) (ids-other i j es n)

  ids-before : (i j : ℕ) (ess : List (List Entry)) → i < j → any (is_id i k) (ids_from j ess) ≡ false
  unfolding ids_from any
  ids-before i j [] h = refl
  ids-before i j (es ∷ ess) h =
      any_append (is_id i k) (map (λ (e : Entry). id j e.key) es) (ids_from (suc j) ess)
      ∙ ap₂ ◌||◌ (ids-other i j es (λ z. omega arith)) (ids-before i (suc j) ess (omega arith))

  ids_at : (n j : ℕ) (ess : List (List Entry)) → any (is_id (j + n) k) (ids_from j ess) ≡ among k (keys_of (get_or ess n []))
  unfolding ids_from any among
  ids_at n j [] = refl
  ids_at zero j (es ∷ ess) =
      let z : j + 0 ≡ j = omega arith in
      ap (λ (i : ℕ). any (is_id i k) (ids_from j (es ∷ ess))) z
      ∙ any_append (is_id j k) (map (λ (e : Entry). id j e.key) es) (ids_from (suc j) ess)
      ∙ ap₂ ◌||◌ (ids-same j es) (ids-before j (suc j) ess (omega arith))
      ∙ or-false (among k (keys_of es))
    where
      or-false : (b : Bool) → b || false ≡ b
      or-false b = by_bool b (λ e. rw e) (λ e. rw e)
  ids_at (suc n) j (es ∷ ess) =
      let z : j + suc n ≡ suc j + n = omega arith in
      any_append (is_id (j + suc n) k) (map (λ (e : Entry). id j e.key) es) (ids_from (suc j) ess)
      ∙ ap₂ ◌||◌ (ids-other (j + suc n) j es (λ y. omega arith)) (ap (λ (i : ℕ). any (is_id i k) (ids_from (suc j) ess)) z ∙ ids_at n (suc j) ess)

-- ---- an entry's key is its member's name

entry_key : (m : Map) (x : Member) (e : Entry) → entry_from m x ≡ some e → e.key ≡ name_of x
unfolding entry_from
entry_key m (member k j) e q =
    let a = chain-inv (provided (is_key_text k) (as_object j)) _ q in
    let ms : List Member = a.0 in
    let c = provided-inv (only_members (entry_members m) ms) _ a.2 in
    let w = chain-inv (optional (ascii "kind") 0 (λ v. chain (as_string v) λ s. position (same s) m.kinds) ms) _ c.1 in
    let vs = chain-inv (content_from m.form m.content ms) _ w.2 in
    let xs = chain-inv (optional (ascii "contexts") [] (flags_from 0 (take 2 type_names)) ms) _ vs.2 in
    let fs = chain-inv (optional (ascii "features") [] (flags_from 2 (drop 2 type_names)) ms) _ xs.2 in
    let p = chain-inv (optional (ascii "pref") [] (λ v. chain (as_number v) λ p. provided (is_pref p) (some p)) ms) _ fs.2 in
    ap (λ (e : Entry). e.key) (sym (some_same p.2))

keys-are : (m : Map) (xs : List Member) (es : List Entry) → each (entry_from m) xs ≡ some es → keys_of es ≡ map name_of xs
keys-are m xs es e = each-called (entry_from m) name_of (λ (e : Entry). e.key) (entry_key m) xs es e

value-keys : (m : Map) (o : Option Json) (es : List Entry) (k : Bytes) → value_as m o ≡ some es → among k (keys_of es) ≡ with-some o (has_name k) false
value-keys m none es k e = ap (λ (x : List Entry). among k (keys_of x)) (sym (some_same e)) ∙ among_none k
value-keys m (some v) es k e =
    let a = chain-inv (as_object v) (each (entry_from m)) e in
    ap (among k) (keys-are m a.0 es a.2) ∙ sym (ap (λ (o : Option (List Member)). with-some o (named k) false) a.1)

-- ---- the map at a place of the table

each_at : {A B : Type 0} (f : A → Option B) (xs : List A) (ys : List B) (i : ℕ) (d : A) (e : B) → each f xs ≡ some ys → i < length xs → f (get_or xs i d) ≡ some (get_or ys i e)
unfolding each
each_at f [] ys i d e h l = absurd (omega arith)
each_at f (x ∷ xs) ys zero d e h l = let a = both-inv ◌∷◌ (f x) (each f xs) h in a.2 ∙ ap (λ us. some (get_or us 0 e)) a.4
each_at f (x ∷ xs) ys (suc i) d e h l =
    let a = both-inv ◌∷◌ (f x) (each f xs) h in
    each_at f xs a.1 i d e a.3 (omega arith) ∙ ap (λ us. some (get_or us (suc i) e)) a.4

module _ (s : Bytes) (slots : List ℕ) (i : ℕ) (h : i < 7) (key : Bytes) where
  seen-is : (ms : List Member) (ess : List (List Entry)) → each (map_from ms) maps ≡ some ess → any (is_id i key) (ids_from 0 ess) ≡ with-some (first_at reserved (i + 5) ms) (has_name key) false
  seen-is ms ess e =
      let z : 0 + i ≡ i = omega arith in
      ap (λ (j : ℕ). any (is_id j key) (ids_from 0 ess)) (sym z) ∙ ids_at key i 0 ess
      ∙ value-keys (get_or maps i organizations) (first_at reserved (i + 5) ms) (get_or ess i []) key (slot_map i h ms ∙ each_at (map_from ms) maps ess i organizations [] e h)

  pub id-names : (r : Bool) → HasName s slots i key r → IdUsed s slots i key r
  id-names r g ms ess x e =
      by_bool (eqb (get_or slots (i + 5) 0) 0)
      (λ z.
      let y = eqb-true (get_or slots (i + 5) 0) 0 z in
      g [] (group_empty s slots i h y) ∙ among_none key ∙ sym (seen-is ms ess e ∙ ap (λ (o : Option Json). with-some o (has_name key) false) (slot-none (x (i + 5)) y)))
      (λ z.
      let y = eqb-false (get_or slots (i + 5) 0) 0 z in
      let v = slot-some (x (i + 5)) y in
      g (names_of v.0) (group-slot s slots i h y v.0 v.2) ∙ sym (has-among key v.0)
      ∙ sym (seen-is ms ess e ∙ ap (λ (o : Option Json). with-some o (has_name key) false) v.1))
