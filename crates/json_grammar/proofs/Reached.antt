-- Every array, object, value and text of the grammar is read.
use mathlib.Core.Path.{◌≡◌, refl, sym, ap, ◌∙◌}
use mathlib.Core.List.{[], ◌∷◌, ◌++◌, append_assoc, append-nil}
use mathlib.Core.Logic.{inl, inr}
use Prim.Native.Nat.{ℕ, zero, suc}
use Rattle.text.specs.Bytes.{Bytes, is, between}
use Rattle.text.specs.Reader.{got, under, on, when, more, last, loop, past}
use Rattle.text.proofs.Readers.{bind_inv, takes-moves}
use Rattle.json_text.specs.Tree.{Json, jarr, jobj, Elems, enil, econs, Members, mnil, mcons}
use Rattle.json_text.specs.Grammar.{◌then◌, Maybe, is_space, is_e, Ws, Mark, String, Array, Named, Object, Value, Text}
use Rattle.json_text.specs.Syntax.{skip, sep, item, elements, pair, pairs, value, text}
use Rattle.json_text.proofs.Takes.{takes-item, takes-pair, takes-value}
use Rattle.json_text.proofs.Numbers.{Stops}
use Rattle.json_text.proofs.Values.{an-array, an-object, no-elems, no_pairs}
use Rattle.json_grammar.proofs.Tests.{on-no}
use Rattle.json_grammar.proofs.Rows.{one-is}
use Rattle.json_grammar.proofs.Lists.{Items}
use Rattle.json_grammar.proofs.Spaces.{skip-ws, value-ws, name-ws, elements-ws, pairs-ws, mark-cases, mark-before, sep-more, sep-last, stops-ws, stops-mark, no-bracket}
use Rattle.json_grammar.proofs.Filled.{Leaves, Filled, scalar-all, turn-first, list-run, list_all, list-skip, name-all}

stops-comma : Stops (44 ∷ [])
unfolding is_e between
stops-comma = (refl, refl, refl)

stops-bracket : Stops (93 ∷ [])
unfolding is_e between
stops-bracket = (refl, refl, refl)

stops-brace : Stops (125 ∷ [])
unfolding is_e between
stops-brace = (refl, refl, refl)

stops_end : Stops []
unfolding is_e between
stops_end = (refl, refl, refl)

-- a mark, and what follows it
opening : (o : ℕ) (u w m r : Bytes) → u ≡ m ++ r → Mark o m → (x : Bytes) × (y : Bytes) × Ws x × Ws y × (u ++ w ≡ x ++ (o ∷ (y ++ (r ++ w))))
opening o u w m r e k =
    let c = mark-cases o m k in
    (c.0, c.1, c.2, c.3, ap (λ (z : Bytes). z ++ w) e ∙ append_assoc m r w ∙ mark-before o m (r ++ w) c.0 c.1 c.4)

module _ (d : ℕ) (inside : Filled d) where
  -- ---- one turn of an array

  item-ws : (x s : Bytes) → Ws x → item (value d) (x ++ s) ≡ item (value d) s
  unfolding item
  item-ws x s w = rw (value-ws d x s w)

  item-more : (p m s : Bytes) → Value d p → Mark 44 m → (g : Elems → Elems) × (y : Bytes) × Ws y × (item (value d) (p ++ (m ++ s)) ≡ got (more g) (y ++ s))
  unfolding item is_space
  item-more p m s o k =
      let v = inside p (m ++ s) o (stops-mark 44 m s k stops-comma) in
      let t = sep-more 93 (econs v.0 enil) (econs v.0) v.1 m s v.2 refl k in
      (econs v.0, t.0, t.1, rw v.3 t.2)

  item-last : (p m s : Bytes) → Value d p → Mark 93 m → (b : Elems) × (y : Bytes) × Ws y × (item (value d) (p ++ (m ++ s)) ≡ got (last b) (y ++ s))
  unfolding item is_space
  item-last p m s o k =
      let v = inside p (m ++ s) o (stops-mark 93 m s k stops-bracket) in
      let t = sep-last 93 (econs v.0 enil) (econs v.0) v.1 m s v.2 refl k in
      (econs v.0 enil, t.0, t.1, rw v.3 t.2)

  -- ---- arrays

  some-elements : (u m w : Bytes) → Items (Value d) 93 u → Mark 93 m → Leaves (elements (value d)) (u ++ (m ++ w)) w
  unfolding elements item
  some-elements u m w x k =
      let moves = takes-moves (item (value d)) (takes-item (value d) (takes-value d)) in
      let r = list-run (Value d) 93 (item (value d)) item-ws item-more item-last moves u m w x k in
      let l = list-skip (Value d) 93 (item (value d)) item-ws item-more item-last moves u m w x k in
      let t = turn-first (Value d) 93 (item (value d)) item-ws item-more item-last r.2.0 (u ++ (m ++ w)) r.2.1 (r.0 ++ w) r.2.2 in
      let i = bind_inv (value d (u ++ (m ++ w))) _ t.2 in
      (l.0, l.1, l.2, on-no (is 93) _ _ (skip (u ++ (m ++ w))) (no-bracket d (u ++ (m ++ w)) i.0 i.1 i.2) ∙ l.3)

  elements-all : (r w : Bytes) → (Maybe (Items (Value d) 93) then Mark 93) r → Leaves (elements (value d)) (r ++ w) w
  elements-all r w x = by x.3
    where
      at : r ++ w ≡ x.0 ++ (x.1 ++ w)
      at = ap (λ (z : Bytes). z ++ w) x.2 ∙ append_assoc x.0 x.1 w

      by : Maybe (Items (Value d) 93) x.0 → Leaves (elements (value d)) (r ++ w) w
      by (inl e) =
          let c = mark-cases 93 x.1 x.4 in
          let q : r ++ w ≡ c.0 ++ (93 ∷ (c.1 ++ w)) = at ∙ ap (λ (z : Bytes). z ++ (x.1 ++ w)) e ∙ mark-before 93 x.1 w c.0 c.1 c.4 in
          (enil, c.1, c.3, ap (elements (value d)) q ∙ elements-ws (value d) c.0 (93 ∷ (c.1 ++ w)) c.2 ∙ no-elems (value d) (c.1 ++ w))
      by (inr i) = let l = some-elements x.0 x.1 w i x.4 in (l.0, l.1, l.2, ap (elements (value d)) at ∙ l.3)

  array-all : (u w : Bytes) → Array (Value d) u → Leaves (value (suc d)) (u ++ w) w
  unfolding Array
  array-all u w x =
      let o = opening 91 u w x.0 x.1 x.2 x.3 in
      let l = elements-all x.1 w x.4 in (
        jarr l.0,
        l.1,
        l.2,
        ap (value (suc d)) o.4 ∙ value-ws (suc d) o.0 (91 ∷ (o.1 ++ (x.1 ++ w))) o.2 ∙ an-array d (o.1 ++ (x.1 ++ w)) ∙ ap (under jarr) (elements-ws (value d) o.1 (x.1 ++ w) o.3 ∙ l.3),
      )

  -- ---- one turn of an object

  pair-ws : (x s : Bytes) → Ws x → pair (value d) (x ++ s) ≡ pair (value d) s
  unfolding pair
  pair-ws x s w = rw (name-ws x s w)

  -- the name and the value of a member
  member-all : (p s : Bytes) → Named (Value d) p → Stops s
      → (n : Bytes) × (j : Json) × (v : Bytes) × Ws v × (pair (value d) (p ++ s) ≡ sep 125 (mcons n j mnil) (mcons n j) (v ++ s))
  unfolding Named pair
  member-all p s x h =
      let y = x.4 in
      let v = inside y.1 s y.4 h in
      let n = name-all x.0 y.0 (y.1 ++ s) x.3 y.3 in
      let e : p ++ s ≡ x.0 ++ (y.0 ++ (y.1 ++ s)) = ap (λ (z : Bytes). z ++ s) (x.2 ∙ ap (λ (z : Bytes). x.0 ++ z) y.2) ∙ append_assoc x.0 (y.0 ++ y.1) s ∙ ap (λ (z : Bytes). x.0 ++ z) (append_assoc y.0 y.1 s) in
      (n.0, v.0, v.1, v.2, ap (pair (value d)) e ∙ rw (n.3, value-ws d n.1 (y.1 ++ s) n.2, v.3))

  pair-more : (p m s : Bytes) → Named (Value d) p → Mark 44 m → (g : Members → Members) × (y : Bytes) × Ws y × (pair (value d) (p ++ (m ++ s)) ≡ got (more g) (y ++ s))
  unfolding is_space
  pair-more p m s o k =
      let v = member-all p (m ++ s) o (stops-mark 44 m s k stops-comma) in
      let t = sep-more 125 (mcons v.0 v.1 mnil) (mcons v.0 v.1) v.2 m s v.3 refl k in
      (mcons v.0 v.1, t.0, t.1, v.4 ∙ t.2)

  pair-last : (p m s : Bytes) → Named (Value d) p → Mark 125 m → (b : Members) × (y : Bytes) × Ws y × (pair (value d) (p ++ (m ++ s)) ≡ got (last b) (y ++ s))
  unfolding is_space
  pair-last p m s o k =
      let v = member-all p (m ++ s) o (stops-mark 125 m s k stops-brace) in
      let t = sep-last 125 (mcons v.0 v.1 mnil) (mcons v.0 v.1) v.2 m s v.3 refl k in
      (mcons v.0 v.1 mnil, t.0, t.1, v.4 ∙ t.2)

  -- ---- objects

  -- members begin with a quote
  some_pairs : (t : Bytes) → pairs (value d) (34 ∷ t) ≡ loop (pair (value d)) (34 ∷ t)
  unfolding pairs on skip past is_space
  some_pairs t = refl

  quoted : (u s : Bytes) → Items (Named (Value d)) 125 u → (t : Bytes) × (u ++ s ≡ 34 ∷ t)
  unfolding Named String
  quoted u s x =
      let n = x.3 in
      let q = n.3 in
      let e : u ≡ 34 ∷ ((q.1 ++ n.1) ++ x.1) = x.2 ∙ ap (λ (z : Bytes). z ++ x.1) (n.2 ∙ ap (λ (z : Bytes). z ++ n.1) (q.2 ∙ ap (λ (z : Bytes). z ++ q.1) (one-is 34 q.0 q.3))) in
      (((q.1 ++ n.1) ++ x.1) ++ s, ap (λ (z : Bytes). z ++ s) e)

  pairs-all : (r w : Bytes) → (Maybe (Items (Named (Value d)) 125) then Mark 125) r → Leaves (pairs (value d)) (r ++ w) w
  pairs-all r w x = by x.3
    where
      at : r ++ w ≡ x.0 ++ (x.1 ++ w)
      at = ap (λ (z : Bytes). z ++ w) x.2 ∙ append_assoc x.0 x.1 w

      by : Maybe (Items (Named (Value d)) 125) x.0 → Leaves (pairs (value d)) (r ++ w) w
      by (inl e) =
          let c = mark-cases 125 x.1 x.4 in
          let q : r ++ w ≡ c.0 ++ (125 ∷ (c.1 ++ w)) = at ∙ ap (λ (z : Bytes). z ++ (x.1 ++ w)) e ∙ mark-before 125 x.1 w c.0 c.1 c.4 in
          (mnil, c.1, c.3, ap (pairs (value d)) q ∙ pairs-ws (value d) c.0 (125 ∷ (c.1 ++ w)) c.2 ∙ no_pairs (value d) (c.1 ++ w))
      by (inr i) =
          let moves = takes-moves (pair (value d)) (takes-pair (value d) (takes-value d)) in
          let l = list_all (Named (Value d)) 125 (pair (value d)) pair-ws pair-more pair-last moves x.0 x.1 w i x.4 in
          let q = quoted x.0 (x.1 ++ w) i in
          (l.0, l.1, l.2, ap (pairs (value d)) (at ∙ q.1) ∙ some_pairs q.0 ∙ ap (loop (pair (value d))) (sym q.1) ∙ l.3)

  object-all : (u w : Bytes) → Object (Value d) u → Leaves (value (suc d)) (u ++ w) w
  unfolding Object
  object-all u w x =
      let o = opening 123 u w x.0 x.1 x.2 x.3 in
      let l = pairs-all x.1 w x.4 in (
        jobj l.0,
        l.1,
        l.2,
        ap (value (suc d)) o.4 ∙ value-ws (suc d) o.0 (123 ∷ (o.1 ++ (x.1 ++ w))) o.2 ∙ an-object d (o.1 ++ (x.1 ++ w)) ∙ ap (under jobj) (pairs-ws (value d) o.1 (x.1 ++ w) o.3 ∙ l.3),
      )

  value-more : Filled (suc d)
  unfolding Value
  value-more u w (inl x) h = scalar-all (suc d) u w x h
  value-more u w (inr (inl x)) h = array-all u w x
  value-more u w (inr (inr x)) h = object-all u w x

-- ---- values and texts

value-all : (d : ℕ) → Filled d
unfolding Value
value-all zero = scalar-all zero
value-all (suc d) = value-more d (value-all d)

skip_all : (x : Bytes) → Ws x → skip x ≡ []
unfolding skip past
skip_all x w = ap skip (sym (append-nil x)) ∙ skip-ws x [] w

pub accepts-all : (d : ℕ) (s : Bytes) → Text d s → (j : Json) × (text d s ≡ got j [])
unfolding Text text when
accepts-all d s x =
    let y = x.4 in
    let v = value-all d y.0 y.1 y.3 (rw (← append-nil y.1) (stops-ws y.1 [] y.4 stops_end)) in
    let e : value d s ≡ got v.0 (v.1 ++ y.1) = ap (value d) x.2 ∙ value-ws d x.0 x.1 x.3 ∙ ap (value d) y.2 ∙ v.3 in
    (v.0, rw (e, skip-ws v.1 y.1 v.2, skip_all y.1 y.4))
