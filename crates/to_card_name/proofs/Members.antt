-- The members of name, one by one.
use mathlib.Core.Path.{◌≡◌, refl, sym, ap, subst, ◌∙◌}
use Rattle.to_card_pen.specs.declared.NoCard.{NoCard}
use Rattle.std.specs.Prelude.{Err, Ok, Some, None, Result}
use Rattle.to_card_pen.specs.Refusal.{no_card}
use mathlib.Core.Bool.{Bool, true, false, ◌||◌, not}
use mathlib.Core.List.{List, [], ◌∷◌}
use mathlib.Core.Option.{Option, none, some, map}
use Prim.Native.Nat.{ℕ, zero, suc, ◌≤◌, ◌<◌}
use native.Mathlib.Omega.{arith}
use lib.Dec.{eqb}
use lib.ListN.{length, get_or, drop_of_length-le}
use borrow.Author.Tests.{eq-eqb}
use Rattle.text.specs.Choice.{is_some, chain}
use Rattle.text.specs.Bytes.{Bytes, all, any, empty, each, between}
use Rattle.text.specs.Reader.{bad, on, when, past, some_of}
use Rattle.text.proofs.Readers.{not-bad}
use Rattle.text.proofs.Same.{among_none}
use Rattle.json_text.specs.Tree.{Json, jnull, jtrue, jfalse, jnum, jstr, jarr, jobj, elems_of, as_string, as_array}
use Rattle.json_text.specs.Syntax.{skip, scalar, number, opt, int, digits, value}
use Rattle.json_access.specs.declared.Kind.{Kind}
use Rattle.json_access.specs.declared.Kind.TheVariants.{Null, True, False, Number, String, Array, Object}
use Rattle.json_access.specs.Access.{TellsKind, kind_of}
use Rattle.json_index.specs.Index.{Slot}
use Rattle.json_index.proofs.Objects.{at-inv}
use Rattle.convert.specs.Model.{has_parts}
use Rattle.convert.specs.Carry.{apart}
use Rattle.convert.specs.FromJson.{Component, component_of, by_kind, is_false}
use Rattle.to_card_value.specs.Values.{StringIs, TellsString}
use Rattle.to_card_head.proofs.Slots.{slot-none, slot-some}
use Rattle.to_card_parts.specs.Parts.{ArrayIn, OpenedAs, OpensAs, Elements, values_of, Marked, CheckedAs, ChecksFrom, Array as Arr}
use Rattle.to_card_parts.proofs.Elements.{kind-told}
use Rattle.to_card_order.specs.Order as order
use Rattle.to_card_name.specs.Name.{ordered_in, full_in, components_in, TellsUnordered, FullAs, TellsFull, ListedAs, ListsAs, TellsParts, TellsApart, rows_at}

-- ---- isOrdered

abbrev pub is_false_kind : Kind → Bool
is_false_kind Null = false
is_false_kind True = false
is_false_kind False = true
is_false_kind Number = false
is_false_kind String = false
is_false_kind Array = false
is_false_kind Object = false

false-kind : (v : Json) → is_false_kind (kind_of v) ≡ is_some (is_false v)
false-kind jnull = refl
false-kind jtrue = refl
false-kind jfalse = refl
false-kind (jnum x) = refl
false-kind (jstr x) = refl
false-kind (jarr x) = refl
false-kind (jobj x) = refl

module _ (s : Bytes) (slot : ℕ) where
  pub unordered-absent : slot ≡ 0 → TellsUnordered s slot true
  unordered-absent e o h = sym (ap (λ (x : Option Json). is_some (ordered_in x)) (slot-none 14 s slot o h e))

  pub unordered-is : (slot ≡ 0 → ⊥) → (k : Kind) → TellsKind s slot k → (c : Kind) → k ≡ c → TellsUnordered s slot (is_false_kind c)
  unordered-is n k t c e o h =
      let v = slot-some 14 s slot o h n in
      ap is_false_kind (sym e ∙ kind-told 13 s slot k t v.0 v.2) ∙ false-kind v.0 ∙ sym (ap (λ (x : Option Json). is_some (ordered_in x)) v.1)

  -- ---- full

  pub full-absent : slot ≡ 0 → TellsFull s slot (Ok None)
  full-absent e o h = ap full_in (slot-none 14 s slot o h e)

  module _ (n : slot ≡ 0 → ⊥) (q : ℕ) (t : TellsString s slot q) where
    pub full-wrong : q ≡ 0 → TellsFull s slot (Err no_card)
    full-wrong e o h = let v = slot-some 14 s slot o h n in ap full_in v.1 ∙ by (as_string v.0) (t 14 v.0 v.2)
      where
        by : (x : Option Bytes) → StringIs s q x → map some x ≡ none
        by none w = refl
        by (some x) w = absurd (omega (arith, w.0))

    pub full_at : (q ≡ 0 → ⊥) → TellsFull s slot (Ok (Some q))
    full_at m o h = let v = slot-some 14 s slot o h n in subst (FullAs s (Ok (Some q))) (sym (ap full_in v.1)) (by (as_string v.0) (t 14 v.0 v.2))
      where
        by : (x : Option Bytes) → StringIs s q x → FullAs s (Ok (Some q)) (map some x)
        by none w = absurd (m w)
        by (some x) w = (x, refl, w)

-- ---- components

pub no_value : (d : ℕ) → value d [] ≡ bad []
unfolding value scalar number opt int digits some_of skip past on when between
no_value zero = refl
no_value (suc d) = refl

each_none : each component_of [] ≡ some []
unfolding each
each_none = refl

module _ (s : Bytes) (slot : ℕ) (m : List ℕ) where
  pub list-absent : slot ≡ 0 → ListsAs s slot m (Ok None)
  list-absent e o h = ap components_in (slot-none 14 s slot o h e)

  module _ (n : slot ≡ 0 → ⊥) where
    pub list-past : length s < slot → ListsAs s slot m (Err no_card)
    list-past l o h =
        let v = slot-some 14 s slot o h n in
        let u = at-inv 14 s slot v.0 v.2 in
        absurd (not-bad (sym (ap (value 14) (drop_of_length-le s {i = slot} (omega arith)) ∙ no_value 14) ∙ u.2))

    module _ (r : Arr) (opens : OpensAs s slot r) where
      opened : (c : Arr) → r ≡ c → (o : Option Json) → Slot 14 s slot o → (js : Option (List Json)) × OpenedAs s c js × (components_in o ≡ chain js (each component_of))
      opened c e o h = let v = slot-some 14 s slot o h n in (as_array v.0, subst (λ (x : Arr). OpenedAs s x (as_array v.0)) e (opens v.0 v.2), ap components_in v.1)

      pub list-wrong : r ≡ Err no_card → ListsAs s slot m (Err no_card)
      list-wrong e o h = let w = opened (Err no_card) e o h in w.2 ∙ ap (λ (x : Option (List Json)). chain x (each component_of)) w.1

      pub list-empty : r ≡ Ok None → ListsAs s slot m (Ok None)
      list-empty e o h = let w = opened (Ok None) e o h in w.2 ∙ ap (λ (x : Option (List Json)). chain x (each component_of)) w.1 ∙ each_none

      module _ (j : ℕ) (e : r ≡ Ok (Some j)) (n' : ℕ) (checks : ChecksFrom s j m n') where
        elements : (o : Option Json) → Slot 14 s slot o → (js : Option (List Json)) × (x : Elements s j js) × (components_in o ≡ each component_of (elems_of x.elems))
        elements o h = let w = opened (Ok (Some j)) e o h in (w.0, w.1, w.2 ∙ ap (λ (x : Option (List Json)). chain x (each component_of)) w.1.is)

        pub list-bad : n' ≡ 0 → ListsAs s slot m (Err no_card)
        list-bad f o h = let w = elements o h in w.2 ∙ by (each component_of (elems_of w.1.elems)) (checks w.1.units w.1.elems w.1.rest w.1.read w.1.are)
          where
            by : (x : Option (List Component)) → CheckedAs m n' x → x ≡ none
            by none q = refl
            by (some cs) q = absurd (omega (arith, q.0))

        pub list_at : (n' ≡ 0 → ⊥) → ListsAs s slot m (rows_at j n')
        list_at f o h =
            let w = elements o h in
            let x = w.1 in
            by (components_in o) (each component_of (elems_of x.elems)) refl w.2 (checks x.units x.elems x.rest x.read x.are)
          where
            by : (c d : Option (List Component)) → each component_of (elems_of (elements o h).1.elems) ≡ d → c ≡ d → CheckedAs m n' d → ListedAs s m (rows_at j n') c
            by c none g p q = absurd (f q)
            by c (some cs) g p q = let y = (elements o h).1 in (cs, p, record { units = y.units; elems = y.elems; rest = y.rest; read = y.read; are = y.are; is = g }, q.1)

-- what an answer is, and what is in it
pub answer-is : {A : Type 0} {r : Result A NoCard} {x y : A} → r ≡ Ok x → x ≡ y → r ≡ Ok y
answer-is {A} {r} {x} {y} p q = subst (λ (z : A). r ≡ Ok z) q p

pub array-in : {n j : ℕ} (r : Arr) → ArrayIn n r → r ≡ Ok (Some j) → j ≤ n
array-in {n} {j} r h e = subst (ArrayIn n) e h

-- ---- marks

or-false : (b : Bool) → b || false ≡ b
or-false true = refl
or-false false = refl

pub parts-told : (m : List ℕ) → TellsParts m
    (not (eqb (get_or m 0 0) 0) || (not (eqb (get_or m 1 0) 0) || (not (eqb (get_or m 2 0) 0) || (not (eqb (get_or m 3 0) 0) || (not (eqb (get_or m 4 0) 0) || (not (eqb (get_or m 5 0) 0) || not (eqb (get_or m 6 0) 0)))))))
unfolding has_parts any by_kind values_of
parts-told m cs h =
    let e0 = h 0 (omega arith) in
    let e1 = h 1 (omega arith) in
    let e2 = h 2 (omega arith) in
    let e3 = h 3 (omega arith) in
    let e4 = h 4 (omega arith) in
    let e5 = h 5 (omega arith) in
    let e6 = h 6 (omega arith) in
    rw (e0, e1, e2, e3, e4, e5, e6, or-false)

none_of : (vs : List Bytes) → empty vs ≡ true → vs ≡ []
none_of [] e = refl
none_of (v ∷ vs) e = let z : ◌≡◌ {A = ℕ} 0 1 = cc in absurd (omega arith)

apart-first : (ws : List Bytes) → true ≡ apart [] ws
unfolding apart all
apart-first ws = refl

apart-second : (vs : List Bytes) → true ≡ apart vs []
unfolding apart all
apart-second [] = refl
apart-second (v ∷ vs) = rw (among_none v) (apart-second vs)

module _ (s : Bytes) (at : ℕ) (m : List ℕ) (one other : ℕ) where
  unmarked : (i : ℕ) → i < 7 → get_or m i 0 ≡ 0 → (cs : List Component) → Marked m cs → values_of i cs ≡ []
  unmarked i l e cs h = none_of (values_of i cs) (sym (h i l) ∙ eq-eqb (get_or m i 0) 0 e)

  pub apart-no-one : one < 7 → get_or m one 0 ≡ 0 → TellsApart s at m one other true
  apart-no-one l e cs w h = apart-first (values_of other cs) ∙ ap (λ (x : List Bytes). apart x (values_of other cs)) (sym (unmarked one l e cs h))

  pub apart-no-other : other < 7 → get_or m other 0 ≡ 0 → TellsApart s at m one other true
  apart-no-other l e cs w h = apart-second (values_of one cs) ∙ ap (apart (values_of one cs)) (sym (unmarked other l e cs h))

  pub apart-told : (r : Bool) → order.TellsApart s at one other r → TellsApart s at m one other r
  apart-told r t cs w h = t cs w
