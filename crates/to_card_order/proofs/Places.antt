-- The places of an order, one after the other.
use mathlib.Core.Path.{◌≡◌, refl, sym, ap, ◌∙◌}
use mathlib.Core.Bool.{Bool, true, false, ◌&&◌, ◌||◌, not}
use mathlib.Core.List.{List, [], ◌∷◌, ◌++◌, map, append-nil, append_assoc}
use Prim.Native.Nat.{ℕ, zero, suc, ◌+◌, ◌-◌, ◌≤◌, ◌<◌}
use native.Mathlib.Omega.{arith}
use native.Mathlib.Numerals.{add-one}
use borrow.Rule.Slice.PartMut.{mid_of, put_mid}
use borrow.Author.Tests.{eq-eqb, ne_eqb, lt-ltb, le-ltb}
use lib.ListN.{length, drop, get_or, drop_of_length-le}
use lib.Seq.{drop-cons}
use Rattle.text.specs.Choice.{pick}
use Rattle.text.specs.Bytes.{Bytes, all, empty}
use Rattle.line_pen.specs.declared.Pen.{Pen}
use Rattle.line_pen.specs.Pen.{Pens}
use Rattle.line_pen.proofs.Laws.{pens-none, pens-then}
use Rattle.to_card_pen.specs.Styles.{written_in, all_stand_in}
use Rattle.convert.specs.Model.{part}
use Rattle.convert.specs.FromJson.{Component, by_kind}
use Rattle.to_card_parts.specs.declared.Inked.{Inked}
use Rattle.to_card_parts.specs.Parts.{Lists, values_of, Marked, list_from, Says, InksKind}
use Rattle.to_card_parts.proofs.Values.{or-false}
use Rattle.to_card_order.specs.Order.{values_at, place_text, place_begun, place_carried, order_from, carried_order, SaysPlace, InksPlace, InksOrder}

-- ---- the values of a kind

kind_at : (cs : List Component) (k : ℕ) → k < 7 → part (by_kind cs) k ≡ values_of k cs
unfolding by_kind values_of
kind_at cs zero h = refl
kind_at cs (suc zero) h = refl
kind_at cs (suc (suc zero)) h = refl
kind_at cs (suc (suc (suc zero))) h = refl
kind_at cs (suc (suc (suc (suc zero)))) h = refl
kind_at cs (suc (suc (suc (suc (suc zero))))) h = refl
kind_at cs (suc (suc (suc (suc (suc (suc zero)))))) h = refl
kind_at cs (suc (suc (suc (suc (suc (suc (suc k))))))) h = absurd (omega arith)

kind-past : (cs : List Component) (k : ℕ) → 7 ≤ k → part (by_kind cs) k ≡ []
unfolding by_kind
kind-past cs zero h = absurd (omega arith)
kind-past cs (suc zero) h = absurd (omega arith)
kind-past cs (suc (suc zero)) h = absurd (omega arith)
kind-past cs (suc (suc (suc zero))) h = absurd (omega arith)
kind-past cs (suc (suc (suc (suc zero)))) h = absurd (omega arith)
kind-past cs (suc (suc (suc (suc (suc zero))))) h = absurd (omega arith)
kind-past cs (suc (suc (suc (suc (suc (suc zero)))))) h = absurd (omega arith)
kind-past cs (suc (suc (suc (suc (suc (suc (suc k))))))) h = refl

module _ (ps : List (List Bytes)) (c : ℕ) where
  at_low : c < 48 → values_at ps c ≡ []
  unfolding values_at
  at_low h = rw (lt-ltb c 48 h)

  at-digit : 48 ≤ c → values_at ps c ≡ part ps (c - 48)
  unfolding values_at
  at-digit h = rw (le-ltb c 48 h)

-- ---- one place

all_none : (style : ℕ) → all (all_stand_in style) [] ≡ true
unfolding all
all_none style = refl

list-none : (mark : ℕ) (b : Bool) → list_from mark b [] ≡ []
unfolding list_from
list-none mark b = refl

module _ (style mark : ℕ) (ps : List (List Bytes)) (begun : Bool) (c : ℕ) where
  place-semi : c ≡ 59 → SaysPlace style mark ps begun c (c ∷ []) false true
  place-semi e = record { is-text = rw (eq-eqb c 59 e); is-begun = rw (eq-eqb c 59 e); is_carried = rw (eq-eqb c 59 e) }

  place-some : (c ≡ 59 → ⊥) → (vs : List Bytes) → values_at ps c ≡ vs → {t : Bytes} {b ok : Bool} → Says style mark begun vs t b ok → SaysPlace style mark ps begun c t b ok
  place-some n vs e {t} {b} {ok} p = record {
    is-text = p.is-text ∙ sym (ap (λ (x : Bool). pick x (c ∷ []) (list_from mark begun (map (written_in style) (values_at ps c)))) (ne_eqb c 59 n) ∙ ap (λ (l : List Bytes). list_from mark begun (map (written_in style) l)) e);
    is-begun = p.is-begun ∙ sym (ap (λ (x : Bool). pick x false (begun || not (empty (values_at ps c)))) (ne_eqb c 59 n) ∙ ap (λ (l : List Bytes). begun || not (empty l)) e);
    is_carried = p.is_carried ∙ sym (ap (λ (x : Bool). pick x true (all (all_stand_in style) (values_at ps c))) (ne_eqb c 59 n) ∙ ap (all (all_stand_in style)) e);
  }

  place_none : (c ≡ 59 → ⊥) → values_at ps c ≡ [] → SaysPlace style mark ps begun c [] begun true
  place_none n e = place-some n [] e (record { is-text = sym (list-none mark begun); is-begun = sym (or-false begun); is_carried = sym (all_none style) })

none_of : (vs : List Bytes) → empty vs ≡ true → vs ≡ []
none_of [] e = refl
none_of (v ∷ vs) e = let z : ◌≡◌ {A = ℕ} 0 1 = cc in absurd (omega arith)

module _ (s : Bytes) (at : ℕ) (marks : List ℕ) (style mark place : ℕ) (begun : Bool) (room : Bytes) (column : ℕ) where
  abbrev Unchanged : Type 0
  Unchanged = InksPlace s at marks style mark place begun room column (record { bytes = 0; column = column; begun = begun; carried = true }) room

  unchanged : (place ≡ 59 → ⊥) → ((cs : List Component) → Marked marks cs → values_at (by_kind cs) place ≡ []) → Unchanged
  unchanged n h = record { text = []; pens = pens-none room column; says = λ cs l m. place_none style mark (by_kind cs) begun place n (h cs m) }

  pub inks-semi : place ≡ 59 → (p : Pen) (after : Bytes) → Pens room column (place ∷ []) p after
      → InksPlace s at marks style mark place begun room column (record { bytes = p.bytes; column = p.column; begun = false; carried = true }) after
  inks-semi e p after g = record { text = place ∷ []; pens = g; says = λ cs l m. place-semi style mark (by_kind cs) begun place e }

  module _ (n : place ≡ 59 → ⊥) where
    pub inks-low : place < 48 → Unchanged
    inks-low h = unchanged n (λ cs m. at_low (by_kind cs) place h)

    module _ (h : 48 ≤ place) where
      pub inks-high : 7 ≤ place - 48 → Unchanged
      inks-high k = unchanged n (λ cs m. at-digit (by_kind cs) place h ∙ kind-past cs (place - 48) k)

      module _ (k : place - 48 < 7) where
        pub inks-unmarked : get_or marks (place - 48) 0 ≡ 0 → Unchanged
        inks-unmarked e = unchanged n (λ cs m. at-digit (by_kind cs) place h ∙ kind_at cs (place - 48) k ∙ none_of (values_of (place - 48) cs) (sym (m (place - 48) k) ∙ eq-eqb (get_or marks (place - 48) 0) 0 e))

        pub inks-values : (r : Inked) (after : Bytes) → InksKind s at style mark (place - 48) begun room column r after → InksPlace s at marks style mark place begun room column r after
        inks-values r after w = record {
          text = w.text;
          pens = w.pens;
          says = λ cs l m. place-some style mark (by_kind cs) begun place n (values_of (place - 48) cs) (at-digit (by_kind cs) place h ∙ kind_at cs (place - 48) k) (w.says cs l);
        }

-- ---- a whole order

pub record Ordering (s : Bytes) (at : ℕ) (marks : List ℕ) (style mark : ℕ) (order room : Bytes) (column n c : ℕ) (b ok : Bool) (i : ℕ) (out : Bytes) : Type 0 where
  pub text : Bytes
  pub pens : Pens room column text (record { bytes = n; column = c }) out
  pub so : (cs : List Component) → Lists s at cs → Marked marks cs
      → (order_from style mark (by_kind cs) false order ≡ text ++ order_from style mark (by_kind cs) b (drop i order)) × (carried_order style (by_kind cs) order ≡ ok && carried_order style (by_kind cs) (drop i order))

pub ordering-first : (s : Bytes) (at : ℕ) (marks : List ℕ) (style mark : ℕ) (order room : Bytes) (column : ℕ) → Ordering s at marks style mark order room column 0 column false true 0 room
ordering-first s at marks style mark order room column = record { text = []; pens = pens-none room column; so = λ cs l m. (refl, refl) }

order-cons : (style mark : ℕ) (ps : List (List Bytes)) (b : Bool) (c : ℕ) (o : Bytes) → order_from style mark ps b (c ∷ o) ≡ place_text style mark ps b c ++ order_from style mark ps (place_begun ps b c) o
unfolding order_from
order-cons style mark ps b c o = refl

carried-cons : (style : ℕ) (ps : List (List Bytes)) (c : ℕ) (o : Bytes) → carried_order style ps (c ∷ o) ≡ place_carried style ps c && carried_order style ps o
unfolding carried_order
carried-cons style ps c o = refl

and_assoc : (a b c : Bool) → (a && (b && c)) ≡ ((a && b) && c)
and_assoc true b c = refl
and_assoc false b c = refl

module _ (s : Bytes) (at : ℕ) (marks : List ℕ) (style mark : ℕ) (order room : Bytes) (column n c : ℕ) (b ok : Bool) (i : ℕ) (out : Bytes) (going : Ordering s at marks style mark order room column n c b ok i out) where
  pub ordering-on : i < length order → (r : Inked) (last : Bytes) → InksPlace s at marks style mark (get_or order i 0) b (mid_of n (length out - n) out) c r last
      → Ordering s at marks style mark order room column (n + r.bytes) r.column r.begun (ok && r.carried) (i + 1) (put_mid n (length out - n) out last)
  ordering-on h r last w = record {
    text = going.text ++ w.text;
    pens = pens-then going.pens w.pens;
    so = λ cs l m.
        let ps = by_kind cs in
        let p = going.so cs l m in
        let q = w.says cs l m in
        let d : drop i order ≡ get_or order i 0 ∷ drop (i + 1) order = drop-cons order i 0 h ∙ ap (λ (j : ℕ). get_or order i 0 ∷ drop j order) (sym (add-one i)) in
        let o = drop (i + 1) order in (
          p.0 ∙ ap (λ (x : Bytes). going.text ++ x)
              (ap (order_from style mark ps b) d ∙ order-cons style mark ps b (get_or order i 0) o ∙ ap (λ (x : Bytes). x ++ order_from style mark ps (place_begun ps b (get_or order i 0)) o) (sym q.is-text)
              ∙ ap (λ (x : Bool). w.text ++ order_from style mark ps x o) (sym q.is-begun))
              ∙ sym (append_assoc going.text w.text (order_from style mark ps r.begun o)),
          p.1 ∙ ap (λ (x : Bool). ok && x) (ap (carried_order style ps) d ∙ carried-cons style ps (get_or order i 0) o ∙ ap (λ (x : Bool). x && carried_order style ps o) (sym q.is_carried))
              ∙ and_assoc ok r.carried (carried_order style ps o),
        );
  }

  order-nil : (ps : List (List Bytes)) → order_from style mark ps b [] ≡ []
  unfolding order_from
  order-nil ps = refl

  carried-nil : (ps : List (List Bytes)) → carried_order style ps [] ≡ true
  unfolding carried_order
  carried-nil ps = refl

  and-end : (x : Bool) → (x && true) ≡ x
  and-end true = refl
  and-end false = refl

  pub ordering-end : length order ≤ i → InksOrder s at marks style mark order room column (record { bytes = n; column = c; carried = ok }) out
  ordering-end h = record {
    text = going.text;
    pens = going.pens;
    says = λ cs l m.
        let ps = by_kind cs in
        let p = going.so cs l m in
        let d : drop i order ≡ [] = drop_of_length-le order h in (
          sym (p.0 ∙ ap (λ (x : Bytes). going.text ++ order_from style mark ps b x) d ∙ ap (λ (x : Bytes). going.text ++ x) (order-nil ps) ∙ append-nil going.text),
          sym (p.1 ∙ ap (λ (x : Bytes). ok && carried_order style ps x) d ∙ ap (λ (x : Bool). ok && x) (carried-nil ps) ∙ and-end ok),
        );
  }
