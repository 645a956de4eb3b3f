-- Rows of components: one more at a time, and the values of a kind by them.
use mathlib.Core.Path.{◌≡◌, refl, sym, ap, subst, ◌∙◌}
use mathlib.Core.Bool.{Bool, true, ◌&&◌}
use mathlib.Core.List.{List, [], ◌∷◌, ◌++◌}
use mathlib.Core.Logic.{⊎_elim}
use mathlib.Core.Option.{some}
use Prim.Native.Nat.{ℕ, zero, suc, ◌+◌, ◌-◌, ◌≤◌, ◌<◌}
use native.Mathlib.Nat.{eq-or-lt_of_le}
use native.Mathlib.Numerals.{add-one}
use native.Mathlib.Omega.{arith}
use borrow.Rule.Slice.PartMut.{mid_of, put_mid}
use lib.Dec.{eqb}
use lib.ListN.{length, take, drop, get_or, set, length-append}
use lib.Seq.{get_or-set_same, get_or-set_other}
use Rattle.text.specs.Places.{Read}
use Rattle.std.proofs.Common.{Continue, Break}
use Rattle.text.specs.Bytes.{Bytes}
use Rattle.text.specs.Places.{GivesT}
use Rattle.text.proofs.Choices.{some_same}
use Rattle.json_text.specs.Tree.{elems_of}
use Rattle.json_text.specs.Syntax.{sep}
use Rattle.json_strings.specs.Decoded.{decoded_at}
use Rattle.json_access.specs.Access.{EndsAt}
use Rattle.line_pen.specs.Pen.{Pens}
use Rattle.line_pen.proofs.Laws.{pens-none, pens-then}
use Rattle.convert.specs.FromJson.{Component, component, component_of, of_kind}
use Rattle.to_card_parts.specs.declared.Inked.{Inked}
use Rattle.to_card_parts.specs.Parts.{TellsComponent, Lists, values_of, CheckedAs, ChecksFrom, Says, InksOne, InksKind, Rows, RowsFrom, AddsRow, Finding, found}
use Rattle.to_card_parts.proofs.Elements.{Far, far-first, now-to}
use Rattle.to_card_parts.proofs.Passes.{found_some}
use Rattle.to_card_parts.proofs.Values.{values-none, values-more, says_none, says_then, says-as}

abbrev nobody : Component
nobody = component 0 []

-- ---- lists by place

at-end : (cs : List Component) (c : Component) (n : ℕ) → length cs ≡ n → get_or (cs ++ (c ∷ [])) n nobody ≡ c
at-end [] c zero e = refl
at-end [] c (suc n) e = absurd (omega arith)
at-end (x ∷ cs) c zero e = absurd (omega arith)
at-end (x ∷ cs) c (suc n) e = at-end cs c n (omega arith)

before-end : (cs : List Component) (c : Component) (i : ℕ) → i < length cs → get_or (cs ++ (c ∷ [])) i nobody ≡ get_or cs i nobody
before-end [] c i l = absurd (omega arith)
before-end (x ∷ cs) c zero l = refl
before-end (x ∷ cs) c (suc i) l = before-end cs c i (omega arith)

take_on : (cs : List Component) (i : ℕ) → i < length cs → take (suc i) cs ≡ take i cs ++ (get_or cs i nobody ∷ [])
take_on [] i l = absurd (omega arith)
take_on (x ∷ cs) zero l = refl
take_on (x ∷ cs) (suc i) l = ap (λ (t : List Component). x ∷ t) (take_on cs i (omega arith))

take_all : (cs : List Component) (i : ℕ) → length cs ≤ i → take i cs ≡ cs
take_all [] zero l = refl
take_all [] (suc i) l = refl
take_all (x ∷ cs) zero l = absurd (omega arith)
take_all (x ∷ cs) (suc i) l = ap (λ (t : List Component). x ∷ t) (take_all cs i (omega arith))

-- ---- one row more

rows_none : (s : Bytes) (kinds values : List ℕ) → Rows s kinds values 0 []
rows_none s kinds values = record { count = refl; row = λ i l. absurd (omega arith) }

module _ (s : Bytes) (kinds values : List ℕ) (n : ℕ) (cs : List Component) (k v : ℕ) (x : Bytes) (l : n < length kinds) (m : n < length values) (q : decoded_at s v ≡ some x) (h : Rows s kinds values n cs) where
  abbrev Is : ℕ → Type 0
  Is i = (y : Bytes) × (get_or (cs ++ (component k x ∷ [])) i nobody ≡ component (get_or (set kinds n k) i 0) y) × (decoded_at s (get_or (set values n v) i 0) ≡ some y)

  last_row : Is n
  last_row = (x, at-end cs (component k x) n h.count ∙ ap (λ (j : ℕ). component j x) (sym (get_or-set_same kinds n k 0 l)), ap (decoded_at s) (get_or-set_same values n v 0 m) ∙ q)

  earlier : (i : ℕ) → i < n → Is i
  earlier i w =
      let z : (i ≡ n → ⊥) = λ e. omega arith in
      let r = h.row i w in
      let a = before-end cs (component k x) i (omega (arith, h.count)) ∙ r.1 ∙ ap (λ (j : ℕ). component j r.0) (sym (get_or-set_other kinds n i k 0 z)) in
      (r.0, a, ap (decoded_at s) (get_or-set_other values n i v 0 z) ∙ r.2)

  rows_on : Rows s (set kinds n k) (set values n v) (n + 1) (cs ++ (component k x ∷ []))
  rows_on = record {
    count = length-append cs (component k x ∷ []) ∙ ap (λ (i : ℕ). i + 1) h.count;
    row = λ i w. let u : i ≤ n = omega arith in ⊎_elim (λ e. subst Is (sym e) last_row) (λ e. earlier i e) (eq-or-lt_of_le u);
  }

-- ---- the pass that lists them

abbrev pub Listing : Bytes → ℕ → ℕ → List ℕ → List ℕ → ℕ → Type 0
Listing s at i kinds values n = n ≤ 16 → (cs : List Component) (l : Lists s at cs) → (past : List Component) × Far component_of 13 s (elems_of l.elems) l.rest i past × Rows s kinds values n past

pub listing-first : (s : Bytes) (at : ℕ) (kinds values : List ℕ) → Listing s at at kinds values 0
listing-first s at kinds values le cs l = ([], far-first component_of 13 s l.units l.elems l.rest at l.read l.are, rows_none s kinds values)

module _ (s : Bytes) (at i : ℕ) (kinds values : List ℕ) (n : ℕ) (going : Listing s at i kinds values n) (f : Finding) (tells : TellsComponent s i f) (end : ℕ) (told : EndsAt 13 s i end)
    (k v : ℕ) (e : f ≡ found k v) (l : 16 ≤ length kinds) (m : 16 ≤ length values) (kinds' values' : List ℕ) (n' : ℕ) (adds : AddsRow kinds values n k v kinds' values' n') where
  more_rows : n' ≤ 16 → (past : List Component) (x : Bytes) → decoded_at s v ≡ some x → Rows s kinds values n past → Rows s kinds' values' n' (past ++ (component k x ∷ []))
  more_rows le past x q h =
      let a = adds.added le in
      let cs = past ++ (component k x ∷ []) in
      let t = rows_on s kinds values n past k v x (omega (arith, a.0)) (omega (arith, a.0)) q h in
      let u = subst (λ (z : ℕ). Rows s (set kinds n k) (set values n v) z cs) (sym a.1) t in
      let w = subst (λ (z : List ℕ). Rows s z (set values n v) n' cs) (sym a.2) u in
      subst (λ (z : List ℕ). Rows s kinds' z n' cs) (sym a.3) w

  pub listing-on : (j : ℕ) → GivesT s end (sep 93 zero suc (drop end s)) (Continue j) → Listing s at j kinds' values' n'
  listing-on j w le cs y =
      let a = adds.added le in
      let g = going (omega (arith, a.0)) cs y in
      let x = now-to g.1 end told in
      let c = found_some s f (component_of x.val) (tells x.val x.is-val) k v e in
      (g.0 ++ (component k c.0 ∷ []), x.goes (component k c.0) c.1 j w, more_rows le g.0 c.0 c.2 g.2)

  pub lists-all : (z : Read) → GivesT s end (sep 93 zero suc (drop end s)) (Break z) → RowsFrom s at kinds' values' n'
  lists-all z w le cs y =
      let a = adds.added le in
      let g = going (omega (arith, a.0)) cs y in
      let x = now-to g.1 end told in
      let c = found_some s f (component_of x.val) (tells x.val x.is-val) k v e in
      let q : g.0 ++ (component k c.0 ∷ []) ≡ cs = some_same (sym (x.ends (component k c.0) c.1 z w) ∙ y.is) in
      subst (Rows s kinds' values' n') q (more_rows le g.0 c.0 c.2 g.2)

-- where an element is no component, no components are listed
pub no_rows : (s : Bytes) (at : ℕ) (m kinds values : List ℕ) (n : ℕ) → ChecksFrom s at m 0 → RowsFrom s at kinds values n
no_rows s at m kinds values n h le cs l =
    let q = subst (CheckedAs m 0) l.is (h l.units l.elems l.rest l.read l.are) in
    absurd (omega (arith, q.0))

-- ---- the components before a row

module _ (s : Bytes) (kinds values : List ℕ) (n : ℕ) (cs : List Component) (h : Rows s kinds values n cs) where
  pub row-taken : (i : ℕ) (l : i < n) → take (i + 1) cs ≡ take i cs ++ (component (get_or kinds i 0) (h.row i l).0 ∷ [])
  row-taken i l = ap (λ (j : ℕ). take j cs) (add-one i) ∙ take_on cs i (omega (arith, h.count)) ∙ ap (λ (d : Component). take i cs ++ (d ∷ [])) (h.row i l).1

  pub rows_taken : (i : ℕ) → n ≤ i → take i cs ≡ cs
  rows_taken i l = take_all cs i (omega (arith, h.count))

-- ---- the writing pass by rows

pub record ByRows (s : Bytes) (at style mark kind : ℕ) (begun : Bool) (room : Bytes) (column i n c : ℕ) (b ok : Bool) (out : Bytes) : Type 0 where
  pub text : Bytes
  pub pens : Pens room column text (record { bytes = n; column = c }) out
  pub so : (cs : List Component) → Lists s at cs → Says style mark begun (values_of kind (take i cs)) text b ok

pub by-rows-first : (s : Bytes) (at style mark kind : ℕ) (begun : Bool) (room : Bytes) (column : ℕ) → ByRows s at style mark kind begun room column 0 0 column begun true room
by-rows-first s at style mark kind begun room column = record { text = []; pens = pens-none room column; so = λ cs l. says-as (sym (values-none kind)) (says_none style mark begun) }

module _ (s : Bytes) (at style mark kind : ℕ) (begun : Bool) (room : Bytes) (column i n c : ℕ) (b ok : Bool) (out : Bytes) (going : ByRows s at style mark kind begun room column i n c b ok out)
    (kinds values : List ℕ) (rows : ℕ) (le : rows ≤ 16) (given : RowsFrom s at kinds values rows) where
  pub by-rows-all : rows ≤ i → InksKind s at style mark kind begun room column (record { bytes = n; column = c; begun = b; carried = ok }) out
  by-rows-all l = record {
    text = going.text;
    pens = going.pens;
    says = λ cs y. says-as (ap (values_of kind) (rows_taken s kinds values rows cs (given le cs y) i l)) (going.so cs y);
  }

  pub by-rows-on : i < rows → (w : Inked) (last : Bytes) → InksOne s (get_or values i 0) style mark (eqb kind (get_or kinds i 0)) b (mid_of n (length out - n) out) c w last
      → ByRows s at style mark kind begun room column (i + 1) (n + w.bytes) w.column w.begun (ok && w.carried) (put_mid n (length out - n) out last)
  by-rows-on l w last one = record {
    text = going.text ++ one.text;
    pens = pens-then going.pens one.pens;
    so = λ cs y.
        let g = given le cs y in
        let r = g.row i l in
        let k : ℕ = get_or kinds i 0 in
        says-as (sym (ap (values_of kind) (row-taken s kinds values rows cs g i l) ∙ values-more kind (take i cs) (component k r.0)))
        (says_then style mark begun (values_of kind (take i cs)) (of_kind kind (component k r.0)) (going.so cs y) (one.says r.0 r.2));
  }
