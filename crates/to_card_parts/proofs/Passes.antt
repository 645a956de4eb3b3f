-- Passes over the components, over plain values.
use mathlib.Core.Path.{◌≡◌, refl, sym, ap, subst, ◌∙◌}
use Rattle.to_card_parts.specs.declared.Found.{Found}
use Rattle.to_card_pen.proofs.Refusal.{ok-is, not_ok}
use Rattle.std.specs.Prelude.{Err}
use Rattle.to_card_pen.specs.Refusal.{no_card}
use mathlib.Core.Bool.{Bool, true, false, ◌&&◌}
use mathlib.Core.List.{List, [], ◌∷◌, ◌++◌, append-nil}
use mathlib.Core.Option.{Option, none, some}
use Prim.Native.Nat.{ℕ, zero, suc, ◌+◌, ◌-◌, ◌<◌}
use borrow.Rule.Slice.PartMut.{mid_of, put_mid}
use lib.Dec.{eqb}
use lib.ListN.{length, drop, get_or, set, length-set}
use lib.Seq.{get_or-set_same, get_or-set_other}
use borrow.Author.Tests.{eq-eqb, ne_eqb, eqb-true, eqb-false}
use Rattle.text.specs.Places.{Read}
use Rattle.std.proofs.Common.{Continue, Break}
use Rattle.text.specs.Choice.{pick}
use Rattle.text.specs.Bytes.{Bytes, empty}
use Rattle.text.specs.Reader.{got, loop}
use Rattle.text.specs.Places.{GivesT}
use Rattle.text.proofs.Cases.{by_bool}
use Rattle.text.proofs.Choices.{none-some, some_same}
use Rattle.json_text.specs.Tree.{Elems, elems_of}
use Rattle.json_text.specs.Syntax.{sep, item, value}
use Rattle.json_text.specs.Strings.{decoded_elems}
use Rattle.json_strings.specs.Decoded.{decoded_at}
use Rattle.json_access.specs.Access.{EndsAt}
use Rattle.json_index.specs.Index.{Clear}
use Rattle.line_pen.specs.Pen.{Pens}
use Rattle.line_pen.proofs.Laws.{pens-none, pens-then}
use Rattle.convert.specs.Value.{filled}
use Rattle.convert.specs.FromJson.{Component, component, component_of, of_kind}
use Rattle.to_card_parts.specs.declared.Inked.{Inked}
use Rattle.to_card_head.specs.Head.{TellsFilled}
use Rattle.to_card_parts.specs.Parts.{found_of, EndIn, KindIn, ComponentIs, TellsComponent, Lists, values_of, Marked, Marks, CheckedAs, ChecksFrom, Says, InksOne, InksKind, Finding, found, Ending}
use Rattle.to_card_parts.proofs.Elements.{Far, far-first, now-to, first_of}
use Rattle.to_card_parts.proofs.Values.{values-none, values-more, says_none, says_then, says-as}

-- ---- what was found

of-kind : {a b c d : ℕ} → found a b ≡ found c d → a ≡ c
of-kind e = ap (λ (f : Found). f.kind) (ok-is e)

of-place : {a b c d : ℕ} → found a b ≡ found c d → b ≡ d
of-place e = ap (λ (f : Found). f.value) (ok-is e)

pub found_none : (s : Bytes) (r : Finding) (o : Option Component) → ComponentIs s r o → r ≡ Err no_card → o ≡ none
found_none s r none h e = refl
found_none s r (some (component k x)) h e = absurd (not_ok (sym e ∙ h.1))

pub found_some : (s : Bytes) (r : Finding) (o : Option Component) → ComponentIs s r o → (k v : ℕ) → r ≡ found k v → (x : Bytes) × (o ≡ some (component k x)) × (decoded_at s v ≡ some x)
found_some s r none h k v e = absurd (not_ok (sym h ∙ e))
found_some s r (some (component l x)) h k v e =
    let a : l ≡ k = of-kind (sym h.1 ∙ e) in
    let b : h.0 ≡ v = of-place (sym h.1 ∙ e) in
    (x, ap (λ (i : ℕ). some (component i x)) a, ap (decoded_at s) (sym b) ∙ h.2)

-- the same of a component with its end
pub ended-found : {r q : Ending} → r ≡ q → found_of r ≡ found_of q
ended-found e = ap found_of e

pub ended-in : (s : Bytes) (at : ℕ) {r q : Ending} → EndIn s at r → r ≡ q → EndIn s at q
ended-in s at w e = subst (EndIn s at) e w

pub kind-in : {k v : ℕ} (r : Finding) → KindIn r → r ≡ found k v → k < 7
kind-in {k} {v} r h e = subst KindIn e h

-- ---- marks

pub marks-none : (s : Bytes) (at kind : ℕ) (m : List ℕ) → TellsFilled s at false → Marks s at kind m m
marks-none s at kind m h = record { long = refl; is = λ x w. sym (ap (λ (b : Bool). pick b (set m kind 1) m) (sym (h x w))) }

pub marks-one : (s : Bytes) (at kind : ℕ) (m : List ℕ) → TellsFilled s at true → Marks s at kind m (set m kind 1)
marks-one s at kind m h = record { long = length-set m kind 1; is = λ x w. sym (ap (λ (b : Bool). pick b (set m kind 1) m) (sym (h x w))) }

empty-end : (xs : List Bytes) (x : Bytes) → empty (xs ++ (x ∷ [])) ≡ false
empty-end [] x = refl
empty-end (y ∷ xs) x = refl

-- one component more is marked
marked-on : (m after : List ℕ) (cs : List Component) (k : ℕ) (x : Bytes) → k < length m → after ≡ pick (filled x) (set m k 1) m → Marked m cs → Marked after (cs ++ (component k x ∷ []))
marked-on m after cs k x l e h i li = by_bool (filled x) yes no
  where
    values : (vs : List Bytes) → of_kind i (component k x) ≡ vs → values_of i (cs ++ (component k x ∷ [])) ≡ values_of i cs ++ vs
    values vs q = values-more i cs (component k x) ∙ ap (λ (y : List Bytes). values_of i cs ++ y) q

    none_more : of_kind i (component k x) ≡ [] → empty (values_of i cs) ≡ empty (values_of i (cs ++ (component k x ∷ [])))
    none_more q = sym (ap empty (values [] q ∙ append-nil (values_of i cs)))

    here : filled x ≡ true → i ≡ k → eqb (get_or (set m k 1) i 0) 0 ≡ empty (values_of i (cs ++ (component k x ∷ [])))
    here f q =
        let g : get_or (set m k 1) i 0 ≡ 1 = ap (λ (j : ℕ). get_or (set m k 1) j 0) q ∙ get_or-set_same m k 1 0 l in
        let o : of_kind i (component k x) ≡ x ∷ [] = ap (λ (b : Bool). pick (b && filled x) (x ∷ []) []) (eq-eqb i k q) ∙ ap (λ (b : Bool). pick b (x ∷ []) []) f in
        ap (λ (j : ℕ). eqb j 0) g ∙ sym (ap empty (values (x ∷ []) o) ∙ empty-end (values_of i cs) x)

    there : (i ≡ k → ⊥) → eqb (get_or (set m k 1) i 0) 0 ≡ empty (values_of i (cs ++ (component k x ∷ [])))
    there n =
        let o : of_kind i (component k x) ≡ [] = ap (λ (b : Bool). pick (b && filled x) (x ∷ []) []) (ne_eqb i k n) in
        ap (λ (j : ℕ). eqb j 0) (get_or-set_other m k i 1 0 n) ∙ h i li ∙ none_more o

    yes : filled x ≡ true → eqb (get_or after i 0) 0 ≡ empty (values_of i (cs ++ (component k x ∷ [])))
    yes f =
        let a : after ≡ set m k 1 = e ∙ ap (λ (b : Bool). pick b (set m k 1) m) f in
        ap (λ (t : List ℕ). eqb (get_or t i 0) 0) a ∙ by_bool (eqb i k) (λ q. here f (eqb-true i k q)) (λ q. there (eqb-false i k q))

    no : filled x ≡ false → eqb (get_or after i 0) 0 ≡ empty (values_of i (cs ++ (component k x ∷ [])))
    no f =
        let a : after ≡ m = e ∙ ap (λ (b : Bool). pick b (set m k 1) m) f in
        let o : of_kind i (component k x) ≡ [] = ap (λ (b : Bool). pick (eqb i k && b) (x ∷ []) []) f ∙ and_no (eqb i k) in
        ap (λ (t : List ℕ). eqb (get_or t i 0) 0) a ∙ h i li ∙ none_more o
      where
        and_no : (b : Bool) → pick (b && false) (x ∷ []) [] ≡ []
        and_no true = refl
        and_no false = refl

-- ---- the judging pass

abbrev pub Checking : Bytes → ℕ → ℕ → List ℕ → Type 0
Checking s at i m = (us es : Elems) (t : Bytes) → loop (item (value 13)) (drop at s) ≡ got us t → decoded_elems us ≡ some es
    → (past : List Component) × Far component_of 13 s (elems_of es) t i past × Marked m past

pub checking-first : (s : Bytes) (at : ℕ) (m : List ℕ) → Clear m → Checking s at at m
checking-first s at m h us es t e f = ([], far-first component_of 13 s us es t at e f, λ i l. eq-eqb (get_or m i 0) 0 (h i) ∙ sym (ap empty (values-none i)))

module _ (s : Bytes) (at i : ℕ) (m : List ℕ) (going : Checking s at i m) (f : Finding) (tells : TellsComponent s i f) where
  pub checks-wrong : f ≡ Err no_card → (after : List ℕ) → ChecksFrom s at after 0
  checks-wrong e after us es t x y =
      let g = going us es t x y in
      let n = first_of g.1 in
      subst (CheckedAs after 0) (sym (n.2 (found_none s f (component_of n.0) (tells n.0 n.1) e))) refl

  module _ (k v : ℕ) (e : f ≡ found k v) (after : List ℕ) (l : k < length m) (marks : Marks s v k m after) (end : ℕ) (told : EndsAt 13 s i end) where
    pub checking-on : (j : ℕ) → GivesT s end (sep 93 zero suc (drop end s)) (Continue j) → Checking s at j after
    checking-on j w us es t x y =
        let g = going us es t x y in
        let n = now-to g.1 end told in
        let c = found_some s f (component_of n.val) (tells n.val n.is-val) k v e in
        (g.0 ++ (component k c.0 ∷ []), n.goes (component k c.0) c.1 j w, marked-on m after g.0 k c.0 l (marks.is c.0 c.2) g.2)

    pub checks-all : (z : Read) → GivesT s end (sep 93 zero suc (drop end s)) (Break z) → (n : ℕ) → 0 < n → ChecksFrom s at after n
    checks-all z w q h us es t x y =
        let g = going us es t x y in
        let n = now-to g.1 end told in
        let c = found_some s f (component_of n.val) (tells n.val n.is-val) k v e in
        subst (CheckedAs after q) (sym (n.ends (component k c.0) c.1 z w)) (h, marked-on m after g.0 k c.0 l (marks.is c.0 c.2) g.2)

-- ---- the writing pass

pub record Inking (s : Bytes) (at style mark kind : ℕ) (begun : Bool) (room : Bytes) (column i n c : ℕ) (b ok : Bool) (out : Bytes) : Type 0 where
  pub text : Bytes
  pub pens : Pens room column text (record { bytes = n; column = c }) out
  pub so : (cs : List Component) (l : Lists s at cs) → (past : List Component) × Far component_of 13 s (elems_of l.elems) l.rest i past × Says style mark begun (values_of kind past) text b ok

pub inking-first : (s : Bytes) (at style mark kind : ℕ) (begun : Bool) (room : Bytes) (column : ℕ) → Inking s at style mark kind begun room column at 0 column begun true room
inking-first s at style mark kind begun room column = record {
  text = [];
  pens = pens-none room column;
  so = λ cs l. ([], far-first component_of 13 s l.units l.elems l.rest at l.read l.are, says-as (sym (values-none kind)) (says_none style mark begun));
}

module _ (s : Bytes) (at style mark kind : ℕ) (begun : Bool) (room : Bytes) (column i n c : ℕ) (b ok : Bool) (out : Bytes) (going : Inking s at style mark kind begun room column i n c b ok out)
    (f : Finding) (tells : TellsComponent s i f) where
  pub inks-wrong : f ≡ Err no_card → InksKind s at style mark kind begun room column (record { bytes = n; column = c; begun = b; carried = ok }) out
  inks-wrong e = record {
    text = going.text;
    pens = going.pens;
    says = λ cs l.
        let g = going.so cs l in
        let x = first_of g.1 in
        none-some (sym (x.2 (found_none s f (component_of x.0) (tells x.0 x.1) e)) ∙ l.is);
  }

  module _ (k v : ℕ) (e : f ≡ found k v) (w : Inked) (last : Bytes) (one : InksOne s v style mark (eqb kind k) b (mid_of n (length out - n) out) c w last)
      (end : ℕ) (told : EndsAt 13 s i end) where
    more : (past : List Component) (x : Bytes) → decoded_at s v ≡ some x → Says style mark begun (values_of kind past) going.text b ok
        → Says style mark begun (values_of kind (past ++ (component k x ∷ []))) (going.text ++ one.text) w.begun (ok && w.carried)
    more past x q y = says-as (sym (values-more kind past (component k x))) (says_then style mark begun (values_of kind past) (of_kind kind (component k x)) y (one.says x q))

    pub inked : Pens room column (going.text ++ one.text) (record { bytes = n + w.bytes; column = w.column }) (put_mid n (length out - n) out last)
    inked = pens-then going.pens one.pens

    pub inking-on : (j : ℕ) → GivesT s end (sep 93 zero suc (drop end s)) (Continue j)
        → Inking s at style mark kind begun room column j (n + w.bytes) w.column w.begun (ok && w.carried) (put_mid n (length out - n) out last)
    inking-on j z = record {
      text = going.text ++ one.text;
      pens = inked;
      so = λ cs l.
          let g = going.so cs l in
          let x = now-to g.1 end told in
          let d = found_some s f (component_of x.val) (tells x.val x.is-val) k v e in
          (g.0 ++ (component k d.0 ∷ []), x.goes (component k d.0) d.1 j z, more g.0 d.0 d.2 g.2);
    }

    pub inks-all : (z : Read) → GivesT s end (sep 93 zero suc (drop end s)) (Break z)
        → InksKind s at style mark kind begun room column (record { bytes = n + w.bytes; column = w.column; begun = w.begun; carried = ok && w.carried }) (put_mid n (length out - n) out last)
    inks-all z q = record {
      text = going.text ++ one.text;
      pens = inked;
      says = λ cs l.
          let g = going.so cs l in
          let x = now-to g.1 end told in
          let d = found_some s f (component_of x.val) (tells x.val x.is-val) k v e in
          let y : g.0 ++ (component k d.0 ∷ []) ≡ cs = some_same (sym (x.ends (component k d.0) d.1 z q) ∙ l.is) in
          says-as (ap (values_of kind) y) (more g.0 d.0 d.2 g.2);
    }
