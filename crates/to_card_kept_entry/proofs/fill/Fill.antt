-- The whole entry: four elements, each put after the others.
use mathlib.Core.Path.{◌≡◌, refl, sym, ap, subst, ◌∙◌}
use mathlib.Core.Bool.{Bool, false, not}
use mathlib.Core.List.{List, [], ◌∷◌}
use mathlib.Core.Option.{Option, none, some}
use Prim.Native.Nat.{ℕ, ◌+◌, ◌≤◌}
use native.Mathlib.Omega.{arith}
use lib.ListN.{length, take}
use Rattle.text.specs.Choice.{chain}
use Rattle.text.specs.Bytes.{Bytes, among}
use Rattle.text.proofs.Choices.{none-some, some_same, chain-inv, provided-inv}
use Rattle.json_text.specs.Tree.{Json, jnull, jtrue, jfalse, jnum, jstr, jarr, jobj, Elems, enil, econs, elems_of, as_string, as_array, as_object}
use Rattle.json_index.specs.Index.{json_at, ValueEnds}
use Rattle.convert.specs.FromJson.{is_lower_word, never_kept}
use Rattle.to_card_kept_entry.specs.strings.Strings.{size, size_elems, Grew, PutAs}
use Rattle.to_card_kept_entry.proofs.strings.Putting.{string-size}
use Rattle.to_card_kept_entry.proofs.strings.Values.{not_end, end_is}
use Rattle.to_card_kept_entry.proofs.strings.Whole.{array_size}
use Rattle.to_card_kept_entry.specs.declared.table.Filled.{Filled}
use Rattle.to_card_kept_entry.specs.table.Kept.{Sofar, none_yet, steps_of, Has, StepAs, PutsObject}
use Rattle.to_card_kept_entry.specs.entry.Entry.{line_name, PutsName, FourIn, FourList, FourIs, TellsFour, HoldsAs, composed_rest, composed_four, composed, FillsRest, FillsKept}
use Rattle.to_card_kept_entry.specs.fill.Held.{HeldIn}
use Rattle.std.specs.Prelude.{Some, None}
use Rattle.to_card_kept_entry.specs.strings.Strings.{To}
use Rattle.to_card_kept_entry.specs.table.Kept.{Step}
use Rattle.to_card_kept_entry.specs.declared.entry.Four.{Four}
use Rattle.to_card_kept_entry.specs.entry.Entry.{FourAt, elements}
use Rattle.to_card_kept_entry.specs.fill.Held.{Held}

not_at : {a b c d e : ℕ} → None ≡ elements a b c d e → ⊥
not_at e = let z : ◌≡◌ {A = ℕ} 0 1 = cc in omega arith

abbrev place-in : FourAt → (Four → ℕ) → ℕ
place-in (Some f) get = get f
place-in None get = 0

at_name : {a b c d e a' b' c' d' e' : ℕ} → elements a b c d e ≡ elements a' b' c' d' e' → (a ≡ a') × (b ≡ b') × (c ≡ c') × (d ≡ d')
at_name q = (ap (λ r. place-in r (λ f. f.name)) q, ap (λ r. place-in r (λ f. f.params)) q, ap (λ r. place-in r (λ f. f.kind)) q, ap (λ r. place-in r (λ f. f.value)) q)

not_on : {f : Filled} → None ≡ Some f → ⊥
not_on e = let z : ◌≡◌ {A = ℕ} 0 1 = cc in omega arith

on-is : {f g : Filled} → Some f ≡ Some g → f ≡ g
on-is e = cc

pub four-in : (s : Bytes) (at : ℕ) {a b c d e : ℕ} {r : FourAt} → FourIn s at r → r ≡ elements a b c d e → FourIn s at (elements a b c d e)
four-in s at h q = subst (FourIn s at) q h

pub held_in : (s : Bytes) (at : ℕ) {e : ℕ} {r : Held} → HeldIn s at r → r ≡ Some e → ValueEnds 13 s at e
held_in s at h q = subst (HeldIn s at) q h

pub fills-as : (b s : Bytes) (at : ℕ) (after : Bytes) (u : List ℕ) {r q : Bool} → FillsKept b s at r after u → r ≡ q → FillsKept b s at q after u
fills-as b s at after u h e = subst (λ (x : Bool). FillsKept b s at x after u) e h

-- ---- how many bytes four elements have

abbrev sum : List Json → ℕ
sum [] = 0
sum (j ∷ js) = size j + sum js

elems_size : (es : Elems) → size_elems es ≡ sum (elems_of es)
unfolding size_elems elems_of
elems_size enil = refl
elems_size (econs j es) = ap (λ (n : ℕ). size j + n) (elems_size es)

four-size : (j : Json) (js : List Json) → as_array j ≡ some js → size j ≡ sum js
four-size jnull js e = none-some e
four-size jtrue js e = none-some e
four-size jfalse js e = none-some e
four-size (jnum x) js e = none-some e
four-size (jstr x) js e = none-some e
four-size (jarr es) js e = array_size es ∙ elems_size es ∙ ap sum (some_same e)
four-size (jobj ms) js e = none-some e

name-size : (j : Json) (n : Bytes) → chain (as_string j) line_name ≡ some n → length n ≤ size j
name-size j n e =
    let i = chain-inv (as_string j) line_name e in
    let o = provided-inv (not (among i.0 never_kept)) _ i.2 in
    let p = provided-inv (is_lower_word i.0) (some i.0) o.1 in
    omega (arith, string-size j i.0 i.1, ap length (some_same p.1))

-- ---- no four elements

pub fill-other : (b : Bytes) (s : Bytes) (at : ℕ) (r : FourAt) → TellsFour s at r → r ≡ None → (t : List ℕ) → FillsKept b s at false b t
unfolding composed
fill-other b s at r told q t j w l = by (as_array j) (told j w)
  where
    none_of : (js : List Json) → FourList s r js → HoldsAs b t false (composed_four js)
    none_of [] h = refl
    none_of (a ∷ []) h = refl
    none_of (a ∷ (b ∷ [])) h = refl
    none_of (a ∷ (b ∷ (c ∷ []))) h = refl
    none_of (a ∷ (b ∷ (c ∷ (d ∷ [])))) h = absurd (not_at (sym q ∙ h.said))
    none_of (a ∷ (b ∷ (c ∷ (d ∷ (e ∷ es))))) h = refl

    by : (o : Option (List Json)) → FourIs s r o → HoldsAs b t false (chain o composed_four)
    by none h = refl
    by (some js) h = none_of js h

-- ---- four elements

record Elements (s : Bytes) (name params kind value : ℕ) (j : Json) : Type 0 where
  n : Json
  p : Json
  t : Json
  v : Json
  is : as_array j ≡ some (n ∷ (p ∷ (t ∷ (v ∷ []))))
  is_name : json_at 13 s name ≡ some n
  is-params : json_at 13 s params ≡ some p
  is-kind : json_at 13 s kind ≡ some t
  is-value : json_at 13 s value ≡ some v
  sized : size j ≡ size n + (size p + (size t + size v))

module _ (s : Bytes) (at : ℕ) (r : FourAt) (told : TellsFour s at r) (name params kind value end : ℕ) (q : r ≡ elements name params kind value end) where
  entry_at : (j : Json) → json_at 14 s at ≡ some j → Elements s name params kind value j
  entry_at j w = by (as_array j) refl (told j w)
    where
      four : (js : List Json) → as_array j ≡ some js → FourList s r js → Elements s name params kind value j
      four [] e h = absurd (not_at (sym h ∙ q))
      four (a ∷ []) e h = absurd (not_at (sym h ∙ q))
      four (a ∷ (b ∷ [])) e h = absurd (not_at (sym h ∙ q))
      four (a ∷ (b ∷ (c ∷ []))) e h = absurd (not_at (sym h ∙ q))
      four (a ∷ (b ∷ (c ∷ (d ∷ [])))) e h =
          let i = at_name (sym h.said ∙ q) in
          record {
            n = a;
            p = b;
            t = c;
            v = d;
            is = e;
            is_name = rw i.0 at h.is_name;
            is-params = rw i.1 at h.is-params;
            is-kind = rw i.2 at h.is-kind;
            is-value = rw i.3 at h.is-value;
            sized = let z = four-size j (a ∷ (b ∷ (c ∷ (d ∷ [])))) e in omega (arith, z);
          }
      four (a ∷ (b ∷ (c ∷ (d ∷ (x ∷ xs))))) e h = absurd (not_at (sym h ∙ q))

      by : (o : Option (List Json)) → as_array j ≡ o → FourIs s r o → Elements s name params kind value j
      by none e h = absurd (not_at (sym h ∙ q))
      by (some js) e h = four js e h

  -- by name, parameters and the rest
  module _ (b : Bytes) where
    by_parts : (res : Bool) (after : Bytes) (u : List ℕ)
        → ((j : Json) (x : Elements s name params kind value j) → size j + 5 ≤ length b
        → HoldsAs after u res (chain (chain (as_string x.n) line_name) λ y. chain (chain (as_object x.p) (steps_of none_yet)) λ z. composed_rest y z x.t x.v))
        → FillsKept b s at res after u
    unfolding composed
    by_parts res after u f j w l =
        let x = entry_at j w in
        subst (λ (o : Option (List Json)). HoldsAs after u res (chain o composed_four)) (sym x.is) (f j x l)

    module _ (rn : To) (c : Bytes) (named : PutsName b 0 s name rn c) where
      pub fill-nameless : rn ≡ None → (u : List ℕ) → FillsKept b s at false c u
      fill-nameless y u = by_parts false c u λ j x l.
          by x.p x.t x.v (chain (as_string x.n) line_name) (named 13 x.n x.is_name (omega (arith, x.sized)))
        where
          by : (p t v : Json) (o : Option Bytes) → PutAs b 0 rn c o → HoldsAs c u false (chain o λ y. chain (chain (as_object p) (steps_of none_yet)) λ z. composed_rest y z t v)
          by p t v none h = refl
          by p t v (some n) h = absurd (not_end (sym y ∙ h.1))

      module _ (e : ℕ) (y : rn ≡ Some e) where
        -- the name, where it is put
        record Name (j : Json) (x : Elements s name params kind value j) (n : Bytes) : Type 0 where
          is : chain (as_string x.n) line_name ≡ some n
          here : take e c ≡ n
          to : e ≤ size x.n
          long : length c ≡ length b

        by_name : (res : Bool) (after : Bytes) (u : List ℕ) (j : Json) (x : Elements s name params kind value j) → size j + 5 ≤ length b
            → ((n : Bytes) → Name j x n → HoldsAs after u res (chain (chain (as_object x.p) (steps_of none_yet)) λ z. composed_rest n z x.t x.v))
            → HoldsAs after u res (chain (chain (as_string x.n) line_name) λ y. chain (chain (as_object x.p) (steps_of none_yet)) λ z. composed_rest y z x.t x.v)
        by_name res after u j x l f = by (chain (as_string x.n) line_name) refl (named 13 x.n x.is_name (omega (arith, x.sized)))
          where
            by : (o : Option Bytes) → chain (as_string x.n) line_name ≡ o → PutAs b 0 rn c o → HoldsAs after u res (chain o λ y. chain (chain (as_object x.p) (steps_of none_yet)) λ z. composed_rest y z x.t x.v)
            by none i h = absurd (not_end (sym h ∙ y))
            by (some n) i h =
                let g : Grew b 0 c e n = subst (λ (k : ℕ). Grew b 0 c k n) (end_is (sym h.1 ∙ y)) h.2 in
                f n (record { is = i; here = g.is; to = omega (arith, g.to, name-size x.n n i); long = g.long })

        module _ (st : Step) (d : Bytes) (t : List ℕ) (puts : PutsObject c e s params st d t) where
          objects : (j : Json) (x : Elements s name params kind value j) → size j + 5 ≤ length b → (n : Bytes) → Name j x n → StepAs c e (e + size x.p) st d t (chain (as_object x.p) (steps_of none_yet))
          objects j x l n h = puts x.p x.is-params (omega (arith, x.sized, h.to, h.long))

          pub fill-unparamed : st ≡ None → FillsKept b s at false d t
          fill-unparamed i = by_parts false d t λ j x l. by_name false d t j x l λ n h. by x.t x.v n _ (chain (as_object x.p) (steps_of none_yet)) (objects j x l n h)
            where
              by : (jt jv : Json) (n : Bytes) (most : ℕ) (o : Option Sofar) → StepAs c e most st d t o → HoldsAs d t false (chain o λ z. composed_rest n z jt jv)
              by jt jv n most none h = refl
              by jt jv n most (some z) h = absurd (not_on (sym i ∙ h.said))

          pub fill-rest : (f : Filled) → st ≡ Some f → (res : Bool) (after : Bytes) (u : List ℕ) → FillsRest d t f e s kind value res after u → FillsKept b s at res after u
          fill-rest f i res after u rest = by_parts res after u λ j x l. by_name res after u j x l λ n h. by j x l n h (chain (as_object x.p) (steps_of none_yet)) (objects j x l n h)
            where
              by : (j : Json) (x : Elements s name params kind value j) → size j + 5 ≤ length b → (n : Bytes) → Name j x n
                  → (o : Option Sofar) → StepAs c e (e + size x.p) st d t o → HoldsAs after u res (chain o λ z. composed_rest n z x.t x.v)
              by j x l n h none p = absurd (not_on (sym p ∙ i))
              by j x l n h (some z) p =
                  let fe : p.filled ≡ f = on-is (sym p.said ∙ i) in
                  let m : f.end ≤ e + size x.p = subst (λ (y : Filled). y.end ≤ e + size x.p) fe p.short in
                  let k : take e d ≡ n = p.stays.is ∙ h.here in
                  subst (λ (y : Bytes). HoldsAs after u res (composed_rest y z x.t x.v)) k
                  (rest z (subst (λ (y : Filled). Has d t y z) fe p.has) x.t x.v x.is-kind x.is-value (omega (arith, m, x.sized, h.to, h.long, p.stays.long, l)))
