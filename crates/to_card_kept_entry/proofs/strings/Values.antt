-- The values of a parameter, one row after the other.
use mathlib.Core.Path.{◌≡◌, refl, sym, ap, subst, ◌∙◌}
use mathlib.Core.Bool.{Bool}
use mathlib.Core.List.{List, [], ◌∷◌, ◌++◌, append-nil, append_assoc}
use mathlib.Core.Option.{Option, none, some, map}
use Prim.Native.Nat.{ℕ, zero, suc, ◌+◌, ◌≤◌, ◌<◌}
use native.Mathlib.Omega.{arith}
use borrow.Author.Tests.{le-leb, lt-leb}
use lib.ListN.{length, take, drop, length-append, length-set}
use Rattle.text.specs.Places.{Read}
use Rattle.std.proofs.Common.{Continue, Break}
use Rattle.text.specs.Choice.{provided, both}
use Rattle.text.specs.Bytes.{Bytes, each, flat}
use Rattle.text.specs.Reader.{got, loop}
use Rattle.text.specs.Places.{GivesT}
use Rattle.text.proofs.Lists.{flat_append}
use Rattle.json_text.specs.Tree.{Json, Elems, enil, econs, elems_of, as_string}
use Rattle.json_text.specs.Syntax.{sep, item, value}
use Rattle.json_text.specs.Strings.{decoded_elems}
use Rattle.json_access.specs.declared.Part.{Part}
use Rattle.json_access.specs.Access.{TellsElement}
use Rattle.line_table.specs.Table.{stored}
use Rattle.to_card_kept_entry.specs.strings.Strings.{size, size_elems, Grew, Within, PutAs, PutsAt, Adding, capped, Added, AddAs, RowsIn, AddsValue, AddsFrom}
use Rattle.to_card_kept_entry.proofs.strings.Elements.{HereE, item-here, elems-on, elems-none, next_elem, elem-stands, elems-nil, elems-cons, enil-decoded}
use Rattle.to_card_kept_entry.proofs.strings.Putting.{string-size}
use Rattle.to_card_kept_entry.proofs.strings.Tables.{adding-on}
use Rattle.std.specs.Prelude.{Some, None}
use Rattle.to_card_kept_entry.specs.strings.Strings.{To, RowsTo, more}

pub not_end : {k : ℕ} → None ≡ Some k → ⊥
not_end e = let z : ◌≡◌ {A = ℕ} 0 1 = cc in omega arith

pub end_is : {k j : ℕ} → Some k ≡ Some j → k ≡ j
end_is e = cc

pub not_more : {k m : ℕ} → None ≡ more k m → ⊥
not_more e = let z : ◌≡◌ {A = ℕ} 0 1 = cc in omega arith

abbrev end-in : RowsTo → ℕ
end-in (Some r) = r.end
end-in None = 0

abbrev count-in : RowsTo → ℕ
count-in (Some r) = r.count
count-in None = 0

pub more-end : {k m j l : ℕ} → more k m ≡ more j l → k ≡ j
more-end e = ap end-in e

pub more-count : {k m j l : ℕ} → more k m ≡ more j l → m ≡ l
more-count e = ap count-in e

-- ---- one value

abbrev one : Bytes → List Bytes
one x = x ∷ []

capped-over : (m : ℕ) (o : Option (List Bytes)) → ((vs : List Bytes) → o ≡ some vs → 64 < m + length vs) → capped m o ≡ none
capped-over m none h = refl
capped-over m (some vs) h = ap (λ (t : Bool). provided t (some vs)) (lt-leb _ _ (h vs refl))

capped_fits : (m : ℕ) (vs : List Bytes) → m + length vs ≤ 64 → capped m (some vs) ≡ some vs
capped_fits m vs h = ap (λ (t : Bool). provided t (some vs)) (le-leb _ _ h)

flat-one : (x : Bytes) → flat (x ∷ []) ≡ x
unfolding flat
flat-one x = append-nil x

grew-as : {b : Bytes} {n : ℕ} {after : Bytes} {k : ℕ} {x y : Bytes} → x ≡ y → Grew b n after k x → Grew b n after k y
grew-as {b} {n} {after} {k} {x} {y} e g = subst (Grew b n after k) e g

module _ (b : Bytes) (n : ℕ) (t : List ℕ) (m a e : ℕ) (s : Bytes) (at : ℕ) where
  pub value-over : 64 ≤ m → AddsValue b n t m a e s at None b t
  value-over h d v w l = subst (AddAs b n t m a e None b t) (sym (capped-over m _ (λ vs q. by (as_string v) vs q))) refl
    where
      by : (o : Option Bytes) (vs : List Bytes) → map one o ≡ some vs → 64 < m + length vs
      by none vs q = let z : ◌≡◌ {A = ℕ} 0 1 = cc in omega arith
      by (some x) vs q = let z : length (one x) ≡ length vs = ap length (Rattle.text.proofs.Choices.some_same q) in omega arith

  module _ (few : m < 64) (r : To) (after : Bytes) (puts : PutsAt b n s at r after) where
    pub value_none : r ≡ None → AddsValue b n t m a e s at None after t
    value_none q d v w l = by (as_string v) (puts d v w l)
      where
        by : (o : Option Bytes) → PutAs b n r after o → AddAs b n t m a e None after t (capped m (map one o))
        by none p = refl
        by (some x) p = absurd (not_end (sym q ∙ p.1))

    pub value-one : (wide : 264 ≤ length t) (k : ℕ) → r ≡ Some k → n ≤ length b → {c : ℕ} {u : List ℕ} → c ≡ m + 1 → u ≡ stored t m a e n k → AddsValue b n t m a e s at (more k c) after u
    value-one wide k q h {c} {u} cs us d v w l = by (as_string v) (puts d v w l)
      where
        added : (x : Bytes) → Grew b n after k x → Added b n t m a e (more k c) after u (one x)
        added x g =
            let p : length (take n b) ≡ n = lib.Seq.length-take-le n b h in
            let z : stored t m a e (length (take n b)) (length (take n b) + length x) ≡ u =
            ap (λ (y : ℕ). stored t m a e y (y + length x)) p ∙ ap (λ (y : ℕ). stored t m a e n y) (sym g.to) ∙ sym us in
            record {
              end = k;
              said = ap (more k) cs;
              grew = grew-as (sym (flat-one x)) g;
              adds = λ qs vs y.
                  let j = adding-on (take n b) x t m a e qs vs few wide y in
                  subst (λ (f : Bytes). Adding (take n b ++ f) u (m + 1) a e qs (vs ++ one x)) (sym (flat-one x)) (subst (λ (f : List ℕ). Adding (take n b ++ x) f (m + 1) a e qs (vs ++ one x)) z j);
            }

        by : (o : Option Bytes) → PutAs b n r after o → AddAs b n t m a e (more k c) after u (capped m (map one o))
        by none p = absurd (not_end (sym p ∙ q))
        by (some x) p =
            let g : Grew b n after k x = subst (λ (y : ℕ). Grew b n after y x) (end_is (sym p.1 ∙ q)) p.2 in
            subst (AddAs b n t m a e (more k c) after u) (sym (capped_fits m (one x) (omega arith))) (added x g)

pub value-rows : (n room k m : ℕ) (r : To) → Within n room r → r ≡ Some k → m < 64 → (c : ℕ) → c ≡ m + 1 → RowsIn n room (more k c)
value-rows n room k m r h q l c e = let g : Within n room (Some k) = subst (Within n room) q h in (g.0, g.1, omega arith)

pub rows_in : {n room k m : ℕ} {r : RowsTo} → RowsIn n room r → r ≡ more k m → RowsIn n room (more k m)
rows_in {n} {room} {k} {m} {r} h e = subst (RowsIn n room) e h

pub stored-long : (t : List ℕ) (m a e c d : ℕ) → length (stored t m a e c d) ≡ length t
unfolding stored
stored-long t m a e c d = simp length-set

-- ---- one after the other

pub grew_then : {b : Bytes} {n : ℕ} {c : Bytes} {k : ℕ} {x : Bytes} {d : Bytes} {j : ℕ} {y : Bytes} → Grew b n c k x → Grew c k d j y → Grew b n d j (x ++ y)
grew_then {b} {n} {c} {k} {x} {d} {j} {y} g h = record {
  long = h.long ∙ g.long;
  is = h.is ∙ ap (λ (z : Bytes). z ++ y) g.is ∙ append_assoc (take n b) x y;
  to = let z = length-append x y in omega (arith, g.to, h.to);
  within = omega (arith, h.within, g.long);
}

flat-both : (vs ws : List Bytes) → flat (vs ++ ws) ≡ flat vs ++ flat ws
flat-both vs ws = flat_append vs ws

added_then : {b : Bytes} {n : ℕ} {t : List ℕ} {m a e k r : ℕ} {c : Bytes} {u : List ℕ} {vs : List Bytes} {k' r' : ℕ} {d : Bytes} {w : List ℕ} {ws : List Bytes}
    → Added b n t m a e (more k r) c u vs → Added c k u r a e (more k' r') d w ws → Added b n t m a e (more k' r') d w (vs ++ ws)
added_then {b} {n} {t} {m} {a} {e} {k} {r} {c} {u} {vs} {k'} {r'} {d} {w} {ws} f g =
    let ke : k ≡ f.end = more-end f.said in
    let re : r ≡ m + length vs = more-count f.said in
    let l : r + length ws ≡ m + length (vs ++ ws) = let z = length-append vs ws in omega (arith, re) in
    let fg : Grew b n c k (flat vs) = subst (λ (y : ℕ). Grew b n c y (flat vs)) (sym ke) f.grew in
    record {
      end = g.end;
      said = g.said ∙ ap (more g.end) l;
      grew = grew-as (sym (flat-both vs ws)) (grew_then fg g.grew);
      adds = λ qs xs y.
          let p : Adding (take n b ++ flat vs) u (m + length vs) a e qs (xs ++ vs) = f.adds qs xs y in
          let q : Adding (take k c) u r a e qs (xs ++ vs) = subst (λ (z : ℕ). Adding (take k c) u z a e qs (xs ++ vs)) (sym re) (subst (λ (z : Bytes). Adding z u (m + length vs) a e qs (xs ++ vs)) (sym fg.is) p) in
          let o : Adding (take k c ++ flat ws) w (r + length ws) a e qs ((xs ++ vs) ++ ws) = g.adds qs (xs ++ vs) q in
          let o1 = subst (λ (z : List Bytes). Adding (take k c ++ flat ws) w (r + length ws) a e qs z) (append_assoc xs vs ws) o in
          let o2 = subst (λ (z : ℕ). Adding (take k c ++ flat ws) w z a e qs (xs ++ (vs ++ ws))) l o1 in
          let z : take k c ++ flat ws ≡ take n b ++ flat (vs ++ ws) = ap (λ (z : Bytes). z ++ flat ws) fg.is ∙ append_assoc (take n b) (flat vs) (flat ws) ∙ ap (λ (z : Bytes). take n b ++ z) (sym (flat-both vs ws)) in
          subst (λ (z : Bytes). Adding z w (m + length (vs ++ ws)) a e qs (xs ++ (vs ++ ws))) z o2;
    }

-- ---- the elements of an array

both-more : (d : List Bytes) (x : Bytes) (o : Option (List Bytes)) → both ◌++◌ (some d) (both ◌∷◌ (some x) o) ≡ both ◌++◌ (some (d ++ one x)) o
both-more d x none = refl
both-more d x (some xs) = ap some (sym (append_assoc d (one x) xs))

both-none : (o : Option (List Bytes)) → o ≡ both ◌++◌ (some []) o
both-none none = refl
both-none (some xs) = refl

pub each-cons : (v : Json) (vs : List Json) → each as_string (v ∷ vs) ≡ both ◌∷◌ (as_string v) (each as_string vs)
unfolding each
each-cons v vs = refl

pub each_nil : each as_string [] ≡ some []
unfolding each
each_nil = refl

pub size-cons : (v : Json) (es : Elems) → size_elems (econs v es) ≡ size v + size_elems es
unfolding size_elems
size-cons v es = refl

added_none : (b : Bytes) (n : ℕ) (t : List ℕ) (m a e : ℕ) → n ≤ length b → Added b n t m a e (more n m) b t []
unfolding flat
added_none b n t m a e h = record {
  end = n;
  said = let z : m ≡ m + 0 = omega arith in ap (more n) z;
  grew = record { long = refl; is = sym (append-nil (take n b)); to = omega arith; within = h };
  adds = λ qs vs y.
      let z : m ≡ m + 0 = omega arith in
      subst (λ (f : Bytes). Adding f t (m + 0) a e qs (vs ++ [])) (sym (append-nil (take n b)))
      (subst (λ (f : List Bytes). Adding (take n b) t (m + 0) a e qs f) (sym (append-nil vs)) (subst (λ (f : ℕ). Adding (take n b) t f a e qs vs) z y));
}

pub record Far (b₀ : Bytes) (n : ℕ) (t₀ : List ℕ) (m a e : ℕ) (s : Bytes) (es : Elems) (w : Bytes) (i k r : ℕ) (b : Bytes) (t : List ℕ) : Type 0 where
  pub units : Elems
  pub rest : Elems
  pub done : List Bytes
  pub is-units : loop (item (value 11)) (drop i s) ≡ got units w
  pub is-rest : decoded_elems units ≡ some rest
  pub is-each : each as_string (elems_of es) ≡ both ◌++◌ (some done) (each as_string (elems_of rest))
  pub added : Added b₀ n t₀ m a e (more k r) b t done
  pub room : k + size_elems rest ≤ length b₀

abbrev pub Going : Bytes → ℕ → List ℕ → ℕ → ℕ → ℕ → Bytes → ℕ → ℕ → ℕ → ℕ → Bytes → List ℕ → Type 0
Going b₀ n t₀ m a e s at i k r b t = (us es : Elems) (w : Bytes) → loop (item (value 11)) (drop at s) ≡ got us w → decoded_elems us ≡ some es → n + size_elems es ≤ length b₀
    → Far b₀ n t₀ m a e s es w i k r b t

pub going-first : (b : Bytes) (n : ℕ) (t : List ℕ) (m a e : ℕ) (s : Bytes) (at : ℕ) → n ≤ length b → Going b n t m a e s at at n m b t
going-first b n t m a e s at h us es w x y l = record {
  units = us;
  rest = es;
  done = [];
  is-units = x;
  is-rest = y;
  is-each = both-none (each as_string (elems_of es));
  added = added_none b n t m a e h;
  room = l;
}

module _ (b₀ : Bytes) (n : ℕ) (t₀ : List ℕ) (m a e : ℕ) (s : Bytes) (at i k r : ℕ) (b : Bytes) (t : List ℕ) (going : Going b₀ n t₀ m a e s at i k r b t)
    (q : Part) (told : TellsElement 11 s i q) (p : RowsTo) (b' : Bytes) (t' : List ℕ) (adds : AddsValue b k t r a e s q.start p b' t') where
  -- the element at i
  record Step (es : Elems) (w : Bytes) (f : Far b₀ n t₀ m a e s es w i k r b t) (z : HereE 11 s i f.units) (us : Elems) : Type 0 where
    val : Json
    others : Elems
    is-others : decoded_elems us ≡ some others
    sized : size_elems f.rest ≡ size val + size_elems others
    is-each : each as_string (elems_of es) ≡ both ◌++◌ (some f.done) (both ◌∷◌ (as_string val) (each as_string (elems_of others)))
    told-as : AddAs b k t r a e p b' t' (capped r (map one (as_string val)))

  step : (es : Elems) (w : Bytes) (f : Far b₀ n t₀ m a e s es w i k r b t) (z : HereE 11 s i f.units) (us : Elems) → econs z.val us ≡ f.units → Step es w f z us
  step es w f z us x =
      let o = next_elem z.val us f.rest (ap decoded_elems x ∙ f.is-rest) in
      let l : size_elems f.rest ≡ size o.val + size_elems o.others = ap size_elems (sym o.is) ∙ size-cons o.val o.others in
      let g : length b ≡ length b₀ = f.added.grew.long in
      record {
        val = o.val;
        others = o.others;
        is-others = o.is-others;
        sized = l;
        is-each = f.is-each ∙ ap (λ (y : Elems). both ◌++◌ (some f.done) (each as_string (elems_of y))) (sym o.is)
            ∙ ap (λ (y : List Json). both ◌++◌ (some f.done) (each as_string y)) (elems-cons o.val o.others) ∙ ap (both ◌++◌ (some f.done)) (each-cons o.val (elems_of o.others));
        told-as = adds 11 o.val ((elem-stands 11 s i f.units z q told).1 o.val o.is-val) (omega (arith, f.room, l, g));
      }

  rows_are : (es : Elems) (w : Bytes) (f : Far b₀ n t₀ m a e s es w i k r b t) → r ≡ m + length f.done
  rows_are es w f = more-count f.added.said

  over-all : (es : Elems) (w : Bytes) (f : Far b₀ n t₀ m a e s es w i k r b t) (x : Bytes) (o : Option (List Bytes)) → 64 < r + 1 → capped m (both ◌++◌ (some f.done) (both ◌∷◌ (some x) o)) ≡ none
  over-all es w f x none h = refl
  over-all es w f x (some xs) h = capped-over m (some (f.done ++ (x ∷ xs))) (λ vs y. let z : length (f.done ++ (x ∷ xs)) ≡ length vs = ap length (Rattle.text.proofs.Choices.some_same y) in omega (arith, z, rows_are es w f, length-append f.done (x ∷ xs)))

  pub from_wrong : p ≡ None → (after : Bytes) (u : List ℕ) → AddsFrom b₀ n t₀ m a e s at None after u
  from_wrong y after u us es w x d l =
      let f = going us es w x d l in
      let z = item-here 11 s i f.units w f.is-units in
      let g = step es w f z z.others (sym z.is) in
      subst (λ (o : Option (List Bytes)). AddAs b₀ n t₀ m a e None after u (capped m o)) (sym g.is-each) (by es w f (as_string g.val) (each as_string (elems_of g.others)) g.told-as)
    where
      by : (es : Elems) (w : Bytes) (f : Far b₀ n t₀ m a e s es w i k r b t) (o : Option Bytes) (os : Option (List Bytes)) → AddAs b k t r a e p b' t' (capped r (map one o))
          → AddAs b₀ n t₀ m a e None after u (capped m (both ◌++◌ (some f.done) (both ◌∷◌ o os)))
      by es w f none os h = refl
      by es w f (some v) os h =
          Rattle.text.proofs.Cases.split (r + 1) 64
          (λ j. let c : Added b k t r a e p b' t' (one v) = subst (AddAs b k t r a e p b' t') (capped_fits r (one v) j) h in absurd (not_more (sym y ∙ c.said)))
          (λ j. subst (AddAs b₀ n t₀ m a e None after u) (sym (over-all es w f v os j)) refl)

  module _ (k' r' : ℕ) (y : p ≡ more k' r') where
    record Gain (es : Elems) (w : Bytes) (f : Far b₀ n t₀ m a e s es w i k r b t) (us : Elems) : Type 0 where
      text : Bytes
      others : Elems
      is-others : decoded_elems us ≡ some others
      is-each : each as_string (elems_of es) ≡ both ◌++◌ (some (f.done ++ one text)) (each as_string (elems_of others))
      added : Added b₀ n t₀ m a e (more k' r') b' t' (f.done ++ one text)
      room : k' + size_elems others ≤ length b₀
      cap : m + length (f.done ++ one text) ≤ 64

    gain : (es : Elems) (w : Bytes) (f : Far b₀ n t₀ m a e s es w i k r b t) (z : HereE 11 s i f.units) (us : Elems) → econs z.val us ≡ f.units → Gain es w f us
    gain es w f z us x = let g = step es w f z us x in by g (as_string g.val) refl g.told-as
      where
        by : (g : Step es w f z us) (o : Option Bytes) → as_string g.val ≡ o → AddAs b k t r a e p b' t' (capped r (map one o)) → Gain es w f us
        by g none q h = absurd (not_more (sym h ∙ y))
        by g (some v) q h =
            Rattle.text.proofs.Cases.split (r + 1) 64
            (λ j.
            let c : Added b k t r a e (more k' r') b' t' (one v) = subst (λ (z : RowsTo). Added b k t r a e z b' t' (one v)) y (subst (AddAs b k t r a e p b' t') (capped_fits r (one v) j) h) in
            let ke : k' ≡ c.end = more-end c.said in
            let fl : length (flat (one v)) ≡ length v = ap length (flat-one v) in
            record {
              text = v;
              others = g.others;
              is-others = g.is-others;
              is-each = g.is-each ∙ ap (λ (o : Option Bytes). both ◌++◌ (some f.done) (both ◌∷◌ o (each as_string (elems_of g.others)))) q ∙ both-more f.done v (each as_string (elems_of g.others));
              added = added_then f.added c;
              room = omega (arith, ke, c.grew.to, fl, string-size g.val v q, f.room, g.sized);
              cap = omega (arith, rows_are es w f, length-append f.done (one v), j);
            })
            (λ j. absurd (not_more (sym (subst (AddAs b k t r a e p b' t') (capped-over r (some (one v)) (λ vs u. let z : length (one v) ≡ length vs = ap length (Rattle.text.proofs.Choices.some_same u) in omega arith)) h) ∙ y)))

    pub from_on : (j : ℕ) → GivesT s q.end (sep 93 zero suc (drop q.end s)) (Continue j) → Going b₀ n t₀ m a e s at j k' r' b' t'
    from_on j v us es w x d l =
        let f = going us es w x d l in
        let z = item-here 11 s i f.units w f.is-units in
        let o = elems-on 11 s i f.units w f.is-units z q.end (elem-stands 11 s i f.units z q told).0 j v in
        let g = gain es w f z o.0 o.2 in
        record { units = o.0; rest = g.others; done = f.done ++ one g.text; is-units = o.1; is-rest = g.is-others; is-each = g.is-each; added = g.added; room = g.room }

    pub from_all : (v : Read) → GivesT s q.end (sep 93 zero suc (drop q.end s)) (Break v) → AddsFrom b₀ n t₀ m a e s at (more k' r') b' t'
    from_all v h us es w x d l =
        let f = going us es w x d l in
        let z = item-here 11 s i f.units w f.is-units in
        let o = elems-none 11 s i f.units w f.is-units z q.end (elem-stands 11 s i f.units z q told).0 v h in
        let g = gain es w f z enil o in
        let c : each as_string (elems_of g.others) ≡ some [] = ap (λ (u : Elems). each as_string (elems_of u)) (sym (enil-decoded g.others g.is-others)) ∙ ap (each as_string) elems-nil ∙ each_nil in
        let ws = f.done ++ one g.text in
        let ee : each as_string (elems_of es) ≡ some ws = g.is-each ∙ ap (both ◌++◌ (some ws)) c ∙ ap some (append-nil ws) in
        subst (λ (o : Option (List Bytes)). AddAs b₀ n t₀ m a e (more k' r') b' t' (capped m o)) (sym ee) (subst (AddAs b₀ n t₀ m a e (more k' r') b' t') (sym (capped_fits m ws g.cap)) g.added)
