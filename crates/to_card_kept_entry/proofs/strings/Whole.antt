-- All values of a parameter, by what its value is; the group.
use mathlib.Core.Path.{◌≡◌, refl, sym, ap, subst, ◌∙◌}
use mathlib.Core.Bool.{Bool, true, false, not}
use mathlib.Core.List.{List, [], ◌∷◌, ◌++◌}
use mathlib.Core.Option.{Option, none, some, map}
use Prim.Native.Nat.{ℕ, zero, suc, ◌+◌, ◌-◌, ◌≤◌}
use native.Mathlib.Omega.{arith}
use lib.ListN.{length, take, drop, length-append}
use Rattle.text.specs.Places.{Read}
use Rattle.std.proofs.Common.{Continue, Break}
use Rattle.text.specs.Choice.{chain, provided, both}
use Rattle.text.specs.Bytes.{Bytes, each, flat, empty}
use Rattle.text.specs.Places.{GivesT, byte_at, Passes}
use Rattle.text.proofs.Choices.{none-some, some_same, chain-inv, provided-inv}
use Rattle.json_text.specs.Grammar.{is_space}
use Rattle.json_text.specs.Tree.{Json, jnull, jtrue, jfalse, jnum, jstr, jarr, jobj, Elems, enil, econs, elems_of, as_string}
use Rattle.json_text.specs.Syntax.{sep}
use Rattle.json_text.specs.Strings.{decoded_elems}
use Rattle.json_strings.specs.Decoded.{decoded_at, text_at}
use Rattle.json_strings.proofs.NextByte.{text-some}
use Rattle.json_access.specs.declared.Part.{Part}
use Rattle.json_access.specs.declared.Kind.TheVariants.{Array}
use Rattle.json_access.specs.Access.{TellsElement, kind_of}
use Rattle.json_index.specs.Index.{json_at}
use Rattle.to_card_value.specs.Values.{StringIs, TellsString}
use Rattle.convert.specs.FromJson.{strings, is_lower_word}
use Rattle.to_card_kept_entry.specs.strings.Strings.{size, size_elems, Grew, Puts, PutAs, capped, AddAs, AddsValue, AddsFrom, AddsValues, sole, sole_in, SoleIs, TellsSole, group_of, PutsGroup}
use Rattle.to_card_kept_entry.proofs.strings.Elements.{item-here, elems-on, elems-none, next_elem, elem-stands, elems-nil, elems-cons, enil-decoded, not-array, empty-array, array-elems}
use Rattle.to_card_kept_entry.proofs.strings.Putting.{put_as, string-size}
use Rattle.to_card_kept_entry.proofs.strings.Values.{each-cons, each_nil, size-cons, not_end, end_is}
use Rattle.std.specs.Prelude.{Some, None}
use Rattle.to_card_kept_entry.specs.strings.Strings.{To, RowsTo}

-- ---- the strings of a value

pub strings-other : (v : Json) → (kind_of v ≡ Array → ⊥) → strings v ≡ map (λ x. x ∷ []) (as_string v)
strings-other jnull n = refl
strings-other jtrue n = refl
strings-other jfalse n = refl
strings-other (jnum x) n = refl
strings-other (jstr x) n = refl
strings-other (jarr es) n = absurd (n refl)
strings-other (jobj ms) n = refl

strings-none : strings (jarr enil) ≡ none
strings-none = ap (λ (o : Option (List Bytes)). chain o λ vs. provided (not (empty vs)) (some vs)) (ap (each as_string) elems-nil ∙ each_nil)

strings-array : (v : Json) (es : Elems) → strings (jarr (econs v es)) ≡ each as_string (elems_of (econs v es))
strings-array v es =
    ap (λ (o : Option (List Bytes)). chain o λ vs. provided (not (empty vs)) (some vs)) e
    ∙ by (as_string v) (each as_string (elems_of es))
    ∙ sym e
  where
    e : each as_string (elems_of (econs v es)) ≡ both ◌∷◌ (as_string v) (each as_string (elems_of es))
    e = ap (each as_string) (elems-cons v es) ∙ each-cons v (elems_of es)

    by : (o : Option Bytes) (os : Option (List Bytes)) → chain (both ◌∷◌ o os) (λ vs. provided (not (empty vs)) (some vs)) ≡ both ◌∷◌ o os
    by none os = refl
    by (some x) none = refl
    by (some x) (some xs) = refl

pub array_size : (es : Elems) → size (jarr es) ≡ size_elems es
unfolding size
array_size es = refl

-- ---- all values of a parameter

module _ (b : Bytes) (n : ℕ) (t : List ℕ) (m a e : ℕ) (s : Bytes) (at i c : ℕ) (h : Passes is_space s at i) (l : c ≡ byte_at s i) where
  pub values_one : (c ≡ 91 → ⊥) → (r : RowsTo) (after : Bytes) (u : List ℕ) → AddsValue b n t m a e s at r after u → AddsValues b n t m a e s at r after u
  values_one q r after u f v w z =
      subst (λ (o : Option (List Bytes)). AddAs b n t m a e r after u (capped m o)) (sym (strings-other v (not-array 11 s at i c h l q v w))) (f 12 v w z)

  module _ (q : c ≡ 91) (j d : ℕ) (k : Passes is_space s (i + 1) j) (g : d ≡ byte_at s j) where
    pub values-none : d ≡ 93 → AddsValues b n t m a e s at None b t
    values-none p v w z =
        subst (λ (o : Option (List Bytes)). AddAs b n t m a e None b t (capped m o)) (sym (ap strings (empty-array 11 s at i c h l q j d k g p v w) ∙ strings-none)) refl

    pub values-many : (d ≡ 93 → ⊥) → (r : RowsTo) (after : Bytes) (u : List ℕ) → AddsFrom b n t m a e s j r after u → AddsValues b n t m a e s at r after u
    values-many p r after u f v w z =
        let o = array-elems 11 s at i c h l q j d k g p v w in
        let x = item-here 11 s j o.0 o.2 o.3 in
        let y = next_elem x.val x.others o.1 (ap decoded_elems (sym x.is) ∙ o.4) in
        let st : strings v ≡ each as_string (elems_of o.1) = ap strings (o.5 ∙ ap jarr (sym y.is)) ∙ strings-array y.val y.others ∙ ap (λ (es : Elems). each as_string (elems_of es)) y.is in
        let sz : size v ≡ size_elems o.1 = ap size o.5 ∙ array_size o.1 in
        subst (λ (x : Option (List Bytes)). AddAs b n t m a e r after u (capped m x)) (sym st) (f o.0 o.1 o.2 o.3 o.4 (omega (arith, z, sz)))

-- ---- the one string

sole-map : (o : Option Bytes) → chain (map (λ x. x ∷ []) o) sole ≡ o
sole-map none = refl
sole-map (some x) = refl

sole-as : (s : Bytes) (r : ℕ) (o : Option Bytes) → StringIs s r o → SoleIs s r o
sole-as s r none h = h
sole-as s r (some x) h = h

module _ (s : Bytes) (at i c : ℕ) (h : Passes is_space s at i) (l : c ≡ byte_at s i) where
  pub sole-one : (c ≡ 91 → ⊥) → (r : ℕ) → TellsString s at r → TellsSole s at r
  unfolding sole_in
  sole-one q r f v w =
      subst (SoleIs s r) (sym (ap (λ (o : Option (List Bytes)). chain o sole) (strings-other v (not-array 11 s at i c h l q v w)) ∙ sole-map (as_string v))) (sole-as s r (as_string v) (f 12 v w))

  module _ (q : c ≡ 91) (j d : ℕ) (k : Passes is_space s (i + 1) j) (g : d ≡ byte_at s j) where
    pub sole_none : d ≡ 93 → TellsSole s at 0
    unfolding sole_in
    sole_none p v w = subst (SoleIs s 0) (sym (ap (λ (o : Option (List Bytes)). chain o sole) (ap strings (empty-array 11 s at i c h l q j d k g p v w) ∙ strings-none))) refl

    module _ (p : d ≡ 93 → ⊥) (e : Part) (told : TellsElement 11 s j e) where
      two : (o o' : Option Bytes) (os : Option (List Bytes)) → chain (both ◌∷◌ o (both ◌∷◌ o' os)) sole ≡ none
      two none o' os = refl
      two (some x) none os = refl
      two (some x) (some y) none = refl
      two (some x) (some y) (some ys) = refl

      pub sole-many : (x : ℕ) → GivesT s e.end (sep 93 zero suc (drop e.end s)) (Continue x) → TellsSole s at 0
      unfolding sole_in
      sole-many x y v w =
          let o = array-elems 11 s at i c h l q j d k g p v w in
          let z = item-here 11 s j o.0 o.2 o.3 in
          let u = elems-on 11 s j o.0 o.2 o.3 z e.end (elem-stands 11 s j o.0 z e told).0 x y in
          let a = next_elem z.val u.0 o.1 (ap decoded_elems u.2 ∙ o.4) in
          let z2 = item-here 11 s x u.0 o.2 u.1 in
          let a2 = next_elem z2.val z2.others a.others (ap decoded_elems (sym z2.is) ∙ a.is-others) in
          let st : strings v ≡ both ◌∷◌ (as_string a.val) (both ◌∷◌ (as_string a2.val) (each as_string (elems_of a2.others))) =
          ap strings (o.5 ∙ ap jarr (sym a.is)) ∙ strings-array a.val a.others ∙ ap (each as_string) (elems-cons a.val a.others) ∙ each-cons a.val (elems_of a.others)
          ∙ ap (λ (es : Elems). both ◌∷◌ (as_string a.val) (each as_string (elems_of es))) (sym a2.is)
          ∙ ap (λ (es : List Json). both ◌∷◌ (as_string a.val) (each as_string es)) (elems-cons a2.val a2.others)
          ∙ ap (both ◌∷◌ (as_string a.val)) (each-cons a2.val (elems_of a2.others)) in
          subst (SoleIs s 0) (sym (ap (λ (o : Option (List Bytes)). chain o sole) st ∙ two (as_string a.val) (as_string a2.val) (each as_string (elems_of a2.others)))) refl

      single : (o : Option Bytes) → chain (both ◌∷◌ o (some [])) sole ≡ o
      single none = refl
      single (some x) = refl

      pub sole-elem : (x : Read) → GivesT s e.end (sep 93 zero suc (drop e.end s)) (Break x) → (r : ℕ) → TellsString s e.start r → TellsSole s at r
      unfolding sole_in
      sole-elem x y r f v w =
          let o = array-elems 11 s at i c h l q j d k g p v w in
          let z = item-here 11 s j o.0 o.2 o.3 in
          let es = elem-stands 11 s j o.0 z e told in
          let u = elems-none 11 s j o.0 o.2 o.3 z e.end es.0 x y in
          let a = next_elem z.val enil o.1 (ap decoded_elems u ∙ o.4) in
          let st : strings v ≡ both ◌∷◌ (as_string a.val) (some []) =
          ap strings (o.5 ∙ ap jarr (sym a.is)) ∙ strings-array a.val a.others ∙ ap (each as_string) (elems-cons a.val a.others) ∙ each-cons a.val (elems_of a.others)
          ∙ ap (both ◌∷◌ (as_string a.val)) (ap (λ (es : Elems). each as_string (elems_of es)) (sym (enil-decoded a.others a.is-others)) ∙ ap (each as_string) elems-nil ∙ each_nil) in
          subst (SoleIs s r) (sym (ap (λ (o : Option (List Bytes)). chain o sole) st ∙ single (as_string a.val))) (sole-as s r (as_string a.val) (f 11 a.val (es.1 a.val a.is-val)))

-- ---- how long they are

flat-cons : (x : Bytes) (xs : List Bytes) → length (flat (x ∷ xs)) ≡ length x + length (flat xs)
unfolding flat
flat-cons x xs = length-append x (flat xs)

flat-nil : length (flat {A = ℕ} []) ≡ 0
unfolding flat
flat-nil = refl

each-size : (es : Elems) (ws : List Bytes) → each as_string (elems_of es) ≡ some ws → length (flat ws) ≤ size_elems es
unfolding flat
each-size enil ws q = let z : [] ≡ ws = some_same (sym (ap (each as_string) elems-nil ∙ each_nil) ∙ q) in subst (λ (y : List Bytes). length (flat y) ≤ size_elems enil) z (omega arith)
each-size (econs v es) ws q =
    let e : both ◌∷◌ (as_string v) (each as_string (elems_of es)) ≡ some ws = sym (ap (each as_string) (elems-cons v es) ∙ each-cons v (elems_of es)) ∙ q in
    let i = Rattle.text.proofs.Choices.both-inv ◌∷◌ (as_string v) (each as_string (elems_of es)) e in
    let h : length (flat i.1) ≤ size_elems es = each-size es i.1 i.3 in
    let k : length (flat ws) ≡ length i.0 + length (flat i.1) = ap (λ (y : List Bytes). length (flat y)) (sym i.4) ∙ flat-cons i.0 i.1 in
    omega (arith, k, h, string-size v i.0 i.2, size-cons v es)

pub strings-size : (v : Json) (ws : List Bytes) → strings v ≡ some ws → length (flat ws) ≤ size v
strings-size jnull ws q = none-some q
strings-size jtrue ws q = none-some q
strings-size jfalse ws q = none-some q
strings-size (jnum x) ws q = none-some q
strings-size (jstr x) ws q = let z : x ∷ [] ≡ ws = some_same q in omega (arith, ap (λ (y : List Bytes). length (flat y)) z, flat-cons x [], string-size (jstr x) x refl, flat-nil)
strings-size (jarr es) ws q =
    let i = chain-inv (each as_string (elems_of es)) (λ vs. provided (not (empty vs)) (some vs)) q in
    let j = provided-inv (not (empty i.0)) (some i.0) i.2 in
    omega (arith, each-size es i.0 i.1, ap (λ (y : List Bytes). length (flat y)) (some_same j.1), array_size es)
strings-size (jobj ms) ws q = none-some q

sole-flat : (ws : List Bytes) (x : Bytes) → sole ws ≡ some x → length x ≤ length (flat ws)
sole-flat [] x q = none-some q
sole-flat (w ∷ []) x q = omega (arith, ap length (some_same q), flat-cons w [])
sole-flat (w ∷ (v ∷ ws)) x q = none-some q

pub sole-size : (v : Json) (x : Bytes) → sole_in v ≡ some x → length x ≤ size v
unfolding sole_in
sole-size v x q = let i = chain-inv (strings v) sole q in omega (arith, strings-size v i.0 i.1, sole-flat i.0 x i.2)

-- ---- the group

module _ (b : Bytes) (n : ℕ) (s : Bytes) (at q : ℕ) (told : TellsSole s at q) where
  group-none : (after : Bytes) (o : Option Bytes) → o ≡ none → PutAs b n None after (chain o λ g. provided (is_lower_word g) (some g))
  group-none after none e = refl
  group-none after (some x) e = none-some (sym e)

  of-sole : (v : Json) (o : Option Bytes) → sole_in v ≡ o → SoleIs s q o → (q ≡ 0 → ⊥) → (x : Bytes) × (sole_in v ≡ some x) × (decoded_at s q ≡ some x)
  of-sole v none z h y = absurd (y h)
  of-sole v (some x) z h y = (x, z, h.1)

  pub no-group : q ≡ 0 → (after : Bytes) → PutsGroup b n s at None after
  unfolding group_of
  no-group e after v w l = by (sole_in v) (told v w)
    where
      by : (o : Option Bytes) → SoleIs s q o → PutAs b n None after (chain o λ g. provided (is_lower_word g) (some g))
      by none h = refl
      by (some x) h = absurd (omega (arith, h.0, e))

  module _ (y : q ≡ 0 → ⊥) (r : To) (after : Bytes) (p : Puts b n (text_at s q) r after) where
    grown : (v : Json) → json_at 12 s at ≡ some v → n + size v ≤ length b → (x : Bytes) × (sole_in v ≡ some x) × PutAs b n r after (some x)
    grown v w l =
        let o = of-sole v (sole_in v) refl (told v w) y in
        (o.0, o.1, put_as b n o.0 r after (omega (arith, sole-size v o.0 o.1, l)) (subst (λ (z : Bytes). Puts b n z r after) (text-some s q o.0 o.2) p))

    pub group-full : r ≡ None → PutsGroup b n s at None after
    group-full e v w l = let o = grown v w l in absurd (not_end (sym e ∙ o.2.1))

    module _ (k : ℕ) (e : r ≡ Some k) where
      pub group-in : Grew b n after k (text_at s q)
      group-in = subst (λ (z : To). Puts b n (text_at s q) z after) e p

      word : (v : Json) → json_at 12 s at ≡ some v → n + size v ≤ length b → (x : Bytes) × (sole_in v ≡ some x) × Grew b n after k x
      word v w l = let o = grown v w l in (o.0, o.1, subst (λ (z : ℕ). Grew b n after z o.0) (end_is (sym o.2.1 ∙ e)) o.2.2)

      part-is : (x : Bytes) → n ≤ length b → Grew b n after k x → take (k - n) (drop n after) ≡ x
      part-is x h g =
          let m : length (take n b) ≡ n = lib.Seq.length-take-le n b h in
          let z : k - n ≡ length x = omega (arith, g.to) in
          let f : after ≡ (take n b ++ x) ++ drop k after = sym (lib.ListN.take-append-drop k after) ∙ ap (λ (y : Bytes). y ++ drop k after) g.is in
          let f2 : after ≡ take n b ++ (x ++ drop k after) = f ∙ mathlib.Core.List.append_assoc (take n b) x (drop k after) in
          ap (λ (y : Bytes). take (k - n) (drop n y)) f2
          ∙ ap (take (k - n)) (lib.Seq.drop_at (take n b) (x ++ drop k after) n m)
          ∙ ap (λ (y : ℕ). take y (x ++ drop k after)) z
          ∙ lib.Seq.take-append_seam x (drop k after)

      pub group-other : n ≤ length b → is_lower_word (take (k - n) (drop n after)) ≡ false → PutsGroup b n s at None after
      unfolding group_of
      group-other h z v w l =
          let o = word v w l in
          let f : is_lower_word o.0 ≡ false = ap is_lower_word (sym (part-is o.0 h o.2)) ∙ z in
          subst (PutAs b n None after) (sym (ap (λ (y : Option Bytes). chain y λ g. provided (is_lower_word g) (some g)) o.1 ∙ ap (λ (y : Bool). provided y (some o.0)) f)) refl

      pub group-is : n ≤ length b → is_lower_word (take (k - n) (drop n after)) ≡ true → PutsGroup b n s at (Some k) after
      unfolding group_of
      group-is h z v w l =
          let o = word v w l in
          let f : is_lower_word o.0 ≡ true = ap is_lower_word (sym (part-is o.0 h o.2)) ∙ z in
          subst (PutAs b n (Some k) after) (sym (ap (λ (y : Option Bytes). chain y λ g. provided (is_lower_word g) (some g)) o.1 ∙ ap (λ (y : Bool). provided y (some o.0)) f)) (k, refl, o.2)
