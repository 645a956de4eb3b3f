-- What is read from a JSON text is sound; so compact text is stable.
use mathlib.Core.Path.{◌≡◌, refl, ap, subst, ◌∙◌}
use mathlib.Core.Bool.{true, false}
use mathlib.Core.List.{tail}
use mathlib.Core.Logic.{◌⊎◌, inl, inr}
use mathlib.Core.Option.{Option, none, some}
use Prim.Native.Nat.{ℕ, zero, suc}
use native.Mathlib.Omega.{arith}
use lib.ListN.{length}
use lib.Dec.{eqb}
use Rattle.text.specs.Choice.{pick, with-some, both}
use Rattle.text.specs.Bytes.{Bytes, is, distinct}
use Rattle.text.specs.Reader.{Got, got, bad, under, first, on, Step, more, last, loop}
use Rattle.text.proofs.Cases.{by_bool, and_left, and_right}
use Rattle.text.proofs.Choices.{some_same, map-inv, both-inv}
use Rattle.text.proofs.Readers.{not-bad, got-what, bind_inv, under-inv, on-inv, when-inv, Keeps, loop-keeps}
use Rattle.json_text.specs.Tree.{Json, jarr, jobj, Elems, enil, econs, Members, mnil, mcons}
use Rattle.json_text.specs.Syntax.{skip, token, characters, scalar, sep, name, item, elements, pair, pairs, value, text}
use Rattle.json_text.specs.Strings.{decode, decoded, decoded_elems, decoded_members, names, distinct_names, distinct_elems, distinct_members}
use Rattle.json_text.specs.Compact.{compact}
use Rattle.json_text.specs.Read.{tree, refused, sound, reading_of, reading}
use Rattle.json_text.proofs.Sound.{Sound, SoundElems, SoundMembers}
use Rattle.json_text.proofs.Decoded.{string-utf8}
use Rattle.json_text.proofs.Trees.{reading-compact}
use Rattle.json_text.proofs.Scalars.{Gives, scalar-gives}

abbrev GivesElems : ℕ → Elems → Type 0
GivesElems d us = (js : Elems) → decoded_elems us ≡ some js → distinct_elems js ≡ true → SoundElems d js

abbrev GivesMembers : ℕ → Members → Type 0
GivesMembers d us = (ns : Members) → decoded_members us ≡ some ns → distinct_members ns ≡ true → SoundMembers d ns

-- ---- arrays and objects, over what is read inside

sep-gives : {B : Type 0} (P : B → Type 0) (close : ℕ) (b : B) (g : B → B) (s : Bytes) (w : Step B) (t : Bytes) → P b → ((c : B) → P c → P (g c)) → sep close b g s ≡ got w t → Keeps P w
unfolding sep
sep-gives P close b g s w t p k e = by (on-inv (is close) _ _ (skip s) e)
  where
    by₁ : ((eqb (first (skip s)) 44 ≡ true) × (got (more g) (tail (skip s)) ≡ got w t)) ⊎ ((eqb (first (skip s)) 44 ≡ false) × (bad (skip s) ≡ got w t)) → Keeps P w
    by₁ (inl q) = subst (Keeps P) (got-what q.1) k
    by₁ (inr q) = absurd (not-bad q.1)

    by : ((eqb (first (skip s)) close ≡ true) × (got (last b) (tail (skip s)) ≡ got w t)) ⊎ ((eqb (first (skip s)) close ≡ false) × (on (is 44) (λ c t. got (more g) t) bad (skip s) ≡ got w t)) → Keeps P w
    by (inl q) = subst (Keeps P) (got-what q.1) p
    by (inr q) = by₁ (on-inv (is 44) _ _ (skip s) q.1)

gives-enil : (d : ℕ) → GivesElems d enil
unfolding decoded_elems decoded decoded_members
gives-enil d js e n = subst (SoundElems d) (some_same e) tt

gives-econs : (d : ℕ) (u : Json) (us : Elems) → Gives d u → GivesElems d us → GivesElems d (econs u us)
unfolding decoded_elems decoded decoded_members distinct_elems distinct_names distinct_members
gives-econs d u us h k js e n =
    let i = both-inv econs (decoded u) (decoded_elems us) e in
    let m = rw (← i.4) at n in
    subst (SoundElems d) i.4 (h i.0 i.2 (and_left _ _ m), k i.1 i.3 (and_right (distinct_names i.0) _ m))

gives-mnil : (d : ℕ) → GivesMembers d mnil
unfolding decoded_elems decoded decoded_members
gives-mnil d ns e n = subst (SoundMembers d) (some_same e) tt

-- a member's name was read as a string
name-inv : (s k t : Bytes) → name s ≡ got k t → (r : Bytes) × (w : Bytes) × (characters r ≡ got k w)
unfolding name
name-inv s k t e =
    let i = bind_inv (token 34 s) _ e in
    let j = bind_inv (characters i.1) _ i.3 in
    let l = bind_inv (token 58 j.1) _ j.3 in
    (i.1, j.1, j.2 ∙ ap (λ (x : Bytes). got x j.1) (got-what l.3))

gives-mcons : (d : ℕ) (s k t : Bytes) (u : Json) (us : Members) → characters s ≡ got k t → Gives d u → GivesMembers d us → GivesMembers d (mcons k u us)
unfolding decoded_elems decoded decoded_members distinct_elems distinct_names distinct_members
gives-mcons d s k t u us q h p ns e n =
    let i = both-inv (λ (f : Members → Members) rest. f rest) (both (λ n v rest. mcons n v rest) (decode k) (decoded u)) (decoded_members us) e in
    let j = both-inv (λ n v rest. mcons n v rest) (decode k) (decoded u) i.2 in
    let m : mcons j.0 j.1 i.1 ≡ ns = ap (λ (f : Members → Members). f i.1) j.4 ∙ i.4 in
    let w = rw (← m) at n in
    subst (SoundMembers d) m (string-utf8 s k t j.0 q j.2, h j.1 j.3 (and_left _ _ w), p i.1 i.3 (and_right (distinct_names j.1) _ w))

module _ (d : ℕ) (inside : (s : Bytes) (u : Json) (t : Bytes) → value d s ≡ got u t → Gives d u) where
  item-gives : (s : Bytes) (w : Step Elems) (t : Bytes) → item (value d) s ≡ got w t → Keeps (GivesElems d) w
  unfolding item
  item-gives s w t e =
      let i = bind_inv (value d s) _ e in
      let h = inside s i.0 i.1 i.2 in
      sep-gives (GivesElems d) 93 (econs i.0 enil) (econs i.0) i.1 w t (gives-econs d i.0 enil h (gives-enil d)) (λ us p. gives-econs d i.0 us h p) i.3

  elements-gives : (s : Bytes) (us : Elems) (t : Bytes) → elements (value d) s ≡ got us t → GivesElems d us
  unfolding elements
  elements-gives s us t e = by (on-inv (is 93) _ _ (skip s) e)
    where
      by : ((eqb (first (skip s)) 93 ≡ true) × (got enil (tail (skip s)) ≡ got us t)) ⊎ ((eqb (first (skip s)) 93 ≡ false) × (loop (item (value d)) (skip s) ≡ got us t)) → GivesElems d us
      by (inl q) = subst (GivesElems d) (got-what q.1) (gives-enil d)
      by (inr q) = loop-keeps (item (value d)) (GivesElems d) item-gives (skip s) us t q.1

  pair-gives : (s : Bytes) (w : Step Members) (t : Bytes) → pair (value d) s ≡ got w t → Keeps (GivesMembers d) w
  unfolding pair
  pair-gives s w t e =
      let i = bind_inv (name s) _ e in
      let j = bind_inv (value d i.1) _ i.3 in
      let k = name-inv s i.0 i.1 i.2 in
      let h = inside i.1 j.0 j.1 j.2 in
      sep-gives (GivesMembers d) 125 (mcons i.0 j.0 mnil) (mcons i.0 j.0) j.1 w t (gives-mcons d k.0 i.0 k.1 j.0 mnil k.2 h (gives-mnil d)) (λ us p. gives-mcons d k.0 i.0 k.1 j.0 us k.2 h p) j.3

  pairs-give : (s : Bytes) (us : Members) (t : Bytes) → pairs (value d) s ≡ got us t → GivesMembers d us
  unfolding pairs
  pairs-give s us t e = by (on-inv (is 125) _ _ (skip s) e)
    where
      by : ((eqb (first (skip s)) 125 ≡ true) × (got mnil (tail (skip s)) ≡ got us t)) ⊎ ((eqb (first (skip s)) 125 ≡ false) × (loop (pair (value d)) (skip s) ≡ got us t)) → GivesMembers d us
      by (inl q) = subst (GivesMembers d) (got-what q.1) (gives-mnil d)
      by (inr q) = loop-keeps (pair (value d)) (GivesMembers d) pair-gives (skip s) us t q.1

  gives_array : (us : Elems) → GivesElems d us → Gives (suc d) (jarr us)
  unfolding decoded decoded_elems decoded_members distinct_names distinct_elems distinct_members
  gives_array us h j e n = let i = map-inv jarr (decoded_elems us) e in subst (Sound (suc d)) i.2 (d, refl, h i.0 i.1 (rw (← i.2) at n))

  gives-object : (us : Members) → GivesMembers d us → Gives (suc d) (jobj us)
  unfolding decoded decoded_elems decoded_members distinct_names distinct_elems distinct_members
  gives-object us h j e n =
      let i = map-inv jobj (decoded_members us) e in
      let m = rw (← i.2) at n in
      subst (Sound (suc d)) i.2 (d, refl, and_left _ _ m, h i.0 i.1 (and_right (distinct (names i.0)) _ m))

  module _ (s : Bytes) (u : Json) (t : Bytes) where
    by-object : ((eqb (first s) 123 ≡ true) × (under jobj (pairs (value d) (tail s)) ≡ got u t)) ⊎ ((eqb (first s) 123 ≡ false) × (scalar s ≡ got u t)) → Gives (suc d) u
    by-object (inl w) = let i = under-inv jobj (pairs (value d) (tail s)) w.1 in subst (Gives (suc d)) i.2 (gives-object i.0 (pairs-give (tail s) i.0 t i.1))
    by-object (inr w) = scalar-gives (suc d) s u t w.1

    by-array : ((eqb (first s) 91 ≡ true) × (under jarr (elements (value d) (tail s)) ≡ got u t)) ⊎ ((eqb (first s) 91 ≡ false) × (on (is 123) (λ c t. under jobj (pairs (value d) t)) scalar s ≡ got u t)) → Gives (suc d) u
    by-array (inl w) = let i = under-inv jarr (elements (value d) (tail s)) w.1 in subst (Gives (suc d)) i.2 (gives_array i.0 (elements-gives (tail s) i.0 t i.1))
    by-array (inr w) = by-object (on-inv (is 123) _ _ s w.1)

-- ---- texts

value-gives : (d : ℕ) (s : Bytes) (u : Json) (t : Bytes) → value d s ≡ got u t → Gives d u
unfolding value
value-gives zero s u t e = scalar-gives zero (skip s) u t e
value-gives (suc d) s u t e = by-array d (value-gives d) (skip s) u t (on-inv (is 91) _ _ (skip s) e)

text-inv : (d : ℕ) (s : Bytes) (u : Json) (t : Bytes) → text d s ≡ got u t → (w : Bytes) × (value d s ≡ got u w)
unfolding text
text-inv d s u t e =
    let i = bind_inv (value d s) _ e in
    (i.1, i.2 ∙ ap (λ (x : Json). got x i.1) (by i.0 i.1 (when-inv (is 256) (got i.0) bad (skip i.1) i.3)))
  where
    by : (v : Json) (w : Bytes) → ((eqb (first (skip w)) 256 ≡ true) × (got v (skip w) ≡ got u t)) ⊎ ((eqb (first (skip w)) 256 ≡ false) × (bad (skip w) ≡ got u t)) → v ≡ u
    by v w (inl q) = got-what q.1
    by v w (inr q) = absurd (not-bad q.1)

not-refused : {n : ℕ} {j : Json} → refused n ≡ tree j → ⊥
not-refused e = let r : ◌≡◌ {A = ℕ} 0 1 = cc in omega arith

same-tree : {i j : Json} → tree i ≡ tree j → i ≡ j
same-tree e = cc

sound-inv : (u j : Json) → sound u ≡ tree j → (decoded u ≡ some j) × (distinct_names j ≡ true)
unfolding sound
sound-inv u j e = by (decoded u) refl e
  where
    by : (x : Option Json) → decoded u ≡ x → with-some x (λ k. pick (distinct_names k) (tree k) (refused 0)) (refused 0) ≡ tree j → (decoded u ≡ some j) × (distinct_names j ≡ true)
    by none q f = absurd (not-refused f)
    by (some k) q f =
        by_bool (distinct_names k) (λ n. let m = same-tree (rw n at f) in (q ∙ ap some m, rw (← m) n)) (λ n. absurd (not-refused (rw n at f)))

pub reading-sound : (d : ℕ) (s : Bytes) (j : Json) → reading d s ≡ tree j → Sound d j
unfolding reading
reading-sound d s j e = by (text d s) refl e
  where
    by : (x : Got Json) → text d s ≡ x → reading_of (length s) x ≡ tree j → Sound d j
    by (got u t) q f = let i = sound-inv u j f in value-gives d s u (text-inv d s u t q).0 (text-inv d s u t q).1 j i.0 i.1
    by (bad t) q f = absurd (not-refused f)

-- what was read, written compactly, reads the same
pub reading-stable : (d : ℕ) (s : Bytes) (j : Json) → reading d s ≡ tree j → reading d (compact j) ≡ tree j
reading-stable d s j e = reading-compact d j (reading-sound d s j e)
