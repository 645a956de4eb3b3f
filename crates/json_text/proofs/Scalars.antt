-- A scalar of a JSON text is sound.
use mathlib.Core.Path.{◌≡◌, subst}
use mathlib.Core.Bool.{true, false}
use mathlib.Core.List.{tail}
use mathlib.Core.Logic.{◌⊎◌, inl, inr}
use mathlib.Core.Option.{some}
use Prim.Native.Nat.{ℕ}
use lib.Dec.{eqb}
use Rattle.text.specs.Bytes.{Bytes, is}
use Rattle.text.specs.Reader.{got, under, first, on, when, one}
use Rattle.text.proofs.Choices.{some_same, map-inv}
use Rattle.text.proofs.Readers.{got-what, bind_inv, under-inv, on-inv, when-inv}
use Rattle.json_text.specs.Tree.{Json, jnull, jtrue, jfalse, jnum, jstr}
use Rattle.json_text.specs.Syntax.{characters, number, four, scalar}
use Rattle.json_text.specs.Strings.{decode, decoded, distinct_names}
use Rattle.json_text.proofs.Sound.{Sound}
use Rattle.json_text.proofs.Decoded.{string-utf8}

-- decoded and with distinct names, it is sound
abbrev pub Gives : ℕ → Json → Type 0
Gives d u = (j : Json) → decoded u ≡ some j → distinct_names j ≡ true → Sound d j

pub four-inv : (a b c d : ℕ) (j : Json) (s : Bytes) (u : Json) (t : Bytes) → four a b c d j s ≡ got u t → j ≡ u
unfolding four
four-inv a b c d j s u t e =
    let i = bind_inv (one a s) _ e in
    let k = bind_inv (one b i.1) _ i.3 in
    let l = bind_inv (one c k.1) _ k.3 in
    let m = bind_inv (one d l.1) _ l.3 in
    got-what m.3

gives-literals : (d : ℕ) → Gives d jnull × Gives d jtrue × Gives d jfalse
unfolding decoded
gives-literals d = (λ j e n. subst (Sound d) (some_same e) tt, λ j e n. subst (Sound d) (some_same e) tt, λ j e n. subst (Sound d) (some_same e) tt)

gives-number : (d : ℕ) (s x t : Bytes) → number s ≡ got x t → Gives d (jnum x)
unfolding decoded
gives-number d s x t e j q n = subst (Sound d) (some_same q) (s, t, e)

gives-string : (d : ℕ) (s us t : Bytes) → characters s ≡ got us t → Gives d (jstr us)
unfolding decoded
gives-string d s us t e j q n = let i = map-inv jstr (decode us) q in subst (Sound d) i.2 (string-utf8 s us t i.0 e i.1)

module _ (d : ℕ) (s : Bytes) (u : Json) (t : Bytes) where
  by-null : ((eqb (first s) 110 ≡ true) × (four 110 117 108 108 jnull s ≡ got u t)) ⊎ ((eqb (first s) 110 ≡ false) × (under jnum (number s) ≡ got u t)) → Gives d u
  by-null (inl w) = subst (Gives d) (four-inv 110 117 108 108 jnull s u t w.1) (gives-literals d).0
  by-null (inr w) = let i = under-inv jnum (number s) w.1 in subst (Gives d) i.2 (gives-number d s i.0 t i.1)

  by-false : ((eqb (first s) 102 ≡ true) × (four 97 108 115 101 jfalse (tail s) ≡ got u t)) ⊎ ((eqb (first s) 102 ≡ false) × (when (is 110) (four 110 117 108 108 jnull) (λ t. under jnum (number t)) s ≡ got u t)) → Gives d u
  by-false (inl w) = subst (Gives d) (four-inv 97 108 115 101 jfalse (tail s) u t w.1) (gives-literals d).2
  by-false (inr w) = by-null (when-inv (is 110) _ _ s w.1)

  by-true : ((eqb (first s) 116 ≡ true) × (four 116 114 117 101 jtrue s ≡ got u t))
      ⊎ ((eqb (first s) 116 ≡ false) × (on (is 102) (λ c t. four 97 108 115 101 jfalse t) (when (is 110) (four 110 117 108 108 jnull) (λ t. under jnum (number t))) s ≡ got u t)) → Gives d u
  by-true (inl w) = subst (Gives d) (four-inv 116 114 117 101 jtrue s u t w.1) (gives-literals d).1
  by-true (inr w) = by-false (on-inv (is 102) _ _ s w.1)

  by-string : ((eqb (first s) 34 ≡ true) × (under jstr (characters (tail s)) ≡ got u t))
      ⊎ ((eqb (first s) 34 ≡ false) × (when (is 116) (four 116 114 117 101 jtrue) (on (is 102) (λ c t. four 97 108 115 101 jfalse t) (when (is 110) (four 110 117 108 108 jnull) (λ t. under jnum (number t)))) s ≡ got u t)) → Gives d u
  by-string (inl w) = let i = under-inv jstr (characters (tail s)) w.1 in subst (Gives d) i.2 (gives-string d (tail s) i.0 t i.1)
  by-string (inr w) = by-true (when-inv (is 116) _ _ s w.1)

  pub scalar-gives : scalar s ≡ got u t → Gives d u
  unfolding scalar
  scalar-gives e = by-string (on-inv (is 34) _ _ s e)
