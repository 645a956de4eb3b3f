-- Strings in slots, and tests of them.
use mathlib.Core.Path.{◌≡◌, refl, sym, ap, subst, ◌∙◌}
use mathlib.Core.Bool.{Bool, true, false}
use mathlib.Core.Option.{Option, none, some}
use Prim.Native.Nat.{ℕ}
use native.Mathlib.Omega.{arith}
use lib.Dec.{eqb}
use borrow.Author.Tests.{eq-eqb, ne_eqb, eqb-true}
use Rattle.text.specs.Choice.{with-some, chain, provided}
use Rattle.text.specs.Bytes.{Bytes, same}
use Rattle.json_text.specs.Tree.{Json, as_string}
use Rattle.json_strings.specs.Decoded.{decoded_at, spells}
use Rattle.json_index.specs.Index.{json_at, Slot}
use Rattle.convert.specs.FromJson.{is_text}
use Rattle.to_card_value.specs.Values.{StringIs, TellsString}
use Rattle.to_card_head.specs.Head.{TellsSame, FilledIn, filled_string}

-- ---- slots of any depth

pub slot-none : (d : ℕ) (s : Bytes) (x : ℕ) (o : Option Json) → Slot d s x o → x ≡ 0 → o ≡ none
slot-none d s x o h e = h.is ∙ rw (eq-eqb x 0 e)

pub slot-some : (d : ℕ) (s : Bytes) (x : ℕ) (o : Option Json) → Slot d s x o → (x ≡ 0 → ⊥) → (v : Json) × (o ≡ some v) × (json_at d s x ≡ some v)
slot-some d s x none h n = let z : eqb x 0 ≡ true = h.there in absurd (n (eqb-true x 0 z))
slot-some d s x (some v) h n = (v, refl, sym (h.is ∙ rw (ne_eqb x 0 n)))

-- ---- a string that meets a test

module _ (p : Bytes → Bool) (s : Bytes) (at q : ℕ) (t : TellsString s at q) (d : ℕ) (v : Json) (w : json_at d s at ≡ some v) where
  abbrev tested : Option Bytes → Option Bytes
  tested o = chain o λ x. provided (p x) (some x)

  pub test-none : q ≡ 0 → StringIs s 0 (chain (as_string v) λ x. provided (p x) (some x))
  test-none e = by (as_string v) (t d v w)
    where
      by : (o : Option Bytes) → StringIs s q o → StringIs s 0 (tested o)
      by none h = refl
      by (some x) h = absurd (omega (arith, h.0))

  module _ (n : q ≡ 0 → ⊥) (b : Bool) (told : (x : Bytes) → decoded_at s q ≡ some x → b ≡ p x) where
    pub test-fails : b ≡ false → StringIs s 0 (chain (as_string v) λ x. provided (p x) (some x))
    test-fails e = by (as_string v) (t d v w)
      where
        by : (o : Option Bytes) → StringIs s q o → StringIs s 0 (tested o)
        by none h = refl
        by (some x) h = let z : p x ≡ false = sym (told x h.1) ∙ e in rw z refl

    pub test-holds : b ≡ true → StringIs s q (chain (as_string v) λ x. provided (p x) (some x))
    test-holds e = by (as_string v) (t d v w)
      where
        by : (o : Option Bytes) → StringIs s q o → StringIs s q (tested o)
        by none h = absurd (n h)
        by (some x) h = let z : p x ≡ true = sym (told x h.1) ∙ e in rw z h

-- ---- a slot that must hold a string that is not empty

module _ (s : Bytes) (slot : ℕ) where
  pub filled-absent : slot ≡ 0 → FilledIn s slot 0
  filled-absent e o h = rw (slot-none 15 s slot o h e) refl

  module _ (n : slot ≡ 0 → ⊥) (r : ℕ) where
    pub filled-there : ((v : Json) → json_at 15 s slot ≡ some v → StringIs s r (filled_string v)) → FilledIn s slot r
    filled-there f o h =
        let v = slot-some 15 s slot o h n in
        subst (λ (x : Option Json). StringIs s r (chain x filled_string)) (sym v.1) (f v.0 v.2)

-- ---- a slot that must hold a given string

module _ (s : Bytes) (slot : ℕ) (bs : Bytes) where
  pub same-absent : slot ≡ 0 → TellsSame s slot bs false
  same-absent e o h = rw (slot-none 15 s slot o h e)

  module _ (n : slot ≡ 0 → ⊥) (q : ℕ) (t : TellsString s slot q) where
    by-string : (o : Option Json) → Slot 15 s slot o → (r : Bool) → ((x : Option Bytes) → StringIs s q x → r ≡ with-some x (same bs) false) → r ≡ with-some o (is_text bs) false
    by-string o h r f = let v = slot-some 15 s slot o h n in f (as_string v.0) (t 15 v.0 v.2) ∙ sym (ap (λ (x : Option Json). with-some x (is_text bs) false) v.1)

    pub same-no : q ≡ 0 → TellsSame s slot bs false
    same-no e o h = by-string o h false by
      where
        by : (x : Option Bytes) → StringIs s q x → false ≡ with-some x (same bs) false
        by none z = refl
        by (some x) z = absurd (omega (arith, z.0))

    pub same-is : (q ≡ 0 → ⊥) → (r : Bool) → r ≡ spells (decoded_at s q) bs → TellsSame s slot bs r
    same-is m r e o h = by-string o h r by
      where
        by : (x : Option Bytes) → StringIs s q x → r ≡ with-some x (same bs) false
        by none z = absurd (m z)
        by (some x) z = e ∙ ap (λ (y : Option Bytes). spells y bs) z.1
