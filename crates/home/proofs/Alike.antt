-- Which line converts depends on what is seen only by its tests: the flags, which ids and which members are there.
use mathlib.Core.Path.{◌≡◌, refl}
use mathlib.Core.Bool.{◌&&◌, not}
use mathlib.Core.List.{List, [], ◌∷◌}
use mathlib.Core.Option.{Option, none, some}
use Prim.Native.Nat.{ℕ}
use Rattle.text.specs.Choice.{with-some, provided}
use Rattle.text.specs.Bytes.{Bytes, ascii, any, among, lowered}
use Rattle.text.proofs.Choices.{chain_same}
use Rattle.line.specs.Grammar.{Param, Line}
use Rattle.line.specs.Params.{values_named, only_named, besides_value}
use Rattle.convert.specs.Table.{Slot, slot_of, reserved}
use Rattle.convert.specs.Pointer.{pointed}
use Rattle.convert.specs.Classify.{as-kept, is_id, Seen, sole, full_class, parts_class, member_name, member_class, key_from, entry_of, entry_class, classify}

pub record Alike (s t : Seen) : Type 0 where
  pub full : s.full ≡ t.full
  pub parts : s.parts ≡ t.parts
  pub ids : (i : ℕ) (k : Bytes) → any (is_id i k) s.ids ≡ any (is_id i k) t.ids
  pub members : (n : Bytes) → among n s.members ≡ among n t.members

with-same : {A B : Type 0} (x : Option A) (f g : A → B) (b : B) → ((a : A) → f a ≡ g a) → with-some x f b ≡ with-some x g b
with-same (some a) f g b h = h a
with-same none f g b h = refl

module _ (s t : Seen) (h : Alike s t) where
  full-alike : (l : Line) → full_class s l ≡ full_class t l
  unfolding full_class
  full-alike l = rw h.full

  parts-alike : (l : Line) → parts_class s l ≡ parts_class t l
  unfolding parts_class
  parts-alike l = rw h.parts

  new-alike : (n : Bytes) → provided (not (among n reserved) && not (among n s.members)) (some n) ≡ provided (not (among n reserved) && not (among n t.members)) (some n)
  new-alike n = rw (h.members n)

  name-alike : (ps : List Param) → member_name s ps ≡ member_name t ps
  unfolding member_name
  name-alike ps = chain_same (provided (only_named (ascii "jsptr" ∷ []) ps) (sole (values_named (ascii "jsptr") ps))) _ _ (λ p. chain_same (pointed p) _ _ new-alike)

  member_alike : (l : Line) → member_class s l ≡ member_class t l
  unfolding member_class
  member_alike l = rw (name-alike (besides_value l.params))

  key-alike : (i : ℕ) (ks : List Bytes) → key_from s i ks ≡ key_from t i ks
  key-alike i [] = refl
  key-alike i (k ∷ []) = rw (h.ids i k)
  key-alike i (k ∷ (j ∷ ks)) = refl

  entry-alike : (w : Slot) (l : Line) → entry_class s w l ≡ entry_class t w l
  unfolding entry_class entry_of
  entry-alike w l = rw (key-alike w.index (values_named (ascii "prop-id") (besides_value l.params)))

  pub classify-alike : (l : Line) → classify s l ≡ classify t l
  unfolding classify
  classify-alike l =
      rw (full-alike l, parts-alike l, member_alike l, with-same (slot_of (lowered l.name)) (λ w. entry_class s w l) (λ w. entry_class t w l) as-kept (λ w. entry-alike w l))
