-- A line that is kept stays kept where more was seen.
use mathlib.Core.Path.{◌≡◌, refl, ap}
use mathlib.Core.Logic.{◌⊎◌, inl, inr}
use mathlib.Core.Bool.{Bool, true, false, ◌&&◌, not, and-false}
use mathlib.Core.List.{List, [], ◌∷◌}
use mathlib.Core.Option.{Option, none, some}
use Prim.Native.Nat.{ℕ}
use lib.Dec.{eqb}
use borrow.Author.Tests.{eqb-true}
use Rattle.text.specs.Choice.{with-some, chain, provided}
use Rattle.text.specs.Bytes.{Bytes, ascii, any, empty, same, among, lowered}
use Rattle.text.proofs.Cases.{by_bool, and_left, and_right, not-both}
use Rattle.text.proofs.Same.{same_true}
use Rattle.line.specs.Grammar.{Param, Line}
use Rattle.line.specs.Params.{values_named, only_named, value_type, besides_value}
use Rattle.convert.specs.Table.{Slot, slot_of, reserved}
use Rattle.convert.specs.Value.{is_key_text, takes_type}
use Rattle.convert.specs.Pointer.{pointed}
use Rattle.convert.specs.Classify.{Class, as-version, as-uid, as-kind, as_dropped, as-full, as_parts, as-entry, as_member, as-kept, Id, is_id, with_id, Seen, see, bare, is_derived, full_class, parts_class, sole, member_name, member_class, key_from, entry_of, entry_class, classify}
use Rattle.convert.specs.FromJson.{is_kept}

-- all that was seen in s was seen in t
pub record Covers (t s : Seen) : Type 0 where
  pub full : s.full ≡ true → t.full ≡ true
  pub parts : s.parts ≡ true → t.parts ≡ true
  pub ids : (i : ℕ) (k : Bytes) → any (is_id i k) s.ids ≡ true → any (is_id i k) t.ids ≡ true
  pub members : (n : Bytes) → among n s.members ≡ true → among n t.members ≡ true

-- what is not seen in t was not seen in s
unseen : {a b : Bool} → (a ≡ true → b ≡ true) → b ≡ false → a ≡ false
unseen {a} {b} f e = by_bool a (λ q. not-both (f q) e) (λ q. q)

not-kept {ℓ} : {P : Type ℓ} {c : Class} → is_kept c ≡ false → c ≡ as-kept → P
not-kept q e = not-both (ap is_kept e) q

module _ (t s : Seen) (h : Covers t s) (l : Line) where
  full-still : full_class s l ≡ as-kept → full_class t l ≡ as-kept
  unfolding full_class
  full-still e =
      by_bool (bare l && is_derived (besides_value l.params))
      (λ d. not-kept {c = as_dropped} refl (rw d at e))
      (λ d. by_bool t.full
      (λ f. rw (d, f, and-false (bare l && empty (besides_value l.params))))
      (λ f. let g : s.full ≡ false = unseen h.full f in rw (d, f) (rw (d, g) at e)))

  parts-still : parts_class s l ≡ as-kept → parts_class t l ≡ as-kept
  unfolding parts_class
  parts-still e =
      by_bool t.parts
      (λ f. rw (f, and-false (bare l && empty (besides_value l.params))))
      (λ f. let g : s.parts ≡ false = unseen h.parts f in rw f (rw g at e))

  -- a name or a key is the same, or it is none
  provided-still : (a : Bool) (b c : Bool) (x : Option Bytes) → (b ≡ true → c ≡ true) → (provided (a && not c) x ≡ none) ⊎ (provided (a && not c) x ≡ provided (a && not b) x)
  provided-still a b c x f =
      by_bool c (λ q. inl (rw (q, and-false a))) (λ q. let r : b ≡ false = unseen f q in inr (rw (q, r)))

  name-still : (ps : List Param) → (member_name t ps ≡ none) ⊎ (member_name t ps ≡ member_name s ps)
  unfolding member_name
  name-still ps = by (provided (only_named (ascii "jsptr" ∷ []) ps) (sole (values_named (ascii "jsptr") ps)))
    where
      new : Seen → Bytes → Option Bytes
      new u n = provided (not (among n reserved) && not (among n u.members)) (some n)

      of-name : (x : Option Bytes) → (chain x (new t) ≡ none) ⊎ (chain x (new t) ≡ chain x (new s))
      of-name (some n) = provided-still (not (among n reserved)) (among n s.members) (among n t.members) (some n) (h.members n)
      of-name none = inl refl

      by : (x : Option Bytes) → (chain x (λ p. chain (pointed p) (new t)) ≡ none) ⊎ (chain x (λ p. chain (pointed p) (new t)) ≡ chain x (λ p. chain (pointed p) (new s)))
      by (some p) = of-name (pointed p)
      by none = inl refl

  provided-none : {A : Type 0} (b : Bool) → provided {A = A} b none ≡ none
  provided-none true = refl
  provided-none false = refl

  member-still : member_class s l ≡ as-kept → member_class t l ≡ as-kept
  unfolding member_class
  member-still e =
      elim (name-still (besides_value l.params)) [ inl q ↦ rw (q, provided-none {A = Bytes} (bare l)) | inr q ↦ rw q e ]

  key-still : (i : ℕ) (ks : List Bytes) → (key_from t i ks ≡ none) ⊎ (key_from t i ks ≡ key_from s i ks)
  key-still i [] = inr refl
  key-still i (k ∷ []) = provided-still (is_key_text k) (any (is_id i k) s.ids) (any (is_id i k) t.ids) (some k) (h.ids i k)
  key-still i (k ∷ (j ∷ ks)) = inl refl

  entry-still : (w : Slot) → (entry_of t w l ≡ none) ⊎ (entry_of t w l ≡ entry_of s w l)
  unfolding entry_of
  entry-still w =
      let b : Bool = empty l.group && only_named w.map.parameters (besides_value l.params) && takes_type w.map.form (value_type l.params) in
      elim (key-still w.index (values_named (ascii "prop-id") (besides_value l.params))) [ inl q ↦ inl (rw q (provided-none b)) | inr q ↦ inr (rw q) ]

  slot-still : (w : Option Slot) → with-some w (λ w. entry_class s w l) as-kept ≡ as-kept → with-some w (λ w. entry_class t w l) as-kept ≡ as-kept
  unfolding entry_class
  slot-still (some w) e = elim (entry-still w) [ inl q ↦ rw q | inr q ↦ rw q e ]
  slot-still none e = refl

  pub still_kept : classify s l ≡ as-kept → classify t l ≡ as-kept
  unfolding classify
  still_kept e =
      let n : Bytes = lowered l.name in
      by_bool (same n (ascii "version")) (λ a. not-kept {c = as-version} refl (rw a at e))
      (λ a. by_bool (same n (ascii "uid")) (λ b. not-kept {c = as-uid l.value} refl (rw (a, b) at e))
      (λ b. by_bool (same n (ascii "kind")) (λ c. not-kept {c = as-kind (lowered l.value)} refl (rw (a, b, c) at e))
      (λ c. by_bool (same n (ascii "fn")) (λ d. rw (a, b, c, d) (full-still (rw (a, b, c, d) at e)))
      (λ d. by_bool (same n (ascii "n")) (λ f. rw (a, b, c, d, f) (parts-still (rw (a, b, c, d, f) at e)))
      (λ f. by_bool (same n (ascii "jsprop")) (λ g. rw (a, b, c, d, f, g) (member-still (rw (a, b, c, d, f, g) at e)))
      (λ g. rw (a, b, c, d, f, g) (slot-still (slot_of n) (rw (a, b, c, d, f, g) at e))))))))

-- ---- one line more

-- what a class leaves behind was seen in t
abbrev pub CoversClass : Seen → Class → Type 0
CoversClass t as-version = Unit {0}
CoversClass t (as-uid v) = Unit {0}
CoversClass t (as-kind v) = Unit {0}
CoversClass t as_dropped = Unit {0}
CoversClass t (as-full v) = t.full ≡ true
CoversClass t (as_parts ps) = t.parts ≡ true
CoversClass t (as-entry i e) = empty e.key ≡ false → any (is_id i e.key) t.ids ≡ true
CoversClass t (as_member n j) = among n t.members ≡ true
CoversClass t as-kept = Unit {0}

with-id : (t : Seen) (i : ℕ) (k : Bytes) (is : List Id) → (empty k ≡ false → any (is_id i k) t.ids ≡ true) → ((j : ℕ) (m : Bytes) → any (is_id j m) is ≡ true → any (is_id j m) t.ids ≡ true)
    → (j : ℕ) (m : Bytes) → any (is_id j m) (with_id i k is) ≡ true → any (is_id j m) t.ids ≡ true
unfolding any
with-id t i k is f g j m e =
    by_bool (empty k) (λ q. g j m (rw q at e))
    (λ q. by_bool (eqb j i && same m k)
    (λ r. rw (eqb-true j i (and_left (eqb j i) _ r), same_true m k (and_right (eqb j i) _ r)) (f q))
    (λ r. g j m (rw (q, r) at e)))

with-name : (t : Seen) (n : Bytes) (ns : List Bytes) → among n t.members ≡ true → ((m : Bytes) → among m ns ≡ true → among m t.members ≡ true)
    → (m : Bytes) → among m (n ∷ ns) ≡ true → among m t.members ≡ true
unfolding among any
with-name t n ns f g m e = by_bool (same m n) (λ q. rw (same_true m n q) f) (λ q. g m (rw q at e))

pub covers-see : (t s : Seen) (c : Class) → Covers t s → CoversClass t c → Covers t (see s c)
covers-see t s as-version h k = h
covers-see t s (as-uid v) h k = h
covers-see t s (as-kind v) h k = h
covers-see t s as_dropped h k = h
covers-see t s (as-full v) h k = record { full = λ e. k; parts = h.parts; ids = h.ids; members = h.members }
covers-see t s (as_parts ps) h k = record { full = h.full; parts = λ e. k; ids = h.ids; members = h.members }
covers-see t s (as-entry i e) h k = record { full = h.full; parts = h.parts; ids = with-id t i e.key s.ids k h.ids; members = h.members }
covers-see t s (as_member n j) h k = record { full = h.full; parts = h.parts; ids = h.ids; members = with-name t n s.members k h.members }
covers-see t s as-kept h k = h
