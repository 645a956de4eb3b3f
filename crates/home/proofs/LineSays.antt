-- What a line's class says of the line alone, whatever was seen before it; and which lines have none.
use mathlib.Core.Path.{◌≡◌, refl, sym, ap, ◌∙◌}
use mathlib.Core.Bool.{Bool, true, false, ◌&&◌, not}
use mathlib.Core.List.{List, [], ◌∷◌}
use mathlib.Core.Option.{Option, none, some}
use Prim.Native.Nat.{ℕ}
use Rattle.text.specs.Choice.{with-some, provided}
use Rattle.text.specs.Bytes.{Bytes, ascii, any, empty, same, among, lowered}
use Rattle.text.proofs.Cases.{by_bool, and_left}
use Rattle.text.proofs.Choices.{none-some}
use Rattle.text.proofs.Same.{same_true}
use Rattle.line.specs.Grammar.{Param, param, Line}
use Rattle.line.specs.Params.{values_named, only_named, value_type, besides_value}
use Rattle.line.specs.Text.{read_text}
use Rattle.convert.specs.Table.{Slot, slot_of, reserved}
use Rattle.convert.specs.Value.{is_key_text, takes_type, read_name}
use Rattle.convert.specs.Pointer.{pointed}
use Rattle.convert.specs.Model.{Entry}
use Rattle.convert.specs.Classify.{Class, as-version, as-uid, as-kind, as_dropped, as-full, as_parts, as-entry, as_member, as-kept, Seen, nothing, is_id, bare, is_derived, full_class, parts_class, sole, member_name, member_value, member_class, key_from, entry_of, entry_class, classify}
use Rattle.convert.specs.Answers.{is_named}
use Rattle.home.specs.Allowed.{plain, only_derived, carries}
use Rattle.home.proofs.Known.{on_provided, on_chain, on_some}

-- ---- what converts after some lines converts by itself

key-alone : (s : Seen) (i : ℕ) (ks : List Bytes) (k : Bytes) → key_from s i ks ≡ some k → key_from nothing i ks ≡ some k
unfolding any
key-alone s i [] k e = e
key-alone s i (j ∷ []) k e = on_provided (is_key_text j && not (any (is_id i j) s.ids)) (some j) e λ t r. rw (and_left (is_key_text j) _ t) r
key-alone s i (j ∷ (l ∷ ks)) k e = none-some e

pub entry-alone : (s : Seen) (w : Slot) (l : Line) (e : Entry) → entry_of s w l ≡ some e → entry_of nothing w l ≡ some e
unfolding entry_of
entry-alone s w l e h =
    let ps : List Param = besides_value l.params in
    on_provided (empty l.group && only_named w.map.parameters ps && takes_type w.map.form (value_type l.params)) _ h λ t a.
    on_chain (key_from s w.index (values_named (ascii "prop-id") ps)) _ a λ k b c.
    rw (t, key-alone s w.index (values_named (ascii "prop-id") ps) k b) c

name-alone : (s : Seen) (ps : List Param) (n : Bytes) → member_name s ps ≡ some n → member_name nothing ps ≡ some n
unfolding member_name among any
name-alone s ps n e =
    on_chain (provided (only_named (ascii "jsptr" ∷ []) ps) (sole (values_named (ascii "jsptr") ps))) _ e λ p a b.
    on_chain (pointed p) _ b λ m c d.
    on_provided (not (among m reserved) && not (among m s.members)) (some m) d λ t r.
    rw (a, c, and_left (not (among m reserved)) _ t) r

-- ---- what a class says

abbrev pub Says : Line → Class → Type 0
Says l as-version = Unit {0}
Says l (as-uid v) = is_named (ascii "uid") l ≡ true
Says l (as-kind v) = is_named (ascii "kind") l ≡ true
Says l as_dropped = Unit {0}
Says l (as-full v) = (is_named (ascii "fn") l ≡ true) × (plain l ≡ true) × (read_text l.value ≡ some v)
Says l (as_parts ps) = (is_named (ascii "n") l ≡ true) × (plain l ≡ true) × (read_name l.value ≡ some ps)
Says l (as-entry i e) = (w : Slot) × (slot_of (lowered l.name) ≡ some w) × (w.index ≡ i) × (entry_of nothing w l ≡ some e)
Says l (as_member n j) = (is_named (ascii "jsprop") l ≡ true) × (bare l ≡ true) × (member_name nothing (besides_value l.params) ≡ some n) × (member_value l.value ≡ some j)
Says l as-kept = Unit {0}

module _ (s : Seen) (l : Line) where
  full-says : is_named (ascii "fn") l ≡ true → Says l (full_class s l)
  unfolding full_class
  full-says n =
      let o : Option Bytes = provided (plain l && not s.full) (read_text l.value) in
      by_bool (bare l && is_derived (besides_value l.params)) (λ d. rw d tt)
      (λ d. rw d (on_some o (λ e. rw e tt) (λ v e. rw e (on_provided (plain l && not s.full) (read_text l.value) e λ t r. (n, and_left (plain l) _ t, r)))))

  parts-says : is_named (ascii "n") l ≡ true → Says l (parts_class s l)
  unfolding parts_class
  parts-says n =
      let o : Option (List (List Bytes)) = provided (plain l && not s.parts) (read_name l.value) in
      on_some o (λ e. rw e tt) (λ ps e. rw e (on_provided (plain l && not s.parts) (read_name l.value) e λ t r. (n, and_left (plain l) _ t, r)))

  member-says : is_named (ascii "jsprop") l ≡ true → Says l (member_class s l)
  unfolding member_class
  member-says n =
      let o : Option Bytes = member_name s (besides_value l.params) in
      on_some (provided (bare l) o) (λ e. rw e tt)
      (λ m e. on_some (member_value l.value) (λ v. rw (e, v) tt) (λ j v. rw (e, v) (on_provided (bare l) o e λ t r. (n, t, name-alone s (besides_value l.params) m r, v))))

  entry-says : Says l (with-some (slot_of (lowered l.name)) (λ w. entry_class s w l) as-kept)
  unfolding entry_class
  entry-says =
      on_some (slot_of (lowered l.name)) (λ n. rw n tt)
      (λ w h. on_some (entry_of s w l) (λ n. rw (h, n) tt) (λ e q. rw (h, q) (w, h, refl, entry-alone s w l e q)))

  pub class-says : Says l (classify s l)
  unfolding classify
  class-says =
      by_bool (is_named (ascii "version") l) (λ a. rw a tt) λ a.
      by_bool (is_named (ascii "uid") l) (λ b. rw (a, b) b) λ b.
      by_bool (is_named (ascii "kind") l) (λ c. rw (a, b, c) c) λ c.
      by_bool (is_named (ascii "fn") l) (λ d. rw (a, b, c, d) (full-says d)) λ d.
      by_bool (is_named (ascii "n") l) (λ e. rw (a, b, c, d, e) (parts-says e)) λ e.
      by_bool (is_named (ascii "jsprop") l) (λ f. rw (a, b, c, d, e, f) (member-says f)) λ f.
      rw (a, b, c, d, e, f) entry-says

-- ---- the lines that come home, by their class

abbrev pub comes : Class → Bool
comes as-version = false
comes (as-uid v) = true
comes (as-kind v) = true
comes as_dropped = false
comes (as-full v) = true
comes (as_parts ps) = true
comes (as-entry i e) = true
comes (as_member n j) = true
comes as-kept = true

-- a value, or else kept
comes-with : {A : Type 0} (o : Option A) (f : A → Class) → ((a : A) → comes (f a) ≡ true) → comes (with-some o f as-kept) ≡ true
comes-with none f h = refl
comes-with (some a) f h = h a

module _ (s : Seen) (l : Line) where
  comes-full : comes (full_class s l) ≡ not (bare l && is_derived (besides_value l.params))
  unfolding full_class
  comes-full =
      by_bool (bare l && is_derived (besides_value l.params)) (λ d. rw d) (λ d. rw d (comes-with (provided (plain l && not s.full) (read_text l.value)) as-full (λ v. refl)))

  pub own-derived : (ps : List Param) → only_derived ps ≡ is_derived ps
  unfolding is_derived
  own-derived [] = refl
  own-derived (param n [] ∷ ps) = refl
  own-derived (param n (v ∷ []) ∷ ps) = refl
  own-derived (param n (v ∷ (w ∷ ws)) ∷ ps) = refl

  comes-parts : comes (parts_class s l) ≡ true
  unfolding parts_class
  comes-parts = comes-with (provided (plain l && not s.parts) (read_name l.value)) as_parts (λ ps. refl)

  comes-member : comes (member_class s l) ≡ true
  unfolding member_class
  comes-member =
      comes-with (provided (bare l) (member_name s (besides_value l.params))) (λ n. with-some (member_value l.value) (as_member n) as-kept) (λ n. comes-with (member_value l.value) (as_member n) (λ j. refl))

  comes-entry : comes (with-some (slot_of (lowered l.name)) (λ w. entry_class s w l) as-kept) ≡ true
  unfolding entry_class
  comes-entry = comes-with (slot_of (lowered l.name)) (λ w. entry_class s w l) (λ w. comes-with (entry_of s w l) (as-entry w.index) (λ e. refl))

  pub carries-class : carries l ≡ comes (classify s l)
  unfolding carries classify same
  carries-class =
      by_bool (is_named (ascii "version") l) (λ a. rw a) λ a.
      by_bool (is_named (ascii "uid") l) (λ b. rw (same_true (lowered l.name) (ascii "uid") b)) λ b.
      by_bool (is_named (ascii "kind") l) (λ c. rw (same_true (lowered l.name) (ascii "kind") c)) λ c.
      by_bool (is_named (ascii "fn") l) (λ d. rw (a, b, c, d) (ap (λ (x : Bool). not (bare l && x)) (own-derived (besides_value l.params)) ∙ sym comes-full)) λ d.
      by_bool (is_named (ascii "n") l) (λ e. rw (a, b, c, d, e) (sym comes-parts)) λ e.
      by_bool (is_named (ascii "jsprop") l) (λ f. rw (a, b, c, d, e, f) (sym comes-member)) λ f.
      rw (a, b, c, d, e, f) (sym comes-entry)
