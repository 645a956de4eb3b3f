-- A sound tree, as lists of members and elements.
use mathlib.Core.Path.{◌≡◌, refl, sym, ap, subst, ◌∙◌}
use mathlib.Core.Logic.{◌⊎◌, inl, inr}
use mathlib.Core.Bool.{true, false}
use mathlib.Core.List.{List, [], ◌∷◌, map}
use mathlib.Core.Option.{Option, none, some}
use Prim.Native.Nat.{ℕ, suc}
use Rattle.text.specs.Choice.{with-some}
use Rattle.text.specs.Bytes.{Bytes, same, among, distinct}
use Rattle.text.specs.Utf8.{utf8}
use Rattle.text.proofs.Cases.{by_bool, not-both}
use Rattle.text.proofs.Choices.{none-some, some_same}
use Rattle.text.proofs.Same.{same_true}
use Rattle.text.proofs.Lists.{all_head, all_tail}
use Rattle.json_text.specs.Tree.{Json, jnull, jtrue, jfalse, jnum, jstr, jarr, jobj, Elems, enil, econs, Members, mnil, mcons, Member, member, name_of, value_of, members_of, elems_of, field, as_string, as_array, as_object}
use Rattle.json_text.proofs.Sound.{Sound, SoundElems, SoundMembers}
use Rattle.convert.specs.FromJson.{only_members, optional}
use Rattle.home.proofs.Alls.{All}
use Rattle.home.proofs.Shapes.{names_of}

abbrev pub SoundMember : ℕ → Member → Type 0
SoundMember d m = (utf8 (name_of m) ≡ true) × Sound d (value_of m)

members-sound : (d : ℕ) (ms : Members) → SoundMembers d ms → All (SoundMember d) (members_of ms)
unfolding members_of
members-sound d mnil h = tt
members-sound d (mcons n j ms) h = ((h.0, h.1), members-sound d ms h.2)

elems-sound : (d : ℕ) (es : Elems) → SoundElems d es → All (Sound d) (elems_of es)
unfolding elems_of
elems-sound d enil h = tt
elems-sound d (econs j es) h = (h.0, elems-sound d es h.1)

-- ---- by the kind of value

pub string-sound : (d : ℕ) (j : Json) (s : Bytes) → Sound d j → as_string j ≡ some s → utf8 s ≡ true
string-sound d jnull s h e = none-some e
string-sound d jtrue s h e = none-some e
string-sound d jfalse s h e = none-some e
string-sound d (jnum x) s h e = none-some e
string-sound d (jstr t) s h e = rw (← some_same e) h
string-sound d (jarr es) s h e = none-some e
string-sound d (jobj ms) s h e = none-some e

pub array-sound : (d : ℕ) (j : Json) (js : List Json) → Sound d j → as_array j ≡ some js → (e : ℕ) × (d ≡ suc e) × All (Sound e) js
array-sound d jnull js h e = none-some e
array-sound d jtrue js h e = none-some e
array-sound d jfalse js h e = none-some e
array-sound d (jnum x) js h e = none-some e
array-sound d (jstr t) js h e = none-some e
array-sound d (jarr es) js h e = (h.0, h.1, subst (All (Sound h.0)) (some_same e) (elems-sound h.0 es h.2))
array-sound d (jobj ms) js h e = none-some e

pub object-sound : (d : ℕ) (j : Json) (ms : List Member) → Sound d j → as_object j ≡ some ms → (e : ℕ) × (d ≡ suc e) × (distinct (map name_of ms) ≡ true) × All (SoundMember e) ms
object-sound d jnull ms h e = none-some e
object-sound d jtrue ms h e = none-some e
object-sound d jfalse ms h e = none-some e
object-sound d (jnum x) ms h e = none-some e
object-sound d (jstr t) ms h e = none-some e
object-sound d (jarr es) ms h e = none-some e
object-sound d (jobj os) ms h e =
    let n : distinct (map name_of (members_of os)) ≡ true = ap distinct (sym (names_of os)) ∙ h.2 in
    (h.0, h.1, subst (λ (x : List Member). distinct (map name_of x) ≡ true) (some_same e) n, subst (All (SoundMember h.0)) (some_same e) (members-sound h.0 os h.3))

-- ---- members by name

pub field-sound : (d : ℕ) (n : Bytes) (ms : List Member) (j : Json) → All (SoundMember d) ms → field n ms ≡ some j → Sound d j
unfolding field
field-sound d n [] j h e = none-some e
field-sound d n (member m k ∷ ms) j h e =
    by_bool (same m n) (λ q. subst (Sound d) (some_same (rw q at e)) h.0.1) (λ q. field-sound d n ms j h.1 (rw q at e))

-- a member that may be absent: absent, or sound
pub optional-inv : {A : Type 0} (n : Bytes) (o : A) (f : Json → Option A) (ms : List Member) (a : A) → optional n o f ms ≡ some a
    → ((field n ms ≡ none) × (o ≡ a)) ⊎ ((j : Json) × (field n ms ≡ some j) × (f j ≡ some a))
optional-inv n o f ms a e = by (field n ms) refl e
  where
    by : (x : Option Json) → field n ms ≡ x → with-some x f (some o) ≡ some a → ((field n ms ≡ none) × (o ≡ a)) ⊎ ((j : Json) × (field n ms ≡ some j) × (f j ≡ some a))
    by (some j) q r = inr (j, q, r)
    by none q r = inl (q, some_same r)

-- what holds of the default, and of all that a sound value gives
pub optional-holds : {A : Type 0} (P : A → Type 0) (d : ℕ) (n : Bytes) (o : A) (f : Json → Option A) (ms : List Member) (a : A) → All (SoundMember d) ms
    → P o → ((j : Json) → Sound d j → f j ≡ some a → P a) → optional n o f ms ≡ some a → P a
optional-holds P d n o f ms a h p g e =
    elim (optional-inv n o f ms a e) [ inl q ↦ subst P q.1 p | inr q ↦ g q.0 (field-sound d n ms q.0 h q.1) q.2 ]

-- no member but these: none of another name
pub no_field : (ns : List Bytes) (n : Bytes) (ms : List Member) → only_members ns ms ≡ true → among n ns ≡ false → field n ms ≡ none
unfolding field only_members
no_field ns n [] h e = refl
no_field ns n (member m j ∷ ms) h e =
    by_bool (same m n)
    (λ q. not-both (subst (λ (x : Bytes). among x ns ≡ true) (same_true m n q) (all_head (λ m. among (name_of m) ns) (member m j) ms h)) e)
    (λ q. rw q (no_field ns n ms (all_tail (λ m. among (name_of m) ns) (member m j) ms h) e))
