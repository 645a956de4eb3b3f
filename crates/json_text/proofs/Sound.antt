-- Trees that a JSON text of depth d can give, and the same trees in units.
use mathlib.Core.Path.{◌≡◌, refl}
use mathlib.Core.Bool.{true}
use mathlib.Core.Option.{some}
use Prim.Native.Nat.{ℕ, suc}
use Rattle.text.specs.Bytes.{distinct}
use Rattle.text.specs.Utf8.{utf8}
use Rattle.json_text.specs.Tree.{Json, jnull, jtrue, jfalse, jnum, jstr, jarr, jobj, Elems, enil, econs, Members, mnil, mcons}
use Rattle.json_text.specs.Strings.{decoded, decoded_elems, decoded_members, names, distinct_names, distinct_elems, distinct_members}
use Rattle.json_text.proofs.Numbers.{Spelled}
use Rattle.json_text.proofs.Spelling.{units, decode-units}

-- strings in UTF-8, numbers as the grammar spells them, names of an object distinct, d levels at most
abbrev mutual
  pub Sound : ℕ → Json → Type 0
  Sound d jnull = Unit {0}
  Sound d jtrue = Unit {0}
  Sound d jfalse = Unit {0}
  Sound d (jnum x) = Spelled x
  Sound d (jstr s) = utf8 s ≡ true
  Sound d (jarr es) = (e : ℕ) × (d ≡ suc e) × SoundElems e es
  Sound d (jobj ms) = (e : ℕ) × (d ≡ suc e) × (distinct (names ms) ≡ true) × SoundMembers e ms

  pub SoundElems : ℕ → Elems → Type 0
  SoundElems d enil = Unit {0}
  SoundElems d (econs j es) = Sound d j × SoundElems d es

  pub SoundMembers : ℕ → Members → Type 0
  SoundMembers d mnil = Unit {0}
  SoundMembers d (mcons k j ms) = (utf8 k ≡ true) × Sound d j × SoundMembers d ms

-- ---- in units

abbrev mutual
  pub in_units : Json → Json
  in_units jnull = jnull
  in_units jtrue = jtrue
  in_units jfalse = jfalse
  in_units (jnum x) = jnum x
  in_units (jstr s) = jstr (units s)
  in_units (jarr es) = jarr (elems_in_units es)
  in_units (jobj ms) = jobj (members_in_units ms)

  pub elems_in_units : Elems → Elems
  elems_in_units enil = enil
  elems_in_units (econs j es) = econs (in_units j) (elems_in_units es)

  pub members_in_units : Members → Members
  members_in_units mnil = mnil
  members_in_units (mcons k j ms) = mcons (units k) (in_units j) (members_in_units ms)

mutual
  unfolding decoded decoded_elems decoded_members

  pub decoded-units : (j : Json) (d : ℕ) → Sound d j → decoded (in_units j) ≡ some j
  decoded-units jnull d h = refl
  decoded-units jtrue d h = refl
  decoded-units jfalse d h = refl
  decoded-units (jnum x) d h = refl
  decoded-units (jstr s) d h = rw (decode-units s h)
  decoded-units (jarr es) d h = rw (elems-units es h.0 h.2)
  decoded-units (jobj ms) d h = rw (members-units ms h.0 h.3)

  elems-units : (es : Elems) (d : ℕ) → SoundElems d es → decoded_elems (elems_in_units es) ≡ some es
  elems-units enil d h = refl
  elems-units (econs j es) d h = rw (decoded-units j d h.0, elems-units es d h.1)

  members-units : (ms : Members) (d : ℕ) → SoundMembers d ms → decoded_members (members_in_units ms) ≡ some ms
  members-units mnil d h = refl
  members-units (mcons k j ms) d h = rw (decode-units k h.0, decoded-units j d h.1, members-units ms d h.2)

-- ---- no two equal names

mutual
  unfolding distinct_names distinct_elems distinct_members

  pub sound-names : (j : Json) (d : ℕ) → Sound d j → distinct_names j ≡ true
  sound-names jnull d h = refl
  sound-names jtrue d h = refl
  sound-names jfalse d h = refl
  sound-names (jnum x) d h = refl
  sound-names (jstr s) d h = refl
  sound-names (jarr es) d h = elems-names es h.0 h.2
  sound-names (jobj ms) d h = rw h.2 (members-names ms h.0 h.3)

  elems-names : (es : Elems) (d : ℕ) → SoundElems d es → distinct_elems es ≡ true
  elems-names enil d h = refl
  elems-names (econs j es) d h = rw (sound-names j d h.0, elems-names es d h.1)

  members-names : (ms : Members) (d : ℕ) → SoundMembers d ms → distinct_members ms ≡ true
  members-names mnil d h = refl
  members-names (mcons k j ms) d h = rw (sound-names j d h.1, members-names ms d h.2)
