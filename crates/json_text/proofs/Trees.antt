-- A compact tree is read back.
use mathlib.Core.Path.{◌≡◌, refl, ◌∙◌}
use mathlib.Core.Bool.{true}
use mathlib.Core.List.{[], ◌∷◌, ◌++◌}
use Prim.Native.Nat.{ℕ, suc}
use Rattle.text.specs.Bytes.{Bytes, between}
use Rattle.text.specs.Utf8.{utf8}
use Rattle.text.specs.Reader.{got, when, Step, turns, past}
use Rattle.text.proofs.Readers.{takes-moves, loop-enough, turns_more, turns-last}
use Rattle.json_text.specs.Tree.{Json, jnull, jtrue, jfalse, jnum, jstr, jarr, jobj, Elems, enil, econs, Members, mnil, mcons}
use Rattle.json_text.specs.Grammar.{is_e}
use Rattle.json_text.specs.Syntax.{skip, sep, item, elements, pair, pairs, value, text}
use Rattle.json_text.specs.Compact.{spelled_all, quoted, written, written_elems, elems_after, written_members, members_after, compact}
use Rattle.json_text.specs.Read.{tree, sound, reading}
use Rattle.json_text.proofs.Takes.{takes-item, takes-pair, takes-value}
use Rattle.json_text.proofs.Spelling.{units, characters-spelled}
use Rattle.json_text.proofs.Numbers.{Stops, Spelled, number-again, number-first}
use Rattle.json_text.proofs.Sound.{Sound, SoundElems, SoundMembers, in_units, elems_in_units, members_in_units, decoded-units, sound-names}
use Rattle.json_text.proofs.Values.{sep-close, sep-comma, name-read, lit-null, lit-true, lit-false, a-string, an-array, an-object, a-number, no-elems, no_pairs, some_pairs, some-elems, begins, stops-elems, stops-members, Begins}

-- how many turns the loops take
abbrev elem_turns : Elems → ℕ
elem_turns enil = 1
elem_turns (econs j es) = suc (elem_turns es)

abbrev member_turns : Members → ℕ
member_turns mnil = 1
member_turns (mcons k j ms) = suc (member_turns ms)

-- what the loops read, from an item on
abbrev Items : ℕ → Json → Elems → Bytes → Type 0
Items d j es t = turns (item (value d)) (elem_turns es) (written j (elems_after es t)) ≡ got (econs (in_units j) (elems_in_units es)) t

abbrev Pairs : ℕ → Bytes → Json → Members → Bytes → Type 0
Pairs d k j ms t = turns (pair (value d)) (member_turns ms) (quoted k (58 ∷ written j (members_after ms t))) ≡ got (mcons (units k) (in_units j) (members_in_units ms)) t

-- ---- one turn

item-turn : (d : ℕ) (j u : Json) (s t : Bytes) (w : Step Elems) (r : Bytes) → value d s ≡ got u t → sep 93 (econs u enil) (econs u) t ≡ got w r → item (value d) s ≡ got w r
unfolding item
item-turn d j u s t w r e h = rw (e, h)

pair_turn : (d : ℕ) (k : Bytes) (u : Json) (s t : Bytes) (w : Step Members) (r : Bytes) → utf8 k ≡ true → value d s ≡ got u t
    → sep 125 (mcons (units k) u mnil) (mcons (units k) u) t ≡ got w r → pair (value d) (quoted k (58 ∷ s)) ≡ got w r
unfolding pair
pair_turn d k u s t w r b e h = rw (name-read k s b, e, h)

-- ---- the loops, by enough turns

all-elems : (d : ℕ) (j : Json) (es : Elems) (t : Bytes) → Begins (written j (elems_after es t)) → Items d j es t
    → elements (value d) (written j (elems_after es t)) ≡ got (econs (in_units j) (elems_in_units es)) t
all-elems d j es t b h =
    some-elems (value d) (written j (elems_after es t)) b
    ∙ loop-enough (item (value d)) (takes-moves (item (value d)) (takes-item (value d) (takes-value d))) (elem_turns es) (written j (elems_after es t)) _ t h

all-pairs : (d : ℕ) (k : Bytes) (j : Json) (ms : Members) (t : Bytes) → Pairs d k j ms t
    → pairs (value d) (quoted k (58 ∷ written j (members_after ms t))) ≡ got (mcons (units k) (in_units j) (members_in_units ms)) t
all-pairs d k j ms t h =
    some_pairs (value d) k (58 ∷ written j (members_after ms t))
    ∙ loop-enough (pair (value d)) (takes-moves (pair (value d)) (takes-pair (value d) (takes-value d))) (member_turns ms) _ _ t h

-- ---- the round trip

a-number-again : (d : ℕ) (x t : Bytes) → Spelled x → Stops t → value d (x ++ t) ≡ got (jnum x) t
a-number-again d x t o p = a-number d (x ++ t) (number-first x t o) ∙ rw (number-again x t o p)

a-string-again : (d : ℕ) (s t : Bytes) → utf8 s ≡ true → value d (quoted s t) ≡ got (jstr (units s)) t
unfolding quoted
a-string-again d s t o = a-string d (spelled_all s ++ 34 ∷ t) ∙ rw (characters-spelled s t o)

mutual
  unfolding written written_elems elems_after written_members members_after

  pub value_written : (j : Json) (d : ℕ) (t : Bytes) → Sound d j → Stops t → value d (written j t) ≡ got (in_units j) t
  value_written jnull d t o p = lit-null d t
  value_written jtrue d t o p = lit-true d t
  value_written jfalse d t o p = lit-false d t
  value_written (jnum x) d t o p = a-number-again d x t o p
  value_written (jstr s) d t o p = a-string-again d s t o
  value_written (jarr es) d t o p = rw o.1 (an-array o.0 (written_elems es t) ∙ rw (elems-written es o.0 t o.2))
  value_written (jobj ms) d t o p = rw o.1 (an-object o.0 (written_members ms t) ∙ rw (members-written ms o.0 t o.3))

  elems-written : (es : Elems) (d : ℕ) (t : Bytes) → SoundElems d es → elements (value d) (written_elems es t) ≡ got (elems_in_units es) t
  elems-written enil d t o = no-elems (value d) t
  elems-written (econs j es) d t o =
      all-elems d j es t (begins d j (elems_after es t) o.0) (items-written es d t o.1 j (value_written j d (elems_after es t) o.0 (stops-elems es t)))

  -- the items after j, for every j that reads
  items-written : (es : Elems) (d : ℕ) (t : Bytes) → SoundElems d es → (j : Json) → value d (written j (elems_after es t)) ≡ got (in_units j) (elems_after es t) → Items d j es t
  items-written enil d t o j e = turns-last (item (value d)) 0 _ t _ (item-turn d j (in_units j) _ (93 ∷ t) _ t e (sep-close _ _ t).0)
  items-written (econs i es) d t o j e =
      turns_more (item (value d)) (elem_turns es) _ (written i (elems_after es t)) (econs (in_units j)) _ t (item-turn d j (in_units j) _ (44 ∷ written i (elems_after es t)) _ (written i (elems_after es t)) e (sep-comma _ _ _).0)
      (items-written es d t o.1 i (value_written i d (elems_after es t) o.0 (stops-elems es t)))

  members-written : (ms : Members) (d : ℕ) (t : Bytes) → SoundMembers d ms → pairs (value d) (written_members ms t) ≡ got (members_in_units ms) t
  members-written mnil d t o = no_pairs (value d) t
  members-written (mcons k j ms) d t o =
      all-pairs d k j ms t (pairs-written ms d t o.2 k o.0 j (value_written j d (members_after ms t) o.1 (stops-members ms t)))

  pairs-written : (ms : Members) (d : ℕ) (t : Bytes) → SoundMembers d ms → (k : Bytes) → utf8 k ≡ true → (j : Json)
      → value d (written j (members_after ms t)) ≡ got (in_units j) (members_after ms t) → Pairs d k j ms t
  pairs-written mnil d t o k b j e = turns-last (pair (value d)) 0 _ t _ (pair_turn d k (in_units j) _ (125 ∷ t) _ t b e (sep-close _ _ t).1)
  pairs-written (mcons l i ms) d t o k b j e =
      turns_more (pair (value d)) (member_turns ms) _ (quoted l (58 ∷ written i (members_after ms t))) (mcons (units k) (in_units j)) _ t
      (pair_turn d k (in_units j) _ (44 ∷ quoted l (58 ∷ written i (members_after ms t))) _ (quoted l (58 ∷ written i (members_after ms t))) b e (sep-comma _ _ _).1)
      (pairs-written ms d t o.2 l o.0 i (value_written i d (members_after ms t) o.1 (stops-members ms t)))

text-written : (d : ℕ) (j : Json) → Sound d j → text d (compact j) ≡ got (in_units j) []
unfolding text when skip past compact is_e between
text-written d j o = rw (value_written j d [] o (refl, refl, refl))

-- a sound tree in compact form reads as itself
pub reading-compact : (d : ℕ) (j : Json) → Sound d j → reading d (compact j) ≡ tree j
unfolding reading sound
reading-compact d j o = rw (text-written d j o, decoded-units j d o, sound-names j d o)
