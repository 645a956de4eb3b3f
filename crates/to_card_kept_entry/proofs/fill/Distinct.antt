-- A tree in which no object has two equal names: its parts are such trees.
use mathlib.Core.Path.{◌≡◌, refl, ap, subst}
use mathlib.Core.Bool.{Bool, true}
use mathlib.Core.List.{List, [], ◌∷◌, map}
use mathlib.Core.Option.{some}
use Rattle.text.specs.Bytes.{Bytes, all, distinct, same}
use Rattle.text.proofs.Cases.{by_bool, and_left, and_right}
use Rattle.text.proofs.Choices.{none-some, some_same}
use Rattle.text.proofs.Lists.{all_head, all_tail, all_cons}
use Rattle.json_text.specs.Tree.{Json, jnull, jtrue, jfalse, jnum, jstr, jarr, jobj, Elems, enil, econs, Members, mnil, mcons, Member, member, name_of, value_of, members_of, elems_of, field, as_array, as_object}
use Rattle.json_text.specs.Strings.{names, distinct_names, distinct_elems, distinct_members}

elems-all : (es : Elems) → distinct_elems es ≡ true → all distinct_names (elems_of es) ≡ true
unfolding distinct_elems elems_of all
elems-all enil h = refl
elems-all (econs j es) h = all_cons distinct_names j (elems_of es) (and_left _ _ h) (elems-all es (and_right (distinct_names j) _ h))

abbrev of_value : Member → Bool
of_value m = distinct_names (value_of m)

members-all : (ms : Members) → distinct_members ms ≡ true → all of_value (members_of ms) ≡ true
unfolding distinct_members members_of all
members-all mnil h = refl
members-all (mcons k j ms) h = all_cons of_value (member k j) (members_of ms) (and_left _ _ h) (members-all ms (and_right (distinct_names j) _ h))

names-listed : (ms : Members) → names ms ≡ map name_of (members_of ms)
unfolding names members_of
names-listed mnil = refl
names-listed (mcons k j ms) = ap (λ (l : List Bytes). k ∷ l) (names-listed ms)

-- elements
pub elements-distinct : (j : Json) (js : List Json) → distinct_names j ≡ true → as_array j ≡ some js → all distinct_names js ≡ true
unfolding distinct_names
elements-distinct jnull js h e = none-some e
elements-distinct jtrue js h e = none-some e
elements-distinct jfalse js h e = none-some e
elements-distinct (jnum x) js h e = none-some e
elements-distinct (jstr x) js h e = none-some e
elements-distinct (jarr es) js h e = subst (λ (l : List Json). all distinct_names l ≡ true) (some_same e) (elems-all es h)
elements-distinct (jobj ms) js h e = none-some e

-- an object's own names, and its members' values
pub members-distinct : (j : Json) (ms : List Member) → distinct_names j ≡ true → as_object j ≡ some ms → (distinct (map name_of ms) ≡ true) × (all (λ m. distinct_names (value_of m)) ms ≡ true)
unfolding distinct_names
members-distinct jnull ms h e = none-some e
members-distinct jtrue ms h e = none-some e
members-distinct jfalse ms h e = none-some e
members-distinct (jnum x) ms h e = none-some e
members-distinct (jstr x) ms h e = none-some e
members-distinct (jarr es) ms h e = none-some e
members-distinct (jobj ns) ms h e = (
  subst (λ (l : List Member). distinct (map name_of l) ≡ true) (some_same e) (subst (λ (l : List Bytes). distinct l ≡ true) (names-listed ns) (and_left (distinct (names ns)) _ h)),
  subst (λ (l : List Member). all of_value l ≡ true) (some_same e) (members-all ns (and_right (distinct (names ns)) _ h)),
)

-- the value of a member
pub field-distinct : (n : Bytes) (ms : List Member) (v : Json) → all (λ m. distinct_names (value_of m)) ms ≡ true → field n ms ≡ some v → distinct_names v ≡ true
unfolding field
field-distinct n [] v h e = none-some e
field-distinct n (member k j ∷ ms) v h e =
    by_bool (same k n)
    (λ q. subst (λ (y : Json). distinct_names y ≡ true) (some_same (rw q at e)) (all_head of_value (member k j) ms h))
    (λ q. field-distinct n ms v (all_tail of_value (member k j) ms h) (rw q at e))
