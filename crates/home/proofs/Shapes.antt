-- JSON values by their kind, members that may be absent, and lists that vanish where they are empty.
use mathlib.Core.Path.{◌≡◌, refl, ap}
use mathlib.Core.Bool.{Bool, true, not}
use mathlib.Core.List.{List, [], ◌∷◌, map}
use mathlib.Core.Option.{some}
use Rattle.text.specs.Choice.{with-some}
use Rattle.text.specs.Bytes.{Bytes, all, empty, same, distinct}
use Rattle.text.proofs.Cases.{by_bool, not-both, and_left, and_right}
use Rattle.text.proofs.Choices.{none-some, some_same}
use Rattle.json_text.specs.Tree.{Json, jnull, jtrue, jfalse, jnum, jstr, jarr, jobj, Elems, enil, econs, Members, mnil, mcons, Member, member, name_of, value_of, field, members_of, elems_of, as_string, as_number}
use Rattle.json_text.specs.Strings.{names, distinct_names, distinct_elems, distinct_members}
use Rattle.convert.specs.FromJson.{is_true}
use Rattle.convert.specs.ToJson.{where'}
use Rattle.convert.specs.NormalJson.{unless_gone, fields_of, items_of}
use Rattle.home.proofs.Known.{on_some}

-- ---- by kind

pub string-inv : (j : Json) (s : Bytes) → as_string j ≡ some s → j ≡ jstr s
string-inv jnull s e = none-some e
string-inv jtrue s e = none-some e
string-inv jfalse s e = none-some e
string-inv (jnum x) s e = none-some e
string-inv (jstr t) s e = ap jstr (some_same e)
string-inv (jarr es) s e = none-some e
string-inv (jobj ms) s e = none-some e

pub number-inv : (j : Json) (s : Bytes) → as_number j ≡ some s → j ≡ jnum s
number-inv jnull s e = none-some e
number-inv jtrue s e = none-some e
number-inv jfalse s e = none-some e
number-inv (jnum x) s e = ap jnum (some_same e)
number-inv (jstr t) s e = none-some e
number-inv (jarr es) s e = none-some e
number-inv (jobj ms) s e = none-some e

pub true-inv : (j : Json) → is_true j ≡ true → j ≡ jtrue
true-inv jnull e = not-both e refl
true-inv jtrue e = refl
true-inv jfalse e = not-both e refl
true-inv (jnum x) e = not-both e refl
true-inv (jstr t) e = not-both e refl
true-inv (jarr es) e = not-both e refl
true-inv (jobj ms) e = not-both e refl

-- ---- what goes where nothing is left of it

pub gone : {A : Type 0} (n : Bytes) (f : List A → Json) (xs : List A) (b : Bool) → b ≡ not (empty xs) → where' b (member n (f xs)) ≡ unless_gone n f xs
gone n f [] b e = rw e
gone n f (x ∷ xs) b e = rw e

-- ---- distinct names, of trees as lists

pub elems-distinct : (es : Elems) → distinct_elems es ≡ true → all distinct_names (elems_of es) ≡ true
unfolding distinct_elems elems_of all
elems-distinct enil h = refl
elems-distinct (econs j es) h = rw (and_left (distinct_names j) _ h) (elems-distinct es (and_right (distinct_names j) _ h))

pub members-distinct : (ms : Members) → distinct_members ms ≡ true → all (λ m. distinct_names (value_of m)) (members_of ms) ≡ true
unfolding distinct_members members_of all
members-distinct mnil h = refl
members-distinct (mcons n j ms) h = rw (and_left (distinct_names j) _ h) (members-distinct ms (and_right (distinct_names j) _ h))

pub names_of : (ms : Members) → names ms ≡ map name_of (members_of ms)
unfolding names members_of
names_of mnil = refl
names_of (mcons n j ms) = ap (λ (l : List Bytes). n ∷ l) (names_of ms)

pub array-distinct : (es : Elems) → distinct_names (jarr es) ≡ true → all distinct_names (elems_of es) ≡ true
unfolding distinct_names
array-distinct es h = elems-distinct es h

pub object-distinct : (ms : Members) → distinct_names (jobj ms) ≡ true → (distinct (map name_of (members_of ms)) ≡ true) × (all (λ m. distinct_names (value_of m)) (members_of ms) ≡ true)
unfolding distinct_names
object-distinct ms h = (rw (names_of ms) at (and_left (distinct (names ms)) _ h), members-distinct ms (and_right (distinct (names ms)) _ h))

-- a field's value is one of the values
pub field-passes : (p : Json → Bool) (n : Bytes) (ms : List Member) (j : Json) → all (λ m. p (value_of m)) ms ≡ true → field n ms ≡ some j → p j ≡ true
unfolding field all
field-passes p n [] j h e = none-some e
field-passes p n (member m v ∷ ms) j h e =
    by_bool (same m n)
    (λ t. rw (← some_same (rw t at e)) (and_left (p v) _ h))
    (λ t. field-passes p n ms j (and_right (p v) _ h) (rw t at e))

-- ---- distinct names below

pub items-distinct : (j : Json) → distinct_names j ≡ true → all distinct_names (items_of j) ≡ true
unfolding all
items-distinct jnull h = refl
items-distinct jtrue h = refl
items-distinct jfalse h = refl
items-distinct (jnum x) h = refl
items-distinct (jstr s) h = refl
items-distinct (jarr es) h = array-distinct es h
items-distinct (jobj ms) h = refl

pub fields-distinct : (j : Json) → distinct_names j ≡ true → all (λ m. distinct_names (value_of m)) (fields_of j) ≡ true
unfolding all
fields-distinct jnull h = refl
fields-distinct jtrue h = refl
fields-distinct jfalse h = refl
fields-distinct (jnum x) h = refl
fields-distinct (jstr s) h = refl
fields-distinct (jarr es) h = refl
fields-distinct (jobj ms) h = (object-distinct ms h).1

pub field-items : (n : Bytes) (ms : List Member) → all (λ m. distinct_names (value_of m)) ms ≡ true → all distinct_names (with-some (field n ms) items_of []) ≡ true
unfolding all
field-items n ms h = on_some (field n ms) (λ e. rw e) (λ j e. rw e (items-distinct j (field-passes distinct_names n ms j h e)))

pub field-fields : (n : Bytes) (ms : List Member) → all (λ m. distinct_names (value_of m)) ms ≡ true → all (λ m. distinct_names (value_of m)) (with-some (field n ms) fields_of []) ≡ true
unfolding all
field-fields n ms h = on_some (field n ms) (λ e. rw e) (λ j e. rw e (fields-distinct j (field-passes distinct_names n ms j h e)))

pub fields-names : (j : Json) → distinct_names j ≡ true → distinct (map name_of (fields_of j)) ≡ true
unfolding distinct
fields-names jnull h = refl
fields-names jtrue h = refl
fields-names jfalse h = refl
fields-names (jnum x) h = refl
fields-names (jstr s) h = refl
fields-names (jarr es) h = refl
fields-names (jobj ms) h = (object-distinct ms h).0
