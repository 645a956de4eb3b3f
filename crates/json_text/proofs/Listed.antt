-- Members and elements as lists, and members by name.
use mathlib.Core.Path.{◌≡◌, refl, ap}
use mathlib.Core.Bool.{true, false}
use mathlib.Core.List.{List, [], ◌∷◌, ◌++◌}
use mathlib.Core.Option.{Option, none, some}
use Rattle.text.specs.Bytes.{Bytes, same}
use Rattle.text.proofs.Cases.{by_bool}
use Rattle.json_text.specs.Tree.{Json, Elems, enil, econs, Members, mnil, mcons, Member, member, members_of, elems_of, from_members, from_elems, field}

pub members-listed : (ms : List Member) → members_of (from_members ms) ≡ ms
unfolding members_of from_members
members-listed [] = refl
members-listed (member n j ∷ ms) = ap (λ (x : List Member). member n j ∷ x) (members-listed ms)

pub elems-listed : (js : List Json) → elems_of (from_elems js) ≡ js
unfolding elems_of from_elems
elems-listed [] = refl
elems-listed (j ∷ js) = ap (λ (x : List Json). j ∷ x) (elems-listed js)

pub listed-members : (ms : Members) → from_members (members_of ms) ≡ ms
unfolding members_of from_members
listed-members mnil = refl
listed-members (mcons n j ms) = ap (mcons n j) (listed-members ms)

pub listed-elems : (js : Elems) → from_elems (elems_of js) ≡ js
unfolding elems_of from_elems
listed-elems enil = refl
listed-elems (econs j js) = ap (econs j) (listed-elems js)

-- ---- by name

-- the first where there is one
abbrev pub either : Option Json → Option Json → Option Json
either (some j) x = some j
either none x = x

pub field-none : (n : Bytes) → field n [] ≡ none
unfolding field
field-none n = refl

pub field-append : (n : Bytes) (ms ns : List Member) → field n (ms ++ ns) ≡ either (field n ms) (field n ns)
unfolding field
field-append n [] ns = refl
field-append n (member m j ∷ ms) ns = by_bool (same m n) (λ e. rw e) (λ e. rw e (field-append n ms ns))

pub field-here : (n m : Bytes) (j : Json) (ms : List Member) → same m n ≡ true → field n (member m j ∷ ms) ≡ some j
unfolding field
field-here n m j ms e = rw e

pub field-later : (n m : Bytes) (j : Json) (ms : List Member) → same m n ≡ false → field n (member m j ∷ ms) ≡ field n ms
unfolding field
field-later n m j ms e = rw e
