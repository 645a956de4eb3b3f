-- JSON values as trees. Strings are byte strings; a number is its spelling.
use Rattle.std.specs.Prelude.{List, [], ◌∷◌}
use Rattle.std.proofs.Math.Option.{Option, none, some}
use Rattle.text.specs.Choice.{pick}
use Rattle.text.specs.Bytes.{Bytes, same}

mutual
  pub data Json : Type 0 where
    jnull jtrue jfalse : Json
    jnum : Bytes → Json
    jstr : Bytes → Json
    jarr : Elems → Json
    jobj : Members → Json

  pub data Elems : Type 0 where
    enil : Elems
    econs : Json → Elems → Elems

  pub data Members : Type 0 where
    mnil : Members
    mcons : Bytes → Json → Members → Members

-- ---- as lists

pub data Member : Type 0 where
  member : Bytes → Json → Member

unfoldable pub members_of : Members → List Member
members_of mnil = []
members_of (mcons n j ms) = member n j ∷ members_of ms

unfoldable pub elems_of : Elems → List Json
elems_of enil = []
elems_of (econs j es) = j ∷ elems_of es

unfoldable pub from_members : List Member → Members
from_members [] = mnil
from_members (member n j ∷ ms) = mcons n j (from_members ms)

unfoldable pub from_elems : List Json → Elems
from_elems [] = enil
from_elems (j ∷ js) = econs j (from_elems js)

abbrev pub object : List Member → Json
object ms = jobj (from_members ms)

abbrev pub array : List Json → Json
array js = jarr (from_elems js)

abbrev pub name_of : Member → Bytes
name_of (member n j) = n

abbrev pub value_of : Member → Json
value_of (member n j) = j

-- the value of the first member of that name
unfoldable pub field : Bytes → List Member → Option Json
field n [] = none
field n (member m j ∷ ms) = pick (same m n) (some j) (field n ms)

-- ---- by the kind of value

abbrev pub as_string : Json → Option Bytes
as_string jnull = none
as_string jtrue = none
as_string jfalse = none
as_string (jnum x) = none
as_string (jstr s) = some s
as_string (jarr es) = none
as_string (jobj ms) = none

abbrev pub as_number : Json → Option Bytes
as_number jnull = none
as_number jtrue = none
as_number jfalse = none
as_number (jnum x) = some x
as_number (jstr s) = none
as_number (jarr es) = none
as_number (jobj ms) = none

abbrev pub as_array : Json → Option (List Json)
as_array jnull = none
as_array jtrue = none
as_array jfalse = none
as_array (jnum x) = none
as_array (jstr s) = none
as_array (jarr es) = some (elems_of es)
as_array (jobj ms) = none

abbrev pub as_object : Json → Option (List Member)
as_object jnull = none
as_object jtrue = none
as_object jfalse = none
as_object (jnum x) = none
as_object (jstr s) = none
as_object (jarr es) = none
as_object (jobj ms) = some (members_of ms)
