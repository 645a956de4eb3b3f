-- The numbers of 01's table that contracts speak of, as `src/lib.rt` has them for code.
use Rattle.std.specs.Prelude.{ℕ}

-- the maps
abbrev pub map_count : ℕ
map_count = 7

-- the maps, and after them the pointers of JSPROP, or the members of a JSON card itself
abbrev pub group_count : ℕ
group_count = 8

-- slots of a JSON card's members: those up to the last map, and all, with that of other members
abbrev pub map_slots : ℕ
map_slots = 12

abbrev pub card_slots : ℕ
card_slots = 14

-- names of an entry's members
abbrev pub entry_slots : ℕ
entry_slots = 6

-- parameters that the converter looks at, and all others as one
abbrev pub param_kinds : ℕ
param_kinds = 8

-- values of TYPE
abbrev pub type_count : ℕ
type_count = 9

-- parts of N
abbrev pub part_count : ℕ
part_count = 7
