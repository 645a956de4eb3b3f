-- Whether an object has a member of a name.
use Rattle.std.specs.Prelude.{◌≡◌, Bool, false, List, map, ℕ, suc}
use Rattle.std.proofs.Math.Option.{some}
use Rattle.text.specs.Choice.{with-some}
use Rattle.text.specs.Bytes.{Bytes, among}
use Rattle.json_text.specs.Tree.{Json, Member, name_of, as_object}
use Rattle.json_walk.specs.Walk.{json_at}

-- a member has that name
abbrev pub named : Bytes → List Member → Bool
named n ms = among n (map name_of ms)

-- the value is an object with such a member
abbrev pub has_name : Bytes → Json → Bool
has_name n v = with-some (as_object v) (named n) false

-- of whatever value stands at a place
abbrev pub HasMember : ℕ → Bytes → ℕ → Bytes → Bool → Type 0
HasMember d s at n r = (v : Json) → json_at (suc d) s at ≡ some v → r ≡ has_name n v
