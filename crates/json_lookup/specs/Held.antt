-- What the look-up means, by the text's tree.
use Rattle.std.specs.Prelude.{◌≡◌, [], length, leb}
use Rattle.std.proofs.Math.Option.{Option, none, some}
use Rattle.text.specs.Choice.{pick, chain}
use Rattle.text.specs.Bytes.{Bytes}
use Rattle.json_text.specs.Tree.{Json, as_object, field}
use Rattle.json_text.specs.Read.{Reading, tree, refused, reading}
use Rattle.json_text.specs.Lookup.{room, depth}

abbrev pub member_of : Bytes → Reading → Option Json
member_of m (tree j) = chain (as_object j) (field m)
member_of m (refused n) = none

-- The value of the top-level member named m: none where the text is over its room (3), no JSON (11), no object, or has no such member.
unfoldable pub value_of : Bytes → Bytes → Option Json
value_of s m = pick (leb (length s) room) (member_of m (reading depth s)) none

-- read alone, a part is that value; it is empty where there is none
abbrev pub Holds : Bytes → Option Json → Type 0
Holds part (some v) = reading 15 part ≡ tree v
Holds part none = part ≡ []
