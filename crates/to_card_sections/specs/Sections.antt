-- JSON to card, section by section: the head, the name, the maps, other members and the kept lines, each judged (12) where it is read. `sections-are` says
-- that these are the lines of `card_from_members`, and whether lines can carry them.
use Rattle.std.specs.Prelude.{List}
use Rattle.std.proofs.Math.Option.{Option, some}
use Rattle.text.specs.Choice.{both, chain}
use Rattle.text.specs.Bytes.{ascii, each}
use Rattle.json_text.specs.Tree.{Member, field}
use Rattle.convert.specs.Table.{maps}
use Rattle.convert.specs.Model.{Entry, Card}
use Rattle.convert.specs.Classify.{Seen}
use Rattle.convert.specs.FromJson.{Name, map_from}
use Rattle.convert.specs.Carry.{carried, carried_maps}
use Rattle.convert.specs.ToCard.{card_lines, maps_lines}
use Rattle.to_card_lines.specs.Lines.{Part, join_parts}
use Rattle.to_card_head.specs.Head.{head_from}
use Rattle.to_card_members.specs.Members.{members_part}
use Rattle.to_card_name.specs.Name.{name_lines, name_given}
use Rattle.to_card_kept.specs.Kept.{seen_of, kept_parts}

-- ---- the whole

abbrev pub name_in : List Member → Option Name
name_in ms = name_given (field (ascii "name") ms)

abbrev pub maps_part : List (List Entry) → Part
maps_part ess = record { lines = maps_lines maps ess; carried = carried_maps maps ess }

abbrev pub head_in : List Member → Option Part
head_in ms = head_from (field (ascii "@type") ms) (field (ascii "version") ms) (field (ascii "uid") ms) (field (ascii "kind") ms)

-- other members, then kept lines
unfoldable pub last_parts : Seen → List Member → Option Part
last_parts seen ms = both join_parts (members_part ms) (kept_parts seen (field (ascii "vCardProps") ms))

-- the maps, then these
unfoldable pub rest_parts : Name → List Member → Option Part
rest_parts n ms = chain (each (map_from ms) maps) λ ess. both join_parts (some (maps_part ess)) (last_parts (seen_of n ess ms) ms)

-- all after the head
unfoldable pub body_parts : List Member → Option Part
body_parts ms = chain (name_in ms) λ n. both join_parts (some (name_lines n)) (rest_parts n ms)

unfoldable pub sections : List Member → Option Part
sections ms = both join_parts (head_in ms) (body_parts ms)

-- the lines of a card, and whether lines can carry what it says
abbrev pub whole_of : Card → Part
whole_of c = record { lines = card_lines c; carried = carried c }
