-- The seven maps, one after the other.
use Rattle.std.specs.Prelude.{◌≡◌, List, [], ◌∷◌, ◌++◌, map, ℕ, ◌<◌, length, get_or, Err}
use Rattle.to_card_pen.specs.Refusal.{no_card}
use Rattle.std.proofs.Math.Option.{Option, none, some}
use Rattle.text.specs.Choice.{with-some, chain}
use Rattle.text.specs.Bytes.{Bytes, each}
use Rattle.json_text.specs.Tree.{Json, Member, as_object}
use Rattle.json_index.specs.Index.{Slot, Indexed}
use Rattle.line_pen.specs.Pen.{Fills}
use Rattle.convert.specs.Table.{Map, maps, reserved}
use Rattle.convert.specs.Model.{Entry}
use Rattle.convert.specs.FromJson.{entry_from, map_from}
use Rattle.convert.specs.Carry.{carried_maps}
use Rattle.convert.specs.ToCard.{maps_lines}
use Rattle.to_card_lines.specs.Lines.{lines_bytes, Laid, laid}
use Rattle.to_card_map.specs.Maps.{LinesAs}
use Rattle.card_table.specs.Numbers.{map_count}

-- the value in a slot as a map
abbrev pub value_as : Map → Option Json → Option (List Entry)
value_as m o = with-some o (λ j. chain (as_object j) (each (entry_from m))) (some [])

-- the row of the table at a place
abbrev pub PutsNth : Bytes → ℕ → ℕ → Bytes → Laid → Bytes → Type 0
PutsNth s k slot room r after = k < map_count → (d : Map) (o : Option Json) → Slot 15 s slot o → LinesAs (get_or maps k d) room r after (value_as (get_or maps k d) o)

-- 12, or the lines of all maps as far as there is room, how many they are, and whether lines can carry them (13)
abbrev pub MapsAs : List Map → Bytes → Laid → Bytes → Option (List (List Entry)) → Type 0
MapsAs ms room r after none = r ≡ Err no_card
MapsAs ms room r after (some ess) = (n : ℕ) × (r ≡ laid n (length (maps_lines ms ess)) (carried_maps ms ess)) × Fills room (lines_bytes (maps_lines ms ess)) n after

-- the slots are those of the members of an object, by the reserved names
abbrev pub PutsMaps : Bytes → List ℕ → Bytes → Laid → Bytes → Type 0
PutsMaps s slots room r after = (ms : List Member) → Indexed 15 s reserved slots ms → MapsAs maps room r after (each (map_from ms) maps)
