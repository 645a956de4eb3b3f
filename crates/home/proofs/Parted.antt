-- A card's written lines: VERSION, UID, KIND, and the later ones; what holds of each section's lines holds of them all.
use mathlib.Core.Path.{◌≡◌}
use mathlib.Core.List.{List, [], ◌∷◌, ◌++◌, map, append_assoc}
use Rattle.text.specs.Bytes.{ascii}
use Rattle.line.specs.Grammar.{Line}
use Rattle.convert.specs.Table.{maps}
use Rattle.convert.specs.Model.{Card, has_parts}
use Rattle.convert.specs.Value.{write_name}
use Rattle.convert.specs.FromJson.{kept_as_line}
use Rattle.convert.specs.Property.{property}
use Rattle.convert.specs.ToCard.{where_filled, line_where, full_line, maps_lines, member_line, card_lines}
use Rattle.home.proofs.Alls.{All, all-joined}

abbrev pub version_line : Line
version_line = property (ascii "version") [] (ascii "4.0")

abbrev pub uid_line : Card → Line
uid_line c = property (ascii "uid") [] c.uid

abbrev pub kind_lines : Card → List Line
kind_lines c = where_filled c.kind (property (ascii "kind") [] c.kind)

abbrev pub name_lines : Card → List Line
name_lines c = line_where (has_parts c.parts) (property (ascii "n") [] (write_name c.parts))

abbrev pub later_lines : Card → List Line
later_lines c = full_line c ∷ (name_lines c ++ (maps_lines maps c.maps ++ (map member_line c.members ++ map kept_as_line c.kept)))

pub card-parted : (c : Card) → card_lines c ≡ version_line ∷ uid_line c ∷ (kind_lines c ++ later_lines c)
unfolding card_lines
card-parted c = simp append_assoc

-- ---- what holds of each line

pub later-each : (P : Line → Type 0) (c : Card) → P (full_line c) → All P (name_lines c) → All P (maps_lines maps c.maps) → All P (map member_line c.members) → All P (map kept_as_line c.kept)
    → All P (later_lines c)
later-each P c f n m j k =
    (f, all-joined P (name_lines c) _ n (all-joined P (maps_lines maps c.maps) _ m (all-joined P (map member_line c.members) (map kept_as_line c.kept) j k)))
