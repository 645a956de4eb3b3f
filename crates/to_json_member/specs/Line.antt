-- A JSPROP line that converts, as a top-level member.
use Rattle.std.specs.Prelude.{◌≡◌, List, ℕ}
use Rattle.text.specs.Bytes.{Bytes}
use Rattle.json_text.specs.Tree.{Json, member}
use Rattle.output.specs.Put.{Wrote}
use Rattle.output.specs.Put.{Puts}
use Rattle.convert.specs.Classify.{Seen, as_member, member_class}
use Rattle.line_table.specs.Table.{line_in}
use Rattle.convert_params.specs.declared.Rows.{Rows}
use Rattle.convert_put.specs.Pieces.{member_bytes}
use Rattle.table_entry.specs.Key.{Rowed}

-- the table's line converts, for something seen before
pub record MemberLine (s : Bytes) (t : List ℕ) (R : Rows) : Type 0 where
  pub rowed : Rowed s t R
  pub seen : Seen
  pub name : Bytes
  pub value : Json
  pub is : member_class seen (line_in s t) ≡ as_member name value

-- for everything seen before
abbrev pub PutsMember : Bytes → Bytes → List ℕ → Wrote → Bytes → Type 0
PutsMember room s t r out = (seen : Seen) (n : Bytes) (j : Json) → member_class seen (line_in s t) ≡ as_member n j → Puts room (member_bytes (member n j)) r out
