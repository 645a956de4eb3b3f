-- Other top-level members as JSPROP lines.
use Rattle.std.specs.Prelude.{◌≡◌, false, List, [], ◌∷◌, ◌++◌, map, ℕ, ◌-◌, ◌≤◌, take, drop, Err, Ok}
use Rattle.std.proofs.Math.Option.{Option, some}
use Rattle.text.specs.Choice.{pick, chain, provided}
use Rattle.text.specs.Bytes.{Bytes, ascii, all, among}
use Rattle.text.specs.Reader.{got, loop}
use Rattle.json_text.specs.Tree.{Json, Members, Member, member, members_of, name_of, as_object}
use Rattle.json_text.specs.Syntax.{pair, value}
use Rattle.json_text.specs.Strings.{decoded_members}
use Rattle.json_text.specs.Compact.{compact}
use Rattle.json_compact.specs.Squeezed.{squeezed}
use Rattle.json_strings.specs.Decoded.{decoded_at}
use Rattle.json_index.specs.Index.{json_at}
use Rattle.line.specs.Text.{write_text}
use Rattle.line.specs.Write.{fold_from}
use Rattle.line_pen.specs.Pen.{Fills, Pens}
use Rattle.to_card_pen.specs.declared.Told.{Told}
use Rattle.convert.specs.Table.{reserved}
use Rattle.convert.specs.Value.{filled}
use Rattle.convert.specs.Pointer.{pointer}
use Rattle.convert.specs.FromJson.{other_members}
use Rattle.convert.specs.Carry.{carried_param}
use Rattle.convert.specs.ToCard.{member_line}
use Rattle.to_card_lines.specs.declared.Penned.{Penned}
use Rattle.to_card_lines.specs.Lines.{Part, PartAs, no_lines, parts_of, Laid}

-- some pointer is written, and whether a parameter can carry the name is told; it is that of the string, where it stands for bytes
pub record Points (s : Bytes) (at : ℕ) (room : Bytes) (column : ℕ) (r : Told) (after : Bytes) : Type 0 where
  pub text : Bytes
  pub is : (x : Bytes) → decoded_at s at ≡ some x → text ≡ x
  pub pens : Pens room column (pointer text) (record { bytes = r.bytes; column = r.column }) after
  pub carried : r.carried ≡ carried_param text

-- the line without its end
unfoldable pub member_bytes : Bytes → Bytes → Bytes
member_bytes k x = ((ascii "JSPROP;JSPTR=\"" ++ pointer k) ++ ascii "\":") ++ write_text false x

-- some JSPROP line is written; it is that of the name and of what stands from a to e, where the name stands for bytes
pub record MemberLine (s : Bytes) (name a e : ℕ) (room : Bytes) (r : Penned) (after : Bytes) : Type 0 where
  pub text : Bytes
  pub is : (x : Bytes) → decoded_at s name ≡ some x → text ≡ x
  pub fills : Fills room (fold_from 0 (member_bytes text (squeezed (take (e - a) (drop a s)))) ++ (13 ∷ 10 ∷ [])) r.bytes after
  pub carried : r.carried ≡ carried_param text

-- one line at most, in the room
abbrev pub OneIn : ℕ → Laid → Type 0
OneIn room (Ok l) = (l.bytes ≤ room) × (l.lines ≤ 1)
OneIn room (Err e) = Unit {0}

-- ---- what a member comes to

abbrev pub member_part : Member → Part
member_part m = record { lines = member_line m ∷ []; carried = carried_param (name_of m) }

-- nothing where another part of the card says it; 12 where its name is empty
unfoldable pub other_part : Member → Option Part
other_part m = pick (among (name_of m) reserved) (some no_lines) (provided (filled (name_of m)) (some (member_part m)))

-- all members in the words of `card_from_members`
unfoldable pub members_part : List Member → Option Part
members_part ms =
    provided (all (λ m. filled (name_of m)) ms)
    (some (record { lines = map member_line (other_members ms); carried = all (λ m. carried_param (name_of m)) (other_members ms) }))

abbrev pub PutsOther : Bytes → ℕ → ℕ → ℕ → Bytes → Laid → Bytes → Type 0
PutsOther s name a e room r after = (k : Bytes) (v : Json) → decoded_at s name ≡ some k → squeezed (take (e - a) (drop a s)) ≡ compact v
    → PartAs room r after (other_part (member k v))

abbrev pub PutsFrom : Bytes → ℕ → Bytes → Laid → Bytes → Type 0
PutsFrom s at room r after = (us ms : Members) (t : Bytes) → loop (pair (value 15)) (drop at s) ≡ got us t → decoded_members us ≡ some ms
    → PartAs room r after (parts_of other_part (members_of ms))

-- the members of the object that a text holds
abbrev pub PutsMembers : Bytes → Bytes → Laid → Bytes → Type 0
PutsMembers s room r after = (v : Json) → json_at 16 s 0 ≡ some v → PartAs room r after (chain (as_object v) members_part)
