-- One entry of vCardProps, and entries one after the other: what is promised on the way to `PutsKept`.
use Rattle.std.specs.Prelude.{◌≡◌, Bool, true, ◌&&◌, List, ℕ, ◌+◌, ◌-◌, ◌≤◌, length, drop, Err, Ok}
use Rattle.to_card_entry.specs.Rows.{Entering, entered}
use Rattle.to_card_pen.specs.Refusal.{no_card}
use Rattle.std.proofs.Math.Option.{some}
use borrow.Rule.Slice.PartMut.{mid_of, put_mid}
use Rattle.text.specs.Choice.{is_some}
use Rattle.text.specs.Bytes.{Bytes, all}
use Rattle.text.specs.Reader.{got, loop}
use Rattle.json_text.specs.Tree.{Json, Members, members_of, Elems, elems_of}
use Rattle.json_text.specs.Syntax.{item, value}
use Rattle.json_text.specs.Strings.{decoded_elems, distinct_names}
use Rattle.json_index.specs.Index.{json_at}
use Rattle.to_card_kept_entry.specs.strings.Strings.{size, size_elems}
use Rattle.line_table.specs.Table.{line_in}
use Rattle.convert.specs.Model.{Entry, has_parts}
use Rattle.convert.specs.Classify.{Seen, classify}
use Rattle.convert.specs.FromJson.{Name, is_kept}
use Rattle.to_card_lines.specs.Lines.{PartAs, parts_of, Laid, laid}
use Rattle.to_card_kept.specs.declared.KeptLine.{KeptLine}
use Rattle.std.specs.Prelude.{Option as Maybe, Some, None}
use Rattle.to_card_kept.specs.declared.Run.{Run}
use Rattle.to_card_kept.specs.declared.Run.TheVariants.{Ended, More}
use Rattle.to_card_kept.specs.Kept.{Known, seen_of, entry_part}

-- whatever is known of the text, and whatever its name is
abbrev pub ForKnown : Bytes → List ℕ → Bool → Bool → (Seen → Type 0) → Type 0
ForKnown s slots full parts P = (mm : Members) (ess : List (List Entry)) → Known s slots mm ess → (n : Name) → is_some n.full ≡ full → has_parts n.parts ≡ parts
    → P (seen_of n ess (members_of mm))

-- the line that the table holds is kept after all converted lines, or not
abbrev pub TellsKept : Bytes → List ℕ → Bytes → List ℕ → Bool → Bool → Bool → Type 0
TellsKept s slots b t full parts r = ForKnown s slots full parts λ seen. r ≡ is_kept (classify seen (line_in b t))

-- ---- one entry

-- it stands there, no two names in it are equal, and a buffer as long as the text has room for its strings
pub record EntryAt (s : Bytes) (at : ℕ) (j : Json) : Type 0 where
  pub stands : json_at 14 s at ≡ some j
  pub distinct : distinct_names j ≡ true
  pub room : size j + 5 ≤ length s

-- what became of it
abbrev pub Tried : Type 0
Tried = Maybe KeptLine

-- less how often the names of the card were asked for it
abbrev pub as_entered : Tried → Entering
as_entered (Some l) = entered l.bytes l.carries l.next
as_entered None = Err no_card

-- which is once at most
abbrev pub AskedOnce : Tried → Type 0
AskedOnce (Some l) = l.asked ≤ 1
AskedOnce None = Unit {0}

-- its line, less the place after the entry
abbrev pub as_lines : Entering → Laid
as_lines (Ok l) = laid l.bytes 1 l.carries
as_lines (Err e) = Err e

abbrev pub PutsEntry : Bytes → List ℕ → ℕ → Bool → Bool → Bytes → Laid → Bytes → Type 0
PutsEntry s slots at full parts room r after = (j : Json) → EntryAt s at j → ForKnown s slots full parts λ seen. PartAs room r after (entry_part seen j)

-- ---- entries one after the other

pub record EntriesAt (s : Bytes) (at : ℕ) (es : Elems) : Type 0 where
  pub units : Elems
  pub rest : Bytes
  pub is-units : loop (item (value 14)) (drop at s) ≡ got units rest
  pub is : decoded_elems units ≡ some es
  pub distinct : all distinct_names (elems_of es) ≡ true
  pub room : size_elems es + 5 ≤ length s

abbrev pub PutsFrom : Bytes → List ℕ → ℕ → Bool → Bool → Bytes → Laid → Bytes → Type 0
PutsFrom s slots at full parts room r after = (es : Elems) → EntriesAt s at es → ForKnown s slots full parts λ seen. PartAs room r after (parts_of (entry_part seen) (elems_of es))

-- ---- entries up to a number of questions

-- what is written is in the room, and the lines are so many at most
abbrev pub LinesWithin : ℕ → ℕ → Laid → Type 0
LinesWithin room most (Ok l) = (l.bytes ≤ room) × (l.lines ≤ most)
LinesWithin room most (Err e) = Unit {0}

-- each entry but the last has a comma after it, so that there are no more lines than bytes, and one
abbrev pub RunIn : ℕ → ℕ → ℕ → Run → Type 0
RunIn room text most (Ended r) = LinesWithin room (text + 1) r
RunIn room text most (More n lines ok at) = (n ≤ room) × (lines ≤ at) × (at ≤ text) × (most ≤ lines)

-- lines before others
abbrev pub before_lines : ℕ → ℕ → Bool → Laid → Laid
before_lines n lines ok (Ok l) = laid (n + l.bytes) (lines + l.lines) (ok && l.carries)
before_lines n lines ok (Err e) = Err e

-- all entries; or some, and whatever is then put of the others into the rest of the room makes up all
abbrev pub PutsRun : Bytes → List ℕ → ℕ → Bool → Bool → Bytes → Run → Bytes → Type 0
PutsRun s slots at full parts room (Ended r) after = PutsFrom s slots at full parts room r after
PutsRun s slots at full parts room (More n lines ok j) after = (r : Laid) (last : Bytes) → PutsFrom s slots j full parts (mid_of n (length after - n) after) r last
    → PutsFrom s slots at full parts room (before_lines n lines ok r) (put_mid n (length after - n) after last)
