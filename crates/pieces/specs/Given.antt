-- What the pieces give, for every input. What is left of a lent table is scratch, and nothing is said of it.
use Rattle.std.specs.Prelude.{◌≡◌, Bool, ◌&&◌, ◌||◌, List, [], ◌∷◌, ◌++◌, map, ℕ, zero, suc, ◌+◌, ◌<◌, eqb, leb, ltb, length}
use Rattle.std.proofs.Math.Option.{some}
use Rattle.text.specs.Choice.{pick, with-some, is_some}
use Rattle.text.specs.Bytes.{Bytes, ascii, flat}
use Rattle.json_text.specs.Compact.{quoted}
use Rattle.std.specs.Prelude.{Ok, Err}
use Rattle.json_read.specs.Verdict.{Verdict, verdict}
use Rattle.json_strings.specs.Decoded.{text_at}
use Rattle.json_compact.specs.Squeezed.{squeezed}
use Rattle.line.specs.Grammar.{Param, read_line}
use Rattle.line.specs.Params.{values_named}
use Rattle.line.specs.Write.{fold_from}
use Rattle.line_table.specs.Table.{table_length}
use Rattle.line_table.specs.Spread.{spread_line}
use Rattle.convert_types.specs.Marks.{marks, split}
use Rattle.convert_params.specs.Row.{values_kind}
use Rattle.card_table.specs.Numbers.{type_count}
use Rattle.line_text.specs.Read.{plain_text}
use Rattle.line_unfold.specs.Table.{Laid, line_at}
use Rattle.convert.specs.Answers.{raw_lines, line_room}
use Rattle.output.specs.Put.{put}

-- the parts from the k-th on, m of them
unfoldable pub parts_from : Bytes → List ℕ → ℕ → ℕ → List Bytes
parts_from bytes starts k zero = []
parts_from bytes starts k (suc m) = line_at bytes starts k ∷ parts_from bytes starts (suc k) m

-- ---- unfolding

-- how many unfolded lines one card has, where it has no more than are taken; else 0
unfoldable pub line_count : Bytes → ℕ
line_count card = with-some (raw_lines card) (λ raw. pick (leb (length raw) line_room) (length raw) 0) 0

-- the tables are too short: 513 places for where lines begin and the last ends, and as many bytes as the card has
unfoldable pub cramped : List ℕ → List ℕ → List ℕ → Bool
cramped out starts card = ltb (length starts) 513 || ltb (length out) (length card)

pub record UnfoldsCard (out starts card : List ℕ) (r : ℕ) (laid marked : List ℕ) : Type 0 where
  pub count : r ≡ pick (cramped out starts card) 0 (line_count card)
  pub lines : (raw : List Bytes) → raw_lines card ≡ some raw → 0 < r → Laid raw r laid marked

-- ---- lines taken apart

-- every parameter is one that the converter looks at (the kind 7 is any other), and every value of TYPE one of the table's nine
unfoldable pub known_params : List Param → Bool
known_params ps = eqb (length (values_kind 7 ps)) 0 && is_some (marks type_count (split (values_named (ascii "type") ps)) (0 ∷ 0 ∷ 0 ∷ 0 ∷ 0 ∷ 0 ∷ 0 ∷ 0 ∷ 0 ∷ []))

unfoldable pub passed : ℕ → List Param → ℕ
passed marks ps = pick (eqb marks 0) 1 (pick (known_params ps) 1 0)

-- how many lines pass, up to one that is no line
unfoldable pub parsed : ℕ → List Bytes → ℕ
parsed marks [] = 0
parsed marks (s ∷ ss) = with-some (read_line s) (λ l. passed marks (spread_line l).params + parsed marks ss) 0

unfoldable pub parsed_lines : List ℕ → Bytes → List ℕ → ℕ → ℕ → ℕ
parsed_lines table bytes starts n marks = pick (ltb (length table) table_length) 0 (parsed marks (parts_from bytes starts 0 n))

-- ---- reading

abbrev pub length_of : ℕ → Verdict → ℕ
length_of n (Ok u) = n
length_of n (Err f) = 0

-- the length of a text that is JSON of depth 16 at most and has room; else 0
unfoldable pub length_read : Bytes → ℕ
length_read s = length_of (length s) (verdict 16 s)

-- ---- writing

unfoldable pub folded_line : Bytes → Bytes
folded_line s = fold_from 0 s ++ 13 ∷ (10 ∷ [])

-- a part by the writer of that number
unfoldable pub written : ℕ → Bytes → Bytes
written w s =
    pick (eqb w 0) (plain_text s)
    (pick (eqb w 1) (folded_line s)
    (pick (eqb w 2) (quoted s []) (pick (eqb w 3) (text_at s 1) (pick (eqb w 4) (quoted (text_at s 1) []) (squeezed s)))))

-- all parts, one after the other
unfoldable pub written_parts : Bytes → List ℕ → ℕ → ℕ → Bytes
written_parts bytes starts n writer = flat (map (written writer) (parts_from bytes starts 0 n))

-- as much as there is room for, and the length where it is all
pub record PutsParts (room whole : Bytes) (r : ℕ) (out : Bytes) : Type 0 where
  pub said : r ≡ pick (leb (length whole) (length room)) (length whole) 0
  pub left : out ≡ put room whole
