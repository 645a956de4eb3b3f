-- The pass over a card's lines: what holds after the first k of them, and what the pass answers.
use Rattle.std.specs.Prelude.{◌≡◌, Bool, true, false, List, [], ◌∷◌, ◌++◌, map, ℕ, ◌+◌, ◌*◌, ◌≤◌, ◌<◌, length, take, drop, set, Option, None}
use Rattle.std.proofs.Math.Option.{some}
use Rattle.text.specs.Bytes.{Bytes, each}
use Rattle.line.specs.Grammar.{Line, read_line}
use Rattle.line_unfold.specs.Table.{Laid}
use Rattle.line_table.specs.Spread.{spread_line, valued}
use Rattle.line_table.specs.Table.{line_in, table_length}
use Rattle.convert.specs.Classify.{Seen, Class, Classed, classed_after, classed}
use Rattle.convert.specs.Answers.{Answer, seek, at_line, first_from, ungrammatical, lines_of}
use Rattle.convert_entry.specs.Rows.{code_of}
use Rattle.class_member.specs.Member.{Room}
use Rattle.class_line.specs.declared.Class.{Class as Answered}
use Rattle.from_card_lines.specs.Classified.{Turned, Classified}
use Rattle.from_card_garbled.specs.Garbled.{OfLines}
use Rattle.served.specs.declared.Refusal.{Refusal}
use Rattle.from_card_refusals.specs.Judged.{judged, later_tests, answered}
use Rattle.from_card_refusals.specs.declared.Judged.{Judged}
use Rattle.from_card_seen.specs.declared.Settled.{Settled}
use Rattle.from_card_seen.specs.Ids.{IdTable, Remembers}
use Rattle.from_card_seen.specs.Settled.{Settles}
use Rattle.from_card_classes.specs.declared.Pass.{Pass}

abbrev pub lines_in : List Classed → List Line
lines_in cs = map (λ (c : Classed). c.line) cs

abbrev pub numbers_in : List Classed → List ℕ
numbers_in cs = map (λ (c : Classed). code_of c.class) cs

-- the tables before the k-th line, counted from 0
pub record Ready (bytes codes ids prints : List ℕ) (k : ℕ) (p : Pass) : Type 0 where
  pub table : IdTable bytes ids prints p.count
  pub few : p.count ≤ k
  pub keys : 3 * length codes ≤ length ids
  pub printed : length codes ≤ length prints

-- these lines are done: what is seen after them, and what that leaves of the classes of any further lines
pub record Sofar (bytes codes ids : List ℕ) (k : ℕ) (p : Pass) (done : List Classed) : Type 0 where
  pub counted : length done ≡ k
  pub seen : Seen
  pub left : (rest : List Line) → classed (lines_in done ++ rest) ≡ done ++ classed_after seen rest
  pub turned : Turned done
  pub numbers : take k codes ≡ numbers_in done
  pub judged : p.judged ≡ judged (lines_in done)
  pub full : seen.full ≡ p.full
  pub parts : seen.parts ≡ p.parts
  pub remembers : Remembers bytes ids p.count seen

-- the line's number is stored, and what it leaves behind is noted
pub record Noted (bytes s codes ids : List ℕ) (k : ℕ) (p : Pass) (j : Judged) (class : Answered) (codes' ids' prints' : List ℕ) (r : Pass) : Type 0 where
  pub ready : Ready bytes codes' ids' prints' (k + 1) r
  pub judged : r.judged ≡ j
  pub settled : Settled
  pub settles : Settles bytes s ids p.count p.full p.parts class ids' prints' settled
  pub stored : codes' ≡ set codes k settled.code
  pub full : r.full ≡ settled.full
  pub parts : r.parts ≡ settled.parts
  pub count : r.count ≡ settled.count

-- one line more, which the table t of its bytes s holds
pub record NextLine (bytes s t codes ids : List ℕ) (k : ℕ) (p : Pass) (codes' ids' prints' : List ℕ) (r : Pass) : Type 0 where
  pub ready : Ready bytes codes' ids' prints' (k + 1) r
  pub goes : (done : List Classed) → Sofar bytes codes ids k p done → (l : Line) → line_in s t ≡ spread_line l → valued l.params ≡ true
      → (c : Class) × Sofar bytes codes' ids' (k + 1) r (done ++ record { line = l; class = c } ∷ [])

-- the first k lines are by the grammar, and done
pub record Through (bytes codes ids : List ℕ) (raw : List Bytes) (k : ℕ) (p : Pass) : Type 0 where
  pub done : List Classed
  pub sofar : Sofar bytes codes ids k p done
  pub read : each read_line (take k raw) ≡ some (lines_in done)
  pub sought : first_from 1 ungrammatical raw ≡ first_from (k + 1) ungrammatical (drop k raw)

-- lines are laid there
abbrev pub HasLines : Bytes → List ℕ → ℕ → Type 0
HasLines bytes starts n = (raw : List Bytes) × Laid raw n bytes starts

-- the tables that the pass over n lines is lent: each line may leave a key, of three numbers, and its print
pub record Lent (codes ids prints table text bytes : List ℕ) (n : ℕ) : Type 0 where
  pub numbers : n ≤ length codes
  pub keys : 3 * length codes ≤ length ids
  pub printed : length codes ≤ length prints
  pub parts : table_length ≤ length table
  pub room : Room bytes text

abbrev pub fresh : Pass
fresh = record { judged = judged []; full = false; parts = false; count = 0 }

-- refusals 5 to 10 in 01's order, and the class of each line where none is given
pub record Passed (bytes starts codes : List ℕ) (n : ℕ) (r : Option Refusal) (raw : List Bytes) : Type 0 where
  pub refusals : (a : Answer) → seek (at_line 5 ungrammatical raw ∷ later_tests (lines_of raw)) a ≡ answered r a
  pub classes : r ≡ None → Classified bytes starts codes n (classed (lines_of raw))

abbrev pub Passes : Bytes → List ℕ → List ℕ → ℕ → Option Refusal → Type 0
Passes bytes starts codes n r = OfLines bytes starts n (Passed bytes starts codes n r)
