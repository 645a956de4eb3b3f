-- The answer of card to JSON in two steps: what the lines of a card become, and whether that has room.
use Rattle.std.specs.Prelude.{◌≡◌, ℕ, length}
use Rattle.text.specs.Choice.{with-some}
use Rattle.text.specs.Bytes.{Bytes}
use Rattle.convert.specs.Answers.{Answer, no, yes, seek, fitted, json_room, line_tests, lines_of, raw_lines}
use Rattle.convert.specs.FromCard.{card_of_lines}
use Rattle.convert.specs.ToJson.{print_json}
use Rattle.convert.specs.Served.{left_by}
use Rattle.served.specs.Served.{Outcome, outcome_of}

-- refusals 1, 3 (lines) and 4 to 10, else the JSON however long it is
unfoldable pub inner : Bytes → ℕ → Bytes → Answer
inner stem n s = with-some (raw_lines s) (λ raw. seek (line_tests raw (lines_of raw)) (yes (print_json (card_of_lines stem n (lines_of raw))))) (no 1 0)

-- refusals 3 (result) and 14
abbrev pub fit : ℕ → Answer → Answer
fit lent (no n p) = no n p
fit lent (yes r) = fitted json_room lent r

-- what the caller sees of an answer that has got its room
pub record Serves (out : Bytes) (a : Answer) (r : Outcome) (after : Bytes) : Type 0 where
  pub said : r ≡ outcome_of (fit (length out) a)
  pub left : after ≡ left_by out (fit (length out) a)
