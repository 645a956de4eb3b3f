-- Any functions in the places of the C calls, what their caller reads from what they give, and the machine that they make: demands 1 to 3 are claimed of these.
use Rattle.std.specs.Prelude.{Bool, not, ◌&&◌, ◌||◌, List, [], ◌∷◌, ℕ, length, get_or, take, leb, eqb}
use Rattle.text.specs.Choice.{pick}
use Rattle.text.specs.Bytes.{Bytes}
use Rattle.convert.specs.Answers.{Answer, no, yes}
use Rattle.convert.specs.Served.{Served}
use Rattle.stream.specs.Calls.{Call, piece, end, Shown, shows_more, shows, Turn, Machine}
use Rattle.c_calls.specs.Promise.{CardGives, JsonGives, Told, Called, StepGives, EndGives}

-- functions in the places of `thymebarrel_card_to_json`, `thymebarrel_json_to_card`, `thymebarrel_stream_step` and `thymebarrel_stream_end`
pub record Functions : Type 0 where
  pub card : (stem : Bytes) (number : ℕ) (card out : Bytes) → Served
  pub json : (json out : Bytes) → Served
  pub step : (row : List ℕ) (stem bytes buffer out : Bytes) → Called
  pub end : (row : List ℕ) (stem buffer out : Bytes) → Called

-- they keep the four contracts
pub record Keeps (f : Functions) : Type 0 where
  pub card : (stem : Bytes) (n : ℕ) (card out : Bytes) → CardGives stem n card out (f.card stem n card out)
  pub json : (json out : Bytes) → JsonGives json out (f.json json out)
  pub step : (row : List ℕ) (stem bs d out : Bytes) → StepGives row stem bs d out (f.step row stem bs d out)
  pub end : (row : List ℕ) (stem d out : Bytes) → EndGives row stem d out (f.end row stem d out)

-- ---- what the caller reads

-- of a service: 0 is a result, the first bytes of the output, else a refusal's number and place
abbrev pub answered : Served → Answer
answered s = pick (eqb s.number 0) (yes (take s.written s.output)) (no s.number s.place)

-- of a call of the stream: 255 is more
abbrev pub seen : Told → (output : Bytes) → Shown
seen t out = pick (eqb t.number 255) shows_more (shows (pick (eqb t.number 0) (yes (take t.written out)) (no t.number t.place)))

-- ---- the machine: its state is the caller's numbers

-- seven numbers in the ranges of docs/STREAM.md
abbrev pub numbers_in_range : List ℕ → Bool
numbers_in_range row =
    let number = get_or row 0 0 in
    let inside = eqb (get_or row 1 0) 1 in
    let len = get_or row 2 0 in
    let col = get_or row 3 0 in
    eqb (length row) 7 && (leb number 1000000 && (leb len 32769 && (leb col 12 && (not inside || leb 1 number))))

abbrev pub turn_by : Called → Turn (List ℕ)
turn_by c = record { shown = seen c.tells c.output; consumed = c.consumed; state = c.numbers; buffer = c.buffer; output = c.output }

abbrev pub call_by : Functions → Call → (row : List ℕ) (buffer out : Bytes) → Called
call_by f (piece t bs) row d out = f.step row t bs d out
call_by f (end t) row d out = f.end row t d out

abbrev pub machine_of : Functions → Machine
machine_of f =
    record {
      State = List ℕ;
      initial = 0 ∷ 0 ∷ 0 ∷ 0 ∷ 0 ∷ 0 ∷ 0 ∷ [];
      in_range = numbers_in_range;
      turn = λ row d out c. turn_by (call_by f c row d out);
    }
