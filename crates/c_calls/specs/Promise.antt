-- What a caller in C is given, and what the C calls promise of it. `thymebarrel` cites these definitions in its `ensures`.
use Rattle.std.specs.Prelude.{◌≡◌, List, ℕ, length}
use Rattle.text.specs.Bytes.{Bytes}
use Rattle.convert.specs.Answers.{no, yes, card_to_json, json_to_card}
use Rattle.convert.specs.Served.{Served, served}
use Rattle.stream.specs.Calls.{piece, end, Shown, shows_more, shows}
use Rattle.stream_machine.specs.Turn.{Given, called}
use Rattle.c_calls.specs.Numbers.{state_of, row_after}

-- ---- the two services

-- the number returned, what stands behind the two pointers, and the lent output afterwards
abbrev pub given : (number place written : ℕ) (output : Bytes) → Served
given n p w out = record { number = n; place = p; written = w; output = out }

-- `thymebarrel_card_to_json`, for every stem, number, card and output
abbrev pub CardGives : (stem : Bytes) (number : ℕ) (card out : Bytes) → Served → Type 0
CardGives stem n card out r = r ≡ served out (card_to_json stem n (length out) card)

-- `thymebarrel_json_to_card`
abbrev pub JsonGives : (json out : Bytes) → Served → Type 0
JsonGives json out r = r ≡ served out (json_to_card (length out) json)

-- ---- the stream

-- the number returned, and what stands behind the two pointers
pub record Told : Type 0 where
  pub number : ℕ
  pub place : ℕ
  pub written : ℕ

abbrev pub told : (number place written : ℕ) → Told
told n p w = record { number = n; place = p; written = w }

-- 255 is more, 0 a JSON of that length, else a refusal with its place
abbrev pub told_of : Shown → Told
told_of shows_more = told 255 0 0
told_of (shows (no n p)) = told n p 0
told_of (shows (yes bs)) = told 0 0 (length bs)

-- all that a call gives: what is told, the bytes consumed, the caller's numbers, the card buffer and the output afterwards
pub record Called : Type 0 where
  pub tells : Told
  pub consumed : ℕ
  pub numbers : List ℕ
  pub buffer : Bytes
  pub output : Bytes

abbrev pub call_given : Told → ℕ → List ℕ → (buffer output : Bytes) → Called
call_given t n row d out = record { tells = t; consumed = n; numbers = row; buffer = d; output = out }

-- the same of what a call of the stream gives, from these numbers
abbrev pub called_of : (row : List ℕ) → Given → Called
called_of row g =
    record {
      tells = told_of g.shown;
      consumed = g.consumed;
      numbers = row_after row (told_of g.shown).number g.state;
      buffer = g.buffer;
      output = g.output;
    }

-- `thymebarrel_stream_step`, for every row of numbers, stem, piece, card buffer and output
abbrev pub StepGives : (row : List ℕ) (stem bytes buffer out : Bytes) → Called → Type 0
StepGives row stem bs d out r = r ≡ called_of row (called (piece stem bs) (state_of row) d out)

-- `thymebarrel_stream_end`
abbrev pub EndGives : (row : List ℕ) (stem buffer out : Bytes) → Called → Type 0
EndGives row stem d out r = r ≡ called_of row (called (end stem) (state_of row) d out)
