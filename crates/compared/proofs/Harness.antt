-- Answers of the baseline in hexadecimal, and the definitions' answers to the same inputs.
use mathlib.Core.Bool.{Bool, true, false, ◌&&◌}
use mathlib.Core.List.{List, [], ◌∷◌}
use mathlib.Core.Option.{Option, none, some}
use Prim.Native.Nat.{ℕ, ◌+◌, ◌-◌, ◌*◌}
use Prim.Native.Char.{code}
use Prim.Native.String.{String, [] as []ˢ, ◌∷◌ as ◌∷ˢ◌}
use lib.Dec.{ltb, eqb}
use Rattle.text.specs.Choice.{pick}
use Rattle.text.specs.Bytes.{Bytes, same}
use Rattle.json_text.specs.Lookup.{Part, look_up}
use Rattle.convert.specs.Answers.{Answer, no, yes, card_to_json, json_to_card}
use Rattle.convert.specs.NormalCard.{normal_card}
use Rattle.convert.specs.NormalJson.{normal_json}
use Rattle.stream.specs.Plain.{fresh}
use Rattle.stream.specs.Calls.{Call, piece, end, Shown, shows_more, shows, Reply, plain_replies}

abbrev digit : ℕ → ℕ
digit c = pick (ltb c 58) (c - 48) (c - 87)

-- the bytes of pairs of hexadecimal digits
abbrev pub hex : String → Bytes
hex []ˢ = []
hex (a ∷ˢ []ˢ) = []
hex (a ∷ˢ (b ∷ˢ s)) = (digit (code a) * 16 + digit (code b)) ∷ hex s

pub data Case : Type 0 where
  card-case : (stem : String) (number room : ℕ) (input : String) (refusal place : ℕ) (output : String) → Case
  json-case : (room : ℕ) (input : String) (refusal place : ℕ) (output : String) → Case
  normal-card-case : (stem : String) (number : ℕ) (input output : String) → Case
  normal-json-case : (input output : String) → Case
  lookup-case : (input name : String) (start size : ℕ) → Case
  stream-case : List Call → List Reply → Case

-- a call, and its reply
abbrev pub fed : String → String → Call
fed stem bytes = piece (hex stem) (hex bytes)

abbrev pub ended : String → Call
ended stem = end (hex stem)

abbrev pub more : ℕ → Reply
more n = record { shown = shows_more; consumed = n }

abbrev pub result : ℕ → String → Reply
result n j = record { shown = shows (yes (hex j)); consumed = n }

abbrev pub refused : ℕ → ℕ → ℕ → Reply
refused n k p = record { shown = shows (no k p); consumed = n }

-- refusal 0 is a result
abbrev answer : ℕ → ℕ → String → Answer
answer n p out = pick (ltb 0 n) (no n p) (yes (hex out))

-- ---- what either side answers, compared byte by byte

abbrev same_answer : Answer → Answer → Bool
same_answer (no n p) (no m q) = eqb n m && eqb p q
same_answer (no n p) (yes bs) = false
same_answer (yes bs) (no n p) = false
same_answer (yes bs) (yes cs) = same bs cs

abbrev same_part : Option Part → ℕ → ℕ → Bool
same_part none start size = eqb start 0 && eqb size 0
same_part (some p) start size = eqb p.offset start && eqb p.size size

abbrev same_shown : Shown → Shown → Bool
same_shown shows_more shows_more = true
same_shown shows_more (shows a) = false
same_shown (shows a) shows_more = false
same_shown (shows a) (shows b) = same_answer a b

abbrev same_replies : List Reply → List Reply → Bool
same_replies [] [] = true
same_replies [] (q ∷ qs) = false
same_replies (r ∷ rs) [] = false
same_replies (r ∷ rs) (q ∷ qs) = eqb r.consumed q.consumed && same_shown r.shown q.shown && same_replies rs qs

-- the definitions give what the baseline gave
abbrev pub agrees : Case → Bool
agrees (card-case stem n room s r p out) = same_answer (card_to_json (hex stem) n room (hex s)) (answer r p out)
agrees (json-case room s r p out) = same_answer (json_to_card room (hex s)) (answer r p out)
agrees (normal-card-case stem n s out) = same (normal_card (hex stem) n (hex s)) (hex out)
agrees (normal-json-case s out) = same (normal_json (hex s)) (hex out)
agrees (lookup-case s m start size) = same_part (look_up (hex s) (hex m)) start size
agrees (stream-case cs rs) = same_replies (plain_replies fresh cs) rs
