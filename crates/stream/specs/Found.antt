-- "With a changed card buffer the answer is for the bytes found", and what a whole card is answered: 01's numbers written out, for every card and buffer.
use Rattle.std.specs.Prelude.{◌≡◌, [], ◌∷◌, ◌++◌, ℕ, ◌≤◌, ◌<◌, length, take}
use Rattle.text.specs.Bytes.{Bytes}
use Rattle.convert.specs.Answers.{no, card_to_json}
use Rattle.stream.specs.Plain.{Whole, answer_to}
use Rattle.stream.specs.Calls.{piece, end}
use Rattle.stream.specs.Buffer.{consumed_for, answer_found}

pub record FoundInWords : Type 0 where
  -- "answers what this paper gives these bytes as one card with the stem, its number and 65,536 bytes of output, or 3 past 999,999"
  pub whole : (w : Whole) → w.number ≤ 999999 → answer_to w ≡ card_to_json w.stem w.number 65536 w.bytes
  pub past : (w : Whole) → 999999 < w.number → answer_to w ≡ no 3 0
  -- the same for k bytes found in the buffer d; a card has at most 32,768 bytes
  pub found : (w : Whole) (k : ℕ) (d : Bytes) → w.number ≤ 999999 → k ≤ 32768 → answer_found w k d ≡ card_to_json w.stem w.number 65536 (take k d)
  pub found-past : (w : Whole) (k : ℕ) (d : Bytes) → 999999 < w.number → answer_found w k d ≡ no 3 0
  pub found-over : (w : Whole) (k : ℕ) (d : Bytes) → 32768 < k → answer_found w k d ≡ no 3 0
  -- so many are found: all that were consumed; the LF that an end call supposes is none of them
  pub by-a-piece : (t bs s stem : Bytes) (n : ℕ) → consumed_for (piece t bs) (record { bytes = s; stem = stem; number = n }) ≡ length s
  pub by-an-end : (t s stem : Bytes) (n : ℕ) → consumed_for (end t) (record { bytes = s ++ 10 ∷ []; stem = stem; number = n }) ≡ length s
