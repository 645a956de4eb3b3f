-- The answers to whole cards and to bytes found are 01's (specs/Found.antt).
use mathlib.Core.Path.{◌≡◌, refl, ap}
use mathlib.Core.Bool.{Bool}
use mathlib.Core.List.{[], ◌∷◌}
use Prim.Native.Nat.{ℕ, ◌≤◌, ◌<◌}
use native.Mathlib.Omega.{arith}
use lib.ListN.{take, length-append}
use lib.Dec.{ltb}
use borrow.Author.Tests.{lt-ltb, le-ltb}
use Rattle.text.specs.Choice.{pick}
use Rattle.text.specs.Bytes.{Bytes}
use Rattle.text.proofs.Cases.{by_bool}
use Rattle.convert.specs.Answers.{no, card_to_json}
use Rattle.stream.specs.Plain.{Whole, answer_to}
use Rattle.stream.specs.Buffer.{answer_found}
use Rattle.stream.specs.Found.{FoundInWords}

whole_is : (w : Whole) → w.number ≤ 999999 → answer_to w ≡ card_to_json w.stem w.number 65536 w.bytes
unfolding answer_to
whole_is w h = rw (le-ltb 999999 w.number h)

past_is : (w : Whole) → 999999 < w.number → answer_to w ≡ no 3 0
unfolding answer_to
past_is w h = rw (lt-ltb 999999 w.number h)

found-is : (w : Whole) (k : ℕ) (d : Bytes) → w.number ≤ 999999 → k ≤ 32768 → answer_found w k d ≡ card_to_json w.stem w.number 65536 (take k d)
unfolding answer_found
found-is w k d h l = rw (le-ltb 999999 w.number h, le-ltb 32768 k l)

found-past-is : (w : Whole) (k : ℕ) (d : Bytes) → 999999 < w.number → answer_found w k d ≡ no 3 0
unfolding answer_found
found-past-is w k d h = rw (lt-ltb 999999 w.number h)

found-over-is : (w : Whole) (k : ℕ) (d : Bytes) → 32768 < k → answer_found w k d ≡ no 3 0
unfolding answer_found
found-over-is w k d l = by_bool (ltb 999999 w.number) (λ e. rw e) (λ e. rw e (ap (λ (b : Bool). pick b (no 3 0) (card_to_json w.stem w.number 65536 (take k d))) (lt-ltb 32768 k l)))

pub found-in-words : FoundInWords
found-in-words =
    record {
      whole = whole_is;
      past = past_is;
      found = found-is;
      found-past = found-past-is;
      found-over = found-over-is;
      by-a-piece = λ t bs s stem n. refl;
      by-an-end = λ t s stem n. omega (arith, length-append s (10 ∷ []));
    }
