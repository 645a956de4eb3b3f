-- With a valid stem and a number from 1 on, no whole card is answered with 15 or 16.
use mathlib.Core.Path.{◌≡◌}
use mathlib.Core.Bool.{Bool, true, false}
use Prim.Native.Nat.{ℕ}
use lib.Dec.{ltb, leb}
use borrow.Author.Tests.{le-leb, ltb-false}
use Rattle.text.proofs.Cases.{by_bool}
use Rattle.convert.specs.Answers.{json_room, is_stem_text, is_card_number}
use Rattle.convert.proofs.AnswerLaws.{passing, answer-passes}
use Rattle.stream.specs.Plain.{Whole, answer_to}
use Rattle.stream.specs.Calls.{Shown, shows_more, shows}

-- no 15, no 16
abbrev pub passes : Shown → Bool
passes shows_more = true
passes (shows a) = passing a

pub card-number : (n : ℕ) → leb 1 n ≡ true → ltb 999999 n ≡ false → is_card_number n ≡ true
unfolding is_card_number
card-number n one top = rw (one, le-leb n 999999 (ltb-false 999999 n top))

pub whole-passes : (w : Whole) → is_stem_text w.stem ≡ true → leb 1 w.number ≡ true → passes (shows (answer_to w)) ≡ true
unfolding answer_to
whole-passes w st one =
    by_bool (ltb 999999 w.number) (λ e. rw e)
    (λ e. rw e (answer-passes w.stem w.number json_room w.bytes st (card-number w.number one e)))
