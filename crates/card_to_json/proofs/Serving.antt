-- What the caller sees: what scratch of some size gives, then the order of 15, 3 (bytes) and the rest.
use mathlib.Core.Path.{◌≡◌, refl, sym, ap, subst, ◌∙◌}
use mathlib.Core.Bool.{Bool, true, false, not, ◌&&◌}
use mathlib.Core.Logic.{inl, inr}
use Prim.Native.Nat.{ℕ, ◌≤◌, ◌<◌}
use native.Mathlib.Omega.{arith}
use lib.Dec.{ltb}
use lib.ListN.{length}
use borrow.Author.Tests.{lt-ltb, le-ltb}
use Rattle.text.specs.Choice.{pick}
use Rattle.text.specs.Bytes.{Bytes}
use Rattle.line.specs.Physical.{size_of}
use Rattle.convert.specs.Answers.{Answer, no, card_room, json_room, line_room, card_to_json, is_stem_text, is_card_number}
use Rattle.convert.specs.Served.{left_by}
use Rattle.std.specs.Prelude.{Option, Some, None}
use Rattle.served.specs.Served.{Outcome, refused, outcome_of, Serves as ServesAnswer}
use Rattle.card_to_json.specs.Inner.{inner, fit, Serves}
use Rattle.card_to_json.specs.Making.{TooSmall, ServesIn}
use Rattle.card_to_json.proofs.Inner.{answer-is, fit-large, serves-refused}
use Rattle.card_to_json.proofs.Steps.{inner-3}

-- ---- scratch of some size

module _ (stem : Bytes) (number : ℕ) (card : Bytes) (most room : ℕ) (out : Bytes) (o : Option Outcome) (after : Bytes) (s : ServesIn stem number card most room out o after) where
  there-is : (q : Option Outcome) → o ≡ q → ServesIn stem number card most room out q after
  there-is q e = subst (λ q. ServesIn stem number card most room out q after) e s

  pub served-there : (r : Outcome) → o ≡ Some r → Serves out (inner stem number card) r after
  served-there r e = there-is (Some r) e

  pub kept-there : o ≡ None → after ≡ out
  kept-there e = (there-is None e).0

  -- where it is as large as 01 allows, a card that it is too small for is refused
  module _ (lines : line_room ≤ most) (bytes : json_room ≤ room) where
    over-room : (lent : ℕ) → TooSmall stem number card most room → fit lent (inner stem number card) ≡ no 3 0
    over-room lent (inl many) = ap (fit lent) (inner-3 card most lines many stem number)
    over-room lent (inr f) = ap (fit lent) f.1 ∙ fit-large lent f.0 (omega (arith, f.2, bytes))

    pub too-small : o ≡ None → Serves out (inner stem number card) (refused 3 0) after
    too-small e = subst (Serves out (inner stem number card) (refused 3 0)) (sym (kept-there e)) (serves-refused out (inner stem number card) 3 0 (over-room (length out) (there-is None e).1))

-- ---- the order

either : (s n : Bool) → s ≡ false → not (s && n) ≡ true
either s n e = rw e

or-number : (s n : Bool) → n ≡ false → not (s && n) ≡ true
or-number true n e = rw e
or-number false n e = refl

neither : (s n : Bool) → s ≡ true → n ≡ true → not (s && n) ≡ false
neither s n e f = rw (e, f)

fifteen : (stem : Bytes) (n lent : ℕ) (s : Bytes) → not (is_stem_text stem && is_card_number n) ≡ true → card_to_json stem n lent s ≡ no 15 0
fifteen stem n lent s e = answer-is stem n lent s ∙ ap (λ b. pick b (no 15 0) (pick (ltb card_room (size_of s)) (no 3 0) (fit lent (inner stem n s)))) e

pub no-stem : (stem : Bytes) (n lent : ℕ) (s : Bytes) → is_stem_text stem ≡ false → card_to_json stem n lent s ≡ no 15 0
no-stem stem n lent s e = fifteen stem n lent s (either (is_stem_text stem) (is_card_number n) e)

pub no_number : (stem : Bytes) (n lent : ℕ) (s : Bytes) → is_card_number n ≡ false → card_to_json stem n lent s ≡ no 15 0
no_number stem n lent s e = fifteen stem n lent s (or-number (is_stem_text stem) (is_card_number n) e)

after-15 : (stem : Bytes) (n lent : ℕ) (s : Bytes) → is_stem_text stem ≡ true → is_card_number n ≡ true
    → card_to_json stem n lent s ≡ pick (ltb card_room (size_of s)) (no 3 0) (fit lent (inner stem n s))
after-15 stem n lent s e f = answer-is stem n lent s
    ∙ ap (λ b. pick b (no 15 0) (pick (ltb card_room (size_of s)) (no 3 0) (fit lent (inner stem n s)))) (neither (is_stem_text stem) (is_card_number n) e f)

pub too_long : (stem : Bytes) (n lent : ℕ) (s : Bytes) → is_stem_text stem ≡ true → is_card_number n ≡ true → card_room < size_of s → card_to_json stem n lent s ≡ no 3 0
too_long stem n lent s e f h = after-15 stem n lent s e f ∙ ap (λ b. pick b (no 3 0) (fit lent (inner stem n s))) (lt-ltb card_room (size_of s) h)

pub the_rest : (stem : Bytes) (n lent : ℕ) (s : Bytes) → is_stem_text stem ≡ true → is_card_number n ≡ true → size_of s ≤ card_room → card_to_json stem n lent s ≡ fit lent (inner stem n s)
the_rest stem n lent s e f h = after-15 stem n lent s e f ∙ ap (λ b. pick b (no 3 0) (fit lent (inner stem n s))) (le-ltb card_room (size_of s) h)

pub size-length : (s : Bytes) → size_of s ≤ card_room → length s ≤ card_room
unfolding size_of
size-length s h = omega (arith, h)

-- ---- the promise

pub seen-refused : (out : Bytes) (a : Answer) (n p : ℕ) → a ≡ no n p → ServesAnswer out a (refused n p) out
seen-refused out a n p e = record { said = sym (ap outcome_of e); left = sym (ap (left_by out) e) }

pub seen : (out : Bytes) (a b : Answer) (r : Outcome) (after : Bytes) → a ≡ fit (length out) b → Serves out b r after → ServesAnswer out a r after
seen out a b r after e s = record { said = s.said ∙ sym (ap outcome_of e); left = s.left ∙ sym (ap (left_by out) e) }

-- past 15 and 3 (bytes): what scratch of some size gives is what the caller sees
pub seen-past : (stem : Bytes) (n : ℕ) (s out before : Bytes) (r : Outcome) (after : Bytes) → is_stem_text stem ≡ true → is_card_number n ≡ true → size_of s ≤ card_room → before ≡ out
    → Serves before (inner stem n s) r after → ServesAnswer out (card_to_json stem n (length out) s) r after
seen-past stem n s out before r after e f h b served =
    seen out (card_to_json stem n (length out) s) (inner stem n s) r after (the_rest stem n (length out) s e f h) (subst (λ x. Serves x (inner stem n s) r after) b served)
