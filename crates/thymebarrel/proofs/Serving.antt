-- What C is given of an outcome is what 01's answer serves.
use mathlib.Core.Path.{◌≡◌, refl, ap, ◌∙◌}
use Rattle.text.specs.Bytes.{Bytes}
use Rattle.convert.specs.Answers.{Answer, no, yes}
use Rattle.convert.specs.Served.{left_by, Served, served}
use Rattle.served.specs.Served.{Outcome, outcome_of}
use Rattle.c_calls.specs.Promise.{Told, given}
use Rattle.thymebarrel.specs.Given.{outcome_told}

abbrev given_told : Bytes → Told → Served
given_told out t = given t.number t.place t.written out

shown : (out : Bytes) (a : Answer) → given_told (left_by out a) (outcome_told (outcome_of a)) ≡ served out a
shown out (no n p) = refl
shown out (yes bs) = refl

-- t is told of the outcome r
pub shown-served : (out after : Bytes) (a : Answer) (r : Outcome) (t : Told) → t ≡ outcome_told r → r ≡ outcome_of a → after ≡ left_by out a → given_told after t ≡ served out a
shown-served out after a r t tells said left =
    ap (given_told after) (tells ∙ ap outcome_told said) ∙ ap (λ o. given_told o (outcome_told (outcome_of a))) left ∙ shown out a
