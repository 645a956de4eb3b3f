use native.Mathlib.Omega.{arith}
use Rattle.to_card_head.proofs.Words.{low-high, low-letter, low-mid, low_digit, low-dash}
use Rattle.to_card_head.proofs.is_lower_name.Goals as goal

pub returns-then-c-gt122 : goal.returns-then-c-gt122
returns-then-c-gt122 c = low-high c.args.c (omega (arith, c.if-c-gt122.true))

pub returns-then-c-ge97 : goal.returns-then-c-ge97
returns-then-c-ge97 c = low-letter c.args.c (omega (arith, c.if-c-ge97.true)) (omega (arith, c.if-c-gt122.false))

pub returns-then-c-gt57 : goal.returns-then-c-gt57
returns-then-c-gt57 c = low-mid c.args.c (omega (arith, c.if-c-gt57.true)) (omega (arith, c.if-c-ge97.false))

pub returns-then-c-ge48 : goal.returns-then-c-ge48
returns-then-c-ge48 c = low_digit c.args.c (omega (arith, c.if-c-ge48.true)) (omega (arith, c.if-c-gt57.false))

pub returns : goal.returns
returns c = low-dash c.args.c (omega (arith, c.if-c-ge48.false))
