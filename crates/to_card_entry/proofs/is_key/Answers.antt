use native.Mathlib.Omega.{arith}
use Rattle.to_card_entry.proofs.Keys.{key-low, key-high, key-lower, key-line, key-mid, key-upper, key-signs, key-digit, key-dash}
use Rattle.to_card_entry.proofs.is_key.Goals as goal

pub returns-then-c-lt45 : goal.returns-then-c-lt45
returns-then-c-lt45 c = key-low _ c.if-c-lt45.true

pub returns-then-c-gt122 : goal.returns-then-c-gt122
returns-then-c-gt122 c = key-high _ c.if-c-gt122.true

pub returns-then-c-ge97 : goal.returns-then-c-ge97
returns-then-c-ge97 c = key-lower _ c.if-c-ge97.true c.if-c-gt122.false

pub returns-then-c-eq95 : goal.returns-then-c-eq95
returns-then-c-eq95 c = key-line _ c.if-c-eq95.true

pub returns-then-c-gt90 : goal.returns-then-c-gt90
returns-then-c-gt90 c = key-mid _ c.if-c-gt90.true (omega (arith, c.if-c-ge97.false)) c.if-c-eq95.false

pub returns-then-c-ge65 : goal.returns-then-c-ge65
returns-then-c-ge65 c = key-upper _ c.if-c-ge65.true c.if-c-gt90.false

pub returns-then-c-gt57 : goal.returns-then-c-gt57
returns-then-c-gt57 c = key-signs _ c.if-c-gt57.true (omega (arith, c.if-c-ge65.false))

pub returns-then-c-ge48 : goal.returns-then-c-ge48
returns-then-c-ge48 c = key-digit _ c.if-c-ge48.true c.if-c-gt57.false

pub returns : goal.returns
returns c = key-dash _ (omega (arith, c.if-c-ge48.false))
