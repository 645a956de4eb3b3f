-- Converters that do nothing of use do not meet demand 2, whatever stands beside them: one that refuses every card, one that refuses no card (it answers the
-- input, or always one JSON), one that refuses no JSON (always one card).
use mathlib.Core.Path.{refl, sym, ap}
use mathlib.Core.Bool.{Bool, true, false}
use mathlib.Core.List.{List}
use Prim.Native.Nat.{ℕ}
use lib.ListN.{get_or}
use Rattle.text.specs.Bytes.{Bytes}
use Rattle.text.proofs.Cases.{not-both}
use Rattle.convert.specs.Answers.{Answer, no, yes}
use Rattle.convert.specs.Worked.{worked-opened}
use Rattle.convert.specs.ProvedCases.{proved-cases}
use Rattle.home.specs.Demand2.{Demand2}

abbrev is_yes : Answer → Bool
is_yes (no n p) = false
is_yes (yes b) = true

-- the answer to that case is a result
abbrev converted : ℕ → List Answer → Bool
converted i l = is_yes (get_or l i (no 0 0))

module _ (g : ℕ → Bytes → Answer) where
  -- P1 is converted
  pub refuses-all : (k p : Bytes → ℕ → ℕ → Bytes → ℕ) → Demand2 (λ stem n lent s. no (k stem n lent s) (p stem n lent s)) g → ⊥
  unfolding proved-cases worked-opened
  refuses-all k p h = not-both refl (sym (ap (converted 0) h.cases))

  -- P3 is refused
  pub refuses-none : (f : Bytes → ℕ → ℕ → Bytes → Bytes) → Demand2 (λ stem n lent s. yes (f stem n lent s)) g → ⊥
  unfolding proved-cases worked-opened
  refuses-none f h = not-both refl (ap (converted 2) h.cases)

-- P10 is refused
pub one-card : (f : Bytes → ℕ → ℕ → Bytes → Answer) (b : Bytes) → Demand2 f (λ lent s. yes b) → ⊥
unfolding proved-cases worked-opened
one-card f b h = not-both refl (ap (converted 9) h.cases)
