-- Laws of numbers, over plain values.
use mathlib.Core.Path.{◌≡◌, refl, ap}
use mathlib.Core.Bool.{true, false}
use mathlib.Core.List.{[], ◌∷◌}
use Prim.Native.Nat.{ℕ, ◌+◌, ◌≤◌}
use lib.ListN.{length, drop}
use borrow.Author.Tests.{ne_eqb}
use Rattle.text.specs.Places.{Read}
use Rattle.std.specs.Prelude.{Ok, Err}
use Rattle.text.specs.Bytes.{Bytes, is_digit}
use Rattle.text.specs.Reader.{got, bad, taken, some_of}
use Rattle.text.specs.Places.{byte_at, Gives, Passes}
use Rattle.text.proofs.Places.{same-as, up, here, bad-here, by-under, by-on, not_on, by-when, not-when, bind-under}
use Rattle.json_text.specs.Grammar.{is_e}
use Rattle.json_text.specs.Syntax.{digits, sign, exp}
use Rattle.json_numbers.specs.Power.{power}

-- a run of digits, one at least
module _ (s : Bytes) (i b : ℕ) (e : b ≡ byte_at s i) where
  pub digits-to : is_digit b ≡ true → {j : ℕ} → Passes is_digit s i j → Gives s i (digits (drop i s)) (Ok j)
  unfolding digits some_of
  digits-to h {j} p = by-when is_digit _ bad e h (same-as (ap (got (taken is_digit (drop i s))) p.is) (up p.from (here _ j p.to)))

  pub digits-none : is_digit b ≡ false → i ≤ length s → Gives s i (digits (drop i s)) (Err i)
  unfolding digits some_of
  digits-none h l = not-when is_digit _ bad e h (bad-here i l)

pub e-is : (b : ℕ) → (b ≡ 101) → is_e b ≡ true
unfolding is_e
e-is b h = ap is_e h

pub E-is : (b : ℕ) → (b ≡ 69) → is_e b ≡ true
unfolding is_e
E-is b h = ap is_e h

pub no-e : (b : ℕ) → (b ≡ 101 → ⊥) → (b ≡ 69 → ⊥) → is_e b ≡ false
unfolding is_e
no-e b n m = rw (ne_eqb _ _ n, ne_eqb _ _ m)

module _ (s : Bytes) (i b : ℕ) (e : b ≡ byte_at s i) where
  pub exp-power : is_e b ≡ true → {r : Read} → Gives s (i + 1) (power (drop (i + 1) s)) r → Gives s i (exp (drop i s)) r
  unfolding exp power
  exp-power h x = by-on is_e _ _ e h (same-as (bind-under (λ x. b ∷ x) (sign (drop (i + 1) s)) _ _ λ g t. bind-under (λ x. b ∷ x) (digits t) _ _ λ ds u. refl) (by-under _ x))

  pub exp-none : is_e b ≡ false → i ≤ length s → Gives s i (exp (drop i s)) (Ok i)
  unfolding exp
  exp-none h l = not_on is_e _ _ e h (here [] i l)
