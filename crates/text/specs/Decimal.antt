-- Numbers in decimal digits.
use Rattle.std.specs.Prelude.{[], ◌∷◌, ℕ, zero, suc, ◌+◌, ◌-◌, ◌*◌, ◌/◌, ◌%◌, ltb}
use Prim.Native.Char.{code}
use Rattle.text.specs.Choice.{pick}
use Rattle.text.specs.Bytes.{Bytes}

-- the digits of n before t; the first number bounds how many
unfoldable pub digits_before : ℕ → ℕ → Bytes → Bytes
digits_before zero n t = t
digits_before (suc f) n t =
    let m : Bytes = digits_before f (n / 10) ((code "0" + n % 10) ∷ t) in
    pick (ltb n 10) ((code "0" + n) ∷ t) m

unfoldable pub decimal : ℕ → Bytes
decimal n = digits_before (suc n) n []

-- what digits stand for, after digits that stand for a
unfoldable pub value_from : ℕ → Bytes → ℕ
value_from a [] = a
value_from a (c ∷ s) = value_from (a * 10 + (c - code "0")) s

unfoldable pub number : Bytes → ℕ
number s = value_from 0 s
