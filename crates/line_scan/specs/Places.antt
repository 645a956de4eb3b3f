-- What the scanners of a line answer, said by the readers of Grammar.antt at `drop at s`.
use Rattle.std.specs.Prelude.{◌≡◌, Option, Some, None, ℕ, ◌-◌, ◌≤◌, length, take, drop}
use Rattle.text.specs.Bytes.{Bytes}
use Rattle.text.specs.Reader.{Got, got, bad}
use Rattle.line.specs.Grammar.{param_value}
use Rattle.line_scan.specs.declared.Value.{Value}

-- the reader gives nothing
abbrev pub Fails : {A : Type 0} → Got A → Type 0
Fails (got a t) = ⊥
Fails (bad t) = Unit {0}

-- a value from a to b, and n after it
pub record ValueRead (s : Bytes) (at a b n : ℕ) : Type 0 where
  pub is : param_value (drop at s) ≡ got (take (b - a) (drop a s)) (drop n s)
  pub from : at ≤ a
  pub ordered : a ≤ b
  pub before : b ≤ n
  pub within : n ≤ length s

abbrev pub ValueAt : Bytes → ℕ → Option Value → Type 0
ValueAt s at (Some v) = ValueRead s at v.start v.end v.next
ValueAt s at None = Fails (param_value (drop at s))
