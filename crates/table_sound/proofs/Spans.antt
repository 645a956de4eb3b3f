-- Rows one after the other.
use mathlib.Core.Path.{◌≡◌, sym, subst}
use mathlib.Core.Bool.{Bool, true, false}
use mathlib.Core.List.{List}
use Prim.Native.Nat.{ℕ, ◌+◌, ◌<◌}
use native.Mathlib.Omega.{arith}
use lib.Dec.{ltb}
use lib.ListN.{length, get_or}
use Rattle.text.specs.Bytes.{Bytes}
use Rattle.text.proofs.Cases.{by_bool, tests}
use Rattle.line_table.specs.Table.{base, Span, Spans}
use Rattle.table_sound.specs.Sound.{TellsSpan}

pub span-is : {b : Bytes} {m a e : ℕ} (r : Bool) → TellsSpan m a e r → r ≡ true → m ≡ length b → Span b a e
span-is {b} {m} {a} {e} r h q l = let w = subst (TellsSpan m a e) q h in record { ordered = w.0; within = omega (arith, w.1, l) }

pub span-not : {b : Bytes} {m a e : ℕ} (r : Bool) → TellsSpan m a e r → r ≡ false → m ≡ length b → Span b a e → ⊥
span-not {b} {m} {a} {e} r h q l s = subst (TellsSpan m a e) q h s.ordered (omega (arith, s.within, l))

pub spans-none : (b : Bytes) (t : List ℕ) → Spans b t 0
spans-none b t = record { name = λ k h. absurd (omega (arith, h)); value = λ k h. absurd (omega (arith, h)) }

-- where a value ends: just after the slot of where it begins
ends-after : (n : ℕ) → base n + 2 + 1 ≡ base n + 3
ends-after n = omega arith

pub value_in : {b : Bytes} {t : List ℕ} {n : ℕ} → Spans b t n → (k : ℕ) → k < n → Span b (get_or t (base k + 2) 0) (get_or t (base k + 2 + 1) 0)
value_in {b} {t} s k h = subst (λ (j : ℕ). Span b (get_or t (base k + 2) 0) (get_or t j 0)) (sym (ends-after k)) (s.value k h)

pub spans_on : {b : Bytes} {t : List ℕ} {n : ℕ} → Spans b t n → Span b (get_or t (base n) 0) (get_or t (base n + 1) 0) → Span b (get_or t (base n + 2) 0) (get_or t (base n + 2 + 1) 0) → Spans b t (n + 1)
spans_on {b} {t} {n} s x w = let y = subst (λ (j : ℕ). Span b (get_or t (base n + 2) 0) (get_or t j 0)) (ends-after n) w in record {
  name = λ k h. by_bool (ltb k n) (λ q. s.name k (omega (tests, q))) (λ q. let e : n ≡ k = omega (tests, q, h) in subst (λ (j : ℕ). Span b (get_or t (base j) 0) (get_or t (base j + 1) 0)) e x);
  value = λ k h. by_bool (ltb k n) (λ q. s.value k (omega (tests, q))) (λ q. let e : n ≡ k = omega (tests, q, h) in subst (λ (j : ℕ). Span b (get_or t (base j + 2) 0) (get_or t (base j + 3) 0)) e y);
}

pub spans-as : {b : Bytes} {t : List ℕ} {n m : ℕ} → Spans b t n → n ≡ m → Spans b t m
spans-as {b} {t} s e = subst (Spans b t) e s
