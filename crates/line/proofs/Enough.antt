-- A turn over values or parameters that goes on takes a byte at least.
use mathlib.Core.Path.{◌≡◌, refl, ap}
use mathlib.Core.Bool.{true, false}
use mathlib.Core.List.{List, [], ◌∷◌, tail}
use Prim.Native.Nat.{ℕ, zero, suc, ◌≤◌, ◌<◌}
use native.Mathlib.Omega.{arith}
use lib.Dec.{eqb}
use lib.ListN.{length}
use Rattle.text.specs.Bytes.{Bytes, is}
use Rattle.text.specs.Reader.{Got, got, first, on, Step, more, last, after, turns, loop, one, some_of}
use Rattle.text.proofs.Readers.{Moves}
use Rattle.text.proofs.Fine.{bind_inv, under-inv, got-rest, got-what, not-bad, Fine, fine-got, fine-weak, fine_bind, fine-on, one-fine, some-fine, run-fine}
use Rattle.line.specs.Class.{is_name, is_bare, is_quotable}
use Rattle.line.specs.Grammar.{Param, param, word, param_value, value_turn, parameter, param_turn}
use Rattle.text.proofs.Cases.{by_bool}
use Rattle.line.proofs.Opened.{line-opened}
use Rattle.line.proofs.Shapes.{onward, valued, named, added}

-- ---- what a reader leaves is no longer than what it was given

pub Takes : {A : Type 0} → (Bytes → Got A) → Type 0
Takes {A} r = (s : Bytes) (a : A) (w : Bytes) → r s ≡ got a w → length w ≤ length s

tail-less : (s : Bytes) → length (tail s) ≤ length s
tail-less [] = omega arith
tail-less (c ∷ s) = omega arith

-- a byte that passes is there, and is taken
tail-shorter : (s : Bytes) (b : ℕ) → eqb 256 b ≡ false → eqb (first s) b ≡ true → length (tail s) < length s
tail-shorter [] b n e = absurd (let z : ◌≡◌ {A = ℕ} 0 1 = cc in omega arith)
tail-shorter (c ∷ s) b n e = omega arith

value-fine : Fine 0 param_value
unfolding param_value
value-fine =
    fine-on (is 34) refl (omega arith) (λ c. fine-weak (fine_bind (run-fine is_quotable) (λ v. fine_bind (one-fine 34 refl) (λ q. fine-got v)))) (run-fine is_bare)

onward-takes : (v u : Bytes) (w : Step (List Bytes)) (t : Bytes) → onward v u ≡ got w t → length t ≤ length u
unfolding on
onward-takes v u w t e =
    by_bool (eqb (first u) 44)
    (λ q. let f : tail u ≡ t = got-rest (rw q at e) in rw f at (tail-less u))
    (λ q. let f : u ≡ t = got-rest (rw q at e) in rw f (omega arith))

onward-more : (v u : Bytes) (g : List Bytes → List Bytes) (t : Bytes) → onward v u ≡ got (more g) t → length t < length u
unfolding on
onward-more v u g t e =
    by_bool (eqb (first u) 44)
    (λ q. let f : tail u ≡ t = got-rest (rw q at e) in rw f at (tail-shorter u 44 refl q))
    (λ q. absurd (let f : last (v ∷ []) ≡ more g = got-what (rw q at e) in let z : ◌≡◌ {A = ℕ} 0 1 = cc in omega arith))

value-takes : Takes value_turn
unfolding value_turn Takes
value-takes s w t e =
    let i = bind_inv (param_value s) onward e in
    omega (arith, value-fine.less s _ _ i.2, onward-takes i.0 i.1 w t i.3)

pub value-shrinks : Moves value_turn
unfolding value_turn
value-shrinks s g t e = let i = bind_inv (param_value s) onward e in omega (arith, value-fine.less s _ _ i.2, onward-more i.0 i.1 g t i.3)

after-takes : (n : ℕ) (w : Step (List Bytes)) (t : Bytes) (vs : List Bytes) (u : Bytes)
    → ((vs : List Bytes) → turns value_turn n t ≡ got vs u → length u ≤ length t) → after w t (turns value_turn n) ≡ got vs u → length u ≤ length t
after-takes n (more g) t vs u h e = let i = under-inv g (turns value_turn n t) e in h i.0 i.1
after-takes n (last b) t vs u h e = let f : t ≡ u = got-rest e in rw f (omega arith)

turns-takes : (n : ℕ) (s : Bytes) (vs : List Bytes) (u : Bytes) → turns value_turn n s ≡ got vs u → length u ≤ length s
unfolding turns Takes
turns-takes zero s vs u e = absurd (not-bad e)
turns-takes (suc n) s vs u e =
    let i = bind_inv (value_turn s) (λ w t. after w t (turns value_turn n)) e in
    omega (arith, value-takes s i.0 i.1 i.2, after-takes n i.0 i.1 vs u (λ ws q. turns-takes n i.1 ws u q) i.3)

values-takes : (s : Bytes) (vs : List Bytes) (u : Bytes) → loop value_turn s ≡ got vs u → length u ≤ length s
unfolding loop
values-takes s vs u e = turns-takes (suc (length s)) s vs u e

name-end : is_name 256 ≡ false
unfolding line-opened
name-end = refl

parameter-takes : (s : Bytes) (p : Param) (u : Bytes) → parameter s ≡ got p u → length u ≤ length s
unfolding parameter word
parameter-takes s p u e =
    let i = bind_inv (some_of is_name s) named e in
    let j = bind_inv (one 61 i.1) (λ e t. valued i.0 t) i.3 in
    let k = bind_inv (loop value_turn j.1) (λ vs t. got (param i.0 vs) t) j.3 in
    let f : k.1 ≡ u = got-rest k.3 in
    omega (arith, (some-fine is_name name-end).less s _ _ i.2, (one-fine 61 refl).less i.1 _ _ j.2, values-takes j.1 _ _ k.2, ap length f)

pub param-shrinks : Moves param_turn
unfolding param_turn on
param-shrinks s g t e =
    by_bool (eqb (first s) 58)
    (λ q. absurd (let f : last [] ≡ more g = got-what (rw q at e) in let z : ◌≡◌ {A = ℕ} 0 1 = cc in omega arith))
    (λ q.
    by_bool (eqb (first s) 59)
    (λ r.
    let i = bind_inv (parameter (tail s)) added (rw (q, r) at e) in
    let f : i.1 ≡ t = got-rest i.3 in
    omega (arith, tail-shorter s 59 refl r, parameter-takes (tail s) _ _ i.2, ap length f))
    (λ r. absurd (not-bad (rw (q, r) at e))))
