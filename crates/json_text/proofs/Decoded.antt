-- What a string of a JSON text stands for is UTF-8.
use mathlib.Core.Path.{◌≡◌, refl, sym, ap, ◌∙◌}
use mathlib.Core.Bool.{true, false, ◌&&◌}
use mathlib.Core.List.{[], ◌∷◌, ◌++◌}
use mathlib.Core.Option.{Option, none, some}
use Prim.Native.Nat.{ℕ, zero, suc, ◌-◌, ◌<◌}
use native.Mathlib.Omega.{arith}
use lib.Dec.{ltb, leb}
use borrow.Author.Tests.{ltb-true, le-ltb, le-leb}
use Rattle.text.specs.Bytes.{Bytes, between}
use Rattle.text.specs.Utf8.{Due, start, broken, next, run, at_start, utf8, encode}
use Rattle.text.specs.Reader.{got}
use Rattle.text.proofs.Cases.{by_bool, tests, and_left, and_right, between-true, beyond, not-both}
use Rattle.text.proofs.Characters.{run-append, run-utf8, utf8-run, at-start}
use Rattle.text.proofs.Choices.{none-some, some_same}
use Rattle.text.proofs.Encoding.{encode_utf8}
use Rattle.json_text.specs.Syntax.{characters}
use Rattle.json_text.specs.Strings.{is_high, is_low, joined_pair, before, decode_after, decode}
use Rattle.json_text.proofs.Whole.{step_unit, run_units, characters-whole}

units-broken : (us : Bytes) → run_units broken us ≡ start → ⊥
unfolding run_units next
units-broken [] e = not-both refl (ap at_start (sym e))
units-broken (u ∷ us) e =
    by_bool (ltb u 256) (λ q. units-broken us (rw q at e)) (λ q. units-broken us (rw q at e))

before-inv : (p : Bytes) (x : Option Bytes) (v : Bytes) → before p x ≡ some v → (w : Bytes) × (x ≡ some w) × (p ++ w ≡ v)
before-inv p none v e = none-some e
before-inv p (some w) v e = (w, refl, some_same e)

-- a high surrogate is pending only between characters
abbrev Pending : ℕ → Due → Type 0
Pending zero d = Unit {0}
Pending (suc h) d = (is_high (suc h) ≡ true) × (d ≡ start)

pend : (h : ℕ) → is_high h ≡ true → Pending h start
pend zero e = tt
pend (suc h) e = (e, refl)

run-encoded : (x : ℕ) (w : Bytes) → x < 0x110000 → between 0xd800 0xdfff x ≡ false → run start w ≡ start → run start (encode x ++ w) ≡ start
run-encoded x w l s h = run-append start (encode x) w ∙ ap (λ (d : Due). run d w) (utf8-run (encode x) (encode_utf8 x l s)) ∙ h

-- a \uXXXX stands between characters and is below 65536
unit-start : (d : Due) (u : ℕ) (us : Bytes) → ltb u 256 ≡ false → run_units (step_unit d u) us ≡ start → (d ≡ start) × (u < 65792) × (run_units start us ≡ start)
unit-start d u us l e =
    by_bool (at_start d && ltb u 65792)
    (λ q. (at-start d (and_left _ _ q), ltb-true u 65792 (and_right (at_start d) _ q), rw (l, q) at e))
    (λ q. absurd (units-broken us (rw (l, q) at e)))

not-surrogate : (v : ℕ) → is_high v ≡ false → is_low v ≡ false → between 0xd800 0xdfff v ≡ false
unfolding between
not-surrogate v h l =
    by_bool (leb 0xd800 v) (λ a. by_bool (leb v 0xdfff)
    (λ b. by_bool (leb v 0xdbff) (λ c. not-both (rw (a, c)) h) (λ c. not-both (rw (le-leb 0xdc00 v (omega tests), b)) l))
    (λ b. rw (a, b))) (λ a. rw a)

decode-run : (h : ℕ) (d : Due) (us v : Bytes) → Pending h d → run_units d us ≡ start → decode_after h us ≡ some v → run d v ≡ start
unfolding decode_after run_units run
decode-run zero d [] v p r e = rw (← some_same e) r
decode-run (suc h) d [] v p r e = none-some e
decode-run zero d (u ∷ us) v p r e =
    by_bool (ltb u 256)
    (λ q. let i = before-inv (u ∷ []) (decode_after 0 us) v (rw q at e) in
    rw (← i.2) (decode-run zero (next d u) us i.0 tt (rw q at r) i.1))
    (λ q. let s = unit-start d u us q r in
    by_bool (is_high (u - 256))
    (λ a. rw s.0 (decode-run (u - 256) start us v (pend (u - 256) a) s.2 (rw (q, a) at e)))
    (λ a. by_bool (is_low (u - 256))
    (λ b. none-some (rw (q, a, b) at e))
    (λ b. let i = before-inv (encode (u - 256)) (decode_after 0 us) v (rw (q, a, b) at e) in
    rw (s.0, ← i.2) (run-encoded (u - 256) i.0 (omega (arith, s.1)) (not-surrogate (u - 256) a b) (decode-run zero start us i.0 tt s.2 i.1)))))
decode-run (suc h) d (u ∷ us) v p r e =
    by_bool (ltb 255 u && is_low (u - 256))
    (λ q. let i = before-inv (encode (joined_pair (suc h) (u - 256))) (decode_after 0 us) v (rw q at e) in
    let a = between-true 0xd800 0xdbff (suc h) p.0 in
    let b = between-true 0xdc00 0xdfff (u - 256) (and_right (ltb 255 u) _ q) in
    let l = ltb-true 255 u (and_left _ _ q) in
    let s = unit-start d u us (le-ltb u 256 (omega arith)) r in
    rw (s.0, ← i.2) (run-encoded (joined_pair (suc h) (u - 256)) i.0 (omega (arith, a.0, a.1, b.0, b.1)) (beyond 0xd800 0xdfff (joined_pair (suc h) (u - 256)) (omega (arith, a.0, a.1, b.0, b.1))) (decode-run zero start us i.0 tt s.2 i.1)))
    (λ q. none-some (rw q at e))

-- a string that is read and decoded is UTF-8
pub string-utf8 : (s us t v : Bytes) → characters s ≡ got us t → decode us ≡ some v → utf8 v ≡ true
unfolding decode
string-utf8 s us t v e d = run-utf8 v (decode-run zero start us v tt (characters-whole s us t e) d)
