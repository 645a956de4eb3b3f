-- Every scalar value is encoded in UTF-8.
use mathlib.Core.Path.{◌≡◌, refl, ◌∙◌}
use mathlib.Core.Bool.{true, false}
use mathlib.Core.List.{[], ◌∷◌, map}
use Prim.Native.Nat.{ℕ, ◌+◌, ◌/◌, ◌%◌, ◌≤◌, ◌<◌}
use native.Mathlib.Omega.{arith}
use lib.Dec.{ltb, leb}
use borrow.Author.Tests.{le-leb}
use Rattle.text.specs.Choice.{pick}
use Rattle.text.specs.Bytes.{between}
use Rattle.text.specs.Utf8.{Due, start, due, by_row, lead, next, run, utf8, encode}
use Rattle.text.proofs.Cases.{by_bool, by_below, up_to, tests, in_between, not-both}
use Rattle.text.proofs.Characters.{run-utf8}

-- ---- the rows of first bytes

abbrev Same : ℕ → ℕ → Due → ℕ → Due
Same from to d c = pick (between from to c) d (lead c)

-- what the bytes of a row lead to: all bytes at once, by computation
leads : (from to : ℕ) (d : Due) → to < 256 → map lead (up_to 256) ≡ map (Same from to d) (up_to 256) → (c : ℕ) → from ≤ c → c ≤ to → lead c ≡ d
leads from to d m e c l h = by_below lead (Same from to d) c 256 e (λ n. absurd (omega tests)) ∙ rw (in_between from to c l h)

pub lead-c2 : (c : ℕ) → 0xc2 ≤ c → c ≤ 0xdf → lead c ≡ due 0x80 0xbf 0
unfolding lead by_row between
lead-c2 = leads 0xc2 0xdf (due 0x80 0xbf 0) (omega arith) refl

pub lead-e0 : (c : ℕ) → 0xe0 ≤ c → c ≤ 0xe0 → lead c ≡ due 0xa0 0xbf 1
unfolding lead by_row between
lead-e0 = leads 0xe0 0xe0 (due 0xa0 0xbf 1) (omega arith) refl

pub lead-e1 : (c : ℕ) → 0xe1 ≤ c → c ≤ 0xec → lead c ≡ due 0x80 0xbf 1
unfolding lead by_row between
lead-e1 = leads 0xe1 0xec (due 0x80 0xbf 1) (omega arith) refl

pub lead-ed : (c : ℕ) → 0xed ≤ c → c ≤ 0xed → lead c ≡ due 0x80 0x9f 1
unfolding lead by_row between
lead-ed = leads 0xed 0xed (due 0x80 0x9f 1) (omega arith) refl

pub lead-ee : (c : ℕ) → 0xee ≤ c → c ≤ 0xef → lead c ≡ due 0x80 0xbf 1
unfolding lead by_row between
lead-ee = leads 0xee 0xef (due 0x80 0xbf 1) (omega arith) refl

pub lead-f0 : (c : ℕ) → 0xf0 ≤ c → c ≤ 0xf0 → lead c ≡ due 0x90 0xbf 2
unfolding lead by_row between
lead-f0 = leads 0xf0 0xf0 (due 0x90 0xbf 2) (omega arith) refl

pub lead-f1 : (c : ℕ) → 0xf1 ≤ c → c ≤ 0xf3 → lead c ≡ due 0x80 0xbf 2
unfolding lead by_row between
lead-f1 = leads 0xf1 0xf3 (due 0x80 0xbf 2) (omega arith) refl

pub lead-f4 : (c : ℕ) → 0xf4 ≤ c → c ≤ 0xf4 → lead c ≡ due 0x80 0x8f 2
unfolding lead by_row between
lead-f4 = leads 0xf4 0xf4 (due 0x80 0x8f 2) (omega arith) refl

-- ---- whole characters

pub two : (a b : ℕ) → 0xc2 ≤ a → a ≤ 0xdf → 0x80 ≤ b → b ≤ 0xbf → run start (a ∷ b ∷ []) ≡ start
unfolding run next
two a b l h p q = rw (lead-c2 a l h, in_between 0x80 0xbf b p q)

pub three : (low high a b c : ℕ) → lead a ≡ due low high 1 → low ≤ b → b ≤ high → 0x80 ≤ c → c ≤ 0xbf → run start (a ∷ b ∷ c ∷ []) ≡ start
unfolding run next
three low high a b c e l h p q = rw (e, in_between low high b l h, in_between 0x80 0xbf c p q)

pub four : (low high a b c d : ℕ) → lead a ≡ due low high 2 → low ≤ b → b ≤ high → 0x80 ≤ c → c ≤ 0xbf → 0x80 ≤ d → d ≤ 0xbf → run start (a ∷ b ∷ c ∷ d ∷ []) ≡ start
unfolding run next
four low high a b c d e l h p q m n = rw (e, in_between low high b l h, in_between 0x80 0xbf c p q, in_between 0x80 0xbf d m n)

pub one_byte : (u : ℕ) → ltb u 0x80 ≡ true → run start (u ∷ []) ≡ start
unfolding run next lead
one_byte u e = rw e

-- three bytes: by the row of the first
-- outside a range and not beyond it
outside : (u : ℕ) → between 0xd800 0xdfff u ≡ false → u ≤ 0xdfff → u < 0xd800
unfolding between
outside u e l = by_bool (leb 0xd800 u) (λ p. not-both (le-leb u 0xdfff l) (rw p at e)) (λ p. omega tests)

run-three : (u : ℕ) → 0x800 ≤ u → u < 0x10000 → between 0xd800 0xdfff u ≡ false → run start ((0xe0 + u / 4096) ∷ (0x80 + u / 64 % 64) ∷ (0x80 + u % 64) ∷ []) ≡ start
run-three u l h s =
    let a : ℕ = 0xe0 + u / 4096 in
    by_bool (ltb u 0x1000)
    (λ p. three 0xa0 0xbf a (0x80 + u / 64 % 64) (0x80 + u % 64) (lead-e0 a (omega tests) (omega tests)) (omega tests) (omega tests) (omega arith) (omega arith))
    (λ p. by_bool (ltb u 0xd000)
    (λ q. three 0x80 0xbf a (0x80 + u / 64 % 64) (0x80 + u % 64) (lead-e1 a (omega tests) (omega tests)) (omega tests) (omega tests) (omega arith) (omega arith))
    (λ q. by_bool (ltb u 0xe000)
    (λ r. let k : u < 0xd800 = outside u s (omega tests) in
    three 0x80 0x9f a (0x80 + u / 64 % 64) (0x80 + u % 64) (lead-ed a (omega tests) (omega tests)) (omega tests) (omega tests) (omega arith) (omega arith))
    (λ r. three 0x80 0xbf a (0x80 + u / 64 % 64) (0x80 + u % 64) (lead-ee a (omega tests) (omega tests)) (omega tests) (omega tests) (omega arith) (omega arith))))

run-four : (u : ℕ) → 0x10000 ≤ u → u < 0x110000 → run start ((0xf0 + u / 262144) ∷ (0x80 + u / 4096 % 64) ∷ (0x80 + u / 64 % 64) ∷ (0x80 + u % 64) ∷ []) ≡ start
run-four u l h =
    let a : ℕ = 0xf0 + u / 262144 in
    by_bool (ltb u 0x40000)
    (λ p. four 0x90 0xbf a (0x80 + u / 4096 % 64) (0x80 + u / 64 % 64) (0x80 + u % 64) (lead-f0 a (omega tests) (omega tests)) (omega tests) (omega tests) (omega arith) (omega arith) (omega arith) (omega arith))
    (λ p. by_bool (ltb u 0x100000)
    (λ q. four 0x80 0xbf a (0x80 + u / 4096 % 64) (0x80 + u / 64 % 64) (0x80 + u % 64) (lead-f1 a (omega tests) (omega tests)) (omega tests) (omega tests) (omega arith) (omega arith) (omega arith) (omega arith))
    (λ q. four 0x80 0x8f a (0x80 + u / 4096 % 64) (0x80 + u / 64 % 64) (0x80 + u % 64) (lead-f4 a (omega tests) (omega tests)) (omega tests) (omega tests) (omega arith) (omega arith) (omega arith) (omega arith)))

-- every scalar value
pub encode_utf8 : (u : ℕ) → u < 0x110000 → between 0xd800 0xdfff u ≡ false → utf8 (encode u) ≡ true
unfolding encode
encode_utf8 u h s =
    by_bool (ltb u 0x80) (λ p. rw p (run-utf8 (u ∷ []) (one_byte u p)))
    (λ p. by_bool (ltb u 0x800)
    (λ q. rw (p, q) (run-utf8 _ (two (0xc0 + u / 64) (0x80 + u % 64) (omega tests) (omega tests) (omega arith) (omega arith))))
    (λ q. by_bool (ltb u 0x10000)
    (λ r. rw (p, q, r) (run-utf8 _ (run-three u (omega tests) (omega tests) s)))
    (λ r. rw (p, q, r) (run-utf8 _ (run-four u (omega tests) h)))))
