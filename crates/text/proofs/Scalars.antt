-- UTF-8 is exactly the octets of characters' numbers (specs/Scalar.antt).
use mathlib.Core.Path.{◌≡◌, refl, sym, ap, ap₂, subst, ◌∙◌}
use mathlib.Core.List.{List, [], ◌∷◌, ◌++◌}
use Prim.Native.Nat.{ℕ, zero, suc, ◌+◌, ◌-◌, ◌*◌, ◌/◌, ◌%◌, ◌≤◌, ◌<◌}
use native.Mathlib.Omega.{arith}
use lib.ListN.{length}
use lib.Dec.{ltb}
use borrow.Author.Tests.{lt-ltb}
use Rattle.text.specs.Bytes.{Bytes, between}
use Rattle.text.specs.Utf8.{Row, row, rows, Due, start, due, by_row, lead, tails, next, run, at_start, encode}
use Rattle.text.specs.Scalar.{Scalar, Octets, one-octet, two-octets, three-octets, four-octets, Characters, no_more, one_more, ExactlyUtf8}
use Rattle.text.proofs.Cases.{by_bool, tests, between-true, not-both}
use Rattle.text.proofs.Characters.{run-append, utf8-run, run-utf8, not_start}
use Rattle.text.proofs.Encoding.{one_byte, two, three, four, lead-e0, lead-e1, lead-ed, lead-ee, lead-f0, lead-f1, lead-f4}

-- ---- the octets of a number are UTF-8

three-run : (u a b c : ℕ) → Scalar u → a < 16 → b < 64 → c < 64 → u ≡ a * 4096 + b * 64 + c → 0x800 ≤ u → run start ((0xe0 + a) ∷ (0x80 + b) ∷ (0x80 + c) ∷ []) ≡ start
three-run u a b c v m n o e l =
    by_bool (ltb a 1) (λ p. three 0xa0 0xbf (0xe0 + a) (0x80 + b) (0x80 + c) (lead-e0 (0xe0 + a) (omega arith) (omega tests)) (omega tests) (omega tests) (omega arith) (omega arith))
    (λ p. by_bool (ltb a 13) (λ q. three 0x80 0xbf (0xe0 + a) (0x80 + b) (0x80 + c) (lead-e1 (0xe0 + a) (omega tests) (omega tests)) (omega arith) (omega arith) (omega arith) (omega arith))
    (λ q. by_bool (ltb a 14)
    (λ r. by_bool (ltb b 32)
    (λ h. three 0x80 0x9f (0xe0 + a) (0x80 + b) (0x80 + c) (lead-ed (0xe0 + a) (omega tests) (omega tests)) (omega arith) (omega tests) (omega arith) (omega arith))
    (λ h. absurd (v.no_surrogate (omega tests) (omega tests))))
    (λ r. three 0x80 0xbf (0xe0 + a) (0x80 + b) (0x80 + c) (lead-ee (0xe0 + a) (omega tests) (omega arith)) (omega arith) (omega arith) (omega arith) (omega arith))))

four-run : (u a b c d : ℕ) → a < 8 → b < 64 → c < 64 → d < 64 → u ≡ a * 262144 + b * 4096 + c * 64 + d → 0x10000 ≤ u → u ≤ 0x10ffff
    → run start ((0xf0 + a) ∷ (0x80 + b) ∷ (0x80 + c) ∷ (0x80 + d) ∷ []) ≡ start
four-run u a b c d m n o p e l h =
    by_bool (ltb a 1) (λ q. four 0x90 0xbf (0xf0 + a) (0x80 + b) (0x80 + c) (0x80 + d) (lead-f0 (0xf0 + a) (omega arith) (omega tests)) (omega tests) (omega arith) (omega arith) (omega arith) (omega arith) (omega arith))
    (λ q. by_bool (ltb a 4) (λ r. four 0x80 0xbf (0xf0 + a) (0x80 + b) (0x80 + c) (0x80 + d) (lead-f1 (0xf0 + a) (omega tests) (omega tests)) (omega arith) (omega arith) (omega arith) (omega arith) (omega arith) (omega arith))
    (λ r. four 0x80 0x8f (0xf0 + a) (0x80 + b) (0x80 + c) (0x80 + d) (lead-f4 (0xf0 + a) (omega tests) (omega tests)) (omega arith) (omega tests) (omega arith) (omega arith) (omega arith) (omega arith)))

octets-run : (u : ℕ) (s : Bytes) → Scalar u → Octets u s → run start s ≡ start
octets-run u s v (one-octet e l) = rw e (one_byte u (lt-ltb u 128 (omega arith)))
octets-run u s v (two-octets a b e m n k l h) = rw e (two (0xc0 + a) (0x80 + b) (omega arith) (omega arith) (omega arith) (omega arith))
octets-run u s v (three-octets a b c e m n o k l h) = rw e (three-run u a b c v m n o k l)
octets-run u s v (four-octets a b c d e m n o p k l h) = rw e (four-run u a b c d m n o p k l h)

characters-run : (s : Bytes) → Characters s → run start s ≡ start
unfolding run
characters-run s (no_more s' e) = rw e
characters-run s (one_more s' x t u e v o c) = rw e (run-append start x t ∙ ap (λ (d : Due). run d t) (octets-run u x v o) ∙ characters-run t c)

-- ---- what is UTF-8 begins with the octets of a number

-- what is due is there
due-there : (low high k : ℕ) (s : Bytes) → run (due low high k) s ≡ start
    → (b : ℕ) × (t : Bytes) × (s ≡ b ∷ t) × (low ≤ b) × (b ≤ high) × (run (tails k) t ≡ start)
unfolding run next
due-there low high k [] e = not-both refl (ap at_start (sym e))
due-there low high k (b ∷ t) e =
    by_bool (between low high b) (λ q. let m = between-true low high b q in (b, t, refl, m.0, m.1, rw q at e)) (λ q. absurd (not_start t (rw q at e)))

-- the first character of a text, and what follows
pub record First (s : Bytes) : Type 0 where
  pub number : ℕ
  pub octets : Bytes
  pub rest : Bytes
  pub is : s ≡ octets ++ rest
  pub scalar : Scalar number
  pub by : Octets number octets
  pub goes_on : run start rest ≡ start
  pub shorter : length rest < length s

-- What a row must promise of a first byte c and a second byte b, with so many tails to come: the number is in the range of so many octets, and no surrogate.
abbrev Right : ℕ → ℕ → ℕ → Type 0
Right zero c b = (0xc0 ≤ c) × (c < 0xe0) × (0x80 ≤ b) × (b < 0xc0) × (0x80 ≤ (c - 0xc0) * 64 + (b - 0x80))
Right (suc zero) c b =
    (0xe0 ≤ c) × (c < 0xf0) × (0x80 ≤ b) × (b < 0xc0) × (0x800 ≤ (c - 0xe0) * 4096 + (b - 0x80) * 64)
    × (0xd800 ≤ (c - 0xe0) * 4096 + (b - 0x80) * 64 + 63 → (c - 0xe0) * 4096 + (b - 0x80) * 64 ≤ 0xdfff → ⊥)
Right (suc (suc zero)) c b =
    (0xf0 ≤ c) × (c < 0xf8) × (0x80 ≤ b) × (b < 0xc0) × (0x10000 ≤ (c - 0xf0) * 262144 + (b - 0x80) * 4096)
    × ((c - 0xf0) * 262144 + (b - 0x80) * 4096 + 4095 ≤ 0x10ffff)
Right (suc (suc (suc k))) c b = ⊥

-- the octets by their bytes
two-are : (c b : ℕ) → Right 0 c b → Scalar ((c - 0xc0) * 64 + (b - 0x80)) × Octets ((c - 0xc0) * 64 + (b - 0x80)) (c ∷ b ∷ [])
two-are c b h = (
  record { in-range = omega arith; no_surrogate = λ l m. omega arith },
  two-octets (c - 0xc0) (b - 0x80) (ap₂ (λ (x y : ℕ). x ∷ y ∷ []) (omega arith) (omega arith)) (omega arith) (omega arith) refl h.4 (omega arith),
)

three-are : (c b d : ℕ) → Right 1 c b → 0x80 ≤ d → d ≤ 0xbf
    → Scalar ((c - 0xe0) * 4096 + (b - 0x80) * 64 + (d - 0x80)) × Octets ((c - 0xe0) * 4096 + (b - 0x80) * 64 + (d - 0x80)) (c ∷ b ∷ d ∷ [])
three-are c b d h l m = (
  record { in-range = omega arith; no_surrogate = λ p q. h.5 (omega arith) (omega arith) },
  three-octets (c - 0xe0) (b - 0x80) (d - 0x80) (three-same (omega arith) (omega arith) (omega arith)) (omega arith) (omega arith) (omega arith) refl (omega arith) (omega arith),
)
  where
    three-same : {x y z v w q : ℕ} → x ≡ v → y ≡ w → z ≡ q → (x ∷ y ∷ z ∷ []) ≡ v ∷ w ∷ q ∷ []
    three-same p q r = cc

four_are : (c b d e : ℕ) → Right 2 c b → 0x80 ≤ d → d ≤ 0xbf → 0x80 ≤ e → e ≤ 0xbf
    → Scalar ((c - 0xf0) * 262144 + (b - 0x80) * 4096 + (d - 0x80) * 64 + (e - 0x80))
    × Octets ((c - 0xf0) * 262144 + (b - 0x80) * 4096 + (d - 0x80) * 64 + (e - 0x80)) (c ∷ b ∷ d ∷ e ∷ [])
four_are c b d e h l m n o = (
  record { in-range = omega arith; no_surrogate = λ p q. omega arith },
  four-octets (c - 0xf0) (b - 0x80) (d - 0x80) (e - 0x80) (four_same (omega arith) (omega arith) (omega arith) (omega arith)) (omega arith) (omega arith) (omega arith) (omega arith) refl (omega arith) (omega arith),
)
  where
    four_same : {x y z o v w q p : ℕ} → x ≡ v → y ≡ w → z ≡ q → o ≡ p → (x ∷ y ∷ z ∷ o ∷ []) ≡ v ∷ w ∷ q ∷ p ∷ []
    four_same p q r s = cc

-- after the first two bytes: the tails
then-tails : (k c b : ℕ) (t : Bytes) → Right k c b → run (tails k) t ≡ start → First (c ∷ b ∷ t)
then-tails zero c b t h e =
    let o = two-are c b h in
    record { number = (c - 0xc0) * 64 + (b - 0x80); octets = c ∷ b ∷ []; rest = t; is = refl; scalar = o.0; by = o.1; goes_on = e; shorter = omega arith }
then-tails (suc zero) c b t h e =
    let d = due-there 0x80 0xbf 0 t e in
    let o = three-are c b d.0 h d.3 d.4 in
    record {
      number = (c - 0xe0) * 4096 + (b - 0x80) * 64 + (d.0 - 0x80);
      octets = c ∷ b ∷ d.0 ∷ [];
      rest = d.1;
      is = ap (λ (x : Bytes). c ∷ b ∷ x) d.2;
      scalar = o.0;
      by = o.1;
      goes_on = d.5;
      shorter = omega (arith, ap length d.2);
    }
then-tails (suc (suc zero)) c b t h e =
    let d = due-there 0x80 0xbf 1 t e in
    let f = due-there 0x80 0xbf 0 d.1 d.5 in
    let o = four_are c b d.0 f.0 h d.3 d.4 f.3 f.4 in
    record {
      number = (c - 0xf0) * 262144 + (b - 0x80) * 4096 + (d.0 - 0x80) * 64 + (f.0 - 0x80);
      octets = c ∷ b ∷ d.0 ∷ f.0 ∷ [];
      rest = f.1;
      is = ap (λ (x : Bytes). c ∷ b ∷ x) (d.2 ∙ ap (λ (x : Bytes). d.0 ∷ x) f.2);
      scalar = o.0;
      by = o.1;
      goes_on = f.5;
      shorter = omega (arith, ap length d.2, ap length f.2);
    }
then-tails (suc (suc (suc k))) c b t h e = absurd h

-- a row promises this of all bytes that it takes
abbrev RowRight : Row → Type 0
RowRight (row from to low high k) = (c b : ℕ) → from ≤ c → c ≤ to → low ≤ b → b ≤ high → Right k c b

abbrev RowsRight : List Row → Type 0
RowsRight [] = Unit {0}
RowsRight (r ∷ rs) = RowRight r × RowsRight rs

by_rows : (rs : List Row) → RowsRight rs → (c : ℕ) (s : Bytes) → run (by_row rs c) s ≡ start → First (c ∷ s)
unfolding by_row
by_rows [] h c s e = absurd (not_start s e)
by_rows (row from to low high k ∷ rs) h c s e =
    by_bool (between from to c)
    (λ q. let m = between-true from to c q in
    let d = due-there low high k s (rw q at e) in
    subst (λ (x : Bytes). First (c ∷ x)) (sym d.2) (then-tails k c d.0 d.1 (h.0 c d.0 m.0 m.1 d.3 d.4) d.5))
    (λ q. by_rows rs h.1 c s (rw q at e))

-- each row, by arithmetic: overlong forms, surrogates and numbers past 10FFFF have none
rows_right : RowsRight rows
rows_right = (
  λ c b l h m n. (omega arith, omega arith, omega arith, omega arith, omega arith),
  (
    λ c b l h m n. (omega arith, omega arith, omega arith, omega arith, omega arith, λ p q. omega arith),
    (
      λ c b l h m n. (omega arith, omega arith, omega arith, omega arith, omega arith, λ p q. omega arith),
      (
        λ c b l h m n. (omega arith, omega arith, omega arith, omega arith, omega arith, λ p q. omega arith),
        (
          λ c b l h m n. (omega arith, omega arith, omega arith, omega arith, omega arith, λ p q. omega arith),
          (
            λ c b l h m n. (omega arith, omega arith, omega arith, omega arith, omega arith, omega arith),
            (
              λ c b l h m n. (omega arith, omega arith, omega arith, omega arith, omega arith, omega arith),
              (
                λ c b l h m n. (omega arith, omega arith, omega arith, omega arith, omega arith, omega arith),
                tt,
              ),
            ),
          ),
        ),
      ),
    ),
  ),
)

pub first_of : (c : ℕ) (s : Bytes) → run (lead c) s ≡ start → First (c ∷ s)
unfolding lead
first_of c s e =
    by_bool (ltb c 128)
    (λ p. record {
      number = c;
      octets = c ∷ [];
      rest = s;
      is = refl;
      scalar = record { in-range = omega tests; no_surrogate = λ l m. omega tests };
      by = one-octet refl (omega tests);
      goes_on = rw p at e;
      shorter = omega arith;
    })
    (λ p. by_rows rows rows_right c s (rw p at e))

-- the first character, and all that follow in a shorter text
from_first : (s : Bytes) → run start s ≡ start → ((t : Bytes) → length t < length s → run start t ≡ start → Characters t) → Characters s
unfolding run next
from_first [] e later = no_more [] refl
from_first (c ∷ s) e later =
    let f = first_of c s e in
    one_more (c ∷ s) f.octets f.rest f.number f.is f.scalar f.by (later f.rest f.shorter f.goes_on)

-- the number bounds the length
all-characters : (n : ℕ) (s : Bytes) → length s < n → run start s ≡ start → Characters s
all-characters zero s l e = absurd (omega arith)
all-characters (suc n) s l e = from_first s e (λ t h g. all-characters n t (omega arith) g)

-- ---- the octets made from a number

encode-octets : (u : ℕ) → Scalar u → Octets u (encode u)
unfolding encode
encode-octets u v =
    by_bool (ltb u 0x80) (λ p. rw p (one-octet refl (omega tests)))
    (λ p. by_bool (ltb u 0x800)
    (λ q. rw (p, q) (two-octets (u / 64) (u % 64) refl (omega tests) (omega arith) (omega arith) (omega tests) (omega tests)))
    (λ q. by_bool (ltb u 0x10000)
    (λ r. rw (p, q, r) (three-octets (u / 4096) (u / 64 % 64) (u % 64) refl (omega tests) (omega arith) (omega arith) (omega arith) (omega tests) (omega tests)))
    (λ r. let i = v.in-range in
    rw (p, q, r) (four-octets (u / 262144) (u / 4096 % 64) (u / 64 % 64) (u % 64) refl (omega arith) (omega arith) (omega arith) (omega arith) (omega arith) (omega tests) i))))

pub exactly-utf8 : ExactlyUtf8
exactly-utf8 =
    record {
      only-these = λ s e. all-characters (suc (length s)) s (omega arith) (utf8-run s e);
      all-of-these = λ s c. run-utf8 s (characters-run s c);
      encoded = encode-octets;
    }
