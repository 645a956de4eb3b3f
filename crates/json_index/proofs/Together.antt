-- A string and a name that are the same byte by byte, and what the byte after that tells.
use mathlib.Core.Path.{◌≡◌, refl, sym, ap, subst, ◌∙◌}
use mathlib.Core.Bool.{Bool, true, false, not}
use mathlib.Core.List.{[], ◌∷◌}
use mathlib.Core.Option.{Option, none, some}
use Prim.Native.Nat.{ℕ, ◌+◌, ◌-◌, ◌≤◌, ◌<◌}
use native.Mathlib.Omega.{arith}
use native.Mathlib.Numerals.{add-one}
use lib.Dec.{eqb}
use lib.ListN.{length, take, drop, get_or, get_or-eq_default}
use lib.Seq.{drop-cons}
use borrow.Author.Tests.{eq-eqb, ne_eqb, eqb-true, eqb-false}
use Rattle.text.specs.Bytes.{Bytes, between, same}
use Rattle.text.specs.Places.{byte_at}
use Rattle.text.proofs.Cases.{by_bool, between-true, beyond}
use Rattle.text.proofs.Places.{byte-default}
use Rattle.json_text.specs.Strings.{before}
use Rattle.json_skip.specs.Skip.{quoted}
use Rattle.json_strings.specs.Decoded.{decoded_at, spells}
use Rattle.json_strings.proofs.Laws.{quote-at, bare-at, nothing-at}
use Rattle.std.specs.Prelude.{Result}
use Rattle.json_index.specs.Index.{name_in, RawByte, Together, Skims, Differs, Tries}
use Rattle.json_index.proofs.Names.{front, ends_on, name-full}

pub raw-low : (c : ℕ) {r : Bool} → 32 ≤ c → c ≤ 92 → (c ≡ 34 → ⊥) → r ≡ not (eqb c 92) → RawByte c r
raw-low c l u n e = subst (RawByte c) (sym e) (go (eqb c 92) (eqb-false c 92))
  where
    go : (x : Bool) → (x ≡ false → c ≡ 92 → ⊥) → RawByte c (not x)
    go true f = tt
    go false f = (l, omega arith, n, f refl)

pub raw-as : (c : ℕ) {r q : Bool} → RawByte c r → r ≡ q → RawByte c q
raw-as c h e = subst (RawByte c) e h

-- ---- bytes that are no quote and no backslash

pub skims-first : (s : Bytes) (at : ℕ) → Skims s at at
skims-first s at = record { from = omega arith; within = λ l. l; same = refl }

pub skims-on : (s : Bytes) (at i : ℕ) → Skims s at i → i < length s → {c : ℕ} → get_or s i 0 ≡ c → RawByte c true → Skims s at (i + 1)
unfolding quoted
skims-on s at i k l {c} e r =
    let one : quoted false (drop i s) ≡ quoted false (drop (i + 1) s) =
    rw (drop-cons s i 0 l, e, ne_eqb c 34 r.2, ne_eqb c 92 r.3, add-one) refl in
    record { from = omega (arith, k.from); within = λ h. omega arith; same = k.same ∙ one }

-- ---- with a name

spells-on : (c : ℕ) (o : Option Bytes) (x : Bytes) → spells (before (c ∷ []) o) (c ∷ x) ≡ spells o x
unfolding same
spells-on c none x = refl
spells-on c (some y) x = rw (eq-eqb c c refl)

spells-other : (b c : ℕ) (o : Option Bytes) (x : Bytes) → (c ≡ b → ⊥) → spells (before (b ∷ []) o) (c ∷ x) ≡ false
unfolding same
spells-other b c none x n = refl
spells-other b c (some y) x n = rw (ne_eqb c b n)

pub byte-same : (s : Bytes) (i : ℕ) → i < length s → get_or s i 0 ≡ byte_at s i
byte-same s i h = byte-default s i 0 256 h

pub together-first : (s : Bytes) (at : ℕ) (names : Bytes) (a : ℕ) → Together s at names a at a
together-first s at names a = record { within = λ l. l; ends = λ e p. p; same = λ e l. refl }

module _ (s : Bytes) (at : ℕ) (names : Bytes) (a i k : ℕ) (t : Together s at names a i k) (in-names : k < length names) (b c : ℕ) (is_b : b ≡ byte_at s i) (is_c : c ≡ get_or names k 0) where
  pub together-on : (c ≡ 44 → ⊥) → b ≡ c → RawByte c true → Together s at names a (i + 1) (k + 1)
  together-on n q r = record {
    within = λ h. omega arith;
    ends = λ e p. t.ends e (ends_on names k e in-names (λ z. n (is_c ∙ z)) p);
    same = λ e p. t.same e (omega arith) ∙ one e p;
  }
    where
      one : (e : ℕ) → k + 1 ≤ e → spells (decoded_at s i) (name_in names k e) ≡ spells (decoded_at s (i + 1)) (name_in names (k + 1) e)
      one e p =
          let x : decoded_at s i ≡ before (c ∷ []) (decoded_at s (i + 1)) = bare-at s i b is_b (λ z. r.2 (sym q ∙ z)) (λ z. r.3 (sym q ∙ z)) (omega (arith, r.0)) (omega (arith, r.1)) ∙ ap (λ (y : ℕ). before (y ∷ []) (decoded_at s (i + 1))) q in
          let y : name_in names k e ≡ c ∷ name_in names (k + 1) e = front names k e in-names p ∙ ap (λ (z : ℕ). z ∷ name_in names (k + 1) e) (sym is_c) in
          ap (λ (o : Option Bytes). spells o (name_in names k e)) x ∙ ap (spells (before (c ∷ []) (decoded_at s (i + 1)))) y ∙ spells-on c (decoded_at s (i + 1)) (name_in names (k + 1) e)

-- ---- by the byte at which the string stands

none_in : (names : Bytes) (a e : ℕ) → e ≡ a → name_in names a e ≡ []
none_in names a e q = let z : e - a ≡ 0 = omega arith in ap (λ (n : ℕ). take n (drop a names)) z

module _ (s : Bytes) (at : ℕ) (names : Bytes) (a e : ℕ) where
  pub part-past : length s ≤ at → spells (decoded_at s at) (name_in names a e) ≡ false
  part-past l =
      let z : 256 ≡ byte_at s at = sym (get_or-eq_default s 256 l) in
      ap (λ (o : Option Bytes). spells o (name_in names a e)) (nothing-at s at 256 z (λ z. omega arith) (λ z. omega arith) (beyond 32 255 256 (omega arith)))

  module _ (b : ℕ) (is_b : b ≡ byte_at s at) where
    part-first : (o : Option Bytes) → decoded_at s at ≡ o → a < length names → a < e → spells (decoded_at s at) (name_in names a e) ≡ spells o (get_or names a 0 ∷ name_in names (a + 1) e)
    part-first o x inside full = ap (λ (y : Option Bytes). spells y (name_in names a e)) x ∙ ap (spells o) (front names a e inside (omega arith))

    part_none : b ≡ 34 → a < length names → a < e → spells (decoded_at s at) (name_in names a e) ≡ false
    unfolding same
    part_none q inside full = part-first (some []) (quote-at s at b is_b q) inside full

    pub part-quote : b ≡ 34 → a ≤ e → e ≤ length names → eqb e a ≡ spells (decoded_at s at) (name_in names a e)
    unfolding same
    part-quote q from within =
        by_bool (eqb e a)
        (λ z. z ∙ sym (ap (λ (o : Option Bytes). spells o (name_in names a e)) (quote-at s at b is_b q) ∙ ap (spells (some [])) (none_in names a e (eqb-true e a z))))
        (λ z. let m = eqb-false e a z in
        z ∙ sym (part_none q (omega arith) (omega arith)))

    part-other : (b ≡ 34 → ⊥) → (b ≡ 92 → ⊥) → (get_or names a 0 ≡ b → ⊥) → a < length names → a < e → spells (decoded_at s at) (name_in names a e) ≡ false
    part-other n m q inside full =
        by_bool (between 32 255 b)
        (λ h.
        part-first _ (bare-at s at b is_b n m (between-true 32 255 b h).0 (omega (arith, (between-true 32 255 b h).1))) inside full
        ∙ spells-other b (get_or names a 0) (decoded_at s (at + 1)) (name_in names (a + 1) e) q)
        (λ h. part-first none (nothing-at s at b is_b n m h) inside full)

-- ---- by the first bytes of the string and of the name

pub differs-as : (s : Bytes) (at : ℕ) (names : Bytes) (a : ℕ) {r q : Bool} → Differs s at names a r → r ≡ q → Differs s at names a q
differs-as s at names a h e = subst (Differs s at names a) e h

module _ (s : Bytes) (at : ℕ) (names : Bytes) (a : ℕ) (in-s : at < length s) (in-names : a < length names) (b : ℕ) (is_b : b ≡ byte_at s at) where
  pub differs-first : (b ≡ get_or names a 0 → ⊥) → (b ≡ 92 → ⊥) → {r : Bool} → r ≡ not (eqb (get_or names a 0) 44) → Differs s at names a r
  differs-first n m z = subst (Differs s at names a) (sym z) (by (eqb (get_or names a 0) 44) (eqb-false (get_or names a 0) 44))
    where
      by : (x : Bool) → (x ≡ false → get_or names a 0 ≡ 44 → ⊥) → Differs s at names a (not x)
      by true f = in-s
      by false f = λ e h.
          let l = name-full names a e in-names (f refl) h in
          by_bool (eqb b 34)
          (λ q. part_none s at names a e b is_b (eqb-true b 34 q) in-names l)
          (λ q. part-other s at names a e b is_b (eqb-false b 34 q) m (λ y. n (sym y)) in-names l)

pub tried-as : (s : Bytes) (at : ℕ) (names : Bytes) (a : ℕ) {r q : Result ℕ ℕ} → Tries s at names a r → r ≡ q → Tries s at names a q
tried-as s at names a h e = subst (Tries s at names a) e h
