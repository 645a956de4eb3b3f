-- A spelled string is read back as units, and decoded to what it was.
use mathlib.Core.Path.{◌≡◌, refl, sym, ap, ap₂, ◌∙◌}
use mathlib.Core.Bool.{true, false, ◌||◌}
use mathlib.Core.List.{[], ◌∷◌, ◌++◌, map, append_assoc}
use mathlib.Core.Option.{some}
use Prim.Native.Nat.{ℕ, zero, suc, ◌+◌}
use native.Mathlib.Omega.{arith}
use lib.Dec.{eqb, ltb}
use borrow.Author.Tests.{ltb-false, lt-ltb, le-ltb, ne_eqb}
use Rattle.text.specs.Choice.{pick}
use Rattle.text.specs.Bytes.{Bytes, ascii, between, all}
use Rattle.text.specs.Utf8.{Due, start, due, broken, lead, tails, next, run, at_start, utf8, encode}
use Rattle.text.specs.Reader.{got, under, on, more, last, turns}
use Rattle.text.proofs.Cases.{by_bool, by_below, between-true, beyond, not-both}
use Rattle.text.proofs.Lists.{all_head, all_tail}
use Rattle.text.proofs.Characters.{utf8-run, not_start, later, later-lead, later-tails, later-bounds, lead-no-start, is_byte, utf8-bytes}
use Rattle.text.proofs.Readers.{takes-moves, loop-enough, turns_more, turns-last}
use Rattle.json_text.specs.Grammar.{is_hex, is_short}
use Rattle.json_text.specs.Compact.{spelled, spelled_all}
use Rattle.json_text.specs.Syntax.{hex_val, hex, hex4, short, escape, is_lead, tail_bytes, following, push, character, characters}
use Rattle.json_text.specs.Strings.{before, decode_after, decode}
use Rattle.json_text.proofs.Takes.{takes-character}

-- ---- units

-- the unit that a spelled byte is read as: controls and DEL without a short escape go by \u00XX
unfoldable pub unit : ℕ → ℕ
unit c = pick (eqb c 8 || eqb c 9 || eqb c 10 || eqb c 12 || eqb c 13) c (pick (ltb c 32 || eqb c 127) (256 + c) c)

unfoldable pub units : Bytes → Bytes
units s = map unit s

units-append : (s t : Bytes) → units (s ++ t) ≡ units s ++ units t
unfolding units
units-append [] t = refl
units-append (c ∷ s) t = ap (λ (x : Bytes). unit c ∷ x) (units-append s t)

-- from 128 on a byte is itself
high-unit : (c : ℕ) → ltb c 128 ≡ false → unit c ≡ c
unfolding unit
high-unit c l =
    let h = ltb-false c 128 l in
    rw (ne_eqb c 8 (omega arith), ne_eqb c 9 (omega arith), ne_eqb c 10 (omega arith), ne_eqb c 12 (omega arith), ne_eqb c 13 (omega arith), le-ltb c 32 (omega arith), ne_eqb c 127 (omega arith))

high-spelled : (c : ℕ) → ltb c 128 ≡ false → spelled c ≡ c ∷ []
unfolding spelled
high-spelled c l =
    let h = ltb-false c 128 l in
    rw (ne_eqb c 34 (omega arith), ne_eqb c 92 (omega arith), ne_eqb c 8 (omega arith), ne_eqb c 9 (omega arith), ne_eqb c 10 (omega arith), ne_eqb c 12 (omega arith), ne_eqb c 13 (omega arith), le-ltb c 32 (omega arith), ne_eqb c 127 (omega arith))

-- ---- one character

low_step : (r : Bytes) (c : ℕ) → ltb c 128 ≡ true → character (spelled c ++ r) ≡ got (push (unit c)) r
unfolding character on escape hex4 hex hex_val is_hex is_short between short spelled unit
low_step r c l = by_below (λ c. character (spelled c ++ r)) (λ c. got (push (unit c)) r) c 128 refl (λ h. not-both l h)

lead-step : (c : ℕ) (r : Bytes) (low high k : ℕ) → ltb c 128 ≡ false → lead c ≡ due low high k
    → character (c ∷ r) ≡ under (λ cs. more (λ us. c ∷ (cs ++ us))) (following (due low high k) r)
unfolding character on is_lead
lead-step c r low high k l e =
    let h = ltb-false c 128 l in
    rw (ne_eqb c 34 (omega arith), ne_eqb c 92 (omega arith), beyond 32 127 c (omega arith), lt-ltb 127 c (omega arith), e)

quote-step : (t : Bytes) → character (34 ∷ t) ≡ got (last []) t
unfolding character on
quote-step t = refl

-- ---- all characters, along the states of UTF-8

abbrev spelt : Bytes → Bytes → Bytes
spelt s t = spelled_all s ++ 34 ∷ t

-- some number of turns reads it
abbrev Reads : Bytes → Bytes → Type 0
Reads s t = (n : ℕ) × (turns character n (spelt s t) ≡ got (units s) t)

-- where bytes are due: cs ends the character, and what is left is read
abbrev Ends : ℕ → ℕ → ℕ → Bytes → Bytes → Type 0
Ends low high k s t = (cs : Bytes) × (u : Bytes) × (s ≡ cs ++ u) × (units cs ≡ cs) × (following (due low high k) (spelt s t) ≡ got cs (spelt u t)) × Reads u t

abbrev From : Due → Bytes → Bytes → Type 0
From start s t = Reads s t
From (due low high k) s t = Ends low high k s t
From broken s t = Unit {0}

cons-spelt : (c : ℕ) (s t : Bytes) → spelt (c ∷ s) t ≡ spelled c ++ spelt s t
unfolding spelled_all
cons-spelt c s t = append_assoc (spelled c) (spelled_all s) (34 ∷ t)

high-spelt : (c : ℕ) (s t : Bytes) → ltb c 128 ≡ false → spelt (c ∷ s) t ≡ c ∷ spelt s t
high-spelt c s t l = cons-spelt c s t ∙ ap (λ (x : Bytes). x ++ spelt s t) (high-spelled c l)

-- one of the bytes due, and those after it
follow_one : (low high c : ℕ) (r : Bytes) → between low high c ≡ true → following (due low high 0) (c ∷ r) ≡ got (c ∷ []) r
unfolding following tail_bytes on
follow_one low high c r q = rw q

follow-more : (low high k c : ℕ) (r : Bytes) → between low high c ≡ true → following (due low high (suc k)) (c ∷ r) ≡ under (λ cs. c ∷ cs) (following (due 128 191 k) r)
unfolding following tail_bytes on
follow-more low high k c r q = rw q

ends-tail : (low high k c : ℕ) (s t : Bytes) → ltb c 128 ≡ false → between low high c ≡ true → From (tails k) s t → Ends low high k (c ∷ s) t
unfolding units
ends-tail low high zero c s t l q f =
    (c ∷ [], s, refl, ap (λ (x : ℕ). x ∷ []) (high-unit c l), ap (following (due low high 0)) (high-spelt c s t l) ∙ follow_one low high c (spelt s t) q, f)
ends-tail low high (suc k) c s t l q f = (
  c ∷ f.0,
  f.1,
  ap (λ (x : Bytes). c ∷ x) f.2,
  ap₂ ◌∷◌ (high-unit c l) f.3,
  ap (following (due low high (suc k))) (high-spelt c s t l) ∙ follow-more low high k c (spelt s t) q ∙ rw f.4,
  f.5,
)

wide-reads : (c : ℕ) (s t : Bytes) (d : Due) → lead c ≡ d → ltb c 128 ≡ false → run d s ≡ start → From d s t → Reads (c ∷ s) t
unfolding units
wide-reads c s t start e l u f = not-both (ap at_start e) (lead-no-start c l)
wide-reads c s t (due low high k) e l u f =
    let g : character (spelt (c ∷ s) t) ≡ got (more (λ us. c ∷ (f.0 ++ us))) (spelt f.1 t) =
    ap character (high-spelt c s t l) ∙ lead-step c (spelt s t) low high k l e ∙ rw f.4 in
    let same : c ∷ (f.0 ++ units f.1) ≡ units (c ∷ s) =
    ap₂ ◌∷◌ (sym (high-unit c l)) (sym (ap units f.2 ∙ units-append f.0 f.1 ∙ ap (λ (x : Bytes). x ++ units f.1) f.3)) in
    (suc f.5.0, turns_more character f.5.0 (spelt (c ∷ s) t) (spelt f.1 t) _ (units f.1) t g f.5.1 ∙ ap (λ (x : Bytes). got x t) same)
wide-reads c s t broken e l u f = absurd (not_start s u)

low-lead : (c : ℕ) → ltb c 128 ≡ true → lead c ≡ start
unfolding lead
low-lead c l = rw l

reads : (d : Due) (s t : Bytes) → later d ≡ true → run d s ≡ start → From d s t
unfolding run next units spelled_all
reads start [] t l u = (1, turns-last character 0 (34 ∷ t) t [] (quote-step t))
reads (due low high k) [] t l u = not-both refl (ap at_start (sym u))
reads broken [] t l u = tt
reads start (c ∷ s) t l u =
    by_bool (ltb c 128)
    (λ q. let r = reads start s t refl (ap (λ (d : Due). run d s) (sym (low-lead c q)) ∙ u) in
    (suc r.0, turns_more character r.0 (spelt (c ∷ s) t) (spelt s t) _ (units s) t (ap character (cons-spelt c s t) ∙ low_step (spelt s t) c q) r.1))
    (λ q. wide-reads c s t (lead c) refl q u (reads (lead c) s t (later-lead c) u))
reads (due low high k) (c ∷ s) t l u =
    let b = later-bounds low high k l in
    by_bool (between low high c)
    (λ q. let m = between-true low high c q in
    ends-tail low high k c s t (le-ltb c 128 (omega (arith, b.0, m.0))) q (reads (tails k) s t (later-tails k b.2) (rw q at u)))
    (λ q. absurd (not_start s (rw q at u)))
reads broken (c ∷ s) t l u = tt

-- a spelled string is read to its closing quote
pub characters-spelled : (s t : Bytes) → utf8 s ≡ true → characters (spelled_all s ++ 34 ∷ t) ≡ got (units s) t
unfolding characters
characters-spelled s t u =
    let r = reads start s t refl (utf8-run s u) in
    loop-enough character (takes-moves character takes-character) r.0 (spelt s t) (units s) t r.1

-- ---- decoding

decode-unit : (us : Bytes) (c : ℕ) → ltb c 256 ≡ true → decode_after 0 (unit c ∷ us) ≡ before (c ∷ []) (decode_after 0 us)
unfolding decode_after unit encode between
decode-unit us c l = by_below (λ c. decode_after 0 (unit c ∷ us)) (λ c. before (c ∷ []) (decode_after 0 us)) c 256 refl (λ h. not-both l h)

decode-all : (s : Bytes) → all is_byte s ≡ true → decode_after 0 (units s) ≡ some s
unfolding units decode_after
decode-all [] h = refl
decode-all (c ∷ s) h = decode-unit (units s) c (all_head is_byte c s h) ∙ ap (before (c ∷ [])) (decode-all s (all_tail is_byte c s h))

pub decode-units : (s : Bytes) → utf8 s ≡ true → decode (units s) ≡ some s
unfolding decode
decode-units s u = decode-all s (utf8-bytes s u)

-- worked example
controls : spelled_all (34 ∷ 10 ∷ 7 ∷ 0xc3 ∷ 0xa9 ∷ []) ≡ ascii "\\\"\\n\\u0007" ++ (0xc3 ∷ 0xa9 ∷ [])
unfolding spelled_all spelled
controls = refl
