-- Strings: characters of several bytes, escapes, and the closing quote.
use mathlib.Core.Path.{◌≡◌, refl, sym, ap, ◌∙◌}
use mathlib.Core.Bool.{Bool, true, false, ◌&&◌, not}
use mathlib.Core.List.{[], ◌∷◌, ◌++◌, head-eq_of_cons-eq, tail-eq_of_cons-eq}
use mathlib.Core.Logic.{◌⊎◌, inl, inr}
use Prim.Native.Nat.{ℕ, zero, suc, ◌+◌, ◌*◌}
use native.Mathlib.Omega.{arith}
use lib.ListN.{length}
use lib.Dec.{eqb, ltb, leb}
use borrow.Author.Tests.{ltb-true, leb-true}
use Rattle.text.specs.Bytes.{Bytes, is, between}
use Rattle.text.specs.Utf8.{Due, start, due, broken, by_row, lead, tails, next, run, at_start, utf8}
use Rattle.text.specs.Reader.{first, Step, more, last}
use Rattle.text.proofs.Cases.{by_bool, not-both, and_left, implied, tests, in_between, beyond}
use Rattle.text.proofs.Characters.{utf8-run, run-utf8, lead_high, later, later-lead, later-bounds}
use Rattle.json_text.specs.Grammar.{Lang, One, ◌then◌, ◌or◌, is_hex, is_short, is_plain, Wide, Character}
use Rattle.json_text.specs.Syntax.{hex_val, hex, hex4, short, escape, is_lead, tail_bytes, following, push, character, characters}
use Rattle.json_text.proofs.Takes.{takes-character}
use Rattle.json_grammar.proofs.Forms.{Reads, reads-got, reads-bad, reads-under}
use Rattle.json_grammar.proofs.Tests.{reads_on}
use Rattle.json_grammar.proofs.Turns.{ends, Loop, reads-loop}
use Rattle.json_grammar.proofs.Rows.{reads-class, reads-last, reads-row, Has, has-then, a_byte, byte-then}

-- ---- characters of several bytes

-- the rest of a character, of which no part is the rest
unfoldable pub Rest : Due → Lang
Rest d u = (run d u ≡ start) × ((a b : Bytes) → u ≡ a ++ b → run d a ≡ start → b ≡ [])

none_of : (a b : Bytes) → [] ≡ a ++ b → b ≡ []
none_of [] b e = sym e
none_of (c ∷ a) b e = let r : 0 ≡ suc (length (a ++ b)) = ap length e in absurd (omega arith)

pub not-due : {low high k : ℕ} → due low high k ≡ start → ⊥
not-due e = not-both refl (ap at_start (sym e))

rest-start : Rest start []
unfolding Rest run
rest-start = (refl, λ a b e h. none_of a b e)

rest-due : (low high k c : ℕ) (u : Bytes) → between low high c ≡ true → Rest (tails k) u → Rest (due low high k) (c ∷ u)
unfolding Rest run next
rest-due low high k c u h r = (rw h r.0, only)
  where
    only : (a b : Bytes) → c ∷ u ≡ a ++ b → run (due low high k) a ≡ start → b ≡ []
    only [] b e q = absurd (not-due q)
    only (x ∷ a) b e q =
        let i : between low high x ≡ true = ap (between low high) (sym (head-eq_of_cons-eq e)) ∙ h in
        r.1 a b (tail-eq_of_cons-eq e) (rw i at q)

has-tails : (k : ℕ) → Has (Rest (tails k))
unfolding between
has-tails zero = ([], rest-start)
has-tails (suc k) = let h = has-tails k in (128 ∷ h.0, rest-due 0x80 0xbf k 128 h.0 refl h.1)

reads-tails : (k : ℕ) → Reads (λ (cs : Bytes). Rest (tails k)) (tail_bytes k)
unfolding tail_bytes between
reads-tails zero = reads-got [] rest-start
reads-tails (suc k) =
    reads_on (between 0x80 0xbf) refl (λ c h. reads-under (λ cs. c ∷ cs) (λ a u m. rest-due 0x80 0xbf k c u h m) (reads-tails k))
    (λ c h. let t = has-tails k in ([], t.0, rest-due 0x80 0xbf k c t.0 h t.1)) (reads-bad {L = λ x u. ⊥}) (λ a u h e. absurd e)

reads-following : (d : Due) → later d ≡ true → Reads (λ (cs : Bytes). Rest d) (following d)
unfolding following
reads-following start l = reads-got [] rest-start
reads-following (due low high k) l =
    reads_on (between low high) (beyond low high 256 (omega (arith, (later-bounds low high k l).1))) (λ c h. reads-under (λ cs. c ∷ cs) (λ a u m. rest-due low high k c u h m) (reads-tails k))
    (λ c h. let t = has-tails k in ([], t.0, rest-due low high k c t.0 h t.1)) (reads-bad {L = λ x u. ⊥}) (λ a u h e. absurd e)
reads-following broken l = reads-bad

-- something can follow
abbrev roomy : Due → Bool
roomy start = true
roomy (due low high k) = leb low high
roomy broken = false

has_rest : (d : Due) → roomy d ≡ true → Has (Rest d)
has_rest start e = ([], rest-start)
has_rest (due low high k) e = let h = has-tails k in (low ∷ h.0, rest-due low high k low h.0 (in_between low high low (omega arith) (leb-true low high e)) h.1)
has_rest broken e = not-both e refl

lead-off : (c : ℕ) → ltb c 256 ≡ false → is_lead c ≡ false
unfolding is_lead
lead-off c l = rw (lead_high c l) (and_no (ltb 127 c))
  where
    and_no : (b : Bool) → b && false ≡ false
    and_no true = refl
    and_no false = refl

lead-roomy : (c : ℕ) → is_lead c ≡ true → roomy (lead c) ≡ true
unfolding is_lead lead by_row between
lead-roomy c h = implied is_lead (λ c. roomy (lead c)) 256 c refl (lead-off c) h

wide : (c : ℕ) (u : Bytes) → is_lead c ≡ true → Rest (lead c) u → Wide (c ∷ u)
unfolding Wide Rest run next is_lead
wide c u h r =
    (run-utf8 (c ∷ u) r.0, ltb-true 127 c (and_left _ _ h), by_bool (ltb c 256) (λ e. ltb-true c 256 e) (λ e. not-both h (lead-off c e)), only)
  where
    only : (a b : Bytes) → c ∷ u ≡ a ++ b → utf8 a ≡ true → (a ≡ []) ⊎ (b ≡ [])
    only [] b e q = inl refl
    only (x ∷ a) b e q = inr (r.1 a b (tail-eq_of_cons-eq e) (ap (λ (y : ℕ). run (lead y) a) (head-eq_of_cons-eq e) ∙ utf8-run (x ∷ a) q))

-- ---- escapes

reads-hex : Reads (λ (v : ℕ). One is_hex) hex
unfolding hex is_hex between
reads-hex = reads-class is_hex hex_val refl (λ c h. (c, refl, h))

has-hex : Has (One is_hex)
unfolding is_hex between
has-hex = a_byte is_hex 48 refl

reads-hex4 : Reads (λ (v : ℕ). One is_hex then One is_hex then One is_hex then One is_hex) hex4
unfolding hex4
reads-hex4 =
    reads-row 0 reads-hex (has-then has-hex (has-then has-hex has-hex)) λ a. reads-row 0 reads-hex (has-then has-hex has-hex) λ b. reads-row 0 reads-hex has-hex λ c. reads-last (λ d. a * 4096 + b * 256 + c * 16 + d) reads-hex

abbrev pub Escape : Lang
Escape = One is_short or (One (is 117) then One is_hex then One is_hex then One is_hex then One is_hex)

reads-escape : Reads (λ (v : ℕ). Escape) escape
unfolding escape is_short
reads-escape =
    reads_on (is 117) refl (λ c h. reads-under (λ v. 256 + v) (λ a u m. inr (byte-then (is 117) c u h m)) reads-hex4)
    (λ c h. let m = has-then has-hex (has-then has-hex (has-then has-hex has-hex)) in (0, m.0, inr (byte-then (is 117) c m.0 h m.1)))
    (reads-class is_short short refl (λ c h. inl (c, refl, h))) (λ a u h m. m)

-- ---- one character, or the closing quote

abbrev pub Turn : Bool → Lang
Turn true = One (is 34)
Turn false = Character

plain : (c : ℕ) → between 32 127 c ≡ true → eqb c 34 ≡ false → eqb c 92 ≡ false → is_plain c ≡ true
unfolding between is_plain
plain c h k l =
    implied (λ c. between 32 127 c && (not (eqb c 34) && not (eqb c 92))) is_plain 128 c refl (λ m. rw (beyond 32 127 c (omega tests))) (rw (h, k, l))

escaped : (c : ℕ) (u : Bytes) → is 92 c ≡ true → Escape u → Character (c ∷ u)
unfolding Character
escaped c u h (inl m) = inr (inr (inl (byte-then (is 92) c u h m)))
escaped c u h (inr m) = inr (inr (inr (byte-then (is 92) c u h m)))

-- with neither quote nor backslash in front
abbrev Inner : Step Bytes → Lang
Inner w u = eqb (first u) 34 ≡ false → eqb (first u) 92 ≡ false → Turn (ends w) u

n-short : is_short 110 ≡ true
unfolding is_short
n-short = refl

reads-character : Reads (λ w. Turn (ends w)) character
unfolding character between is_lead by_row lead Character
reads-character =
    reads_on (is 34) refl (λ c h. reads-got (last []) (c, refl, h)) (λ c h. (last [], [], (c, refl, h)))
    (reads_on {L = λ w u. eqb (first u) 34 ≡ false → Turn (ends w) u} (is 92) refl (λ c h. reads-under push (λ a u m k. escaped c u h m) reads-escape)
    (λ c h. (push 0, 110 ∷ [], λ k. escaped c (110 ∷ []) h (inl (110, refl, n-short))))
    (reads_on {L = Inner} (between 32 127) refl (λ c h. reads-got (push c) (λ k l. inl (c, refl, plain c h k l))) (λ c h. (push c, [], λ k l. inl (c, refl, plain c h k l)))
    (reads_on {L = Inner} is_lead refl (λ c h. reads-under (λ cs. more (λ us. c ∷ (cs ++ us))) (λ a u m k l. inr (inl (wide c u h m))) (reads-following (lead c) (later-lead c)))
    (λ c h. let m = has_rest (lead c) (lead-roomy c h) in (push c, m.0, λ k l. inr (inl (wide c m.0 h m.1))))
    (reads-bad {L = λ x u. ⊥}) (λ a u h e. absurd e))
    (λ a u h m. m))
    (λ w u h m k. m k h))
    (λ w u h m. m h)

pub reads-characters : Reads (λ (us : Bytes). Loop Turn) characters
unfolding characters
reads-characters = reads-loop Turn takes-character reads-character [] (34 ∷ []) (34, refl, refl)
