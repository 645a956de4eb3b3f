-- A string that reads ends at its closing quote.
use mathlib.Core.Path.{◌≡◌, refl, ◌∙◌}
use mathlib.Core.Bool.{Bool, true, false, ◌||◌, not}
use mathlib.Core.List.{[], ◌∷◌, ◌++◌}
use Prim.Native.Nat.{ℕ, zero, suc, ◌+◌, ◌*◌, ◌≤◌}
use native.Mathlib.Omega.{arith}
use lib.Dec.{eqb}
use borrow.Author.Tests.{eqb-true, eqb-false}
use Rattle.text.specs.Bytes.{Bytes, is, between}
use Rattle.text.specs.Utf8.{Due, start, due, broken, lead}
use Rattle.text.specs.Reader.{got, on, Step, more, last}
use Rattle.text.proofs.Cases.{by_bool, tests, not-true, or_left, or_right, between-true, beyond, implied}
use Rattle.text.proofs.Characters.{later, later-lead, later-bounds}
use Rattle.text.proofs.Readers.{not-bad}
use Rattle.json_text.specs.Grammar.{is_hex, is_short}
use Rattle.json_text.specs.Syntax.{hex_val, hex, hex4, short, escape, is_lead, tail_bytes, following, push, character, characters}
use Rattle.json_text.proofs.Fine.{hex-256, short-256, plain-256, tail-256, lead-256, due_below, below-256, lead-below}
use Rattle.json_skip.specs.Skip.{quoted}
use Rattle.json_skip.proofs.Leads.{To, Leads, Byte, leads-got, leads-bad, leads-on, leads-under, leads-bind, Turns, leads-loop}
use Rattle.json_skip.proofs.Steps.{quoted-end, quoted-plain, quoted-backslash, quoted-escaped}

-- neither a quote nor a backslash
unfoldable soft : ℕ → Bool
soft c = not (eqb c 34 || eqb c 92)

soft-byte : (p : ℕ → Bool) → ((c : ℕ) → p c ≡ true → soft c ≡ true) → Byte p (quoted false) (quoted false)
unfolding soft
soft-byte p h c t e =
    let z = not-true (eqb c 34 || eqb c 92) (h c e) in
    quoted-plain c t (eqb-false c 34 (or_left (eqb c 34) (eqb c 92) z)) (eqb-false c 92 (or_right (eqb c 34) (eqb c 92) z))

hex-high : (c : ℕ) → 103 ≤ c → is_hex c ≡ false
unfolding is_hex
hex-high c l = rw (beyond 48 57 c (omega arith), beyond 65 70 c (omega arith), beyond 97 102 c (omega arith))

hex-soft : (c : ℕ) → is_hex c ≡ true → soft c ≡ true
unfolding soft is_hex between
hex-soft c e = implied is_hex soft 103 c refl (λ l. hex-high c (omega (tests, l))) e

hex-leads : Leads (quoted false) (λ u. quoted false) hex
unfolding hex
hex-leads = leads-on is_hex hex-256 (soft-byte is_hex hex-soft) (λ c. leads-got (λ u. quoted false) (hex_val c)) (leads-bad (quoted false) (λ u. quoted false))

hex4-leads : Leads (quoted false) (λ u. quoted false) hex4
unfolding hex4
hex4-leads =
    leads-bind hex-leads λ a. leads-bind hex-leads λ b. leads-bind hex-leads λ c. leads-bind hex-leads λ d. leads-got (λ u. quoted false) (a * 4096 + b * 256 + c * 16 + d)

escape-leads : Leads (quoted true) (λ u. quoted false) escape
unfolding escape
escape-leads =
    leads-on (is 117) refl (λ c t e. quoted-escaped c t) (λ c. leads-under (λ u. quoted false) (λ v. 256 + v) (λ v w. refl) hex4-leads)
    (leads-on is_short short-256 (λ c t e. quoted-escaped c t) (λ c. leads-got (λ u. quoted false) (short c)) (leads-bad (quoted true) (λ u. quoted false)))

-- ---- characters of several bytes

wide-byte : (low high : ℕ) → 128 ≤ low → Byte (between low high) (quoted false) (quoted false)
wide-byte low high l c t e = let m = (between-true low high c e).0 in quoted-plain c t (λ q. omega (arith, m)) (λ q. omega (arith, m))

tails-lead : (k : ℕ) → Leads (quoted false) (λ v. quoted false) (tail_bytes k)
unfolding tail_bytes
tails-lead zero = leads-got (λ v. quoted false) []
tails-lead (suc k) =
    leads-on (between 0x80 0xbf) tail-256 (wide-byte 0x80 0xbf (omega arith)) (λ c. leads-under (λ v. quoted false) (λ cs. c ∷ cs) (λ v w. refl) (tails-lead k)) (leads-bad (quoted false) (λ v. quoted false))

following-leads : (d : Due) → later d ≡ true → due_below d ≡ true → Leads (quoted false) (λ v. quoted false) (following d)
unfolding following
following-leads start e f = leads-got (λ v. quoted false) []
following-leads (due low high k) e f =
    leads-on (between low high) (below-256 low high f) (wide-byte low high (later-bounds low high k e).0) (λ c. leads-under (λ v. quoted false) (λ cs. c ∷ cs) (λ v w. refl) (tails-lead k)) (leads-bad (quoted false) (λ v. quoted false))
following-leads broken e f = leads-bad (quoted false) (λ v. quoted false)

-- ---- a turn

-- after a character the string goes on, after the quote it is over
abbrev Next : Step Bytes → To
Next = Turns (quoted false) (λ s. s)

character-cons : (c : ℕ) (s : Bytes) (a : Step Bytes) (w : Bytes) → character (c ∷ s) ≡ got a w → quoted false (c ∷ s) ≡ Next a w
unfolding character on
character-cons c s a w e =
    by_bool (eqb c 34) (λ p. rw (eqb-true c 34 p) (quoted-end s) ∙ leads-got Next (last []) s a w (rw p at e)) (λ p.
    by_bool (eqb c 92) (λ q. rw (eqb-true c 92 q) (quoted-backslash s) ∙ leads-under Next push (λ u w. refl) escape-leads s a w (rw (p, q) at e)) (λ q.
    quoted-plain c s (eqb-false c 34 p) (eqb-false c 92 q)
    ∙ by_bool (between 32 127 c) (λ r. leads-got Next (push c) s a w (rw (p, q, r) at e)) (λ r.
    by_bool (is_lead c)
    (λ z. leads-under Next (λ cs. more (λ us. c ∷ (cs ++ us))) (λ u w. refl) (following-leads (lead c) (later-lead c) (lead-below c)) s a w (rw (p, q, r, z) at e))
    (λ z. absurd (not-bad (rw (p, q, r, z) at e))))))

character-leads : Leads (quoted false) Next character
unfolding character on
character-leads [] a w e = absurd (not-bad (rw (plain-256, lead-256) at e))
character-leads (c ∷ s) a w e = character-cons c s a w e

pub characters-leads : Leads (quoted false) (λ us s. s) characters
unfolding characters
characters-leads = leads-loop (quoted false) (λ s. s) character character-leads
