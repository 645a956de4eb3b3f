-- A value between brackets leaves the count of brackets as it was.
use mathlib.Core.Path.{◌≡◌, refl, ap, ◌∙◌}
use mathlib.Core.Bool.{Bool, true, false, ◌||◌, not}
use mathlib.Core.List.{List, [], ◌∷◌, ◌++◌, map}
use Prim.Native.Nat.{ℕ, zero, suc}
use lib.Dec.{eqb}
use borrow.Author.Tests.{eqb-false}
use Rattle.text.specs.Choice.{pick}
use Rattle.text.specs.Bytes.{Bytes, is, between, is_digit}
use Rattle.text.specs.Reader.{Got, more, last, one}
use Rattle.text.proofs.Cases.{tests, not-true, or_left, or_right, beyond, implied, NoneOf, by_keys}
use Rattle.json_text.specs.Grammar.{is_space, is_e}
use Rattle.json_text.specs.Tree.{Json, jnull, jtrue, jfalse, jnum, jstr, jarr, jobj, enil, econs, mnil, mcons}
use Rattle.json_text.specs.Syntax.{skip, token, characters, opt, digits, int, frac, sign, exp, number, four, scalar, sep, name, item, elements, pair, pairs, value}
use Rattle.json_text.proofs.Fine.{e-256}
use Rattle.json_skip.specs.Skip.{quoted, opens, shuts, outside, closed}
use Rattle.json_skip.proofs.Leads.{To, Leads, Byte, byte-is, leads-got, leads-bad, leads-on, leads-when, leads-under, leads-bind, past-leads, leads_one, leads-some, Turns, leads-loop}
use Rattle.json_skip.proofs.Steps.{left, closed-quote, closed-open, closed-plain, closed-shut}
use Rattle.json_skip.proofs.Strings.{characters-leads}

-- ---- bytes that count for nothing

unfoldable quiet : ℕ → Bool
quiet c = not (eqb c 34 || (opens c || shuts c))

implied-keys : (p q : ℕ → Bool) (c : ℕ) (ks : List ℕ) → map (λ c. pick (p c) (q c) true) ks ≡ map (λ c. true) ks → (NoneOf c ks → p c ≡ false) → p c ≡ true → q c ≡ true
implied-keys p q c ks e off h =
    let r : pick (p c) (q c) true ≡ true = by_keys (λ c. pick (p c) (q c) true) (λ c. true) c ks e (λ l. rw (off l)) in
    rw h at r

space-quiet : (c : ℕ) → is_space c ≡ true → quiet c ≡ true
unfolding is_space quiet opens shuts
space-quiet c e = implied-keys is_space quiet c (32 ∷ 9 ∷ 10 ∷ 13 ∷ []) refl (λ n. rw (n.0, n.1.0, n.1.1.0, n.1.1.1.0)) e

e-quiet : (c : ℕ) → is_e c ≡ true → quiet c ≡ true
unfolding is_e quiet opens shuts
e-quiet c e = implied-keys is_e quiet c (101 ∷ 69 ∷ []) refl (λ n. rw (n.0, n.1.0)) e

digit-quiet : (c : ℕ) → is_digit c ≡ true → quiet c ≡ true
unfolding quiet opens shuts between
digit-quiet c e = implied is_digit quiet 58 c refl (λ l. beyond 48 57 c (omega (tests, l))) e

module _ (n : ℕ) where
  -- between brackets
  abbrev B : To
  B = closed outside n

  quiet-byte : (c : ℕ) (t : Bytes) → quiet c ≡ true → B (c ∷ t) ≡ B t
  unfolding quiet
  quiet-byte c t e =
      let z = not-true (eqb c 34 || (opens c || shuts c)) e in
      let y = or_right (eqb c 34) (opens c || shuts c) z in
      closed-plain n c t (eqb-false c 34 (or_left (eqb c 34) (opens c || shuts c) z)) (or_left (opens c) (shuts c) y) (or_right (opens c) (shuts c) y)

  quiet_is : (k : ℕ) → quiet k ≡ true → Byte (is k) B B
  quiet_is k e = byte-is k B B (λ t. quiet-byte k t e)

  leads-skip : {A : Type 0} {L : A → To} {R : Bytes → Got A} → Leads B L R → Leads B L (λ s. R (skip s))
  unfolding skip
  leads-skip h s a w e = past-leads is_space B (λ c t q. quiet-byte c t (space-quiet c q)) s ∙ h (skip s) a w e

  one-leads : (k : ℕ) → eqb 256 k ≡ false → quiet k ≡ true → Leads B (λ c. B) (one k)
  one-leads k z e = leads_one k B B z (λ t. quiet-byte k t e)

  -- ---- scalars

  opt-leads : (k : ℕ) → eqb 256 k ≡ false → quiet k ≡ true → Leads B (λ v. B) (opt k)
  unfolding opt
  opt-leads k z e = leads-on (is k) z (quiet_is k e) (λ c. leads-got (λ v. B) (c ∷ [])) (leads-got (λ v. B) [])

  digits-lead : Leads B (λ v. B) digits
  unfolding digits
  digits-lead = leads-some is_digit B (λ c t q. quiet-byte c t (digit-quiet c q))

  int-leads : Leads B (λ v. B) int
  unfolding int quiet opens shuts
  int-leads = leads-on (is 48) refl (quiet_is 48 refl) (λ c. leads-got (λ v. B) (c ∷ [])) digits-lead

  frac-leads : Leads B (λ v. B) frac
  unfolding frac quiet opens shuts
  frac-leads = leads-on (is 46) refl (quiet_is 46 refl) (λ c. leads-under (λ v. B) (λ ds. c ∷ ds) (λ v w. refl) digits-lead) (leads-got (λ v. B) [])

  sign-leads : Leads B (λ v. B) sign
  unfolding sign quiet opens shuts
  sign-leads = leads-on (is 43) refl (quiet_is 43 refl) (λ c. leads-got (λ v. B) (c ∷ [])) (opt-leads 45 refl refl)

  exp-leads : Leads B (λ v. B) exp
  unfolding exp
  exp-leads =
      leads-on is_e e-256 (λ c t q. quiet-byte c t (e-quiet c q)) (λ c. leads-bind sign-leads λ g. leads-bind digits-lead λ ds. leads-got (λ v. B) (c ∷ (g ++ ds))) (leads-got (λ v. B) [])

  number-leads : Leads B (λ v. B) number
  unfolding number quiet opens shuts
  number-leads =
      leads-bind (opt-leads 45 refl refl) λ a. leads-bind int-leads λ b. leads-bind frac-leads λ c. leads-bind exp-leads λ d. leads-got (λ v. B) (a ++ b ++ c ++ d)

  four-leads : (a b c d : ℕ) (j : Json) → eqb 256 a ≡ false → quiet a ≡ true → eqb 256 b ≡ false → quiet b ≡ true → eqb 256 c ≡ false → quiet c ≡ true → eqb 256 d ≡ false → quiet d ≡ true
      → Leads B (λ j. B) (four a b c d j)
  unfolding four
  four-leads a b c d j za qa zb qb zc qc zd qd =
      leads-bind (one-leads a za qa) λ x. leads-bind (one-leads b zb qb) λ x. leads-bind (one-leads c zc qc) λ x. leads-bind (one-leads d zd qd) λ x. leads-got (λ j. B) j

  -- a string, from its first quote, and from after it
  quote-byte : Byte (is 34) B (λ t. B (quoted false t))
  quote-byte = byte-is 34 B (λ t. B (quoted false t)) (λ t. closed-quote n 34 t refl)

  string-leads : Leads (λ t. B (quoted false t)) (λ us. B) characters
  string-leads s us w e = ap B (characters-leads s us w e)

  scalar-leads : Leads B (λ j. B) scalar
  unfolding scalar quiet opens shuts
  scalar-leads =
      leads-on (is 34) refl quote-byte (λ c. leads-under (λ j. B) jstr (λ us w. refl) string-leads)
      (leads-when (is 116) (four-leads 116 114 117 101 jtrue refl refl refl refl refl refl refl refl)
      (leads-on (is 102) refl (quiet_is 102 refl) (λ c. four-leads 97 108 115 101 jfalse refl refl refl refl refl refl refl refl)
      (leads-when (is 110) (four-leads 110 117 108 108 jnull refl refl refl refl refl refl refl refl) (leads-under (λ j. B) jnum (λ v w. refl) number-leads))))

  -- ---- arrays and objects

  shut-byte : (k : ℕ) → eqb k 34 ≡ false → opens k ≡ false → shuts k ≡ true → Byte (is k) B (left n)
  shut-byte k m p q = byte-is k B (left n) (λ t. closed-shut n k t (eqb-false k 34 m) p q)

  sep-leads : {A : Type 0} (k : ℕ) (b : A) (g : A → A) → eqb 256 k ≡ false → Byte (is k) B (left n) → Leads B (Turns B (left n)) (sep k b g)
  unfolding sep quiet opens shuts
  sep-leads k b g z h =
      leads-skip (leads-on (is k) z h (λ c. leads-got (Turns B (left n)) (last b))
      (leads-on (is 44) refl (quiet_is 44 refl) (λ c. leads-got (Turns B (left n)) (more g)) (leads-bad B (Turns B (left n)))))

  name-leads : Leads B (λ k. B) name
  unfolding name token quiet opens shuts
  name-leads =
      leads-bind (leads-skip (leads_one 34 B (λ t. B (quoted false t)) refl (λ t. closed-quote n 34 t refl))) λ q.
      leads-bind string-leads λ k. leads-bind (leads-skip (one-leads 58 refl refl)) λ c. leads-got (λ k. B) k

  module _ (rd : Bytes → Got Json) (h : Leads B (λ j. B) rd) where
    bracket : Byte (is 93) B (left n)
    unfolding opens shuts
    bracket = shut-byte 93 refl refl refl

    brace : Byte (is 125) B (left n)
    unfolding opens shuts
    brace = shut-byte 125 refl refl refl

    item-leads : Leads B (Turns B (left n)) (item rd)
    unfolding item
    item-leads = leads-bind h λ j. sep-leads 93 (econs j enil) (econs j) refl bracket

    pub elements-lead : Leads B (λ es. left n) (elements rd)
    unfolding elements
    elements-lead = leads-skip (leads-on (is 93) refl bracket (λ c. leads-got (λ es. left n) enil) (leads-loop B (left n) (item rd) item-leads))

    pair-leads : Leads B (Turns B (left n)) (pair rd)
    unfolding pair
    pair-leads = leads-bind name-leads λ k. leads-bind h λ j. sep-leads 125 (mcons k j mnil) (mcons k j) refl brace

    pub pairs-lead : Leads B (λ ms. left n) (pairs rd)
    unfolding pairs
    pairs-lead = leads-skip (leads-on (is 125) refl brace (λ c. leads-got (λ ms. left n) mnil) (leads-loop B (left n) (pair rd) pair-leads))

open-byte : (n k : ℕ) → eqb k 34 ≡ false → opens k ≡ true → Byte (is k) (closed outside n) (closed outside (suc n))
open-byte n k m q = byte-is k (closed outside n) (closed outside (suc n)) (λ t. closed-open n k t (eqb-false k 34 m) q)

pub value-leads : (d n : ℕ) → Leads (closed outside n) (λ j. closed outside n) (value d)
unfolding value opens
value-leads zero n = leads-skip n (scalar-leads n)
value-leads (suc d) n =
    leads-skip n
    (leads-on (is 91) refl (open-byte n 91 refl refl) (λ c. leads-under (λ j. closed outside n) jarr (λ es w. refl) (elements-lead (suc n) (value d) (value-leads d (suc n))))
    (leads-on (is 123) refl (open-byte n 123 refl refl) (λ c. leads-under (λ j. closed outside n) jobj (λ ms w. refl) (pairs-lead (suc n) (value d) (value-leads d (suc n)))) (scalar-leads n)))
