-- Each reader of Syntax.antt takes what it reads and no more: one line a reader, by the laws of text's Fine.antt.
use mathlib.Core.Path.{◌≡◌, refl}
use mathlib.Core.Bool.{Bool, true, false}
use mathlib.Core.List.{[], ◌∷◌, ◌++◌}
use Prim.Native.Nat.{ℕ, zero, suc, ◌+◌, ◌*◌, ◌<◌}
use native.Mathlib.Omega.{arith}
use lib.Dec.{eqb, leb, ltb}
use borrow.Author.Tests.{ltb-true, lt-leb}
use Rattle.text.specs.Choice.{pick}
use Rattle.text.specs.Bytes.{Bytes, is, between, is_digit}
use Rattle.text.specs.Utf8.{Due, start, due, broken, lead, by_row}
use Rattle.text.specs.Reader.{Got, more, last}
use Rattle.text.proofs.Places.{by_bool}
use Rattle.text.proofs.Fine.{Fine, fine-got, fine-bad, fine-weak, fine-under, fine_bind, fine-past, fine-on, fine-when, fine-loop, one-fine, some-fine}
use Rattle.json_text.specs.Tree.{Json, jnull, jtrue, jfalse, jnum, jstr, jarr, jobj, enil, econs, mnil, mcons}
use Rattle.json_text.specs.Grammar.{is_space, is_e, is_hex, is_short}
use Rattle.json_text.specs.Syntax.{skip, token, hex_val, hex, hex4, short, escape, is_lead, tail_bytes, following, push, character, characters, opt, digits, int, frac, sign, exp, number, four, scalar, sep, name, item, elements, pair, pairs, value}

-- ---- 256 is no byte: it passes no test
pub digit-256 : is_digit 256 ≡ false
unfolding between
digit-256 = refl

pub space-256 : is_space 256 ≡ false
unfolding is_space
space-256 = refl

pub hex-256 : is_hex 256 ≡ false
unfolding is_hex between
hex-256 = refl

pub short-256 : is_short 256 ≡ false
unfolding is_short
short-256 = refl

pub plain-256 : between 32 127 256 ≡ false
unfolding between
plain-256 = refl

pub tail-256 : between 0x80 0xbf 256 ≡ false
unfolding between
tail-256 = refl

pub lead-256 : is_lead 256 ≡ false
unfolding is_lead lead by_row between
lead-256 = refl

pub e-256 : is_e 256 ≡ false
unfolding is_e
e-256 = refl

-- what must follow lies below 256
abbrev pub due_below : Due → Bool
due_below start = true
due_below (due low high k) = ltb high 256
due_below broken = true

pub below-256 : (low high : ℕ) → ltb high 256 ≡ true → between low high 256 ≡ false
unfolding between
below-256 low high z = let g : high < 256 = ltb-true high 256 z in by_bool (leb low 256) (λ p. rw (p, lt-leb 256 high g)) (λ p. rw p)

row_below : (b : Bool) (d e : Due) → due_below d ≡ true → due_below e ≡ true → due_below (pick b d e) ≡ true
row_below true d e p q = p
row_below false d e p q = q

pub lead-below : (c : ℕ) → due_below (lead c) ≡ true
unfolding lead by_row
lead-below c =
    row_below (ltb c 128) start _ refl
    (row_below (between 0xc2 0xdf c) _ _ refl (row_below (between 0xe0 0xe0 c) _ _ refl (row_below (between 0xe1 0xec c) _ _ refl (row_below (between 0xed 0xed c) _ _ refl
    (row_below (between 0xee 0xef c) _ _ refl (row_below (between 0xf0 0xf0 c) _ _ refl (row_below (between 0xf1 0xf3 c) _ _ refl (row_below (between 0xf4 0xf4 c) _ _ refl refl))))))))

-- ---- the readers
pub fine-skip : {A : Type 0} {n : ℕ} {R : Bytes → Got A} → Fine n R → Fine n (λ s. R (skip s))
unfolding skip
fine-skip f = fine-past is_space f

pub token-fine : (b : ℕ) → eqb 256 b ≡ false → Fine 1 (token b)
unfolding token
token-fine b z = fine-skip (one-fine b z)

pub hex-fine : Fine 1 hex
unfolding hex
hex-fine = fine-on is_hex hex-256 (omega arith) (λ c. fine-got (hex_val c)) (fine-bad 1)

pub hex4-fine : Fine 1 hex4
unfolding hex4
hex4-fine = fine_bind hex-fine λ a. fine_bind (fine-weak hex-fine) λ b. fine_bind (fine-weak hex-fine) λ c. fine_bind (fine-weak hex-fine) λ d. fine-got (a * 4096 + b * 256 + c * 16 + d)

pub escape-fine : Fine 1 escape
unfolding escape
escape-fine = fine-on (is 117) refl (omega arith) (λ c. fine-under (λ v. 256 + v) (fine-weak hex4-fine)) (fine-on is_short short-256 (omega arith) (λ c. fine-got (short c)) (fine-bad 1))

pub tails-fine : (k : ℕ) → Fine 0 (tail_bytes k)
unfolding tail_bytes
tails-fine zero = fine-got []
tails-fine (suc k) = fine-on (between 0x80 0xbf) tail-256 (omega arith) (λ c. fine-under (λ cs. c ∷ cs) (tails-fine k)) (fine-bad 0)

-- the ranges of RFC 3629's second bytes lie below 256
pub following-fine : (d : Due) → due_below d ≡ true → Fine 0 (following d)
unfolding following
following-fine start z = fine-got []
following-fine (due low high k) z = fine-on (between low high) (below-256 low high z) (omega arith) (λ c. fine-under (λ cs. c ∷ cs) (tails-fine k)) (fine-bad 0)
following-fine broken z = fine-bad 0

pub character-fine : Fine 1 character
unfolding character
character-fine =
    fine-on (is 34) refl (omega arith) (λ c. fine-got (last [])) (fine-on (is 92) refl (omega arith) (λ c. fine-under push (fine-weak escape-fine))
    (fine-on (between 32 127) plain-256 (omega arith) (λ c. fine-got (push c))
    (fine-on is_lead lead-256 (omega arith) (λ c. fine-under (λ cs. more (λ us. c ∷ (cs ++ us))) (following-fine (lead c) (lead-below c))) (fine-bad 1))))

pub characters-fine : Fine 1 characters
unfolding characters
characters-fine = fine-loop character character-fine

pub digits-fine : Fine 1 digits
unfolding digits
digits-fine = some-fine is_digit digit-256

pub opt-fine : (b : ℕ) → eqb 256 b ≡ false → Fine 0 (opt b)
unfolding opt
opt-fine b z = fine-on (is b) z (omega arith) (λ c. fine-got (c ∷ [])) (fine-got [])

pub int-fine : Fine 1 int
unfolding int
int-fine = fine-on (is 48) refl (omega arith) (λ c. fine-got (c ∷ [])) digits-fine

pub frac-fine : Fine 0 frac
unfolding frac
frac-fine = fine-on (is 46) refl (omega arith) (λ c. fine-under (λ ds. c ∷ ds) (fine-weak digits-fine)) (fine-got [])

pub sign-fine : Fine 0 sign
unfolding sign
sign-fine = fine-on (is 43) refl (omega arith) (λ c. fine-got (c ∷ [])) (opt-fine 45 refl)

pub exp-fine : Fine 0 exp
unfolding exp
exp-fine = fine-on is_e e-256 (omega arith) (λ c. fine_bind sign-fine λ g. fine_bind (fine-weak digits-fine) λ ds. fine-got (c ∷ (g ++ ds))) (fine-got [])

pub number-fine : Fine 1 number
unfolding number
number-fine = fine_bind (opt-fine 45 refl) λ a. fine_bind int-fine λ b. fine_bind frac-fine λ c. fine_bind exp-fine λ d. fine-got (a ++ b ++ c ++ d)

pub four-fine : (a b c d : ℕ) (j : Json) → eqb 256 a ≡ false → eqb 256 b ≡ false → eqb 256 c ≡ false → eqb 256 d ≡ false → Fine 1 (four a b c d j)
unfolding four
four-fine a b c d j za zb zc zd = fine_bind (one-fine a za) λ x. fine_bind (fine-weak (one-fine b zb)) λ x. fine_bind (fine-weak (one-fine c zc)) λ x. fine_bind (fine-weak (one-fine d zd)) λ x. fine-got j

pub scalar-fine : Fine 1 scalar
unfolding scalar
scalar-fine =
    fine-on (is 34) refl (omega arith) (λ c. fine-under jstr (fine-weak characters-fine)) (fine-when (is 116) refl (omega arith) (four-fine 116 114 117 101 jtrue refl refl refl refl)
    (fine-on (is 102) refl (omega arith) (λ c. fine-weak (four-fine 97 108 115 101 jfalse refl refl refl refl)) (fine-when (is 110) refl (omega arith) (four-fine 110 117 108 108 jnull refl refl refl refl) (fine-under jnum number-fine))))

pub sep-fine : {B : Type 0} (close : ℕ) (b : B) (g : B → B) → eqb 256 close ≡ false → Fine 1 (sep close b g)
unfolding sep
sep-fine close b g z = fine-skip (fine-on (is close) z (omega arith) (λ c. fine-got (last b)) (fine-on (is 44) refl (omega arith) (λ c. fine-got (more g)) (fine-bad 1)))

pub name-fine : Fine 1 name
unfolding name
name-fine = fine_bind (token-fine 34 refl) λ q. fine_bind (fine-weak characters-fine) λ k. fine_bind (fine-weak (token-fine 58 refl)) λ c. fine-got k

module _ (rd : Bytes → Got Json) (h : Fine 1 rd) where
  pub item-fine : Fine 1 (item rd)
  unfolding item
  item-fine = fine_bind h λ j. fine-weak (sep-fine 93 (econs j enil) (econs j) refl)

  pub elements-fine : Fine 1 (elements rd)
  unfolding elements
  elements-fine = fine-skip (fine-on (is 93) refl (omega arith) (λ c. fine-got enil) (fine-loop (item rd) item-fine))

  pub pair-fine : Fine 1 (pair rd)
  unfolding pair
  pair-fine = fine_bind name-fine λ k. fine_bind (fine-weak h) λ j. fine-weak (sep-fine 125 (mcons k j mnil) (mcons k j) refl)

  pub pairs-fine : Fine 1 (pairs rd)
  unfolding pairs
  pairs-fine = fine-skip (fine-on (is 125) refl (omega arith) (λ c. fine-got mnil) (fine-loop (pair rd) pair-fine))

pub value-fine : (d : ℕ) → Fine 1 (value d)
unfolding value
value-fine zero = fine-skip scalar-fine
value-fine (suc d) =
    fine-skip (fine-on (is 91) refl (omega arith) (λ c. fine-under jarr (fine-weak (elements-fine (value d) (value-fine d))))
    (fine-on (is 123) refl (omega arith) (λ c. fine-under jobj (fine-weak (pairs-fine (value d) (value-fine d)))) scalar-fine))
