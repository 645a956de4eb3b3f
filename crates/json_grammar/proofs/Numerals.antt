-- Numbers and the three literals.
use mathlib.Core.Path.{◌≡◌, refl, sym, ap, ◌∙◌}
use mathlib.Core.Bool.{Bool, true, false, ◌&&◌, not}
use mathlib.Core.List.{[], ◌∷◌, ◌++◌}
use mathlib.Core.Logic.{inl, inr}
use Prim.Native.Nat.{ℕ}
use lib.Dec.{eqb}
use borrow.Author.Tests.{eqb-true, eq-eqb}
use Rattle.text.specs.Bytes.{Bytes, ascii, is, between, is_digit}
use Rattle.text.specs.Reader.{first}
use Rattle.text.proofs.Cases.{implied, tests, beyond}
use Rattle.json_text.specs.Tree.{Json, jnull, jtrue, jfalse, jnum, jstr}
use Rattle.json_text.specs.Grammar.{One, Exactly, ◌then◌, Maybe, none_more, is_e, is_sign, Digits, Int, Frac, Exp, Number, String, Scalar}
use Rattle.json_text.specs.Syntax.{opt, digits, int, frac, sign, exp, number, four, scalar}
use Rattle.json_grammar.proofs.Forms.{Reads, reads-got, reads_as, reads-under}
use Rattle.json_grammar.proofs.Tests.{reads_on, reads-when, reads-some-of}
use Rattle.json_grammar.proofs.Turns.{Loop}
use Rattle.json_grammar.proofs.Rows.{reads-one, reads-last, reads-row, Has, has-then, a_byte, byte-then, one-is, then_is}
use Rattle.json_grammar.proofs.Units.{Turn, reads-characters}

-- ---- the parts of a number

reads-opt : (b : ℕ) → eqb 256 b ≡ false → Reads (λ (x : Bytes). Maybe (One (is b))) (opt b)
unfolding opt
reads-opt b z = reads_on (is b) z (λ c h. reads-got (c ∷ []) (inr (c, refl, h))) (λ c h. ([], [], inr (c, refl, h))) (reads-got [] (inl refl)) (λ a u h m. m)

reads-digits : Reads (λ (x : Bytes). Digits) digits
unfolding digits Digits between
reads-digits = reads-some-of is_digit refl

has-digits : Has Digits
unfolding Digits between
has-digits = has-then (a_byte is_digit 48 refl) ([], none_more [] refl)

-- a digit that is no 0
nonzero : (c : ℕ) → is_digit c ≡ true → eqb c 48 ≡ false → between 49 57 c ≡ true
unfolding between
nonzero c h k = implied (λ c. is_digit c && not (eqb c 48)) (between 49 57) 58 c refl (λ l. ap (λ (b : Bool). b && not (eqb c 48)) (beyond 48 57 c (omega tests))) (both (is_digit c) (eqb c 48) h k)
  where
    both : (a b : Bool) → a ≡ true → b ≡ false → a && not b ≡ true
    both true false h k = refl
    both true true h k = sym k
    both false b h k = h

no_zero : (u : Bytes) → eqb (first u) 48 ≡ false → Digits u → Int u
unfolding Int Digits
no_zero u h d = inr (d.0, d.1, d.2, (d.3.0, d.3.1, nonzero d.3.0 d.3.2 (ap (λ (x : Bytes). eqb (first x) 48) (sym (d.2 ∙ ap (λ (x : Bytes). x ++ d.1) d.3.1)) ∙ h)), d.4)

reads_int : Reads (λ (x : Bytes). Int) int
unfolding int Int
reads_int = reads_on (is 48) refl (λ c h. reads-got (c ∷ []) (inl (c, refl, h))) (λ c h. ([], [], inl (c, refl, h))) reads-digits (λ a u h m. no_zero u h m)

has-int : Has Int
unfolding Int
has-int = (48 ∷ [], inl (48, refl, refl))

reads-frac : Reads (λ (x : Bytes). Maybe Frac) frac
unfolding frac Frac
reads-frac =
    reads_on (is 46) refl (λ c h. reads-under (λ ds. c ∷ ds) (λ a u m. inr (byte-then (is 46) c u h m)) reads-digits)
    (λ c h. ([], has-digits.0, inr (byte-then (is 46) c has-digits.0 h has-digits.1))) (reads-got [] (inl refl)) (λ a u h m. m)

plus-sign : (c : ℕ) → is 43 c ≡ true → is_sign c ≡ true
unfolding is_sign
plus-sign c h = rw h

minus-sign : (c : ℕ) → is 45 c ≡ true → is_sign c ≡ true
unfolding is_sign
minus-sign c h = rw (eqb-true c 45 h)

signed : (u : Bytes) → Maybe (One (is 45)) u → Maybe (One is_sign) u
signed u (inl e) = inl e
signed u (inr m) = inr (m.0, m.1, minus-sign m.0 m.2)

reads-sign : Reads (λ (x : Bytes). Maybe (One is_sign)) sign
unfolding sign
reads-sign =
    reads_on (is 43) refl (λ c h. reads-got (c ∷ []) (inr (c, refl, plus-sign c h))) (λ c h. ([], [], inr (c, refl, plus-sign c h)))
    (reads-opt 45 refl) (λ a u h m. signed u m)

has-exp : Has (Maybe (One is_sign) then Digits)
has-exp = has-then {P = Maybe (One is_sign)} ([], inl refl) has-digits

reads-exp : Reads (λ (x : Bytes). Maybe Exp) exp
unfolding exp Exp is_e
reads-exp =
    reads_on is_e refl
    (λ c h. reads_as (λ a u m. inr (byte-then is_e c u h m)) (reads-row [] reads-sign has-digits λ g. reads-last (λ ds. c ∷ (g ++ ds)) reads-digits))
    (λ c h. ([], has-exp.0, inr (byte-then is_e c has-exp.0 h has-exp.1))) (reads-got [] (inl refl)) (λ a u h m. m)

no-frac : Has (Maybe Frac)
no-frac = ([], inl refl)

no-exp : Has (Maybe Exp)
no-exp = ([], inl refl)

reads-number : Reads (λ (x : Bytes). Number) number
unfolding number Number
reads-number =
    reads-row [] (reads-opt 45 refl) (has-then has-int (has-then no-frac no-exp)) λ a.
    reads-row [] reads_int (has-then no-frac no-exp) λ b. reads-row [] reads-frac no-exp λ c. reads-last (λ d. a ++ b ++ c ++ d) reads-exp

-- ---- literals

reads-four : (a b c d : ℕ) (j : Json) → eqb 256 a ≡ false → eqb 256 b ≡ false → eqb 256 c ≡ false → eqb 256 d ≡ false → Reads (λ (x : Json). Exactly (a ∷ b ∷ c ∷ d ∷ [])) (four a b c d j)
unfolding four
reads-four a b c d j za zb zc zd =
    reads_as (λ x u m. then_is (a ∷ []) (b ∷ c ∷ d ∷ []) (one-is a) (then_is (b ∷ []) (c ∷ d ∷ []) (one-is b) (then_is (c ∷ []) (d ∷ []) (one-is c) (one-is d))) u m)
    (reads-row j (reads-one a za) (has-then (byte b zb) (has-then (byte c zc) (byte d zd))) λ x.
    reads-row j (reads-one b zb) (has-then (byte c zc) (byte d zd)) λ x. reads-row j (reads-one c zc) (byte d zd) λ x. reads-last (λ x. j) (reads-one d zd))
  where
    byte : (b : ℕ) → eqb 256 b ≡ false → Has (One (is b))
    byte b z = a_byte (is b) b (eq-eqb b b refl)

-- ---- scalars

a-string : (c : ℕ) (u : Bytes) → is 34 c ≡ true → Loop Turn u → String (c ∷ u)
unfolding String
a-string c u h m = byte-then (is 34) c u h m

pub has-scalar : Has Scalar
unfolding Scalar
has-scalar = (ascii "true", inl refl)

false-word : (c : ℕ) (u : Bytes) → is 102 c ≡ true → u ≡ 97 ∷ 108 ∷ 115 ∷ 101 ∷ [] → c ∷ u ≡ ascii "false"
false-word c u h e = ap (λ (x : Bytes). c ∷ x) e ∙ ap (λ (x : ℕ). x ∷ 97 ∷ 108 ∷ 115 ∷ 101 ∷ []) (eqb-true c 102 h)

pub reads-scalar : Reads (λ (j : Json). Scalar) scalar
unfolding scalar Scalar
reads-scalar =
    reads_on (is 34) refl (λ c h. reads-under jstr (λ a u m. inr (inr (inr (inr (a-string c u h m))))) reads-characters)
    (λ c h. (jnull, 34 ∷ [], inr (inr (inr (inr (a-string c (34 ∷ []) h ([], 34 ∷ [], refl, none_more [] refl, (34, refl, refl))))))))
    (reads-when (is 116) (reads_as (λ j u m. inl m) (reads-four 116 114 117 101 jtrue refl refl refl refl))
    (reads_on (is 102) refl (λ c h. reads_as (λ j u m. inr (inl (false-word c u h m))) (reads-four 97 108 115 101 jfalse refl refl refl refl))
    (λ c h. (jnull, 97 ∷ 108 ∷ 115 ∷ 101 ∷ [], inr (inl (false-word c (97 ∷ 108 ∷ 115 ∷ 101 ∷ []) h refl))))
    (reads-when (is 110) (reads_as (λ j u m. inr (inr (inl m))) (reads-four 110 117 108 108 jnull refl refl refl refl))
    (reads-under jnum (λ a u m. inr (inr (inr (inl m)))) reads-number))
    (λ j u h m. m)))
    (λ j u h m. m)
