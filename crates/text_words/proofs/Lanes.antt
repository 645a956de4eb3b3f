-- An expression over a word is the same expression over each of its bytes, where no sum leaves its byte: one law for every class of bytes.
-- A class is then an expression and a table of 256 bytes that computes (`marks`).
use mathlib.Core.Path.{◌≡◌, refl, ap, ap₂, ◌∙◌}
use mathlib.Core.Bool.{Bool, true, ◌&&◌}
use mathlib.Core.List.{map}
use Prim.Native.Nat.{ℕ, zero, suc, ◌+◌, ◌*◌, ◌^◌, ◌<◌}
use native.Mathlib.Omega.{arith}
use lib.Dec.{ltb, eqb}
use lib.Bits.{bit_and, bit_or, bit_xor, and_lt, or_lt, xor_lt, and_block, or_block, xor_block}
use borrow.Author.Tests.{ltb-true, ltb-false, eqb-true}
use Rattle.text.proofs.Cases.{and_left, and_right, up_to, by_below}
use Rattle.text_words.specs.Words.{word, mark, Marks}

pub word-alike : (n : ℕ) (f g : ℕ → ℕ) → ((i : ℕ) → f i ≡ g i) → word n f ≡ word n g
unfolding word
word-alike zero f g h = refl
word-alike (suc n) f g h = ap₂ (λ (x y : ℕ). x * 256 + y) (word-alike n (λ i. f (suc i)) (λ i. g (suc i)) (λ i. h (suc i))) (h 0)

-- ---- one operation

module _ (op : ℕ → ℕ → ℕ) (none : op 0 0 ≡ 0)
    (block : (k a b r s : ℕ) → r < 2 ^ k → s < 2 ^ k → op (a * 2 ^ k + r) (b * 2 ^ k + s) ≡ op a b * 2 ^ k + op r s) where
  lanes : (n : ℕ) (f g : ℕ → ℕ) → ((i : ℕ) → f i < 256) → ((i : ℕ) → g i < 256) → op (word n f) (word n g) ≡ word n (λ i. op (f i) (g i))
  unfolding word
  lanes zero f g hf hg = none
  lanes (suc n) f g hf hg =
      block 8 (word n (λ i. f (suc i))) (word n (λ i. g (suc i))) (f 0) (g 0) (hf 0) (hg 0)
      ∙ ap (λ (x : ℕ). x * 256 + op (f 0) (g 0)) (lanes n (λ i. f (suc i)) (λ i. g (suc i)) (λ i. hf (suc i)) (λ i. hg (suc i)))

sums : (n : ℕ) (f g : ℕ → ℕ) → word n f + word n g ≡ word n (λ i. f i + g i)
unfolding word
sums zero f g = refl
sums (suc n) f g = let e = sums n (λ i. f (suc i)) (λ i. g (suc i)) in omega arith

-- ---- expressions

pub data Ex : Type 0 where
  byte : Ex
  con : ℕ → Ex
  band : Ex → Ex → Ex
  bor : Ex → Ex → Ex
  bxor : Ex → Ex → Ex
  sum : Ex → Ex → Ex

-- over a byte
abbrev pub lane : Ex → ℕ → ℕ
lane byte b = b
lane (con k) b = k
lane (band x y) b = bit_and (lane x b) (lane y b)
lane (bor x y) b = bit_or (lane x b) (lane y b)
lane (bxor x y) b = bit_xor (lane x b) (lane y b)
lane (sum x y) b = lane x b + lane y b

-- over a word of n bytes
abbrev pub whole : ℕ → Ex → ℕ → ℕ
whole n byte w = w
whole n (con k) w = word n (λ i. k)
whole n (band x y) w = bit_and (whole n x w) (whole n y w)
whole n (bor x y) w = bit_or (whole n x w) (whole n y w)
whole n (bxor x y) w = bit_xor (whole n x w) (whole n y w)
whole n (sum x y) w = whole n x w + whole n y w

-- no part of it leaves the byte
abbrev pub small : Ex → ℕ → Bool
small byte b = ltb b 256
small (con k) b = ltb k 256
small (band x y) b = small x b && small y b
small (bor x y) b = small x b && small y b
small (bxor x y) b = small x b && small y b
small (sum x y) b = ltb (lane x b + lane y b) 256 && (small x b && small y b)

fits : (e : Ex) (b : ℕ) → small e b ≡ true → lane e b < 256
fits byte b h = ltb-true b 256 h
fits (con k) b h = ltb-true k 256 h
fits (band x y) b h = and_lt 8 (lane x b) (lane y b) (fits x b (and_left (small x b) (small y b) h)) (fits y b (and_right (small x b) (small y b) h))
fits (bor x y) b h = or_lt 8 (lane x b) (lane y b) (fits x b (and_left (small x b) (small y b) h)) (fits y b (and_right (small x b) (small y b) h))
fits (bxor x y) b h = xor_lt 8 (lane x b) (lane y b) (fits x b (and_left (small x b) (small y b) h)) (fits y b (and_right (small x b) (small y b) h))
fits (sum x y) b h = ltb-true (lane x b + lane y b) 256 (and_left (ltb (lane x b + lane y b) 256) (small x b && small y b) h)

module _ (n : ℕ) (f : ℕ → ℕ) where
  -- the two sides of an operation, each by the law
  module _ (op : ℕ → ℕ → ℕ) (none : op 0 0 ≡ 0)
      (block : (k a b r s : ℕ) → r < 2 ^ k → s < 2 ^ k → op (a * 2 ^ k + r) (b * 2 ^ k + s) ≡ op a b * 2 ^ k + op r s) where
    by-op : (x y : Ex) → ((i : ℕ) → small x (f i) && small y (f i) ≡ true) → whole n x (word n f) ≡ word n (λ i. lane x (f i)) → whole n y (word n f) ≡ word n (λ i. lane y (f i))
        → op (whole n x (word n f)) (whole n y (word n f)) ≡ word n (λ i. op (lane x (f i)) (lane y (f i)))
    by-op x y h p q =
        ap₂ op p q
        ∙ lanes op none block n (λ i. lane x (f i)) (λ i. lane y (f i))
        (λ i. fits x (f i) (and_left (small x (f i)) (small y (f i)) (h i)))
        (λ i. fits y (f i) (and_right (small x (f i)) (small y (f i)) (h i)))

  lifted : (e : Ex) → ((i : ℕ) → small e (f i) ≡ true) → whole n e (word n f) ≡ word n (λ i. lane e (f i))
  lifted byte h = refl
  lifted (con k) h = refl
  lifted (band x y) h = by-op bit_and refl and_block x y h (lifted x (λ i. and_left _ (small y (f i)) (h i))) (lifted y (λ i. and_right (small x (f i)) _ (h i)))
  lifted (bor x y) h = by-op bit_or refl or_block x y h (lifted x (λ i. and_left _ (small y (f i)) (h i))) (lifted y (λ i. and_right (small x (f i)) _ (h i)))
  lifted (bxor x y) h = by-op bit_xor refl xor_block x y h (lifted x (λ i. and_left _ (small y (f i)) (h i))) (lifted y (λ i. and_right (small x (f i)) _ (h i)))
  lifted (sum x y) h =
      let k : (i : ℕ) → small x (f i) && small y (f i) ≡ true = λ i. and_right (ltb (lane x (f i) + lane y (f i)) 256) (small x (f i) && small y (f i)) (h i) in
      ap₂ (λ (a b : ℕ). a + b) (lifted x (λ i. and_left _ (small y (f i)) (k i))) (lifted y (λ i. and_right (small x (f i)) _ (k i)))
      ∙ sums n (λ i. lane x (f i)) (λ i. lane y (f i))

-- ---- a class

-- at the byte b the expression gives the mark of the test, and no part of it leaves the byte
abbrev pub right : Ex → (ℕ → Bool) → ℕ → Bool
right e p b = small e b && eqb (lane e b) (mark (p b))

-- an expression that is right at each of the 256 bytes, by computation, marks a word
pub marks : (e : Ex) (p : ℕ → Bool) → map (right e p) (up_to 256) ≡ map (λ b. true) (up_to 256) → (w : ℕ) → Marks p w (whole 8 e w)
marks e p t w f h q =
    let ok : (i : ℕ) → right e p (f i) ≡ true = λ i. by_below (right e p) (λ b. true) (f i) 256 t (λ l. let z = ltb-false (f i) 256 l in let y = h i in absurd (omega arith)) in
    ap (whole 8 e) q
    ∙ lifted 8 f e (λ i. and_left (small e (f i)) (eqb (lane e (f i)) (mark (p (f i)))) (ok i))
    ∙ word-alike 8 (λ i. lane e (f i)) (λ i. mark (p (f i))) (λ i. eqb-true (lane e (f i)) (mark (p (f i))) (and_right (small e (f i)) (eqb (lane e (f i)) (mark (p (f i)))) (ok i)))
