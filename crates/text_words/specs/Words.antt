-- Bytes in a word, the first in the lowest eight bits, and what the marks of a word say.
use Rattle.std.specs.Prelude.{◌≡◌, Bool, true, false, ◌&&◌, ◌||◌, not, ℕ, zero, suc, ◌+◌, ◌*◌, ◌/◌, ◌%◌, ◌<◌, eqb, leb, get_or, drop, set}
use Rattle.text.specs.Choice.{pick}
use Rattle.text.specs.Bytes.{Bytes}

-- n bytes as one number
unfoldable pub word : ℕ → (ℕ → ℕ) → ℕ
word zero f = zero
word (suc n) f = word n (λ i. f (suc i)) * 256 + f zero

-- the n bytes that stand from a place on
abbrev pub word_at : ℕ → Bytes → ℕ → ℕ
word_at n s at = word n (λ i. get_or (drop at s) i 0)

-- r is that number, and bytes are bytes
pub record Loaded (n : ℕ) (s : Bytes) (at r : ℕ) : Type 0 where
  pub is : r ≡ word_at n s at
  pub small : (i : ℕ) → get_or (drop at s) i 0 < 256

-- a byte's mark is its highest bit: set where a test fails
abbrev pub mark : Bool → ℕ
mark true = 0
mark false = 128

-- how many of n pass a test before the first that fails
unfoldable pub passing : ℕ → (ℕ → Bool) → ℕ
passing zero p = zero
passing (suc n) p = pick (p zero) (suc (passing n (λ i. p (suc i)))) zero

-- the word r has the marks of the eight bytes of the word w
abbrev pub Marks : (ℕ → Bool) → ℕ → ℕ → Type 0
Marks p w r = (f : ℕ → ℕ) → ((i : ℕ) → f i < 256) → w ≡ word 8 f → r ≡ word 8 (λ i. mark (p (f i)))

-- r is the place of the first mark, and 8 where there is none
abbrev pub FirstMark : ℕ → ℕ → Type 0
FirstMark m r = (p : ℕ → Bool) → m ≡ word 8 (λ i. mark (p i)) → r ≡ passing 8 p

-- ---- the classes: what a run goes on over

-- neither a quote nor a backslash
unfoldable pub soft : ℕ → Bool
soft c = not (eqb c 34 || eqb c 92)

-- a byte that stands for itself in a JSON string
unfoldable pub bare : ℕ → Bool
bare c = leb 32 c && soft c

-- and is of ASCII
unfoldable pub raw : ℕ → Bool
raw c = leb c 127 && bare c

-- and stands for itself in a line of every style
unfoldable pub plain : ℕ → Bool
plain c = not (eqb c 127 || (eqb c 44 || eqb c 59)) && bare c

-- no LF
unfoldable pub no_lf : ℕ → Bool
no_lf c = not (eqb c 10)

-- ---- a word put back

-- the first n bytes of a word set one after the other, from a place on
unfoldable pub stored : ℕ → ℕ → ℕ → Bytes → Bytes
stored zero w to l = l
stored (suc n) w to l = stored n (w / 256) (to + 1) (set l to (w % 256))
