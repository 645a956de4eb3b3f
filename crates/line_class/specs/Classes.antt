-- The classes of a byte, their bits in the table, and what it is for a table to be right.
use Rattle.std.specs.Prelude.{◌≡◌, Bool, true, false, ◌&&◌, not, List, [], ◌∷◌, ℕ, suc, T, eqb, length}
use Rattle.std.specs.Int.Bits.{bit_and}
use Rattle.line.specs.Class.{is_name, is_lower_name, is_bare, is_quotable, is_control, is_blank, is_key, is_stem}
use Rattle.line_class.specs.declared.Class.{Class}
use Rattle.line_class.specs.declared.Class.TheVariants.{Name, LowerName, Bare, Quotable, Control, Blank, Key, Stem}

abbrev pub in_class : Class → ℕ → Bool
in_class Name = is_name
in_class LowerName = is_lower_name
in_class Bare = is_bare
in_class Quotable = is_quotable
in_class Control = is_control
in_class Blank = is_blank
in_class Key = is_key
in_class Stem = is_stem

abbrev pub bit_of : Class → ℕ
bit_of Name = 1
bit_of LowerName = 2
bit_of Bare = 4
bit_of Quotable = 8
bit_of Control = 16
bit_of Blank = 32
bit_of Key = 64
bit_of Stem = 128

unfoldable pub has_bit : ℕ → ℕ → Bool
has_bit x mask = not (eqb (bit_and x mask) 0)

-- ---- the agreement of a table with the ranges: one test over all its entries

-- two tests have the same answer
abbrev pub alike : Bool → Bool → Bool
alike true b = b
alike false true = false
alike false false = true

-- the bit of one class, in the entry x of the byte b
unfoldable pub bit_right : Class → ℕ → ℕ → Bool
bit_right k b x = alike (has_bit x (bit_of k)) (in_class k b)

unfoldable pub entry_right : ℕ → ℕ → Bool
entry_right b x =
    bit_right Name b x
    && (bit_right LowerName b x
    && (bit_right Bare b x && (bit_right Quotable b x && (bit_right Control b x && (bit_right Blank b x && (bit_right Key b x && bit_right Stem b x))))))

-- the test f passes at each entry of the list and its place, counted from i
abbrev pub every : (ℕ → ℕ → Bool) → ℕ → List ℕ → Bool
every f i [] = true
every f i (x ∷ xs) = f i x && every f (suc i) xs

pub record Agrees (table : List ℕ) : Type 0 where
  pub sized : length table ≡ 256
  pub right : T (every entry_right 0 table)
