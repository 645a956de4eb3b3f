-- A right table gives each class at each byte.
use mathlib.Core.Path.{◌≡◌}
use mathlib.Core.Bool.{Bool}
use mathlib.Core.List.{List}
use Prim.Native.Nat.{ℕ, ◌<◌}
use native.Mathlib.Omega.{arith}
use mir.Val.{Fits}
use mir.Syntax.{w8}
use lib.Dec.{T}
use lib.ListN.{get_or}
use Rattle.text.specs.Bytes.{Bytes, all}
use Rattle.line_class.specs.declared.Class.{Class}
use Rattle.line_class.specs.declared.Class.TheVariants.{Name, LowerName, Bare, Quotable, Control, Blank, Key, Stem}
use Rattle.line_class.specs.Classes.{in_class, bit_of, has_bit, entry_right, bit_right, Agrees}
use Rattle.line_class.proofs.Table.{and_left, and_right, alike-eq, entry}
use Rattle.line_class.proofs.Runs.{all_alike}

-- a class by the table's bits
abbrev pub by_table : List ℕ → ℕ → ℕ → Bool
by_table t m c = has_bit (get_or t c 0) m

module _ (table : List ℕ) (is : Agrees table) where
  at_entry : (b : ℕ) → b < 256 → T (entry_right b (get_or table b 0))
  at_entry b h = entry entry_right table is.right b (omega arith)

  -- the one lemma to each entry
  pub table_at : (k : Class) (b : ℕ) → b < 256 → by_table table (bit_of k) b ≡ in_class k b
  unfolding entry_right bit_right
  table_at Name b h = search (alike-eq, and_left, and_right, at_entry b h) depth 12
  table_at LowerName b h = search (alike-eq, and_left, and_right, at_entry b h) depth 12
  table_at Bare b h = search (alike-eq, and_left, and_right, at_entry b h) depth 12
  table_at Quotable b h = search (alike-eq, and_left, and_right, at_entry b h) depth 12
  table_at Control b h = search (alike-eq, and_left, and_right, at_entry b h) depth 12
  table_at Blank b h = search (alike-eq, and_left, and_right, at_entry b h) depth 12
  table_at Key b h = search (alike-eq, and_left, and_right, at_entry b h) depth 12
  table_at Stem b h = search (alike-eq, and_left, and_right, at_entry b h) depth 12

  -- at a use, where the mask is what `bit` gave
  pub by-class : (k : Class) (m : ℕ) → m ≡ bit_of k → (b : ℕ) → b < 256 → by_table table m b ≡ in_class k b
  by-class k m e b h = rw e (table_at k b h)

  pub all-by-class : (k : Class) (m : ℕ) → m ≡ bit_of k → (s : Bytes) → ((i : ℕ) → Fits w8 (get_or s i 0)) → all (by_table table m) s ≡ all (in_class k) s
  all-by-class k m e s h = all_alike (by_table table m) (in_class k) s (λ i. by-class k m e (get_or s i 0) (h i).fits)
