-- Unfolded lines laid out: their bytes one after the other, and a table of where each begins.
use Rattle.std.specs.Prelude.{◌≡◌, Result, Ok, Err, List, [], ◌∷◌, ◌++◌, ℕ, ◌+◌, ◌-◌, ◌≤◌, ◌<◌, length, take, drop, get_or, leb, ltb}
use Rattle.text.specs.Choice.{pick}
use Rattle.text.specs.Bytes.{Bytes, flat}
use Rattle.output.specs.Put.{Sofar}
use Rattle.line_unfold.specs.declared.TooMany.{TooMany}

-- src now stands after what stood before `at`
pub record Adds (out : Bytes) (at : ℕ) (src : Bytes) (r : ℕ) (after : Bytes) : Type 0 where
  pub is : r ≡ at + length src
  pub goes : (room x : Bytes) → Sofar room x at out → Sofar room (x ++ src) r after

-- where each line begins, from n on, and where the last ends
unfoldable pub marks : ℕ → List Bytes → List ℕ
marks n [] = n ∷ []
marks n (l ∷ ls) = n ∷ marks (n + length l) ls

pub record Laid (ls : List Bytes) (k : ℕ) (out table : List ℕ) : Type 0 where
  pub count : k ≡ length ls
  pub few : k ≤ 512
  pub bytes : take (length (flat ls)) out ≡ flat ls
  pub starts : take (k + 1) table ≡ marks 0 ls

-- how many lines, or that they are more than are taken
abbrev pub Unfolded : Type 0
Unfolded = Result ℕ TooMany

-- what unfolding answers, and leaves, where at most that many lines are taken
abbrev pub Unfolds : ℕ → List Bytes → Unfolded → List ℕ → List ℕ → Type 0
Unfolds most ls (Ok k) out table = Laid ls k out table × (k ≤ most)
Unfolds most ls (Err e) out table = most < length ls

-- the line with that number, and nothing where the table has none
unfoldable pub line_at : Bytes → List ℕ → ℕ → Bytes
line_at out table k =
    pick (leb (length table) (k + 1)) []
    (pick (ltb (get_or table (k + 1) 0) (get_or table k 0)) []
    (pick (ltb (length out) (get_or table (k + 1) 0)) [] (take (get_or table (k + 1) 0 - get_or table k 0) (drop (get_or table k 0) out))))
