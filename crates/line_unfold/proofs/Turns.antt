-- Unfolding, one physical line after the other: what is left of the bytes and of the table.
use mathlib.Core.Path.{◌≡◌, refl, sym, ap, ◌∙◌}
use mathlib.Core.Bool.{true, false, ◌&&◌}
use mathlib.Core.List.{List, [], ◌∷◌, ◌++◌, tail, append_assoc}
use Prim.Native.Nat.{ℕ, zero, suc, ◌+◌, ◌<◌}
use native.Mathlib.Omega.{arith}
use native.Mathlib.Numerals.{add-one}
use native.Mathlib.Nat.{add_assoc}
use lib.Dec.{ltb}
use lib.ListN.{length, length-append}
use borrow.Author.Tests.{lt-ltb}
use Rattle.text.specs.Bytes.{Bytes, flat}
use Rattle.text.specs.Reader.{first}
use Rattle.line.specs.Class.{is_blank}
use Rattle.line.specs.Unfold.{rest, unfold'}
use Rattle.line_unfold.specs.Table.{marks}

-- the bytes that physical lines add, after so many unfolded lines were begun
unfoldable pub bytes_left : ℕ → List Bytes → Bytes
bytes_left zero ls = flat (unfold' ls)
bytes_left (suc k) ls = (rest ls).goes_on ++ flat (rest ls).lines

-- the entries of the table that are left, after n bytes
unfoldable pub marks_left : ℕ → ℕ → List Bytes → List ℕ
marks_left zero n ls = marks n (unfold' ls)
marks_left (suc k) n ls = marks (n + length (rest ls).goes_on) (rest ls).lines

-- ---- a physical line that goes on with the line before it

pub bytes-fold : (k : ℕ) (l : Bytes) (ls : List Bytes) → 0 < k → is_blank (first l) ≡ true → bytes_left k (l ∷ ls) ≡ tail l ++ bytes_left k ls
unfolding bytes_left rest
bytes-fold zero l ls h e = absurd (omega arith)
bytes-fold (suc k) l ls h e = rw (e, append_assoc)

pub marks-fold : (k n : ℕ) (l : Bytes) (ls : List Bytes) → 0 < k → is_blank (first l) ≡ true → marks_left k n (l ∷ ls) ≡ marks_left k (n + length (tail l)) ls
unfolding marks_left rest
marks-fold zero n l ls h e = absurd (omega arith)
marks-fold (suc k) n l ls h e =
    rw (e, length-append) (ap (λ m. marks m (rest ls).lines) (sym (add_assoc n (length (tail l)) (length (rest ls).goes_on))))

-- ---- one that begins a line: the first, or one with no blank

no-blank : (k : ℕ) (l : Bytes) → (ltb 0 (suc k) && is_blank (first l)) ≡ false → is_blank (first l) ≡ false
no-blank k l e = rw (lt-ltb 0 (suc k) (omega arith)) at e

pub bytes-begin : (k : ℕ) (l : Bytes) (ls : List Bytes) → (ltb 0 k && is_blank (first l)) ≡ false → bytes_left k (l ∷ ls) ≡ l ++ bytes_left (k + 1) ls
unfolding bytes_left rest unfold' flat
bytes-begin zero l ls e = append_assoc l (rest ls).goes_on (flat (rest ls).lines)
bytes-begin (suc k) l ls e = rw (no-blank k l e, add-one (suc k)) (append_assoc l (rest ls).goes_on (flat (rest ls).lines))

pub marks_begin : (k n : ℕ) (l : Bytes) (ls : List Bytes) → (ltb 0 k && is_blank (first l)) ≡ false
    → marks_left k n (l ∷ ls) ≡ n ∷ marks_left (k + 1) (n + length l) ls
unfolding marks_left rest unfold' marks
marks_begin zero n l ls e =
    rw length-append (ap (λ m. n ∷ marks m (rest ls).lines) (sym (add_assoc n (length l) (length (rest ls).goes_on))))
marks_begin (suc k) n l ls e =
    let z : n + 0 ≡ n = omega arith in
    rw (no-blank k l e, add-one (suc k), length-append, z)
    (ap (λ m. n ∷ marks m (rest ls).lines) (sym (add_assoc n (length l) (length (rest ls).goes_on))))

-- ---- nothing more

pub bytes-done : (k : ℕ) → bytes_left k [] ≡ []
unfolding bytes_left rest unfold' flat
bytes-done zero = refl
bytes-done (suc k) = refl

pub marks-done : (k n : ℕ) → marks_left k n [] ≡ n ∷ []
unfolding marks_left rest unfold' marks
marks-done zero n = refl
marks-done (suc k) n = ap (λ m. m ∷ []) (omega arith)

-- ---- how many

pub marks-length : (n : ℕ) (ls : List Bytes) → length (marks n ls) ≡ suc (length ls)
unfolding marks
marks-length n [] = refl
marks-length n (l ∷ ls) = ap suc (marks-length (n + length l) ls)

marks-some : (k n : ℕ) (ls : List Bytes) → 0 < length (marks_left k n ls)
unfolding marks_left
marks-some zero n ls = rw (marks-length n (unfold' ls)) (omega arith)
marks-some (suc k) n ls = rw (marks-length (n + length (rest ls).goes_on) (rest ls).lines) (omega arith)

-- the lines are more than those that were begun, where one more begins
pub lines_more : (x : List ℕ) (k n : ℕ) (ls ms : List Bytes) (m : ℕ) → k ≡ length x → x ++ (n ∷ marks_left (k + 1) m ls) ≡ marks 0 ms → k < length ms
lines_more x k n ls ms m is e =
    let a : length x + suc (length (marks_left (k + 1) m ls)) ≡ suc (length ms) = sym (length-append x (n ∷ marks_left (k + 1) m ls)) ∙ ap length e ∙ marks-length 0 ms in
    omega (arith, marks-some (k + 1) m ls)

pub lines-all : (k : ℕ) (ms : List Bytes) → k + 1 ≡ length (marks 0 ms) → k ≡ length ms
lines-all k ms e = omega (arith, marks-length 0 ms)
