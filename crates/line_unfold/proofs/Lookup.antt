-- The table gives back each unfolded line.
use mathlib.Core.Path.{◌≡◌, refl, sym, ap, ◌∙◌}
use mathlib.Core.List.{List, [], ◌∷◌, ◌++◌, append_assoc}
use Prim.Native.Nat.{ℕ, zero, suc, ◌+◌, ◌-◌, ◌≤◌, ◌<◌}
use native.Mathlib.Omega.{arith}
use native.Mathlib.Nat.{add_assoc, zero-add}
use native.Mathlib.Numerals.{add-one}
use lib.ListN.{length, take, drop, get_or, length-append, length-take, take-append-drop}
use lib.Seq.{get_or-take, take_all, take_at, drop_at}
use borrow.Author.Tests.{lt-leb, le-ltb}
use Rattle.text.specs.Bytes.{Bytes, flat}
use Rattle.line_unfold.specs.Table.{Laid, marks, line_at}
use Rattle.line_unfold.proofs.Turns.{marks-length}

mark-at : (n : ℕ) (ls : List Bytes) (j : ℕ) → j ≤ length ls → get_or (marks n ls) j 0 ≡ n + length (flat (take j ls))
unfolding marks flat
mark-at n [] zero h = omega arith
mark-at n [] (suc j) h = absurd (omega arith)
mark-at n (l ∷ ls) zero h = omega arith
mark-at n (l ∷ ls) (suc j) h =
    let g : j ≤ length ls = omega arith in
    rw (mark-at (n + length l) ls j g, length-append) (add_assoc n (length l) (length (flat (take j ls))))

flat-take-suc : (ls : List Bytes) (j : ℕ) → j < length ls → length (flat (take (suc j) ls)) ≡ length (flat (take j ls)) + length (get_or ls j [])
unfolding flat
flat-take-suc [] j h = absurd (omega arith)
flat-take-suc (l ∷ ls) zero h = simp length-append (omega arith)
flat-take-suc (l ∷ ls) (suc j) h =
    let g : j < length ls = omega arith in
    simp length-append (omega (arith, flat-take-suc ls j g))

flat-at : (ls : List Bytes) (j : ℕ) → j < length ls → flat ls ≡ flat (take j ls) ++ (get_or ls j [] ++ flat (drop (suc j) ls))
unfolding flat
flat-at [] j h = absurd (omega arith)
flat-at (l ∷ ls) zero h = refl
flat-at (l ∷ ls) (suc j) h =
    let g : j < length ls = omega arith in
    ap (λ u. l ++ u) (flat-at ls j g) ∙ sym (append_assoc l (flat (take j ls)) (get_or ls j [] ++ flat (drop (suc j) ls)))

module _ (ls : List Bytes) (k : ℕ) (out table : List ℕ) (is : Laid ls k out table) (j : ℕ) (h : j < k) where
  pub start : get_or table j 0 ≡ length (flat (take j ls))
  start =
      let a : j < k + 1 = omega arith in
      let b : j ≤ length ls = omega (arith, is.count) in
      sym (get_or-take (k + 1) table j 0 a) ∙ ap (λ t. get_or t j 0) is.starts ∙ mark-at 0 ls j b ∙ (omega arith)

  stop : get_or table (j + 1) 0 ≡ length (flat (take j ls)) + length (get_or ls j [])
  stop =
      let a : j + 1 < k + 1 = omega arith in
      let b : j + 1 ≤ length ls = omega (arith, is.count) in
      let c : j < length ls = omega arith in
      sym (get_or-take (k + 1) table (j + 1) 0 a)
      ∙ ap (λ t. get_or t (j + 1) 0) is.starts
      ∙ mark-at 0 ls (j + 1) b
      ∙ (let e : length (flat (take (j + 1) ls)) ≡ length (flat (take j ls)) + length (get_or ls j []) = rw add-one (flat-take-suc ls j c) in omega arith)

  pub table-long : j + 1 < length table
  table-long =
      let a : length (take (k + 1) table) ≡ suc (length ls) = ap length is.starts ∙ marks-length 0 ls in
      omega (arith, is.count, simp length-take at a)

  pub out-is : out ≡ flat (take j ls) ++ (get_or ls j [] ++ (flat (drop (suc j) ls) ++ drop (length (flat ls)) out))
  out-is =
      let c : j < length ls = omega (arith, is.count) in
      sym (take-append-drop (length (flat ls)) out)
      ∙ ap (λ u. u ++ drop (length (flat ls)) out) (is.bytes ∙ flat-at ls j c)
      ∙ append_assoc (flat (take j ls)) (get_or ls j [] ++ flat (drop (suc j) ls)) (drop (length (flat ls)) out)
      ∙ ap (λ u. flat (take j ls) ++ u) (append_assoc (get_or ls j []) (flat (drop (suc j) ls)) (drop (length (flat ls)) out))

  out-long : length (flat (take j ls)) + length (get_or ls j []) ≤ length out
  out-long = omega (arith, simp length-append at (ap length out-is))

  pub line-is : line_at out table j ≡ get_or ls j []
  unfolding line_at
  line-is =
      let a : get_or table j 0 ≤ get_or table (j + 1) 0 = omega (arith, start, stop) in
      let b : get_or table (j + 1) 0 ≤ length out = omega (arith, stop, out-long) in
      let n : length (flat (take j ls)) + length (get_or ls j []) - length (flat (take j ls)) ≡ length (get_or ls j []) = omega arith in
      rw (lt-leb (length table) (j + 1) table-long, le-ltb _ _ a, le-ltb _ _ b, start, stop, n)
      (ap (λ u. take (length (get_or ls j [])) u) (ap (drop (length (flat (take j ls)))) out-is ∙ drop_at (flat (take j ls)) _ _ refl)
      ∙ take_at (get_or ls j []) _ _ refl)

-- where the last line ends: all lines stand before it
pub lines_end : {ls : List Bytes} {k : ℕ} {out table : List ℕ} → Laid ls k out table → get_or table k 0 ≡ length (flat ls)
lines_end {ls} {k} {out} {table} is =
    let a : k < k + 1 = omega arith in
    let b : k ≤ length ls = omega (arith, is.count) in
    let c : length ls ≤ k = omega (arith, is.count) in
    sym (get_or-take (k + 1) table k 0 a) ∙ ap (λ t. get_or t k 0) is.starts ∙ mark-at 0 ls k b ∙ zero-add _ ∙ ap (λ u. length (flat u)) (take_all k ls c)
