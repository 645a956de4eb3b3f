-- A part by its writer's number, and all parts one after the other.
use mathlib.Core.Path.{◌≡◌, refl, sym, ap, ◌∙◌}
use mathlib.Core.List.{List, [], ◌∷◌, ◌++◌, map}
use Prim.Native.Nat.{ℕ, suc, ◌+◌, ◌-◌, ◌≤◌, ◌<◌}
use native.Mathlib.Omega.{arith}
use lib.ListN.{length, length-append, length-take, length-drop}
use borrow.Rule.Slice.PartMut.{mid_of, put_mid}
use borrow.Author.Tests.{le-leb, lt-leb, ne_eqb}
use Rattle.text.specs.Bytes.{Bytes, flat}
use Rattle.output.specs.Put.{Wrote, full}
use Rattle.std.specs.Prelude.{Ok, Err}
use Rattle.output.specs.Put.{answer, Puts}
use Rattle.output.proofs.Laws.{said-bytes, said-full}
use Rattle.json_text.specs.Compact.{quoted}
use Rattle.json_strings.specs.Decoded.{text_at}
use Rattle.json_compact.specs.Squeezed.{squeezed}
use Rattle.line.specs.Write.{fold_from}
use Rattle.line_pen.specs.declared.Pen.{Pen}
use Rattle.line_pen.specs.Pen.{Fills, Pens}
use Rattle.line_pen.proofs.Filling.{then}
use Rattle.line_pen.proofs.Laws.{filled, pens-length}
use Rattle.line_text.specs.Read.{plain_text}
use Rattle.line_unfold.specs.Table.{line_at}
use Rattle.pieces.specs.Given.{parts_from, folded_line, written, written_parts, PutsParts}

-- ---- by number

pub written-0 : (w : ℕ) (s : Bytes) → w ≡ 0 → plain_text s ≡ written w s
unfolding written
written-0 w s e = rw e refl

pub written-1 : (w : ℕ) (s : Bytes) → w ≡ 1 → folded_line s ≡ written w s
unfolding written
written-1 w s e = rw e refl

pub written_2 : (w : ℕ) (s : Bytes) → w ≡ 2 → quoted s [] ≡ written w s
unfolding written
written_2 w s e = rw e refl

pub written-3 : (w : ℕ) (s : Bytes) → w ≡ 3 → text_at s 1 ≡ written w s
unfolding written
written-3 w s e = rw e refl

pub written_4 : (w : ℕ) (s : Bytes) → w ≡ 4 → quoted (text_at s 1) [] ≡ written w s
unfolding written
written_4 w s e = rw e refl

pub written-other : (w : ℕ) (s : Bytes) → (w ≡ 0 → ⊥) → (w ≡ 1 → ⊥) → (w ≡ 2 → ⊥) → (w ≡ 3 → ⊥) → (w ≡ 4 → ⊥) → squeezed s ≡ written w s
unfolding written
written-other w s a b c d e = rw (ne_eqb w 0 a, ne_eqb w 1 b, ne_eqb w 2 c, ne_eqb w 3 d, ne_eqb w 4 e) refl

-- ---- a line folded, and its end

answer-fits : (room x : Bytes) → length x ≤ length room → answer room x ≡ Ok (length x)
unfolding answer
answer-fits room x h = rw (le-leb (length x) (length room) h) refl

answer-over : (room x : Bytes) → length room < length x → answer room x ≡ (Err full)
unfolding answer
answer-over room x h = rw (lt-leb (length x) (length room) h) refl

module _ {room line out last : Bytes} {p : Pen} {m : ℕ} (f : Pens room 0 line p out)
    (g : Fills (mid_of p.bytes (length out - p.bytes) out) (13 ∷ (10 ∷ [])) m last) where
  whole : Fills room (fold_from 0 line ++ 13 ∷ (10 ∷ [])) (p.bytes + m) (put_mid p.bytes (length out - p.bytes) out last)
  whole = then (filled f) g

  rest : length (mid_of p.bytes (length out - p.bytes) out) ≡ length room - p.bytes
  rest = simp (length-take, length-drop) (omega (arith, pens-length f))

  all : length (fold_from 0 line ++ 13 ∷ (10 ∷ [])) ≡ length (fold_from 0 line) + 2
  all = simp length-append

  pub folded-put : 2 ≤ m → Puts room (folded_line line) (Ok (p.bytes + m)) (put_mid p.bytes (length out - p.bytes) out last)
  unfolding folded_line
  folded-put h =
      let e : p.bytes + m ≡ length (fold_from 0 line ++ 13 ∷ (10 ∷ [])) = omega (arith, all, rest, f.said, g.said, h) in
      let k : length (fold_from 0 line ++ 13 ∷ (10 ∷ [])) ≤ length room = omega (arith, all, rest, f.said, g.said, h) in
      record { said = ap Ok e ∙ sym (answer-fits room _ k); left = whole.left }

  pub folded-full : m < 2 → Puts room (folded_line line) (Err full) (put_mid p.bytes (length out - p.bytes) out last)
  unfolding folded_line
  folded-full h =
      let k : length room < length (fold_from 0 line ++ 13 ∷ (10 ∷ [])) = omega (arith, all, rest, f.said, g.said, h) in
      record { said = sym (answer-over room _ k); left = whole.left }

  pub folded-in : p.bytes ≤ length out
  folded-in = omega (arith, f.said, pens-length f)

-- ---- part by part

module _ (bytes starts : List ℕ) (writer : ℕ) where
  -- what is left to write from the k-th part on
  abbrev pub left_from : ℕ → ℕ → Bytes
  left_from k m = flat (map (written writer) (parts_from bytes starts k m))

  pub left-all : (n : ℕ) → left_from 0 (n - 0) ≡ written_parts bytes starts n writer
  unfolding written_parts
  left-all n = let e : n - 0 ≡ n = omega arith in ap (left_from 0) e

  left-next : (k m : ℕ) → left_from k (suc m) ≡ written writer (line_at bytes starts k) ++ left_from (suc k) m
  unfolding parts_from flat
  left-next k m = refl

  pub left_one : (k n : ℕ) → k < n → left_from k (n - k) ≡ written writer (line_at bytes starts k) ++ left_from (k + 1) (n - (k + 1))
  left_one k n h =
      let e : n - k ≡ suc (n - (k + 1)) = omega (arith, h) in
      let f : suc k ≡ k + 1 = omega arith in
      ap (left_from k) e ∙ left-next k (n - (k + 1)) ∙ ap (λ j. written writer (line_at bytes starts k) ++ left_from j (n - (k + 1))) f

  left-none : (k : ℕ) → left_from k 0 ≡ []
  unfolding parts_from flat
  left-none k = refl

  pub left_out : (k n : ℕ) → n ≤ k → left_from k (n - k) ≡ []
  left_out k n h = let e : n - k ≡ 0 = omega (arith, h) in ap (left_from k) e ∙ left-none k

-- ---- the length where all was written

pub parts-put : {room whole out : Bytes} {r : Wrote} (n : ℕ) → r ≡ Ok n → Puts room whole r out → PutsParts room whole n out
parts-put {room} {whole} n e p =
    let q = said-bytes room whole n (sym p.said ∙ e) in
    let h : length whole ≤ length room = omega (arith, q.0, q.1) in
    record { said = rw (le-leb (length whole) (length room) h) q.0; left = p.left }

pub parts-full : {room whole out : Bytes} {r : Wrote} → r ≡ (Err full) → Puts room whole r out → PutsParts room whole 0 out
parts-full {room} {whole} e p =
    record { said = rw (lt-leb (length whole) (length room) (said-full room whole (sym p.said ∙ e))) refl; left = p.left }
