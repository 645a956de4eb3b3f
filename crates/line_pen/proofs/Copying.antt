-- How bytes are copied: one by one, by blocks, and by a last block over bytes that are written already.
use mathlib.Core.Path.{◌≡◌, sym, ap, ◌∙◌}
use Prim.Native.Nat.{ℕ, ◌+◌, ◌-◌, ◌≤◌, ◌<◌}
use mathlib.Core.List.{List, [], ◌++◌, append_assoc, append-nil}
use native.Mathlib.Omega.{arith}
use borrow.Rule.Slice.PartMut.{mid_of, post_of, put_mid}
use lib.ListN.{length, take, drop, get_or, set, length-take, length-drop, drop_of_length-le, take-append-drop}
use lib.Seq.{take-nil, take_all, take-take, take-add, take_at, take-append-le, drop-drop, drop_at}
use Rattle.output.specs.Put.{put, Sofar}
use Rattle.output.proofs.Laws.{put-fits, length-put, byte, sofar-as}
use Rattle.line_pen.specs.Pen.{Fills}
use Rattle.line_pen.proofs.Filling.{then}
use Rattle.line_pen.proofs.Laws.{one_more}

-- one more byte of s is stored
pub byte_more : {room out : List ℕ} (s : List ℕ) (i : ℕ) → i < length s → i < length out → Sofar room (take i s) i out → Sofar room (take (i + 1) s) (i + 1) (set out i (get_or s i 0))
byte_more s i h l f = sofar-as (one_more s i h) (byte _ f l)

-- all of s is written
pub bytes-done : {room out : List ℕ} {i : ℕ} (s : List ℕ) → length s ≤ i → Sofar room (take i s) i out → out ≡ put room s
bytes-done {room} {out} {i} s h f = f.left ∙ ap (put room) (take_all i s h)

-- what is written stands in front
in-front : {room x out : List ℕ} {at : ℕ} → Sofar room x at out → take at out ≡ x
in-front {room} {x} {out} {at} f =
    let h : length x ≤ length room = omega arith in
    ap (take at) (f.left ∙ put-fits room x h) ∙ take_at x _ at (sym f.is)

-- a block that was read from s, and written
pub block-done : {zeros block room out : List ℕ} {j k : ℕ} (s : List ℕ) → j ≡ 16 → k ≡ 16 → Sofar zeros (take j s) j block → Sofar room (take k block) k out → out ≡ put room (take 16 s)
block-done {zeros} {block} {room} {out} {j} {k} s e d p q =
    let t : take k block ≡ take j block = ap (λ (n : ℕ). take n block) (d ∙ sym e) in
    q.left ∙ ap (put room) (t ∙ in-front p ∙ ap (λ (n : ℕ). take n s) e)

-- ---- blocks, one after the other

pub fills-length : {room x out : List ℕ} {n : ℕ} → Fills room x n out → length out ≡ length room
fills-length {room} {x} f = ap length f.left ∙ length-put room x

pub fills-none : (room s : List ℕ) → Fills room (take 0 s) 0 room
unfolding put
fills-none room s = record { said = omega arith; left = simp take-nil }

-- the block of s from i on
block-is : (s : List ℕ) (i : ℕ) → take 16 (take (length s - i) (drop i s)) ≡ take 16 (drop i s)
block-is s i = let h : length (drop i s) ≤ length s - i = simp length-drop (omega arith) in ap (take 16) (take_all _ _ h)

pub block_more : {room out last : List ℕ} (s : List ℕ) (i : ℕ) → i + 16 ≤ length s → i + 16 ≤ length room → Fills room (take i s) i out
    → last ≡ put (mid_of i (length out - i) out) (take 16 (take (length s - i) (drop i s))) → Fills room (take (i + 16) s) (i + 16) (put_mid i (length out - i) out last)
block_more {room} {out} {last} s i h l f e =
    let w : length out ≡ length room = fills-length f in
    let g : Fills (mid_of i (length out - i) out) (take 16 (drop i s)) 16 last = record { said = simp (length-take, length-drop) (omega arith); left = e ∙ ap (put _) (block-is s i) } in
    rw take-add (then f g)

-- ---- a block over bytes that are written already

module _ {room out : List ℕ} (s : List ℕ) (i at : ℕ) (h : at ≤ i) (k : i ≤ length s) (l : length s ≤ length room) (f : Fills room (take i s) i out) where
  so_far : out ≡ take i s ++ drop i room
  so_far =
      let n : length (take i s) ≡ i = simp length-take (omega arith) in
      let m : length (take i s) ≤ length room = omega arith in
      f.left ∙ put-fits room (take i s) m ∙ ap (λ (z : ℕ). take i s ++ drop z room) n

  again-before : take at out ≡ take at s
  again-before =
      let n : at ≤ length (take i s) = simp length-take (omega arith) in
      ap (take at) so_far ∙ take-append-le at (take i s) (drop i room) n ∙ take-take at i s h

  again-after : drop (length s) out ≡ drop (length s) room
  again-after =
      let n : length (take i s) ≡ i = simp length-take (omega arith) in
      let e : length s ≡ i + (length s - i) = omega arith in
      let d : drop i out ≡ drop i room = ap (drop i) so_far ∙ drop_at (take i s) (drop i room) i n in
      ap (λ (z : ℕ). drop z out) e ∙ sym (drop-drop (length s - i) i out) ∙ ap (drop (length s - i)) d ∙ drop-drop (length s - i) i room ∙ sym (ap (λ (z : ℕ). drop z room) e)

  pub block_last : {last : List ℕ} → at + 16 ≡ length s → last ≡ put (mid_of at (length out - at) out) (take 16 (take (length s - at) (drop at s))) → put_mid at (length out - at) out last ≡ put room s
  block_last {last} e g =
      let w : length out ≡ length room = fills-length f in
      let y : length (drop at s) ≡ 16 = simp length-drop (omega arith) in
      let b : take 16 (take (length s - at) (drop at s)) ≡ drop at s = block-is s at ∙ take_all 16 (drop at s) (omega arith) in
      let d : length (drop at out) ≤ length out - at = simp length-drop (omega arith) in
      let m : mid_of at (length out - at) out ≡ drop at out = take_all _ (drop at out) d in
      let p : post_of at (length out - at) out ≡ [] = drop_of_length-le (drop at out) d in
      let r : length (drop at s) ≤ length (drop at out) = simp length-drop (omega arith) in
      let t : drop (length (drop at s)) (drop at out) ≡ drop (length s) room = drop-drop _ at out ∙ ap (λ (z : ℕ). drop z out) (ap (λ (z : ℕ). at + z) y ∙ e) ∙ again-after in
      let q : last ≡ drop at s ++ drop (length s) room = g ∙ ap (put _) b ∙ ap (λ (z : List ℕ). put z (drop at s)) m ∙ put-fits (drop at out) (drop at s) r ∙ ap (λ (z : List ℕ). drop at s ++ z) t in
      rw (p, q, again-before, append-nil) (sym (append_assoc (take at s) (drop at s) _) ∙ ap (λ (z : List ℕ). z ++ drop (length s) room) (take-append-drop at s) ∙ sym (put-fits room s l))

-- ---- as much as fits

put-cut : (room s : List ℕ) → length room ≤ length s → put room (take (length room) s) ≡ put room s
unfolding put
put-cut room s h =
    let l : length (take (length room) s) ≡ length room = simp length-take (omega arith) in
    let m : length room ≤ length (take (length room) s) = omega arith in
    let t : take (length room) (take (length room) s) ≡ take (length room) s = take_all (length room) (take (length room) s) (omega arith) in
    rw (t, drop_of_length-le room h, drop_of_length-le room m)

pub fills-front : {room out : List ℕ} (s : List ℕ) → length room < length s → out ≡ put room (take (length room - 0) s) → Fills room s (length room) out
fills-front {room} s h e =
    let z : length room - 0 ≡ length room = omega arith in
    record { said = omega arith; left = e ∙ ap (λ (n : ℕ). put room (take n s)) z ∙ put-cut room s (omega arith) }
