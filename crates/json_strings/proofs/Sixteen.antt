-- Bytes that are copied without an early way out.
use mathlib.Core.Path.{◌≡◌, refl, sym, ap, subst, ◌∙◌}
use mathlib.Core.List.{[], ◌∷◌, ◌++◌, append_assoc, append-nil}
use Prim.Native.Nat.{ℕ, zero, suc, ◌+◌, ◌*◌, ◌/◌, ◌%◌, ◌≤◌, ◌<◌}
use native.Mathlib.Nat.{add-zero}
use native.Mathlib.Omega.{arith}
use lib.Arith.{digits_div, digits_mod}
use lib.ListN.{length, take, drop, get_or, set, length-drop, length-set}
use lib.Seq.{get_or-drop}
use Rattle.text.specs.Bytes.{Bytes}
use Rattle.text_words.specs.Words.{word, word_at, stored}
use Rattle.text_words.proofs.Lanes.{word-alike}
use Rattle.text_words.proofs.Loads.{byte_of, first_byte}
use Rattle.text_words.proofs.Stores.{stored-length}
use Rattle.output.specs.Put.{Sofar}
use Rattle.output.proofs.Laws.{byte, sofar-as}
use Rattle.output.proofs.Pieces.{one_more}

module _ (s : Bytes) (at : ℕ) where
  -- one byte more from a place on
  pub byte_more : (n : ℕ) → at + n < length s → take n (drop at s) ++ (get_or s (at + n) 0 ∷ []) ≡ take (n + 1) (drop at s)
  byte_more n h =
      let l : n < length (drop at s) = simp length-drop (omega arith) in
      ap (λ (c : ℕ). take n (drop at s) ++ (c ∷ [])) (sym (get_or-drop at s n 0)) ∙ one_more (drop at s) n l

  -- n bytes now stand after what stood before `to`
  abbrev pub Copies : ℕ → Bytes → ℕ → Bytes → Type 0
  Copies to out n after = (room x : Bytes) → Sofar room x to out → Sofar room (x ++ take n (drop at s)) (to + n) after

  pub copies-none : (to : ℕ) (out : Bytes) → Copies to out 0 out
  copies-none to out room x so = rw (append-nil x, add-zero to) so

  pub copies-more : (to : ℕ) (out : Bytes) (n : ℕ) (after : Bytes) → at + n < length s → to + n < length after → Copies to out n after
      → Copies to out (n + 1) (set after (to + n) (get_or s (at + n) 0))
  copies-more to out n after h l copied room x so =
      let c = get_or s (at + n) 0 in
      let m : to + n + 1 ≡ to + (n + 1) = omega arith in
      let is = append_assoc x (take n (drop at s)) (c ∷ []) ∙ ap (λ (y : Bytes). x ++ y) (byte_more n h) in
      subst (λ k. Sofar room (x ++ take (n + 1) (drop at s)) k (set after (to + n) c)) m (sofar-as is (byte c (copied room x so) l))

  -- ---- by words
  module _ (to : ℕ) (out : Bytes) (h : (i : ℕ) → get_or (drop at s) i 0 < 256) where
    pub stored-copies : (n k p q : ℕ) (cur : Bytes) → p ≡ at + k → q ≡ to + k → p + n ≤ length s → q + n ≤ length cur → Copies to out k cur
        → Copies to out (k + n) (stored n (word_at n s p) q cur)
    unfolding word stored
    stored-copies zero k p q cur a b l m copied = rw (add-zero k) copied
    stored-copies (suc n) k p q cur a b l m copied =
        let c = get_or s (at + k) 0 in
        let high = word n (λ i. get_or (drop p s) (suc i) 0) in
        let low : get_or (drop p s) 0 0 ≡ c = first_byte s p ∙ ap (λ (x : ℕ). get_or s x 0) a in
        let under : get_or (drop at s) k 0 ≡ c = byte_of s at k in
        let lt : get_or (drop p s) 0 0 < 256 = omega (arith, h k) in
        let up : high ≡ word_at n s (p + 1) = word-alike n (λ i. get_or (drop p s) (suc i) 0) (λ i. get_or (drop (p + 1) s) i 0) (λ i.
        let z : p + suc i ≡ p + 1 + i = omega arith in byte_of s p (suc i) ∙ ap (λ (x : ℕ). get_or s x 0) z ∙ sym (byte_of s (p + 1) i)) in
        let e : (high * 256 + get_or (drop p s) 0 0) % 256 ≡ c = digits_mod high lt ∙ low in
        let f : (high * 256 + get_or (drop p s) 0 0) / 256 ≡ word_at n s (p + 1) = digits_div high lt ∙ up in
        let g : k + 1 + n ≡ k + suc n = omega arith in
        let one : Copies to out (k + 1) (set cur q c) = subst (λ (x : ℕ). Copies to out (k + 1) (set cur x c)) (sym b) (copies-more to out k cur (omega arith) (omega arith) copied) in
        let more : Copies to out (k + 1 + n) (stored n (word_at n s (p + 1)) (q + 1) (set cur q c)) =
        stored-copies n (k + 1) (p + 1) (q + 1) (set cur q c) (omega arith) (omega arith) (omega arith) (omega (arith, length-set cur q c)) one in
        subst (λ (x : ℕ). Copies to out x (stored n ((high * 256 + get_or (drop p s) 0 0) / 256) (q + 1) (set cur q ((high * 256 + get_or (drop p s) 0 0) % 256)))) g
        (rw (e, f) more)

    -- two words make sixteen bytes
    pub sixteen-copied : (a b : ℕ) (after : Bytes) → a ≡ word_at 8 s at → b ≡ word_at 8 s (at + 8) → at + 16 ≤ length s → to + 16 ≤ length out
        → after ≡ stored 8 b (to + 8) (stored 8 a to out) → Copies to out 16 after
    sixteen-copied a b after p q l m e =
        let first : Copies to out 8 (stored 8 (word_at 8 s at) to out) =
        stored-copies 8 0 at to out (omega arith) (omega arith) (omega arith) (omega arith) (copies-none to out) in
        let second : Copies to out 16 (stored 8 (word_at 8 s (at + 8)) (to + 8) (stored 8 (word_at 8 s at) to out)) =
        stored-copies 8 8 (at + 8) (to + 8) (stored 8 (word_at 8 s at) to out) refl refl (omega arith) (omega (arith, stored-length 8 (word_at 8 s at) to out)) first in
        rw (e, p, q) second
