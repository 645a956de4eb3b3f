-- Splitting TEXT: one turn of the scanner. What is true of the part that begins later is true of the part that begins here.
use mathlib.Core.Path.{◌≡◌, refl, sym, ap, ◌∙◌}
use mathlib.Core.Bool.{true, false, ◌&&◌, ◌||◌, not}
use mathlib.Core.List.{[], ◌∷◌}
use Prim.Native.Nat.{ℕ, suc, ◌+◌, ◌-◌, ◌≤◌, ◌<◌}
use native.Mathlib.Omega.{arith}
use native.Mathlib.Numerals.{add-one}
use lib.Dec.{eqb, ltb}
use lib.ListN.{length, take, drop, get_or, drop_of_length-le}
use lib.Seq.{drop-cons, take-nil}
use borrow.Author.Tests.{lt-ltb, le-ltb, le-leb, lt-leb}
use Rattle.text.specs.Choice.{pick}
use Rattle.text.specs.Bytes.{Bytes, on_head}
use Rattle.line.specs.Text.{split_from, split_text}
use Rattle.text.proofs.Cases.{by_bool, split}
use Rattle.line.proofs.Shapes.{on-head}
use Rattle.line_text.specs.Split.{PartEnds, Joined, char_end}

-- ---- what one byte does

split-sep : (d c : ℕ) (t : Bytes) → (not (eqb c 92) && eqb c d) ≡ true → split_text d (c ∷ t) ≡ [] ∷ split_text d t
unfolding split_text split_from
split-sep d c t e = by_bool (eqb c 92) (λ b. let z : ◌≡◌ {A = ℕ} 0 1 = cc in absurd (omega arith)) (λ b. let f : eqb c d ≡ true = rw b at e in rw (b, f))

-- no escape begins: the byte joins the part
split_plain : (d c : ℕ) (t : Bytes) → eqb c 92 ≡ false → eqb c d ≡ false → split_text d (c ∷ t) ≡ on_head c (split_text d t)
unfolding split_text split_from
split_plain d c t b e = rw (b, e)

-- an escape joins it whole
split-escape : (d c x : ℕ) (t : Bytes) → eqb c 92 ≡ true → split_text d (c ∷ x ∷ t) ≡ on_head c (on_head x (split_text d t))
unfolding split_text split_from
split-escape d c x t b = rw b

split-last : (d c : ℕ) → eqb c 92 ≡ true → split_text d (c ∷ []) ≡ on_head c (split_text d [])
unfolding split_text split_from
split-last d c b = rw b

split-nil : (d : ℕ) → split_text d [] ≡ [] ∷ []
unfolding split_text split_from
split-nil d = refl

-- ---- a part that ends here

pub part-here : (d : ℕ) (s : Bytes) (i : ℕ) → i < length s → (not (eqb (get_or s i 0) 92) && eqb (get_or s i 0) d) ≡ true → PartEnds d s i i
part-here d s i h e = record {
  from = omega arith;
  within = λ l. l;
  parts =
      let z : i - i ≡ 0 = omega arith in
      rw (z, lt-ltb i (length s) h, drop-cons s i 0, add-one) (split-sep d (get_or s i 0) (drop (suc i) s) e);
}

pub part_out : (d : ℕ) (s : Bytes) (i : ℕ) → length s ≤ i → PartEnds d s i i
part_out d s i h = record {
  from = omega arith;
  within = λ l. l;
  parts = rw (drop_of_length-le s h, le-ltb i (length s) h, take-nil) (split-nil d);
}

-- ---- a part that goes on

front : (s : Bytes) (i e : ℕ) → i < length s → i + 1 ≤ e → take (e - i) (drop i s) ≡ get_or s i 0 ∷ take (e - (i + 1)) (drop (i + 1) s)
front s i e h l =
    let n : e - i ≡ suc (e - (i + 1)) = omega arith in
    rw (n, drop-cons s i 0, add-one)

-- a byte more at the front, or two
joins : (d : ℕ) (s : Bytes) (i e : ℕ) → i < length s → split_text d (drop i s) ≡ on_head (get_or s i 0) (split_text d (drop (i + 1) s))
    → PartEnds d s (i + 1) e → PartEnds d s i e
joins d s i e h f p = record {
  from = omega (arith, p.from);
  within = λ l. p.within (omega arith);
  parts =
      f
      ∙ ap (on_head (get_or s i 0)) p.parts
      ∙ on-head _ _ _
      ∙ ap (λ u. u ∷ pick (ltb e (length s)) (split_text d (drop (e + 1) s)) []) (sym (front s i e h p.from));
}

joins-two : (d : ℕ) (s : Bytes) (i e : ℕ) → i + 1 < length s
    → split_text d (drop i s) ≡ on_head (get_or s i 0) (on_head (get_or s (i + 1) 0) (split_text d (drop (i + 1 + 1) s)))
    → PartEnds d s (i + 1 + 1) e → PartEnds d s i e
joins-two d s i e h f p =
    let l : i + 1 ≤ e = omega (arith, p.from) in
    let h₀ : i < length s = omega arith in
    let both : take (e - i) (drop i s) ≡ get_or s i 0 ∷ get_or s (i + 1) 0 ∷ take (e - (i + 1 + 1)) (drop (i + 1 + 1) s) =
    front s i e h₀ l ∙ ap (λ u. get_or s i 0 ∷ u) (front s (i + 1) e h p.from)
    in record {
      from = omega arith;
      within = λ l. p.within (omega arith);
      parts =
          f
          ∙ ap (λ u. on_head (get_or s i 0) (on_head (get_or s (i + 1) 0) u)) p.parts
          ∙ ap (on_head (get_or s i 0)) (on-head _ _ _)
          ∙ on-head _ _ _
          ∙ ap (λ u. u ∷ pick (ltb e (length s)) (split_text d (drop (e + 1) s)) []) (sym both);
    }

-- ---- where the next character begins

end-last : (s : Bytes) (i : ℕ) → length s ≤ i + 1 → char_end s i ≡ i + 1
unfolding char_end
end-last s i h = rw (le-leb (length s) (i + 1) h)

end-escape : (s : Bytes) (i : ℕ) → i + 1 < length s → eqb (get_or s i 0) 92 ≡ true → char_end s i ≡ i + 1 + 1
unfolding char_end
end-escape s i h e = rw (lt-leb (length s) (i + 1) h, e) (omega arith)

end-plain : (s : Bytes) (i : ℕ) → i + 1 < length s → eqb (get_or s i 0) 92 ≡ false → char_end s i ≡ i + 1
unfolding char_end
end-plain s i h e = rw (lt-leb (length s) (i + 1) h, e)

-- no separator stands here
no-separator : (d c : ℕ) → (not (eqb c 92) && eqb c d) ≡ false → eqb c 92 ≡ false → eqb c d ≡ false
no-separator d c e b = rw b at e

-- a byte that is alone, or begins an escape, or is plain
skip-last : (d : ℕ) (s : Bytes) (i e : ℕ) → i < length s → (not (eqb (get_or s i 0) 92) && eqb (get_or s i 0) d) ≡ false → length s ≤ i + 1
    → PartEnds d s (i + 1) e → PartEnds d s i e
skip-last d s i e h n l p =
    let c = get_or s i 0 in
    let z : drop (i + 1) s ≡ [] = drop_of_length-le s l in
    let w : drop i s ≡ c ∷ [] = drop-cons s i 0 h ∙ ap (λ u. c ∷ u) (rw add-one at z) in
    joins d s i e h
    (by_bool (eqb c 92) (λ b. rw (w, z) (split-last d c b)) (λ b. rw (w, z) (split_plain d c [] b (no-separator d c n b))))
    p

skip-escape : (d : ℕ) (s : Bytes) (i e : ℕ) → i + 1 < length s → eqb (get_or s i 0) 92 ≡ true → PartEnds d s (i + 1 + 1) e → PartEnds d s i e
skip-escape d s i e h b p =
    let h₀ : i < length s = omega arith in
    joins-two d s i e h (rw (drop-cons s i 0 h₀, ← add-one i, drop-cons s (i + 1) 0 h, ← add-one (i + 1)) (split-escape d _ _ _ b)) p

skip-plain : (d : ℕ) (s : Bytes) (i e : ℕ) → i < length s → eqb (get_or s i 0) 92 ≡ false → eqb (get_or s i 0) d ≡ false
    → PartEnds d s (i + 1) e → PartEnds d s i e
skip-plain d s i e h b n p = joins d s i e h (rw (drop-cons s i 0 h, ← add-one i) (split_plain d _ _ b n)) p

-- a character that is no separator belongs to the part
pub part-on : (d : ℕ) (s : Bytes) (i j e : ℕ) → i < length s → (not (eqb (get_or s i 0) 92) && eqb (get_or s i 0) d) ≡ false → j ≡ char_end s i
    → PartEnds d s j e → PartEnds d s i e
part-on d s i j e h n is p =
    split (length s) (i + 1)
    (λ l. skip-last d s i e h n l (rw (is ∙ end-last s i l) at p))
    (λ l.
    by_bool (eqb (get_or s i 0) 92)
    (λ b. skip-escape d s i e l b (rw (is ∙ end-escape s i l b) at p))
    (λ b. skip-plain d s i e h b (no-separator d (get_or s i 0) n b) (rw (is ∙ end-plain s i l b) at p)))

pub char-onward : (s : Bytes) (i j : ℕ) → i < length s → j ≡ char_end s i → (i < j) × (j ≤ length s)
char-onward s i j h is =
    split (length s) (i + 1)
    (λ l. let e : j ≡ i + 1 = is ∙ end-last s i l in (omega arith, omega arith))
    (λ l.
    by_bool (eqb (get_or s i 0) 92)
    (λ b. let e : j ≡ i + 1 + 1 = is ∙ end-escape s i l b in (omega arith, omega arith))
    (λ b. let e : j ≡ i + 1 = is ∙ end-plain s i l b in (omega arith, omega arith)))

-- ---- bytes that belong to the part

pub joined-none : (d : ℕ) (s : Bytes) (at : ℕ) → Joined d s at at
joined-none d s at = record { from = omega arith; within = λ l. l; on = λ f p. p }

-- neither a backslash nor the separator
neither : (d c : ℕ) → (eqb c 92 || eqb c d) ≡ false → (eqb c 92 ≡ false) × (eqb c d ≡ false)
neither d c e = by_bool (eqb c 92) (λ b. let z : ◌≡◌ {A = ℕ} 0 1 = cc in absurd (omega arith)) (λ b. (b, rw b at e))

pub joined-one : (d : ℕ) (s : Bytes) (at i : ℕ) → Joined d s at i → i < length s → (eqb (get_or s i 0) 92 || eqb (get_or s i 0) d) ≡ false
    → Joined d s at (i + 1)
joined-one d s at i j h n =
    let both = neither d (get_or s i 0) n in
    record {
      from = omega (arith, j.from);
      within = λ l. omega arith;
      on = λ f p. j.on f (skip-plain d s i f h both.0 both.1 p);
    }
