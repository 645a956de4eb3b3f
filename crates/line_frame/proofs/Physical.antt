-- One physical line at the front of the bytes.
use mathlib.Core.Path.{◌≡◌, refl, sym, ap, subst, ◌∙◌}
use mathlib.Core.Bool.{Bool, false, not, ◌||◌}
use mathlib.Core.List.{[], ◌∷◌, ◌++◌, tail, append_assoc}
use Prim.Native.Nat.{ℕ, zero, suc, ◌+◌, ◌-◌, ◌≤◌, ◌<◌}
use native.Mathlib.Omega.{arith}
use native.Mathlib.Numerals.{add-one}
use lib.Dec.{eqb}
use lib.ListN.{length, take, drop, get_or, length-drop, drop_of_length-le}
use lib.Seq.{drop-cons, drop-drop, take-suc, get_or-take, get_or-drop, length-take-le, take-take}
use borrow.Author.Tests.{eq-eqb, ne_eqb, eqb-true, eqb-false, le-leb, lt-leb}
use Rattle.text.specs.Bytes.{Bytes, on_head}
use Rattle.text.specs.Reader.{taken, past}
use Rattle.line.specs.Physical.{by_lf, without_cr, physical, lacks_lf, size_of}
use Rattle.text.proofs.Cases.{by_bool, split, or_left, or_right}
use Rattle.line_class.proofs.Runs.{run_on, taken-part, past-part, taken-within}
use Rattle.line_frame.specs.Lines.{not_lf, SameLf, cr_end, LineAt}

-- ---- up to the LF

-- one byte more that is no LF
pub lf-more : (s : Bytes) (a k : ℕ) (found : Bool) → a + k < length s → (found ≡ false → SameLf s a (a + k))
    → found || eqb (get_or s (a + k) 0) 10 ≡ false → SameLf s a (a + (k + 1))
unfolding not_lf
lf-more s a k found h so e =
    let n : (a + k) + 1 ≡ a + (k + 1) = omega arith in
    subst (λ m. SameLf s a m) n (sym (run_on not_lf s (a + k) h (rw (or_right found _ e))) ∙ so (or_left found _ e))

pub by-lf : (c : ℕ) (s : Bytes) → by_lf (c ∷ s) ≡ taken not_lf (c ∷ s) ∷ by_lf (tail (past not_lf (c ∷ s)))
unfolding by_lf taken past not_lf on_head
by-lf c [] = by_bool (eqb c 10) (λ e. rw e) (λ e. rw e)
by-lf c (d ∷ s) = by_bool (eqb c 10) (λ e. rw e) (λ e. rw (e, by-lf d s))

-- whatever follows a line that has its LF
closed-lf : (s t : Bytes) → by_lf (taken not_lf s ++ 10 ∷ t) ≡ taken not_lf s ∷ by_lf t
unfolding by_lf taken not_lf on_head
closed-lf [] t = refl
closed-lf (c ∷ s) t = by_bool (eqb c 10) (λ e. rw e) (λ e. rw (e, e, closed-lf s t))

-- the run stops at an LF
stops_at : (s : Bytes) → length (taken not_lf s) < length s → get_or s (length (taken not_lf s)) 0 ≡ 10
unfolding taken not_lf
stops_at [] h = absurd (omega arith)
stops_at (c ∷ s) h = by_bool (eqb c 10) (λ e. rw e (eqb-true c 10 e)) (λ e. rw e (stops_at s (let g : suc (length (taken not_lf s)) < suc (length s) = rw e at h in omega arith)))

-- ---- a CR before it

pub cr-cut : (x : Bytes) (n : ℕ) → length x ≡ suc n → get_or x n 0 ≡ 13 → without_cr x ≡ take n x
unfolding without_cr
cr-cut [] n l e = absurd (omega arith)
cr-cut (c ∷ []) zero l e = rw (eq-eqb c 13 e)
cr-cut (c ∷ []) (suc n) l e = absurd (omega arith)
cr-cut (c ∷ (d ∷ s)) zero l e = absurd (omega arith)
cr-cut (c ∷ (d ∷ s)) (suc n) l e = ap (λ u. c ∷ u) (cr-cut (d ∷ s) n (omega arith) e)

pub cr-none : (x : Bytes) (n : ℕ) → length x ≡ suc n → (get_or x n 0 ≡ 13 → ⊥) → without_cr x ≡ x
unfolding without_cr
cr-none [] n l e = absurd (omega arith)
cr-none (c ∷ []) zero l e = rw (ne_eqb c 13 e)
cr-none (c ∷ []) (suc n) l e = absurd (omega arith)
cr-none (c ∷ (d ∷ s)) zero l e = absurd (omega arith)
cr-none (c ∷ (d ∷ s)) (suc n) l e = ap (λ u. c ∷ u) (cr-none (d ∷ s) n (omega arith) e)

cr-nil : without_cr [] ≡ []
unfolding without_cr
cr-nil = refl

-- the last byte of a line that has one
last_byte : (s : Bytes) (at lf : ℕ) → at < lf → lf ≤ length s → get_or (take (lf - at) (drop at s)) (lf - 1 - at) 0 ≡ get_or s (lf - 1) 0
last_byte s at lf h l =
    let a : lf - 1 - at < lf - at = omega arith in
    let b : at + (lf - 1 - at) ≡ lf - 1 = omega arith in
    rw (get_or-take (lf - at) (drop at s) (lf - 1 - at) 0 a, get_or-drop at s (lf - 1 - at) 0, b)

sized : (s : Bytes) (at lf : ℕ) → at < lf → lf ≤ length s → length (take (lf - at) (drop at s)) ≡ suc (lf - 1 - at)
sized s at lf h l =
    let g : lf - at ≤ length (drop at s) = simp length-drop (omega arith) in
    rw (length-take-le (lf - at) (drop at s) g) (omega arith)

-- the line's bytes end before a CR
pub record CrEnds (s : Bytes) (at lf e : ℕ) : Type 0 where
  pub from : at ≤ e
  pub to : e ≤ lf
  pub bytes : take (e - at) (drop at s) ≡ without_cr (take (lf - at) (drop at s))

no_bytes : (s : Bytes) (at : ℕ) → take (at - at) (drop at s) ≡ []
no_bytes s at = let z : at - at ≡ 0 = omega arith in rw z

end_empty : (s : Bytes) (at lf : ℕ) → lf ≤ at → cr_end s at lf ≡ lf
unfolding cr_end
end_empty s at lf h = rw (le-leb lf at h)

end-cr : (s : Bytes) (at lf : ℕ) → at < lf → get_or s (lf - 1) 0 ≡ 13 → cr_end s at lf ≡ lf - 1
unfolding cr_end
end-cr s at lf h e = rw (lt-leb lf at h, eq-eqb (get_or s (lf - 1) 0) 13 e)

end-plain : (s : Bytes) (at lf : ℕ) → at < lf → (get_or s (lf - 1) 0 ≡ 13 → ⊥) → cr_end s at lf ≡ lf
unfolding cr_end
end-plain s at lf h e = rw (lt-leb lf at h, ne_eqb (get_or s (lf - 1) 0) 13 e)

with-cr : (s : Bytes) (at lf : ℕ) → at < lf → lf ≤ length s → get_or s (lf - 1) 0 ≡ 13 → CrEnds s at lf (lf - 1)
with-cr s at lf h l e = record {
  from = omega arith;
  to = omega arith;
  bytes =
      let x = take (lf - at) (drop at s) in
      let a : lf - 1 - at ≤ lf - at = omega arith in
      sym (cr-cut x (lf - 1 - at) (sized s at lf h l) (last_byte s at lf h l ∙ e) ∙ take-take (lf - 1 - at) (lf - at) (drop at s) a);
}

pub cr-ends : (s : Bytes) (at lf e : ℕ) → at ≤ lf → lf ≤ length s → e ≡ cr_end s at lf → CrEnds s at lf e
cr-ends s at lf e h l is =
    split lf at
    (λ g.
    let z : at ≡ lf = omega arith in
    let i : e ≡ at = is ∙ end_empty s at lf g ∙ sym z in
    rw (i, ← z) (record { from = omega arith; to = omega arith; bytes = rw (no_bytes s at) (sym cr-nil) }))
    (λ g.
    by_bool (eqb (get_or s (lf - 1) 0) 13)
    (λ b. let c = eqb-true (get_or s (lf - 1) 0) 13 b in rw (is ∙ end-cr s at lf g c) (with-cr s at lf g l c))
    (λ b.
    let c = eqb-false (get_or s (lf - 1) 0) 13 b in
    rw (is ∙ end-plain s at lf g c)
    (record {
      from = h;
      to = omega arith;
      bytes = sym (cr-none (take (lf - at) (drop at s)) (lf - 1 - at) (sized s at lf g l) (λ d. c (sym (last_byte s at lf g l) ∙ d)));
    })))

-- ---- the whole line

module _ (s : Bytes) (at lf : ℕ) (is : lf ≡ at + length (taken not_lf (drop at s))) where
  raw : taken not_lf (drop at s) ≡ take (lf - at) (drop at s)
  raw =
      let n : lf - at ≡ length (taken not_lf (drop at s)) = omega arith in
      rw n (taken-part not_lf (drop at s))

  rest-is : past not_lf (drop at s) ≡ drop lf s
  rest-is = past-part not_lf (drop at s) ∙ drop-drop (length (taken not_lf (drop at s))) at s ∙ ap (λ n. drop n s) (sym is)

  pub lf-from : at ≤ lf
  lf-from = omega arith

  pub lf-within : at < length s → lf ≤ length s
  lf-within h =
      let a : length (taken not_lf (drop at s)) ≤ length s - at = rw length-drop at (taken-within not_lf (drop at s)) in
      omega arith

  -- the line, and the others
  first-raw : at < length s → by_lf (drop at s) ≡ take (lf - at) (drop at s) ∷ by_lf (tail (drop lf s))
  first-raw h =
      let d : drop at s ≡ get_or s at 0 ∷ drop (suc at) s = drop-cons s at 0 h in
      let b : by_lf (drop at s) ≡ taken not_lf (drop at s) ∷ by_lf (tail (past not_lf (drop at s))) = rw d (by-lf (get_or s at 0) (drop (suc at) s)) in
      rw (raw, rest-is) at b

  first-line : at < length s → (next : ℕ) → tail (drop lf s) ≡ drop next s → physical (drop at s) ≡ without_cr (take (lf - at) (drop at s)) ∷ physical (drop next s)
  unfolding physical
  first-line h next e = rw (first-raw h, e)

  -- an LF stands there, whatever follows
  pub lf-there : lf < length s → get_or s lf 0 ≡ 10
  lf-there h =
      let n : length (taken not_lf (drop at s)) < length (drop at s) = simp length-drop (omega arith) in
      ap (λ m. get_or s m 0) is ∙ sym (get_or-drop at s (length (taken not_lf (drop at s))) 0) ∙ stops_at (drop at s) n

  with-lf : lf < length s → take (lf + 1 - at) (drop at s) ≡ taken not_lf (drop at s) ++ (10 ∷ [])
  with-lf h =
      let n : lf + 1 - at ≡ suc (lf - at) = omega arith in
      let l : lf - at < length (drop at s) = simp length-drop (omega arith) in
      let b : get_or (drop at s) (lf - at) 0 ≡ 10 = get_or-drop at s (lf - at) 0 ∙ ap (λ m. get_or s m 0) (let q : at + (lf - at) ≡ lf = omega arith in q) ∙ lf-there h in
      rw (n, take-suc (drop at s) (lf - at) 0 l, b, raw)

  whole-line : lf < length s → (t : Bytes) → physical (take (lf + 1 - at) (drop at s) ++ t) ≡ without_cr (take (lf - at) (drop at s)) ∷ physical t
  unfolding physical
  whole-line h t =
      let a : take (lf + 1 - at) (drop at s) ++ t ≡ taken not_lf (drop at s) ++ 10 ∷ t = ap (λ u. u ++ t) (with-lf h) ∙ append_assoc (taken not_lf (drop at s)) (10 ∷ []) t in
      rw (a, closed-lf (drop at s) t, raw)

-- a line that has its LF, and one that has not
pub line-lf : (s : Bytes) (at lf e : ℕ) → at < length s → lf ≡ at + length (taken not_lf (drop at s)) → lf < length s → CrEnds s at lf e
    → LineAt s at (record { end = e; next = lf + 1 })
line-lf s at lf e h is l c = record {
  from = c.from;
  ordered = omega (arith, c.to);
  onward = omega (arith, lf-from s at lf is);
  within = omega arith;
  lines =
      let t : tail (drop lf s) ≡ drop (lf + 1) s = rw (drop-cons s lf 0 l, add-one) in
      first-line s at lf is h (lf + 1) t ∙ ap (λ u. u ∷ physical (drop (lf + 1) s)) (sym c.bytes);
  whole = λ w t. whole-line s at lf is l t ∙ ap (λ u. u ∷ physical t) (sym c.bytes);
}

pub line-last : (s : Bytes) (at lf e : ℕ) → at < length s → lf ≡ at + length (taken not_lf (drop at s)) → length s ≤ lf → CrEnds s at lf e
    → LineAt s at (record { end = e; next = lf })
line-last s at lf e h is l c = record {
  from = c.from;
  ordered = c.to;
  onward = omega arith;
  within = lf-within s at lf is h;
  lines =
      let t : tail (drop lf s) ≡ drop lf s = rw (drop_of_length-le s l) in
      first-line s at lf is h lf t ∙ ap (λ u. u ∷ physical (drop lf s)) (sym c.bytes);
  whole = λ w t. absurd (omega arith);
}

-- ---- the size

lacks : (s : Bytes) (n : ℕ) → length s ≡ suc n → lacks_lf s ≡ not (eqb (get_or s n 0) 10)
unfolding lacks_lf
lacks [] n l = absurd (omega arith)
lacks (c ∷ []) zero l = by_bool (eqb c 10) (λ e. rw e) (λ e. rw e)
lacks (c ∷ []) (suc n) l = absurd (omega arith)
lacks (c ∷ (d ∷ s)) zero l = absurd (omega arith)
lacks (c ∷ (d ∷ s)) (suc n) l = lacks (d ∷ s) n (omega arith)

pub size-empty : (s : Bytes) → length s ≡ 0 → size_of s ≡ 1
unfolding size_of lacks_lf
size-empty [] h = refl
size-empty (c ∷ s) h = absurd (omega arith)

pub size-lf : (s : Bytes) → (length s ≡ 0 → ⊥) → get_or s (length s - 1) 0 ≡ 10 → size_of s ≡ length s
unfolding size_of
size-lf s n e =
    let l : length s ≡ suc (length s - 1) = omega arith in
    rw (lacks s (length s - 1) l, e) (omega arith)

pub size-without : (s : Bytes) → (length s ≡ 0 → ⊥) → (get_or s (length s - 1) 0 ≡ 10 → ⊥) → size_of s ≡ length s + 1
unfolding size_of
size-without s n e =
    let l : length s ≡ suc (length s - 1) = omega arith in
    rw (lacks s (length s - 1) l, ne_eqb (get_or s (length s - 1) 0) 10 e)
