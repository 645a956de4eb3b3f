-- The frame, line by line: what is true from the next line on is true from this one.
use mathlib.Core.Path.{◌≡◌, refl, sym, ap, ◌∙◌}
use mathlib.Core.Bool.{Bool, true, false, ◌||◌}
use mathlib.Core.List.{List, [], ◌∷◌, ◌++◌, map}
use mathlib.Core.Option.{none, some}
use Rattle.std.specs.Prelude.{Option, Some, None}
use Prim.Native.Nat.{ℕ, suc, ◌+◌, ◌-◌, ◌≤◌, ◌<◌}
use native.Mathlib.Omega.{arith}
use lib.ListN.{length, take, drop, get_or, drop_of_length-le}
use lib.Seq.{take-add, drop-drop, drop-cons}
use Rattle.text.specs.Choice.{both}
use Rattle.text.specs.Bytes.{Bytes}
use Rattle.line.specs.Physical.{by_lf, without_cr, physical, is_begin, is_end, up_to_end, framed}
use Rattle.text.proofs.Cases.{split}
use Rattle.line_frame.specs.declared.Line.{Line}
use Rattle.line_frame.specs.Lines.{LineAt}
use Rattle.line_frame.specs.Frame.{Ends, Framed}
use Rattle.line_frame.proofs.Physical.{by-lf}

-- ---- of lists of lines

up-last : (l : Bytes) → is_end l ≡ true → up_to_end (l ∷ []) ≡ some []
unfolding up_to_end
up-last l e = rw e

up-last-other : (l : Bytes) → is_end l ≡ false → up_to_end (l ∷ []) ≡ none
unfolding up_to_end
up-last-other l e = rw e

up_none : up_to_end [] ≡ none
unfolding up_to_end
up_none = refl

up-such : (l m : Bytes) (ls : List Bytes) → (is_begin l || is_end l) ≡ true → up_to_end (l ∷ m ∷ ls) ≡ none
unfolding up_to_end
up-such l m ls e = rw e

up-other : (l m : Bytes) (ls : List Bytes) → is_begin l ≡ false → is_end l ≡ false → up_to_end (l ∷ m ∷ ls) ≡ both ◌∷◌ (some l) (up_to_end (m ∷ ls))
unfolding up_to_end
up-other l m ls b e = rw (b, e)

or-true : (b : Bool) → (b || true) ≡ true
or-true true = refl
or-true false = refl

none-lines : physical [] ≡ []
unfolding physical by_lf
none-lines = refl

no_lines : (s : Bytes) (at : ℕ) → length s ≤ at → physical (drop at s) ≡ []
no_lines s at h = rw (drop_of_length-le s h) none-lines

-- ---- at a line

pub ends-out : (s : Bytes) (i : ℕ) → length s ≤ i → Ends s i None
ends-out s i h = rw (no_lines s i h) up_none

-- another line begins where there are bytes
more-lines : (s : Bytes) (at : ℕ) → at < length s → (m : Bytes) × (ls : List Bytes) × (physical (drop at s) ≡ m ∷ ls)
unfolding physical
more-lines s at h = (_, _, ap (map without_cr) (ap by_lf (drop-cons s at 0 h) ∙ by-lf (get_or s at 0) (drop (suc at) s)))

module _ (s : Bytes) (i : ℕ) (r : Line) (at-line : LineAt s i r) where
  abbrev line : Bytes
  line = take (r.end - i) (drop i s)

  -- the last line, or one before another
  alone : length s ≤ r.next → physical (drop i s) ≡ line ∷ []
  alone h = at-line.lines ∙ ap (λ u. line ∷ u) (no_lines s r.next h)

  pub ends-here : is_end line ≡ true → length s ≤ r.next → Ends s i (Some i)
  ends-here e h =
      let z : i - i ≡ 0 = omega arith in
      (omega arith, omega (arith, at-line.onward, at-line.within), rw (alone h, up-last line e, z) (ap some (sym none-lines)))

  such : (is_begin line || is_end line) ≡ true → r.next < length s → Ends s i None
  such e h =
      let m = more-lines s r.next h in
      ap up_to_end (at-line.lines ∙ ap (λ u. line ∷ u) m.2) ∙ up-such line m.0 m.1 e

  pub ends-early : is_end line ≡ true → r.next < length s → Ends s i None
  ends-early e h = such (rw e (or-true (is_begin line))) h

  pub begins-again : is_end line ≡ false → is_begin line ≡ true → Ends s i None
  begins-again e b =
      split (length s) r.next
      (λ h. ap up_to_end (alone h) ∙ up-last-other line e)
      (λ h. such (rw b) h)

  -- the bytes up to END are this line and those after it
  further : (b : ℕ) → r.next < length s → r.next ≤ b → physical (take (b - i) (drop i s)) ≡ line ∷ physical (take (b - r.next) (drop r.next s))
  further b h l =
      let n : b - i ≡ (r.next - i) + (b - r.next) = omega (arith, at-line.onward) in
      let m : i + (r.next - i) ≡ r.next = omega (arith, at-line.onward) in
      let t : take (b - i) (drop i s) ≡ take (r.next - i) (drop i s) ++ take (b - r.next) (drop r.next s) =
      rw n (take-add (r.next - i) (b - r.next) (drop i s) ∙ ap (λ u. take (r.next - i) (drop i s) ++ take (b - r.next) u) (drop-drop (r.next - i) i s ∙ ap (λ k. drop k s) m))
      in
      ap physical t ∙ at-line.whole h (take (b - r.next) (drop r.next s))

  next_up : is_begin line ≡ false → is_end line ≡ false → r.next < length s → up_to_end (physical (drop i s)) ≡ both ◌∷◌ (some line) (up_to_end (physical (drop r.next s)))
  next_up b e h =
      let m = more-lines s r.next h in
      ap up_to_end (at-line.lines ∙ ap (λ u. line ∷ u) m.2) ∙ up-other line m.0 m.1 b e ∙ ap (λ u. both ◌∷◌ (some line) (up_to_end u)) (sym m.2)

  last_up : is_end line ≡ false → length s ≤ r.next → up_to_end (physical (drop i s)) ≡ none
  last_up e h = ap up_to_end (alone h) ∙ up-last-other line e

  pub ends_on : (f : Option ℕ) → is_end line ≡ false → is_begin line ≡ false → Ends s r.next f → Ends s i f
  ends_on (Some b) e n p =
      split (length s) r.next
      (λ h. absurd (let w : some (physical (take (b - r.next) (drop r.next s))) ≡ none = sym p.2 ∙ ap up_to_end (no_lines s r.next h) ∙ up_none in let z : ◌≡◌ {A = ℕ} 0 1 = cc in omega arith))
      (λ h. (
        omega (arith, at-line.onward, p.0),
        p.1,
        next_up n e h ∙ ap (both ◌∷◌ (some line)) p.2 ∙ ap some (sym (further b h p.0)),
      ))
  ends_on None e n p = split (length s) r.next (λ h. last_up e h) (λ h. next_up n e h ∙ ap (both ◌∷◌ (some line)) p)

-- ---- the first line

pub no-card : (s : Bytes) → length s ≡ 0 → Framed s None
unfolding framed
no-card s h = rw (no_lines s 0 (omega arith))

module _ (s : Bytes) (r : Line) (at-line : LineAt s 0 r) where
  pub not-begun : is_begin (take (r.end - 0) (drop 0 s)) ≡ false → Framed s None
  unfolding framed
  not-begun e = rw (at-line.lines, e)

  begun : is_begin (take (r.end - 0) (drop 0 s)) ≡ true → framed (physical s) ≡ up_to_end (physical (drop r.next s))
  unfolding framed
  begun e = rw (at-line.lines, e)

  pub not-ended : is_begin (take (r.end - 0) (drop 0 s)) ≡ true → Ends s r.next None → Framed s None
  not-ended e p = begun e ∙ p

  pub one-card : (b : ℕ) → is_begin (take (r.end - 0) (drop 0 s)) ≡ true → Ends s r.next (Some b) → Framed s (Some (record { start = r.next; end = b }))
  one-card b e p = (p.0, p.1, begun e ∙ p.2)
