-- Whole lines by place.
use mathlib.Core.Path.{◌≡◌, refl, sym, ap, ◌∙◌}
use mathlib.Core.Bool.{Bool, true, false, ◌||◌}
use mathlib.Core.List.{[]}
use mathlib.Core.Option.{none}
use Prim.Native.Nat.{ℕ, ◌+◌, ◌-◌}
use native.Mathlib.Omega.{arith}
use lib.ListN.{length, take, drop}
use borrow.Author.Tests.{eq-eqb, ne_eqb}
use Rattle.text.specs.Bytes.{Bytes, ascii, is, any, same, lowered, among}
use Rattle.text.specs.Places.{byte_at}
use Rattle.text.specs.Reader.{Got, got, bad, bind, taken}
use Rattle.text.proofs.Places.{on-yes, on-no}
use Rattle.line.specs.Class.{is_name}
use Rattle.line.specs.Grammar.{Line, word, after_name, line_reader, is_frame_name, of_got, read_line}
use Rattle.line.proofs.Shapes.{grouped, begun}
use Rattle.line_scan.specs.Places.{Fails}
use Rattle.line_scan.proofs.Reading.{fails-bind}
use Rattle.line_scan.proofs.ParamTurns.{word_read, word_none}

-- ---- BEGIN and END

pub frame-begin : (n : Bytes) → same (lowered n) (ascii "begin") ≡ true → is_frame_name n ≡ true
unfolding is_frame_name among any
frame-begin n e = rw e

or-false : (b : Bool) → (b || false) ≡ b
or-false true = refl
or-false false = refl

pub frame-end : (n : Bytes) → same (lowered n) (ascii "begin") ≡ false → is_frame_name n ≡ same (lowered n) (ascii "end")
unfolding is_frame_name among any
frame-end n e = rw e (or-false (same (lowered n) (ascii "end")))

-- ---- what was read of a line, or was not

of-bad : (x : Got Line) → Fails x → of_got x ≡ none
of-bad (got l t) h = absurd h
of-bad (bad t) h = refl

-- ---- from the front

module _ (s : Bytes) (e : ℕ) (is-end : e ≡ 0 + length (taken is_name (drop 0 s))) where
  pub no_word : e ≡ 0 → read_line s ≡ none
  unfolding read_line line_reader
  no_word h = of-bad (bind (word s) begun) (fails-bind (word s) begun (word_none s 0 e is-end h))

  module _ (c : ℕ) (some_word : e ≡ 0 → ⊥) (looks : c ≡ byte_at s e) where
    first_word : line_reader s ≡ begun (take e s) (drop e s)
    unfolding line_reader
    first_word =
        let z : e - 0 ≡ e = omega arith in
        ap (λ w. bind w begun) (word_read s 0 e is-end some_word) ∙ ap (λ n. begun (take n s) (drop e s)) z

    -- the line is read from after this word on
    pub ungrouped : (c ≡ 46 → ⊥) → read_line s ≡ of_got (after_name (take 0 s) (take (e - 0) (drop 0 s)) (drop e s))
    unfolding read_line
    ungrouped n =
        let z : e - 0 ≡ e = omega arith in
        ap of_got
        (first_word
        ∙ on-no (is 46) s e c looks (λ c t. grouped (take e s) t) (after_name [] (take e s)) (ne_eqb c 46 n)
        ∙ ap (λ m. after_name [] (take m s) (drop e s)) (sym z))

    module _ (b : ℕ) (is-end₂ : b ≡ (e + 1) + length (taken is_name (drop (e + 1) s))) (dot : c ≡ 46) where
      after-dot : line_reader s ≡ grouped (take e s) (drop (e + 1) s)
      after-dot = first_word ∙ on-yes (is 46) s e c looks (λ c t. grouped (take e s) t) (after_name [] (take e s)) (eq-eqb c 46 dot)

      pub no_name : b ≡ e + 1 → read_line s ≡ none
      unfolding read_line
      no_name h = ap of_got after-dot ∙ of-bad (grouped (take e s) (drop (e + 1) s)) (fails-bind (word (drop (e + 1) s)) (λ n t. after_name (take e s) n t) (word_none s (e + 1) b is-end₂ h))

      -- the line is read from after the name on
      pub after-group : (b ≡ e + 1 → ⊥) → read_line s ≡ of_got (after_name (take e s) (take (b - (e + 1)) (drop (e + 1) s)) (drop b s))
      unfolding read_line
      after-group n = ap of_got (after-dot ∙ ap (λ w. bind w (λ n t. after_name (take e s) n t)) (word_read s (e + 1) b is-end₂ n))
