-- Words and parameters by place, and one turn of the loop over parameters.
use mathlib.Core.Path.{◌≡◌, refl, ap, ◌∙◌}
use mathlib.Core.Bool.{true, false}
use mathlib.Core.List.{List, [], ◌∷◌}
use Prim.Native.Nat.{ℕ, suc, ◌+◌, ◌-◌, ◌<◌}
use native.Mathlib.Omega.{arith}
use lib.Dec.{eqb}
use lib.ListN.{length, take, drop}
use borrow.Author.Tests.{eq-eqb, ne_eqb}
use Rattle.text.specs.Bytes.{Bytes, is}
use Rattle.text.specs.Places.{byte_at}
use Rattle.text.specs.Reader.{Got, got, bad, bind, first, on, when, Step, last, taken, one, some_of}
use Rattle.text.proofs.Places.{on-yes, on-no}
use Rattle.line.specs.Class.{is_name}
use Rattle.line.specs.Grammar.{Param as Param', word, parameter, param_turn}
use Rattle.text.proofs.Cases.{by_bool}
use Rattle.line.proofs.Opened.{line-opened}
use Rattle.line.proofs.Shapes.{valued, named, added}
use Rattle.line_scan.specs.Places.{Fails}
use Rattle.line_scan.proofs.Reading.{fails-bind, fails-as, run-taken, run_past}

-- ---- a word

name-256 : is_name 256 ≡ false
unfolding line-opened
name-256 = refl

begins : (t : Bytes) → 0 < length (taken is_name t) → is_name (first t) ≡ true
unfolding taken
begins [] h = absurd (omega arith)
begins (c ∷ t) h = by_bool (is_name c) (λ e. e) (λ e. absurd (let l : 0 < 0 = rw e at h in omega arith))

begins-not : (t : Bytes) → length (taken is_name t) ≡ 0 → is_name (first t) ≡ false
unfolding taken
begins-not [] h = name-256
begins-not (c ∷ t) h = by_bool (is_name c) (λ e. absurd (let l : suc (length (taken is_name t)) ≡ 0 = rw e at h in omega arith)) (λ e. e)

module _ (s : Bytes) (at e : ℕ) (is-end : e ≡ at + length (taken is_name (drop at s))) where
  pub word_read : (e ≡ at → ⊥) → word (drop at s) ≡ got (take (e - at) (drop at s)) (drop e s)
  unfolding word some_of when
  word_read n =
      let l : 0 < length (taken is_name (drop at s)) = omega arith in
      rw (begins (drop at s) l, run-taken is_name s at e is-end, run_past is_name s at e is-end)

  pub word_none : e ≡ at → Fails (word (drop at s))
  unfolding word some_of when
  word_none n =
      let l : length (taken is_name (drop at s)) ≡ 0 = omega arith in
      rw (begins-not (drop at s) l) tt

-- ---- a parameter

pub no_name : (s : Bytes) (at : ℕ) → Fails (word (drop at s)) → Fails (parameter (drop at s))
unfolding parameter
no_name s at h = fails-bind (word (drop at s)) named h

module _ (s : Bytes) (at e c : ℕ) (is-end : e ≡ at + length (taken is_name (drop at s))) (some : e ≡ at → ⊥) (looks : c ≡ byte_at s e) where
  abbrev name : Bytes
  name = take (e - at) (drop at s)

  at_name : parameter (drop at s) ≡ named name (drop e s)
  unfolding parameter
  at_name = ap (λ w. bind w named) (word_read s at e is-end some)

  pub no-equals : (c ≡ 61 → ⊥) → Fails (parameter (drop at s))
  unfolding one
  no-equals n = fails-as (at_name ∙ ap (λ w. bind w (λ e t. valued name t)) (on-no (is 61) s e c looks got bad (ne_eqb c 61 n))) tt

  pub at-equals : c ≡ 61 → parameter (drop at s) ≡ valued name (drop (e + 1) s)
  unfolding one
  at-equals h = at_name ∙ ap (λ w. bind w (λ e t. valued name t)) (on-yes (is 61) s e c looks got bad (eq-eqb c 61 h))

-- ---- one turn

abbrev ended : ℕ → Bytes → Got (Step (List Param'))
ended c t = got (last []) t

abbrev another : ℕ → Bytes → Got (Step (List Param'))
another c t = bind (parameter t) added

module _ (s : Bytes) (i b : ℕ) (looks : b ≡ byte_at s i) where
  pub at-colon : b ≡ 58 → param_turn (drop i s) ≡ got (last []) (drop (i + 1) s)
  unfolding param_turn
  at-colon h = on-yes (is 58) s i b looks ended (on (is 59) another bad) (eq-eqb b 58 h)

  pub at-semicolon : b ≡ 59 → param_turn (drop i s) ≡ another b (drop (i + 1) s)
  unfolding param_turn
  at-semicolon h =
      let n : eqb b 58 ≡ false = rw h in
      on-no (is 58) s i b looks ended (on (is 59) another bad) n ∙ on-yes (is 59) s i b looks another bad (eq-eqb b 59 h)

  pub at-neither : (b ≡ 58 → ⊥) → (b ≡ 59 → ⊥) → param_turn (drop i s) ≡ bad (drop i s)
  unfolding param_turn
  at-neither n m =
      on-no (is 58) s i b looks ended (on (is 59) another bad) (ne_eqb b 58 n) ∙ on-no (is 59) s i b looks another bad (ne_eqb b 59 m)
