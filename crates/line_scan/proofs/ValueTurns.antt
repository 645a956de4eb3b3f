-- Parameter values by place: one value, and one turn of the loop over them.
use mathlib.Core.Path.{◌≡◌, ap, ◌∙◌}
use mathlib.Core.List.{[], ◌∷◌}
use Prim.Native.Nat.{ℕ, ◌+◌, ◌-◌, ◌≤◌, ◌<◌}
use native.Mathlib.Omega.{arith}
use lib.ListN.{length, take, drop}
use borrow.Author.Tests.{eq-eqb, ne_eqb}
use Rattle.text.specs.Bytes.{Bytes, is}
use Rattle.text.specs.Places.{byte_at}
use Rattle.text.specs.Reader.{got, bad, bind, more, last, taken, one, run_of}
use Rattle.text.proofs.Places.{on-yes, on-no}
use Rattle.line.specs.Class.{is_bare, is_quotable}
use Rattle.line.specs.Grammar.{param_value, value_turn}
use Rattle.line.proofs.Shapes.{closing, onward}
use Rattle.line_scan.specs.Places.{Fails, ValueRead}
use Rattle.line_scan.proofs.Reading.{fails-bind, fails-as, run-read, run-from, run-within}

-- ---- one value

module _ (s : Bytes) (at q : ℕ) (looks : q ≡ byte_at s at) where
  module _ (e c : ℕ) (is-end : e ≡ (at + 1) + length (taken is_quotable (drop (at + 1) s))) (looks-end : c ≡ byte_at s e) where
    -- after the opening quote
    opened : q ≡ 34 → param_value (drop at s) ≡ closing (take (e - (at + 1)) (drop (at + 1) s)) (drop e s)
    unfolding param_value
    opened h =
        on-yes (is 34) s at q looks (λ q t. bind (run_of is_quotable t) closing) (run_of is_bare) (eq-eqb q 34 h)
        ∙ ap (λ w. bind w closing) (run-read is_quotable s (at + 1) e is-end)

    pub quoted : q ≡ 34 → c ≡ 34 → at < length s → e < length s → ValueRead s at (at + 1) e (e + 1)
    unfolding one
    quoted h l i j = record {
      is = opened h ∙ ap (λ w. bind w (λ q t. got (take (e - (at + 1)) (drop (at + 1) s)) t)) (on-yes (is 34) s e c looks-end got bad (eq-eqb c 34 l));
      from = omega arith;
      ordered = run-from is_quotable s (at + 1) e is-end;
      before = omega arith;
      within = omega arith;
    }

    pub unclosed : q ≡ 34 → (c ≡ 34 → ⊥) → Fails (param_value (drop at s))
    unfolding one
    unclosed h n =
        fails-as (opened h ∙ ap (λ w. bind w (λ q t. got (take (e - (at + 1)) (drop (at + 1) s)) t)) (on-no (is 34) s e c looks-end got bad (ne_eqb c 34 n))) tt

  pub bare : (e : ℕ) → e ≡ at + length (taken is_bare (drop at s)) → (q ≡ 34 → ⊥) → at ≤ length s → ValueRead s at at e e
  unfolding param_value
  bare e is-end n h = record {
    is = on-no (is 34) s at q looks _ _ (ne_eqb q 34 n) ∙ run-read is_bare s at e is-end;
    from = omega arith;
    ordered = run-from is_bare s at e is-end;
    before = omega arith;
    within = run-within is_bare s at e is-end h;
  }

-- ---- one turn

module _ (s : Bytes) (i a b n c : ℕ) (v : ValueRead s i a b n) (looks : c ≡ byte_at s n) where
  abbrev value : Bytes
  value = take (b - a) (drop a s)

  pub at-comma : c ≡ 44 → value_turn (drop i s) ≡ got (more (λ vs. value ∷ vs)) (drop (n + 1) s)
  unfolding value_turn
  at-comma h =
      ap (λ w. bind w onward) v.is
      ∙ on-yes (is 44) s n c looks (λ c t. got (more (λ vs. value ∷ vs)) t) (got (last (value ∷ []))) (eq-eqb c 44 h)

  pub at_other : (c ≡ 44 → ⊥) → value_turn (drop i s) ≡ got (last (value ∷ [])) (drop n s)
  unfolding value_turn
  at_other h =
      ap (λ w. bind w onward) v.is
      ∙ on-no (is 44) s n c looks (λ c t. got (more (λ vs. value ∷ vs)) t) (got (last (value ∷ []))) (ne_eqb c 44 h)

pub no_value : (s : Bytes) (i : ℕ) → Fails (param_value (drop i s)) → Fails (value_turn (drop i s))
unfolding value_turn
no_value s i h = fails-bind (param_value (drop i s)) onward h
