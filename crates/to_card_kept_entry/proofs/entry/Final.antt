-- The whole line, when its head is stored.
use mathlib.Core.Path.{◌≡◌, refl, ◌∙◌}
use mathlib.Core.Bool.{Bool, true, false, not}
use mathlib.Core.List.{List, [], ◌∷◌, ◌++◌}
use Prim.Native.Nat.{ℕ, zero, suc, ◌≤◌}
use native.Mathlib.Omega.{arith}
use lib.ListN.{length, get_or, set, length-set}
use lib.Seq.{get_or-set_other}
use Rattle.text.specs.Choice.{pick}
use Rattle.text.specs.Bytes.{Bytes, all, empty}
use Rattle.text.proofs.Lists.{all_append, all_head, all_tail, all_cons}
use Rattle.line.specs.Grammar.{Param, param, param_name, param_values}
use Rattle.line_table.specs.Spread.{valued}
use Rattle.line_table.specs.Table.{base, name_at, value_at}
use Rattle.line_table.proofs.Rows.{Agree}
use Rattle.to_card_kept_entry.specs.strings.Strings.{follows_by, add_to, runs_in}
use Rattle.to_card_kept_entry.specs.entry.Entry.{headed_at}

module _ (t : List ℕ) (from to end value stop n : ℕ) where
  pub headed-agree : (m : ℕ) → Agree m t (headed_at t from to end value stop n)
  unfolding headed_at
  headed-agree m k l h =
      get_or-set_other (set (set (set (set (set (set t 0 from) 1 to) 2 0) 3 end) 4 value) 5 stop) 6 k n 0 (λ e. omega arith)
      ∙ get_or-set_other (set (set (set (set (set t 0 from) 1 to) 2 0) 3 end) 4 value) 5 k stop 0 (λ e. omega arith)
      ∙ get_or-set_other (set (set (set (set t 0 from) 1 to) 2 0) 3 end) 4 k value 0 (λ e. omega arith)
      ∙ get_or-set_other (set (set (set t 0 from) 1 to) 2 0) 3 k end 0 (λ e. omega arith)
      ∙ get_or-set_other (set (set t 0 from) 1 to) 2 k 0 0 (λ e. omega arith)
      ∙ get_or-set_other (set t 0 from) 1 k to 0 (λ e. omega arith)
      ∙ get_or-set_other t 0 k from 0 (λ e. omega arith)

  pub headed-length : length (headed_at t from to end value stop n) ≡ length t
  unfolding headed_at
  headed-length = simp length-set

pub record HeadAt (t : List ℕ) (from to end value stop n : ℕ) : Type 0 where
  pub at-0 : get_or t 0 0 ≡ from
  pub at_1 : get_or t 1 0 ≡ to
  pub at-2 : get_or t 2 0 ≡ 0
  pub at-3 : get_or t 3 0 ≡ end
  pub at-4 : get_or t 4 0 ≡ value
  pub at_5 : get_or t 5 0 ≡ stop
  pub at-6 : get_or t 6 0 ≡ n

pub headed-is : (t : List ℕ) (from to end value stop n : ℕ) → 264 ≤ length t → HeadAt (headed_at t from to end value stop n) from to end value stop n
unfolding headed_at
headed-is [] g o a v z n l = absurd (omega arith)
headed-is (x ∷ []) g o a v z n l = absurd (omega arith)
headed-is (x ∷ (x₁ ∷ [])) g o a v z n l = absurd (omega arith)
headed-is (x ∷ (x₁ ∷ (x₂ ∷ []))) g o a v z n l = absurd (omega arith)
headed-is (x ∷ (x₁ ∷ (x₂ ∷ (x₃ ∷ [])))) g o a v z n l = absurd (omega arith)
headed-is (x ∷ (x₁ ∷ (x₂ ∷ (x₃ ∷ (x₄ ∷ []))))) g o a v z n l = absurd (omega arith)
headed-is (x ∷ (x₁ ∷ (x₂ ∷ (x₃ ∷ (x₄ ∷ (x₅ ∷ [])))))) g o a v z n l = absurd (omega arith)
headed-is (x ∷ (x₁ ∷ (x₂ ∷ (x₃ ∷ (x₄ ∷ (x₅ ∷ (x₆ ∷ t))))))) g o a v z n l = record { at-0 = refl; at_1 = refl; at-2 = refl; at-3 = refl; at-4 = refl; at_5 = refl; at-6 = refl }

-- ---- every parameter that rows are put to has a value

valued-add : (ps : List Param) (v : Bytes) → valued ps ≡ true → valued (add_to ps v) ≡ true
unfolding valued add_to all
valued-add [] v h = h
valued-add (p ∷ []) v h = some-there (param_values p) v
  where
    some-there : (vs : List Bytes) (v : Bytes) → all (λ p. not (empty (param_values p))) (param (param_name p) (vs ++ (v ∷ [])) ∷ []) ≡ true
    some-there [] v = refl
    some-there (w ∷ vs) v = refl
valued-add (p ∷ (q ∷ ps)) v h =
    all_cons (λ p. not (empty (param_values p))) p (add_to (q ∷ ps) v) (all_head (λ p. not (empty (param_values p))) p (q ∷ ps) h) (valued-add (q ∷ ps) v (all_tail (λ p. not (empty (param_values p))) p (q ∷ ps) h))

valued-more : (ps : List Param) (n v : Bytes) → valued ps ≡ true → valued (ps ++ (param n (v ∷ []) ∷ [])) ≡ true
unfolding valued all
valued-more ps n v h = all_append (λ p. not (empty (param_values p))) ps (param n (v ∷ []) ∷ []) ∙ rw h

pub runs-valued : (p : Bytes) (t : List ℕ) (m : ℕ) → valued (runs_in p t m) ≡ true
unfolding runs_in valued all
runs-valued p t zero = refl
runs-valued p t (suc m) = by (follows_by t m (get_or t (base m) 0)) (runs-valued p t m)
  where
    by : (b : Bool) → valued (runs_in p t m) ≡ true → valued (pick b (add_to (runs_in p t m) (value_at p t m)) (runs_in p t m ++ (param (name_at p t m) (value_at p t m ∷ []) ∷ []))) ≡ true
    by true h = valued-add (runs_in p t m) (value_at p t m) h
    by false h = valued-more (runs_in p t m) (name_at p t m) (value_at p t m) h
