-- The order of TYPE: putting codes in order again changes nothing.
use mathlib.Core.Path.{◌≡◌, refl, ◌∙◌}
use mathlib.Core.Bool.{Bool, true, ◌&&◌}
use mathlib.Core.List.{List, [], ◌∷◌, ◌++◌}
use Prim.Native.Nat.{ℕ}
use lib.Dec.{eqb}
use borrow.Author.Tests.{eqb-true, eq-eqb}
use Rattle.text.specs.Bytes.{any, all, keep}
use Rattle.text.proofs.Cases.{by_bool}
use Rattle.text.proofs.Lists.{all_head, all_tail, keep_same}
use Rattle.convert.specs.Table.{context_codes, feature_codes, in_order}

-- ---- codes

-- a code is kept exactly where it is there and passes
pub any-keep : (p : ℕ → Bool) (c : ℕ) (xs : List ℕ) → any (eqb c) (keep p xs) ≡ p c && any (eqb c) xs
unfolding any keep
any-keep p c [] = by_bool (p c) (λ e. rw e) (λ e. rw e)
any-keep p c (x ∷ xs) =
    by_bool (eqb c x)
    (λ q. by_bool (p c)
    (λ e. rw (← eqb-true c x q, e, eq-eqb c c refl))
    (λ e. rw (← eqb-true c x q, e, any-keep p c xs, e)))
    (λ q. by_bool (p x) (λ e. rw (e, q, any-keep p c xs)) (λ e. rw (e, q, any-keep p c xs)))

keep-both : (p q : ℕ → Bool) (xs : List ℕ) → all q xs ≡ true → keep (λ c. p c && q c) xs ≡ keep p xs
unfolding keep
keep-both p q [] h = refl
keep-both p q (x ∷ xs) h =
    by_bool (p x) (λ e. rw (e, all_head q x xs h, keep-both p q xs (all_tail q x xs h))) (λ e. rw (e, keep-both p q xs (all_tail q x xs h)))

abbrev pub codes : List ℕ
codes = context_codes ++ feature_codes

in_table : all (λ c. any (eqb c) codes) codes ≡ true
unfolding all any
in_table = refl

pub in_order-again : (cs : List ℕ) → in_order (in_order cs) ≡ in_order cs
unfolding in_order
in_order-again cs =
    keep_same _ _ (λ c. any-keep (λ c. any (eqb c) cs) c codes) codes ∙ keep-both (λ c. any (eqb c) cs) (λ c. any (eqb c) codes) codes in_table
