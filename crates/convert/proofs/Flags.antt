-- Contexts and features: codes as objects of trues, and back.
use mathlib.Core.Path.{◌≡◌, refl, ◌∙◌}
use mathlib.Core.Bool.{Bool, true, false, ◌&&◌, ◌||◌}
use mathlib.Core.List.{List, [], ◌∷◌, ◌++◌, map}
use mathlib.Core.Option.{some}
use Prim.Native.Nat.{ℕ}
use lib.ListN.{get_or, take, drop}
use lib.Dec.{eqb}
use Rattle.text.specs.Bytes.{any, all, same, keep, each}
use Rattle.text.proofs.Cases.{by_keys_p, not-both}
use Rattle.text.proofs.Lists.{all_head, all_tail, any_append, keep-passes}
use Rattle.json_text.specs.Tree.{jtrue, Member, member, object}
use Rattle.json_text.proofs.Listed.{members-listed}
use Rattle.convert.specs.Table.{TypeName, feature-type, type_names, json_type, context_codes, feature_codes, position, in_order}
use Rattle.convert.specs.FromJson.{flag_of, flags_from}
use Rattle.convert.proofs.Orders.{any-keep, codes}

abbrev pub is_context : ℕ → Bool
is_context c = any (eqb c) context_codes

abbrev pub is_feature : ℕ → Bool
is_feature c = any (eqb c) feature_codes

abbrev pub flag_json : ℕ → Member
flag_json c = member (json_type (get_or type_names c (feature-type [] []))) jtrue

context-read : (c : ℕ) → is_context c ≡ true → flag_of 0 (take 2 type_names) (flag_json c) ≡ some c
unfolding any position same
context-read c h =
    by_keys_p (λ c. flag_of 0 (take 2 type_names) (flag_json c) ≡ some c) c context_codes (refl, (refl, tt)) (λ n. not-both h (rw (n.0, n.1.0)))

feature-read : (c : ℕ) → is_feature c ≡ true → flag_of 2 (drop 2 type_names) (flag_json c) ≡ some c
unfolding any position same
feature-read c h =
    by_keys_p (λ c. flag_of 2 (drop 2 type_names) (flag_json c) ≡ some c) c feature_codes (refl, (refl, (refl, (refl, (refl, (refl, (refl, tt)))))))
    (λ n. not-both h (rw (n.0, n.1.0, n.1.1.0, n.1.1.1.0, n.1.1.1.1.0, n.1.1.1.1.1.0, n.1.1.1.1.1.1.0)))

each-flag : (p : ℕ → Bool) (i : ℕ) (ts : List TypeName) → ((c : ℕ) → p c ≡ true → flag_of i ts (flag_json c) ≡ some c) → (cs : List ℕ) → all p cs ≡ true → each (flag_of i ts) (map flag_json cs) ≡ some cs
unfolding each
each-flag p i ts f [] h = refl
each-flag p i ts f (c ∷ cs) h = rw (f c (all_head p c cs h), each-flag p i ts f cs (all_tail p c cs h))

pub contexts-read : (ts : List ℕ) → flags_from 0 (take 2 type_names) (object (map flag_json (keep is_context ts))) ≡ some (keep is_context ts)
unfolding flags_from
contexts-read ts = rw (members-listed (map flag_json (keep is_context ts))) (each-flag is_context 0 (take 2 type_names) context-read (keep is_context ts) (keep-passes is_context ts))

pub features-read : (ts : List ℕ) → flags_from 2 (drop 2 type_names) (object (map flag_json (keep is_feature ts))) ≡ some (keep is_feature ts)
unfolding flags_from
features-read ts = rw (members-listed (map flag_json (keep is_feature ts))) (each-flag is_feature 2 (drop 2 type_names) feature-read (keep is_feature ts) (keep-passes is_feature ts))

-- ---- both kinds together are all codes

keep-on : (r p q : ℕ → Bool) → ((c : ℕ) → r c ≡ true → p c ≡ q c) → (xs : List ℕ) → all r xs ≡ true → keep p xs ≡ keep q xs
unfolding keep
keep-on r p q f [] h = refl
keep-on r p q f (x ∷ xs) h = rw (f x (all_head r x xs h), keep-on r p q f xs (all_tail r x xs h))

either-kind : all (λ c. is_context c || is_feature c) codes ≡ true
unfolding all any
either-kind = refl

both-kinds : (ts : List ℕ) (c : ℕ) → is_context c || is_feature c ≡ true → any (eqb c) (keep is_context ts ++ keep is_feature ts) ≡ any (eqb c) ts
both-kinds ts c h =
    any_append (eqb c) (keep is_context ts) (keep is_feature ts) ∙ rw (any-keep is_context c ts, any-keep is_feature c ts) (by (is_context c) (is_feature c) (any (eqb c) ts) h)
  where
    by : (a b x : Bool) → a || b ≡ true → a && x || b && x ≡ x
    by true true true e = refl
    by true true false e = refl
    by true false true e = refl
    by true false false e = refl
    by false true x e = refl
    by false false true e = e
    by false false false e = refl

pub kinds-order : (ts : List ℕ) → in_order (keep is_context ts ++ keep is_feature ts) ≡ in_order ts
unfolding in_order
kinds-order ts =
    keep-on (λ c. is_context c || is_feature c) (λ c. any (eqb c) (keep is_context ts ++ keep is_feature ts)) (λ c. any (eqb c) ts) (both-kinds ts) codes either-kind
