-- The values of TYPE and their JSON names are the pairs that StandsFor writes out.
use mathlib.Core.Path.{◌≡◌, refl, sym, ap, ◌∙◌}
use mathlib.Core.Bool.{Bool, true, false, not}
use mathlib.Core.List.{List, [], ◌∷◌, map}
use mathlib.Core.Option.{some}
use Prim.Native.Nat.{ℕ}
use lib.ListN.{get_or}
use lib.Dec.{eqb, ltb}
use Rattle.text.specs.Choice.{pick}
use Rattle.text.specs.Bytes.{Bytes, ascii, empty, any, all, same, among, lowered, parts, flat, keep, each}
use Rattle.text.proofs.Cases.{by_below, tests, not-both}
use Rattle.text.proofs.Lists.{keep-swap, keep-none, all_none, all_head}
use Rattle.json_text.specs.Tree.{jtrue, Member, member, object}
use Rattle.line.specs.Grammar.{Line}
use Rattle.line.specs.Params.{values_named, besides_value}
use Rattle.convert.specs.Table.{feature-type, type_names, json_type, context_codes, feature_codes, in_order}
use Rattle.convert.specs.Classify.{types_from}
use Rattle.convert.specs.ToJson.{where', flags_json}
use Rattle.convert.proofs.Types.{type_text, code_of}
use Rattle.convert.proofs.Orders.{codes}
use Rattle.home.specs.Allowed.{types_of}
use Rattle.home.specs.StandsFor.{where_any, contexts, features}
use Rattle.home.proofs.Known.{on_map}
use Rattle.home.proofs.Images.{keep-agree}
use Rattle.home.proofs.LineEntries.{types-inv}
use Rattle.home.proofs.NormalCardTypes.{given-codes, all_codes}
use Rattle.home.proofs.NormalCardRest.{values-besides}

-- a code's flag
abbrev flag : ℕ → Member
flag c = member (json_type (get_or type_names c (feature-type [] []))) jtrue

map-pick : {A B : Type 0} (f : A → B) (b : Bool) (x : A) (xs : List A) (ys : List B) → map f xs ≡ ys → map f (pick b (x ∷ xs) xs) ≡ pick b (f x ∷ ys) ys
map-pick f true x xs ys e = ap (λ (l : List _). f x ∷ l) e
map-pick f false x xs ys e = e

pub where-any : {A : Type 0} (n : Bytes) (f : A → Member) (cs : List A) → where' (not (empty cs)) (member n (object (map f cs))) ≡ where_any n (map f cs)
where-any n f [] = refl
where-any n f (c ∷ cs) = refl

abbrev given : Line → ℕ → Bool
given l c = among (type_text c) (types_of l)

-- the codes that a line gives, in the table's order
codes-given : (n : ℕ) (l : Line) (ts : List ℕ) → types_from n (values_named (ascii "type") (besides_value l.params)) ≡ some ts → ts ≡ keep (given l) codes
unfolding types_from in_order same
codes-given n l ts e =
    let vs : List Bytes = values_named (ascii "type") (besides_value l.params) in
    let i : vs ≡ values_named (ascii "type") l.params = values-besides (ascii "type") l.params refl in
    on_map in_order (each (code_of n) (flat (map (parts 44) vs))) e λ cs p q.
    sym q
    ∙ keep-agree (λ c. ltb c 9) (λ c. any (eqb c) cs) (λ c. among (type_text c) (map lowered (flat (map (parts 44) vs)))) (λ c h. given-codes n c h (flat (map (parts 44) vs)) cs p) codes all_codes
    ∙ ap (λ (us : List Bytes). keep (λ c. among (type_text c) (map lowered (flat (map (parts 44) us)))) codes) i

flags_of : (n : Bytes) (kind : List ℕ) (g : ℕ → Bool) → flags_json n kind (keep g codes) ≡ where_any n (map flag (keep g (keep (λ c. any (eqb c) kind) codes)))
unfolding flags_json
flags_of n kind g =
    where-any n flag (keep (λ c. any (eqb c) kind) (keep g codes)) ∙ ap (λ (cs : List ℕ). where_any n (map flag cs)) (keep-swap (λ c. any (eqb c) kind) g codes)

context-words : (l : Line) → where_any (ascii "contexts") (map flag (keep (given l) (keep (λ c. any (eqb c) context_codes) codes))) ≡ contexts l
unfolding contexts keep any
context-words l = ap (where_any (ascii "contexts")) (map-pick flag (given l 0) 0 _ _ (map-pick flag (given l 1) 1 [] [] refl))

feature-words : (l : Line) → where_any (ascii "features") (map flag (keep (given l) (keep (λ c. any (eqb c) feature_codes) codes))) ≡ features l
unfolding features keep any
feature-words l =
    ap (where_any (ascii "features"))
    (map-pick flag (given l 2) 2 _ _ (map-pick flag (given l 3) 3 _ _ (map-pick flag (given l 4) 4 _ _ (map-pick flag (given l 5) 5 _ _
    (map-pick flag (given l 6) 6 _ _ (map-pick flag (given l 7) 7 _ _ (map-pick flag (given l 8) 8 [] [] refl)))))))

module _ (n : ℕ) (l : Line) (ts : List ℕ) (e : types_from n (values_named (ascii "type") (besides_value l.params)) ≡ some ts) where
  pub contexts-paired : flags_json (ascii "contexts") context_codes ts ≡ contexts l
  contexts-paired = ap (flags_json (ascii "contexts") context_codes) (codes-given n l ts e) ∙ flags_of (ascii "contexts") context_codes (given l) ∙ context-words l

  pub features-paired : flags_json (ascii "features") feature_codes ts ≡ features l
  features-paired = ap (flags_json (ascii "features") feature_codes) (codes-given n l ts e) ∙ flags_of (ascii "features") feature_codes (given l) ∙ feature-words l

no-flags : (n : Bytes) (kind ts : List ℕ) → any (λ c. any (eqb c) kind) ts ≡ false → flags_json n kind ts ≡ []
unfolding flags_json
no-flags n kind ts h = rw (keep-none (λ c. any (eqb c) kind) ts h)

-- a map that takes contexts alone has no feature, and one that takes no TYPE neither
no-feature : (c : ℕ) → ltb c 2 ≡ true → any (eqb c) feature_codes ≡ false
unfolding any
no-feature c h = by_below (λ c. any (eqb c) feature_codes) (λ c. false) c 2 refl (λ n. not-both h n)

pub features-none : (vs : List Bytes) (ts : List ℕ) → types_from 2 vs ≡ some ts → flags_json (ascii "features") feature_codes ts ≡ []
features-none vs ts e = no-flags (ascii "features") feature_codes ts (all_none (λ c. ltb c 2) (λ c. any (eqb c) feature_codes) no-feature ts (types-inv 2 vs ts e).0)

none_below : (ts : List ℕ) → all (λ c. ltb c 0) ts ≡ true → ts ≡ []
none_below [] h = refl
none_below (c ∷ ts) h = let l : ltb c 0 ≡ true = all_head (λ c. ltb c 0) c ts h in absurd (omega tests)

pub no-types : (vs : List Bytes) (ts : List ℕ) → types_from 0 vs ≡ some ts → ts ≡ []
no-types vs ts e = none_below ts (types-inv 0 vs ts e).0
