-- vCardProps: group first, one-value arrays as strings.
use mathlib.Core.Path.{◌≡◌, refl, sym, ap, ap₂, ◌∙◌}
use mathlib.Core.Bool.{true, false, not}
use mathlib.Core.List.{List, [], ◌∷◌, ◌++◌, map, map-append}
use mathlib.Core.Option.{some}
use Rattle.text.specs.Choice.{with-some, chain}
use Rattle.text.specs.Bytes.{Bytes, ascii, any, all, empty, same, among, distinct, keep, each}
use Rattle.text.proofs.Cases.{by_bool, not-both, and_left, and_right, or_left, or_right, not-true}
use Rattle.text.proofs.Choices.{none-some, some_same}
use Rattle.text.proofs.Lists.{all_head, all_tail, keep-none, keep-passes, all-anything}
use Rattle.text.proofs.Same.{same_true, same-swap}
use Rattle.json_text.specs.Tree.{Json, jnull, jtrue, jfalse, jnum, jstr, jarr, jobj, Elems, enil, econs, Member, member, name_of, value_of, field, array, as_string, as_array, as_object, elems_of}
use Rattle.json_text.specs.Strings.{distinct_names}
use Rattle.line.specs.Grammar.{Param, param, param_name}
use Rattle.convert.specs.Model.{Kept}
use Rattle.convert.specs.Value.{filled}
use Rattle.convert.specs.FromJson.{is_lower_word, strings, param_from, is_group, group_from, kept_from_four, kept_from}
use Rattle.convert.specs.ToJson.{where', values_json, param_json, kept_json}
use Rattle.convert.specs.NormalJson.{items_of, unless_gone, one_as_string, param_form, is_group_member, params_form, kept_tree}
use Rattle.home.proofs.Known.{on_provided, on_chain, on_map, on_none, on_each, on_optional}
use Rattle.home.proofs.Images.{AtMostOne, each_same, each_keep, empty-map}
use Rattle.home.proofs.Shapes.{string-inv, gone, items-distinct, field-items, fields-names}

-- ---- one parameter

-- the strings of a list of strings
strings-back : (js : List Json) (vs : List Bytes) → each as_string js ≡ some vs → map jstr vs ≡ js
strings-back [] vs e = on_none as_string e (λ n. rw (← n))
strings-back (j ∷ js) vs e = on_each as_string j js e λ v vs p q r. rw (← r) (ap₂ ◌∷◌ (sym (string-inv j v p)) (strings-back js vs q))

values-back : (es : Elems) (vs : List Bytes) → each as_string (elems_of es) ≡ some vs → not (empty vs) ≡ true → values_json vs ≡ one_as_string (jarr es)
unfolding elems_of
values-back enil vs e n = on_none as_string e λ r. not-both (rw (← r) at n) refl
values-back (econs j enil) vs e n = on_each as_string j [] e λ v ws p q r. on_none as_string q λ s. rw (← r, ← s) (sym (string-inv j v p))
values-back (econs j (econs k es)) vs e n =
    on_each as_string j (k ∷ elems_of es) e λ v ws p q r. on_each as_string k (elems_of es) q λ w us a b c. rw (← r, ← c) (ap array (ap₂ ◌∷◌ (sym (string-inv j v p)) (ap₂ ◌∷◌ (sym (string-inv k w a)) (strings-back (elems_of es) us b))))

string-form : (j : Json) (vs : List Bytes) → strings j ≡ some vs → values_json vs ≡ one_as_string j
string-form jnull vs e = none-some e
string-form jtrue vs e = none-some e
string-form jfalse vs e = none-some e
string-form (jnum x) vs e = none-some e
string-form (jstr s) vs e = rw (← some_same e)
string-form (jarr es) vs e =
    on_chain (each as_string (elems_of es)) _ e λ ws p q. on_provided (not (empty ws)) (some ws) q λ n r. values-back es vs (p ∙ r) (rw (some_same r) at n)
string-form (jobj ms) vs e = none-some e

param-form : (x : Member) (p : Param) → param_from x ≡ some p → (param_name p ≡ name_of x) × (param_json p ≡ param_form x)
param-form (member n j) p e = on_map (λ vs. param n vs) (strings j) e λ vs q r. rw (← r) (refl, ap (member n) (string-form j vs q))

-- ---- the group

module _ {A : Type 0} (f : A → Bytes) (k : Bytes) where
  none_named : (xs : List A) → among k (map f xs) ≡ false → any (λ x. same (f x) k) xs ≡ false
  unfolding among any
  none_named [] h = refl
  none_named (x ∷ xs) h = rw (same-swap (f x) k, or_left (same k (f x)) _ h) (none_named xs (or_right (same k (f x)) _ h))

  -- of distinct names one at most is kept by name
  one-named : (xs : List A) → distinct (map f xs) ≡ true → AtMostOne (keep (λ x. same (f x) k) xs)
  unfolding keep distinct
  one-named [] h = tt
  one-named (x ∷ xs) h =
      by_bool (same (f x) k)
      (λ t. let n : among (f x) (map f xs) ≡ false = not-true _ (and_left (not (among (f x) (map f xs))) _ h) in
      rw (t, keep-none (λ x. same (f x) k) xs (none_named xs (rw (same_true (f x) k t) at n))) tt)
      (λ t. rw t (one-named xs (and_right (not (among (f x) (map f xs))) _ h)))

group-one : (ps : List Param) (g : Bytes) → all is_group ps ≡ true → AtMostOne ps → group_from ps ≡ some g → where' (filled g) (member (ascii "group") (jstr g)) ≡ map param_json ps
group-one [] g a o e = rw (← some_same e)
group-one (param n [] ∷ ps) g a o e = none-some e
group-one (param n (h ∷ []) ∷ []) g a o e =
    on_provided (is_lower_word h) (some h) e λ t r.
    rw (← some_same r, and_left (filled h) _ t, same_true n (ascii "group") (all_head is_group (param n (h ∷ [])) [] a))
group-one (param n (h ∷ []) ∷ (p ∷ ps)) g a o e = absurd o
group-one (param n (h ∷ (i ∷ hs)) ∷ ps) g a o e = none-some e

-- ---- all parameters

module _ (ms : List Member) (ps : List Param) (r : each param_from ms ≡ some ps) where
  pointwise : (x : Member) (p : Param) → true ≡ true → param_from x ≡ some p → (is_group p ≡ is_group_member x) × (param_json p ≡ param_form x)
  pointwise x p t e = let v = param-form x p e in (ap (λ (n : Bytes). same n (ascii "group")) v.0, v.1)

  groups-form : map param_json (keep is_group ps) ≡ map param_form (keep is_group_member ms)
  groups-form = each_keep param_from (λ x. true) param_json param_form is_group is_group_member pointwise ms ps (all-anything ms) r

  others-form : map param_json (keep (λ p. not (is_group p)) ps) ≡ map param_form (keep (λ m. not (is_group_member m)) ms)
  others-form =
      each_keep param_from (λ x. true) param_json param_form (λ p. not (is_group p)) (λ m. not (is_group_member m)) (λ x p t e. let v = pointwise x p t e in (ap not v.0, v.1)) ms ps (all-anything ms) r

  names-form : map param_name ps ≡ map name_of ms
  names-form = each_same param_from (λ x. true) param_name name_of (λ x p t e. (param-form x p e).0) ms ps (all-anything ms) r

  params-form : (g : Bytes) → distinct (map name_of ms) ≡ true → group_from (keep is_group ps) ≡ some g
      → where' (filled g) (member (ascii "group") (jstr g)) ++ map param_json (keep (λ p. not (is_group p)) ps) ≡ params_form ms
  unfolding params_form
  params-form g d e =
      rw (map-append param_form (keep is_group_member ms) (keep (λ m. not (is_group_member m)) ms))
      (ap₂ ◌++◌ (group-one (keep is_group ps) g (keep-passes is_group ps) (one-named param_name (ascii "group") ps (rw (← names-form) at d)) e ∙ groups-form) others-form)

-- ---- a kept line

four-form : (n ps t v : Json) (k : Kept) → distinct_names ps ≡ true → kept_from_four (n ∷ ps ∷ t ∷ v ∷ []) ≡ some k → kept_json k ≡ array (kept_tree (n ∷ ps ∷ t ∷ v ∷ []))
unfolding kept_json
four-form n ps t v k d e =
    on_chain (as_string n) _ e λ name a e1.
    on_chain (chain (as_object ps) (each param_from)) _ e1 λ params b e2.
    on_chain (as_object ps) (each param_from) b λ ms o r.
    on_chain (group_from (keep is_group params)) _ e2 λ group g e3.
    on_chain (as_string t) _ e3 λ type c e4.
    on_chain (as_string v) _ e4 λ value f e5.
    let m : distinct (map name_of ms) ≡ true = rw o at (fields-names ps d) in
    rw (← some_same e5, o, ← params-form ms params r group m g, string-inv n name a, string-inv t type c, string-inv v value f)

items-form : (js : List Json) (k : Kept) → all distinct_names js ≡ true → kept_from_four js ≡ some k → kept_json k ≡ array (kept_tree js)
items-form [] k d e = none-some e
items-form (n ∷ []) k d e = none-some e
items-form (n ∷ (ps ∷ [])) k d e = none-some e
items-form (n ∷ (ps ∷ (t ∷ []))) k d e = none-some e
items-form (n ∷ (ps ∷ (t ∷ (v ∷ [])))) k d e = four-form n ps t v k (all_head distinct_names ps (t ∷ v ∷ []) (all_tail distinct_names n (ps ∷ t ∷ v ∷ []) d)) e
items-form (n ∷ (ps ∷ (t ∷ (v ∷ (w ∷ ws))))) k d e = none-some e

pub kept-form : (j : Json) (k : Kept) → distinct_names j ≡ true → kept_from j ≡ some k → kept_json k ≡ array (kept_tree (items_of j))
unfolding kept_from
kept-form j k d e = on_chain (as_array j) kept_from_four e λ js a f. rw a (items-form js k (rw a at (items-distinct j d)) f)

kept_read : (ms : List Member) (ks : List Kept) → with-some (field (ascii "vCardProps") ms) (λ v. chain (as_array v) (each kept_from)) (some []) ≡ some ks
    → each kept_from (with-some (field (ascii "vCardProps") ms) items_of []) ≡ some ks
unfolding each
kept_read ms ks e =
    on_optional (field (ascii "vCardProps") ms) [] (λ v. chain (as_array v) (each kept_from)) e
    (λ n d. rw (n, ← d))
    (λ j h q. on_chain (as_array j) (each kept_from) q (λ js p r. rw (h, p) r))

pub kept-part : (ms : List Member) (ks : List Kept) → all (λ m. distinct_names (value_of m)) ms ≡ true → with-some (field (ascii "vCardProps") ms) (λ v. chain (as_array v) (each kept_from)) (some []) ≡ some ks
    → where' (not (empty ks)) (member (ascii "vCardProps") (array (map kept_json ks))) ≡ unless_gone (ascii "vCardProps") array (map (λ j. array (kept_tree (items_of j))) (with-some (field (ascii "vCardProps") ms) items_of []))
kept-part ms ks d e =
    gone (ascii "vCardProps") array (map kept_json ks) (not (empty ks)) (ap not (sym (empty-map kept_json ks)))
    ∙ ap (unless_gone (ascii "vCardProps") array)
    (each_same kept_from distinct_names kept_json (λ j. array (kept_tree (items_of j))) kept-form (with-some (field (ascii "vCardProps") ms) items_of []) ks (field-items (ascii "vCardProps") ms d) (kept_read ms ks e))
