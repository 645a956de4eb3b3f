-- An entry of vCardProps is read, and stands in its place, exactly where `CardJson` takes it.
use mathlib.Core.Path.{◌≡◌, refl, sym, ap, ap₂, ◌∙◌}
use mathlib.Core.Bool.{Bool, true, false, ◌&&◌, not}
use mathlib.Core.List.{List, [], ◌∷◌, map}
use mathlib.Core.Option
use mathlib.Core.Option.{Option, none, some}
use Rattle.text.specs.Choice.{with-some, both, provided}
use Rattle.text.specs.Bytes.{Bytes, ascii, all, any, empty, same, among, lower, lowered, between, keep, each}
use Rattle.text.proofs.Cases.{by_bool, not-true}
use Rattle.text.proofs.Lists.{any_none, any-neither, all-not, keep-passes}
use Rattle.text.proofs.Same.{same_true}
use Rattle.json_text.specs.Tree.{Json, jnull, jtrue, jfalse, jnum, jstr, jarr, jobj, Member, member, name_of, value_of, field, as_string, as_array, as_object, elems_of}
use Rattle.line.specs.Class.{is_name}
use Rattle.line.specs.Grammar.{Param, param, Line, fits}
use Rattle.line.specs.Params.{named, first_or}
use Rattle.line.proofs.Named.{values_named-append}
use Rattle.convert.specs.Model.{Kept}
use Rattle.convert.specs.Classify.{Class, as-version, as-uid, as-kind, as_dropped, as-full, as_parts, as-entry, as_member, as-kept, Seen, classify, classed_after}
use Rattle.convert.specs.FromJson.{is_lower_word, strings, param_from, is_group, group_from, kept_from_four, kept_from, kept_as_line, is_kept, never_kept, kept_stands}
use Rattle.convert.specs.Answers.{misused}
use Rattle.convert.proofs.KeptLines.{no-values, value_param}
use Rattle.home.specs.Allowed.{carries}
use Rattle.home.specs.StandsFor.{Stand}
use Rattle.home.specs.Reasons.{Paired, is_prop, has_reason, KeptByReason, next-line}
use Rattle.home.specs.CardJson as C
use Rattle.home.proofs.CardTests.{plain-misused}
use Rattle.home.proofs.KeptFacts.{no_value}
use Rattle.home.proofs.Known.{on_some}
use Rattle.home.proofs.PairedLines.{stand_of}
use Rattle.home.proofs.PlainLines.{never-own, no-group, value-group, type-fits}
use Rattle.home.proofs.ReasonsLines.{lines-by}
use Rattle.home.proofs.ReasonsSeen.{Knows}
use Rattle.home.proofs.Stands.{lower_param}
use Rattle.home.proofs.Words.{word-lowered}
use Rattle.home.proofs.CardJsonTests.{and_one, and_none, lower_word}

-- ---- parameters

abbrev given : Json → Bool
given j = not (empty (C.values_in j))

strings-are : (j : Json) → strings j ≡ provided (given j) (some (C.values_in j))
strings-are jnull = refl
strings-are jtrue = refl
strings-are jfalse = refl
strings-are (jnum x) = refl
strings-are (jstr s) = refl
strings-are (jarr es) = on_some (each as_string (elems_of es)) (λ e. rw e) (λ vs e. rw e)
strings-are (jobj ms) = refl

abbrev to_param : Member → Param
to_param m = param (name_of m) (C.values_in (value_of m))

param_is : (m : Member) → param_from m ≡ provided (given (value_of m)) (some (to_param m))
param_is (member n j) = ap (Option.map (λ vs. param n vs)) (strings-are j) ∙ by (given j) (C.values_in j)
  where
    by : (b : Bool) (vs : List Bytes) → Option.map (λ vs. param n vs) (provided b (some vs)) ≡ provided b (some (param n vs))
    by true vs = refl
    by false vs = refl

params_are : (ms : List Member) → each param_from ms ≡ provided (all (λ m. given (value_of m)) ms) (some (map to_param ms))
unfolding each all
params_are [] = refl
params_are (m ∷ ms) = ap₂ (both ◌∷◌) (param_is m) (params_are ms) ∙ by (given (value_of m)) (all (λ m. given (value_of m)) ms)
  where
    by : (a b : Bool) → both ◌∷◌ (provided a (some (to_param m))) (provided b (some (map to_param ms))) ≡ provided (a && b) (some (to_param m ∷ map to_param ms))
    by true true = refl
    by true false = refl
    by false b = refl

-- ---- the group

abbrev group_rule : C.Rule
group_rule = C.may (ascii "group") λ j. C.one_name (C.values_in j)

abbrev group_of : List Member → Bytes
group_of ms = first_or [] (with-some (field (ascii "group") ms) C.values_in [])

first_group : (n : Bytes) (vs : List Bytes) (ps : List Param) → group_from (param n vs ∷ ps) ≡ provided (C.one_name vs) (some (first_or [] vs))
first_group n [] ps = refl
first_group n (g ∷ []) ps = ap (λ (b : Bool). provided b (some g)) (lower_word g)
first_group n (g ∷ (h ∷ hs)) ps = refl

group-is : (ms : List Member) → group_from (keep is_group (map to_param ms)) ≡ provided (C.obeyed ms group_rule) (some (group_of ms))
unfolding keep field
group-is [] = refl
group-is (member n j ∷ ms) = by_bool (same n (ascii "group")) (λ e. rw e (first_group n (C.values_in j) (keep is_group (map to_param ms)))) (λ e. rw e (group-is ms))

abbrev others : List Member → List Member
others ms = keep (λ m. not (same (name_of m) (ascii "group"))) ms

others-are : (ms : List Member) → keep (λ p. not (is_group p)) (map to_param ms) ≡ map to_param (others ms)
unfolding keep
others-are [] = refl
others-are (m ∷ ms) = by_bool (same (name_of m) (ascii "group")) (λ e. rw e (others-are ms)) (λ e. rw e (ap (λ (ps : List Param). to_param m ∷ ps) (others-are ms)))

-- names of parameters: "group" is one of them
abbrev lower_member : Member → Bool
lower_member m = C.lower_name (name_of m) && not (same (name_of m) (ascii "value"))

group-lower : C.lower_name (ascii "group") && not (same (ascii "group") (ascii "value")) ≡ true
unfolding C.lower_name all lowered lower same is_name between
group-lower = refl

names-are : (ms : List Member) → all lower_param (map to_param (others ms)) ≡ all lower_member ms
unfolding keep all
names-are [] = refl
names-are (m ∷ ms) =
    by_bool (same (name_of m) (ascii "group"))
    (λ e. rw e (names-are ms ∙ ap (λ (b : Bool). b && all lower_member ms) (sym (ap (λ (n : Bytes). C.lower_name n && not (same n (ascii "value"))) (same_true (name_of m) (ascii "group") e) ∙ group-lower))))
    (λ e. rw e (ap₂ (λ (a b : Bool). (a && not (same (name_of m) (ascii "value"))) && b) (lower_word (name_of m)) (names-are ms)))

-- ---- the line

prop-kept : (l : Line) (c : Class) → is_prop (stand_of l c) ≡ is_kept c
prop-kept l as-version = refl
prop-kept l (as-uid v) = refl
prop-kept l (as-kind v) = refl
prop-kept l as_dropped = refl
prop-kept l (as-full v) = refl
prop-kept l (as_parts ps) = refl
prop-kept l (as-entry i e) = refl
prop-kept l (as_member n j) = refl
prop-kept l as-kept = refl

first_by : {before : List Paired} {l : Line} {t : Stand} {ts : List Stand} → KeptByReason before (l ∷ []) (t ∷ ts) → is_prop t ≡ carries l && has_reason before l
first_by (next-line e r) = e

-- it is kept where it has a reason, by what was seen before
pub line_kept : (s : Seen) (before : List Paired) → Knows s before → (l : Line) → misused l ≡ false → is_kept (classify s l) ≡ carries l && has_reason before l
unfolding classed_after any
line_kept s before h l u = sym (prop-kept l (classify s l)) ∙ first_by (lines-by s before h (l ∷ []) (any_none misused l [] u refl))

-- it is used as 7 asks
line-used : (k : Kept) → is_lower_word k.name ≡ true → among k.name never_kept ≡ false → is_lower_word k.type ≡ true → all lower_param k.params ≡ true → any is_group k.params ≡ false
    → misused (kept_as_line k) ≡ false
unfolding kept_as_line
line-used k n o t p g =
    plain-misused (kept_as_line k)
    (record {
      own = rw (word-lowered k.name n) (never-own k.name o);
      group = any-neither (named (ascii "group")) k.params (value_param k.type) (no-group k.params p g) (value-group k.type);
      value = rw (values_named-append (ascii "value") k.params (value_param k.type), no-values k.params (no_value k.params p)) (type-fits k.type t);
    })

-- ---- an entry that was read

abbrev entry_of : Bytes → List Member → Bytes → Bytes → Kept
entry_of n ms t v = record { name = n; group = group_of ms; params = keep (λ p. not (is_group p)) (map to_param ms); type = t; value = v }

line-is : (n : Bytes) (ms : List Member) (t v : Bytes) → kept_as_line (entry_of n ms t v) ≡ C.prop_line n ms t v
unfolding kept_as_line C.prop_line
line-is n ms t v = rw (others-are ms)

without-group : (ms : List Member) → any is_group (keep (λ p. not (is_group p)) (map to_param ms)) ≡ false
without-group ms = not-true _ (sym (all-not is_group (keep (λ p. not (is_group p)) (map to_param ms))) ∙ keep-passes (λ p. not (is_group p)) (map to_param ms))

-- the last test is looked at where the others hold
last-of-six : (a b c d f k r : Bool) → (a ≡ true → b ≡ true → c ≡ true → d ≡ true → k ≡ r) → a && b && c && d && f && k ≡ a && (b && (c && (d && (f && (r && true)))))
last-of-six false b c d f k r h = refl
last-of-six true false c d f k r h = refl
last-of-six true true false d f k r h = refl
last-of-six true true true false f k r h = refl
last-of-six true true true true f k r h = ap (λ (x : Bool). f && x) (h refl refl refl refl ∙ sym (and_one r))

module _ (s : Seen) (before : List Paired) (h : Knows s before) where
  entry-stands : (n : Bytes) (ms : List Member) (t v : Bytes) → kept_stands s (entry_of n ms t v)
      ≡ C.lower_name n && (not (among n never_kept) && (C.lower_name t && (all lower_member ms && (fits (C.prop_line n ms t v).params && (carries (C.prop_line n ms t v) && has_reason before (C.prop_line n ms t v) && true)))))
  unfolding kept_stands
  entry-stands n ms t v =
      let k : Kept = entry_of n ms t v in
      let l : Line = C.prop_line n ms t v in
      let lower : all lower_param k.params ≡ all lower_member ms = ap (all lower_param) (others-are ms) ∙ names-are ms in
      last-of-six (is_lower_word n) (not (among n never_kept)) (is_lower_word t) (all lower_param k.params) (fits (kept_as_line k).params) (is_kept (classify s (kept_as_line k))) (carries l && has_reason before l)
      (λ a b c d. ap (λ (l : Line). is_kept (classify s l)) (line-is n ms t v) ∙ line_kept s before h l (ap misused (sym (line-is n ms t v)) ∙ line-used k a (not-true (among n never_kept) b) c d (without-group ms)))
      ∙ rw (lower_word n, lower_word t, lower, line-is n ms t v)

  abbrev stands : Kept → Bool
  stands k = kept_stands s k

  -- no string in the third or fourth place
  two-strings : (t v : Json) → C.a_string (λ t. C.a_string (λ v. false) v) t ≡ false
  two-strings t v = on_some (as_string t) (λ e. rw e) (λ a e. rw e (on_some (as_string v) (λ f. rw f) (λ b f. rw f)))

  four-fit : (n ps t v : Json) → with-some (kept_from_four (n ∷ ps ∷ t ∷ v ∷ [])) stands false ≡ C.four_fit before (n ∷ ps ∷ t ∷ v ∷ [])
  unfolding all
  four-fit n ps t v =
      on_some (as_string n) (λ e. rw e) λ name e.
      on_some (as_object ps) (λ o. rw (e, o)) λ ms o.
      by_bool (all (λ m. given (value_of m)) ms)
      (λ a. by_bool (C.obeyed ms group_rule)
      (λ g. on_some (as_string t) (λ x. rw (e, o, params_are ms, a, group-is ms, g, x)) λ type x.
      on_some (as_string v) (λ y. rw (e, o, params_are ms, a, group-is ms, g, x, y)) λ value y.
      rw (e, o, params_are ms, a, group-is ms, g, x, y) (entry-stands name ms type value))
      (λ g. rw (e, o, params_are ms, a, group-is ms, g) (sym (two-strings t v))))
      (λ a. rw (e, o, params_are ms, a) (sym (two-strings t v)))

  four-or-not : (js : List Json) → with-some (kept_from_four js) stands false ≡ C.four_fit before js
  four-or-not [] = refl
  four-or-not (n ∷ []) = refl
  four-or-not (n ∷ (ps ∷ [])) = refl
  four-or-not (n ∷ (ps ∷ (t ∷ []))) = refl
  four-or-not (n ∷ (ps ∷ (t ∷ (v ∷ [])))) = four-fit n ps t v
  four-or-not (n ∷ (ps ∷ (t ∷ (v ∷ (w ∷ ws))))) = refl

  pub prop-is : (j : Json) → with-some (kept_from j) stands false ≡ C.is_prop before j
  unfolding kept_from C.is_prop
  prop-is j = on_some (as_array j) (λ e. rw e) (λ js e. rw e (four-or-not js))

  -- all of them
  pub props-are : (js : List Json) → with-some (each kept_from js) (all stands) false ≡ all (C.is_prop before) js
  unfolding each all
  props-are [] = refl
  props-are (j ∷ js) = both_read (kept_from j) (each kept_from js) ∙ ap₂ ◌&&◌ (prop-is j) (props-are js)
    where
      both_read : (x : Option Kept) (ys : Option (List Kept)) → with-some (both ◌∷◌ x ys) (all stands) false ≡ with-some x stands false && with-some ys (all stands) false
      both_read none ys = refl
      both_read (some x) none = sym (and_none (stands x))
      both_read (some x) (some ys) = refl
