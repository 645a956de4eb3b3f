-- What code reads of an entry, part by part, is what the definition says, where the parameters' names differ.
use mathlib.Core.Path.{◌≡◌, refl, sym, ap, subst, ◌∙◌}
use mathlib.Core.Bool.{Bool, true, false, ◌&&◌, not}
use mathlib.Core.List.{List, [], ◌∷◌, ◌++◌, map, append-nil, append_assoc}
use mathlib.Core.Option
use mathlib.Core.Option.{Option, none, some}
use Prim.Native.Nat.{ℕ, ◌+◌, ◌≤◌}
use native.Mathlib.Omega.{arith}
use borrow.Author.Tests.{le-leb, lt-leb}
use lib.Dec.{leb}
use lib.ListN.{length, length-append}
use Rattle.text.specs.Choice.{pick, chain, provided, both}
use Rattle.text.specs.Bytes.{Bytes, ascii, between, any, all, among, distinct, same, keep, each}
use Rattle.text.proofs.Cases.{by_bool, and_left, and_right, or_left, or_right, not-true, not-both, tests}
use Rattle.text.proofs.Lists.{all_head, all_tail}
use Rattle.text.proofs.Same.{same_true, same-swap}
use Rattle.text.proofs.Choices.{chain_same}
use Rattle.json_text.specs.Tree.{Json, Member, member, name_of, as_string, as_array, as_object}
use Rattle.json_text.specs.Strings.{distinct_names}
use Rattle.json_index.specs.Index.{json_at}
use Rattle.line.specs.Class.{is_lower_name}
use Rattle.line.specs.Grammar.{Param, param, param_name, value_count, fits}
use Rattle.line.proofs.Lines.{count-append}
use Rattle.convert.specs.Model.{Kept}
use Rattle.convert.specs.Classify.{Seen, classify}
use Rattle.convert.specs.FromJson.{strings, param_from, is_group, group_from, is_lower_word, never_kept, kept_from_four, kept_from, kept_as_line, is_kept, kept_stands}
use Rattle.to_card_kept_entry.specs.strings.Strings.{size, capped, sole, sole_in, group_of}
use Rattle.to_card_kept_entry.specs.table.Kept.{good_name, kept_form, formed, Sofar, sofar, params_in, group_step, fit_param, param_step, step_of, steps_of, none_yet}
use Rattle.to_card_kept_entry.specs.entry.Entry.{line_name, type_fits, group_text, kept_of, HoldsAs, composed_rest, composed_four, composed, FillsKept}
use Rattle.to_card_kept_entry.proofs.fill.Distinct.{elements-distinct, members-distinct}

-- ---- parameters one after the other, and all at once

abbrev is_param : Param → Bool
is_param p = not (is_group p)

abbrev good : Param → Bool
good p = good_name (param_name p)

-- all names are good, and there are 64 values at most
abbrev fine : List Param → List Param → Bool
fine done ps = all good ps && leb (value_count (done ++ ps)) 64

abbrev lower_group : Bytes → Option (Option Bytes)
lower_group g = provided (is_lower_word g) (some (some g))

-- the group that is met, where none was
abbrev group_next : Option Bytes → List Param → Option (Option Bytes)
group_next (some g) ps = some (some g)
group_next none [] = some none
group_next none (param n vs ∷ ps) = chain (sole vs) lower_group

abbrev settled : Option Bytes → List Param → List Param → Option Sofar
settled g done ps = chain (group_next g (keep is_group ps)) λ h. provided (fine done (keep is_param ps)) (some (sofar h (done ++ keep is_param ps)))

-- a group may follow, but no second one
abbrev NoSecond : Option Bytes → List Member → Type 0
NoSecond none ms = distinct (map name_of ms) ≡ true
NoSecond (some g) ms = among (ascii "group") (map name_of ms) ≡ false

no_value : {A B : Type 0} (o : Option A) → chain {B = B} o (λ x. none) ≡ none
no_value none = refl
no_value (some x) = refl

both-chain : {A B : Type 0} (x : A) (o : Option (List A)) (f : List A → Option B) → chain (both ◌∷◌ (some x) o) f ≡ chain o λ xs. f (x ∷ xs)
both-chain x none f = refl
both-chain x (some xs) f = refl

count-one : (k : Bytes) (vs : List Bytes) → value_count (param k vs ∷ []) ≡ length vs
unfolding value_count
count-one k vs = omega arith

over : (done : List Param) (k : Bytes) (vs : List Bytes) (ps : List Param) → leb (value_count done + length vs) 64 ≡ false → leb (value_count (done ++ (param k vs ∷ ps))) 64 ≡ false
unfolding value_count
over done k vs ps h = lt-leb (value_count (done ++ (param k vs ∷ ps))) 64 (omega (tests, h, count-append done (param k vs ∷ ps)))

not-fine : (o : Option (Option Bytes)) (t : Bool) (ps : List Param) → t ≡ false → chain o (λ h. provided t (some (sofar h ps))) ≡ none
not-fine none t ps e = refl
not-fine (some h) t ps e = ap (λ (y : Bool). provided y (some (sofar h ps))) e

and_none : (y : Bool) → (y && false) ≡ false
and_none true = refl
and_none false = refl

-- as far as the members ms tell
abbrev Steps : List Member → Option Bytes → List Param → Type 0
Steps ms g done = steps_of (sofar g done) ms ≡ chain (each param_from ms) (settled g done)

-- after one more parameter, whose name is good or not
abbrev with_param : Option Bytes → List Param → Bytes → Bool → List Bytes → List Param → Option Sofar
with_param g done k q vs ps = chain (group_next g (keep is_group ps)) λ h. provided ((q && all good (keep is_param ps)) && leb (value_count (done ++ (param k vs ∷ keep is_param ps))) 64) (some (sofar h (done ++ (param k vs ∷ keep is_param ps))))

-- one more parameter that is no group
settled-param : (g : Option Bytes) (done : List Param) (k : Bytes) (vs : List Bytes) (ps : List Param) → same k (ascii "group") ≡ false
    → settled g done (param k vs ∷ ps) ≡ chain (group_next g (keep is_group ps)) λ h. provided (fine done (param k vs ∷ keep is_param ps)) (some (sofar h (done ++ (param k vs ∷ keep is_param ps))))
unfolding keep
settled-param g done k vs ps e = rw e

param_step_lem : (g : Option Bytes) (done : List Param) (k : Bytes) (v : Json) (ms : List Member) → same k (ascii "group") ≡ false
    → ((d : List Param) → leb (value_count d) 64 ≡ true → Steps ms g d)
    → chain (param_step g done k (fit_param (value_count done) k v)) (λ y. steps_of y ms) ≡ chain (both ◌∷◌ (param_from (member k v)) (each param_from ms)) (settled g done)
unfolding all
param_step_lem g done k v ms e ih = by (strings v)
  where
    nothing : (q : Bool) (vs : List Bytes) → ((ps : List Param) → with_param g done k q vs ps ≡ none) → none ≡ chain (each param_from ms) (with_param g done k q vs)
    nothing q vs f = sym (chain_same (each param_from ms) (with_param g done k q vs) (λ ps. none) f ∙ no_value (each param_from ms))

    fit : (vs : List Bytes) (p q : Bool) → leb (value_count done + length vs) 64 ≡ p
        → chain (Option.map (λ vs. sofar g (done ++ (param k vs ∷ []))) (chain (provided p (some vs)) λ vs. provided q (some vs))) (λ y. steps_of y ms) ≡ chain (each param_from ms) (with_param g done k q vs)
    fit vs false q o = nothing q vs λ ps.
        not-fine (group_next g (keep is_group ps)) ((q && all good (keep is_param ps)) && leb (value_count (done ++ (param k vs ∷ keep is_param ps))) 64) (done ++ (param k vs ∷ keep is_param ps))
        (ap (λ (y : Bool). (q && all good (keep is_param ps)) && y) (over done k vs (keep is_param ps) o) ∙ and_none (q && all good (keep is_param ps)))
    fit vs true false o = nothing false vs λ ps. not-fine (group_next g (keep is_group ps)) false (done ++ (param k vs ∷ keep is_param ps)) refl
    fit vs true true o =
        ih (done ++ (param k vs ∷ [])) (subst (λ (n : ℕ). leb n 64 ≡ true) (sym (count-append done (param k vs ∷ []) ∙ ap (λ (n : ℕ). value_count done + n) (count-one k vs))) o)
        ∙ chain_same (each param_from ms) (settled g (done ++ (param k vs ∷ []))) (with_param g done k true vs)
        (λ ps. ap (λ (l : List Param). chain (group_next g (keep is_group ps)) λ h. provided (all good (keep is_param ps) && leb (value_count l) 64) (some (sofar h l))) (append_assoc done (param k vs ∷ []) (keep is_param ps)))

    by : (o : Option (List Bytes))
        → chain (param_step g done k (chain (capped (value_count done) o) λ vs. provided (good_name k) (some vs))) (λ y. steps_of y ms) ≡ chain (both ◌∷◌ (Option.map (λ vs. param k vs) o) (each param_from ms)) (settled g done)
    by none = refl
    by (some vs) =
        fit vs (leb (value_count done + length vs) 64) (good_name k) refl
        ∙ sym (both-chain (param k vs) (each param_from ms) (settled g done) ∙ chain_same (each param_from ms) (λ ps. settled g done (param k vs ∷ ps)) (with_param g done k (good_name k) vs) (λ ps. settled-param g done k vs ps e))

-- after the first group
abbrev with_group : List Param → Option (Option Bytes) → List Param → Option Sofar
with_group done o ps = chain o λ h. provided (fine done (keep is_param ps)) (some (sofar h (done ++ keep is_param ps)))

settled-group : (done : List Param) (k : Bytes) (vs : List Bytes) (ps : List Param) → same k (ascii "group") ≡ true
    → settled none done (param k vs ∷ ps) ≡ chain (chain (sole vs) lower_group) λ h. provided (fine done (keep is_param ps)) (some (sofar h (done ++ keep is_param ps)))
unfolding keep
settled-group done k vs ps e = rw e

group-step : (done : List Param) (k : Bytes) (v : Json) (ms : List Member) → same k (ascii "group") ≡ true → ((w : Bytes) → Steps ms (some w) done)
    → chain (group_step none done (group_of v)) (λ y. steps_of y ms) ≡ chain (both ◌∷◌ (param_from (member k v)) (each param_from ms)) (settled none done)
unfolding group_of sole_in
group-step done k v ms e ih = by (strings v)
  where
    word : (w : Bytes) (q : Bool) → chain (Option.map (λ w. sofar (some w) done) (provided q (some w))) (λ y. steps_of y ms) ≡ chain (each param_from ms) (with_group done (provided q (some (some w))))
    word w false = sym (no_value (each param_from ms))
    word w true = ih w

    one : (o : Option Bytes)
        → chain (Option.map (λ w. sofar (some w) done) (chain o λ g. provided (is_lower_word g) (some g))) (λ y. steps_of y ms) ≡ chain (each param_from ms) (with_group done (chain o lower_group))
    one none = sym (no_value (each param_from ms))
    one (some w) = word w (is_lower_word w)

    by : (o : Option (List Bytes))
        → chain (Option.map (λ w. sofar (some w) done) (chain (chain o sole) λ g. provided (is_lower_word g) (some g))) (λ y. steps_of y ms) ≡ chain (both ◌∷◌ (Option.map (λ vs. param k vs) o) (each param_from ms)) (settled none done)
    by none = refl
    by (some vs) =
        one (sole vs)
        ∙ sym (both-chain (param k vs) (each param_from ms) (settled none done) ∙ chain_same (each param_from ms) (λ ps. settled none done (param k vs ∷ ps)) (with_group done (chain (sole vs) lower_group)) (λ ps. settled-group done k vs ps e))

none_left : (g : Option Bytes) (k : Bytes) (v : Json) (ms : List Member) → NoSecond g (member k v ∷ ms) → NoSecond g ms
unfolding distinct among any
none_left none k v ms n = and_right (not (among k (map name_of ms))) _ n
none_left (some g) k v ms n = or_right (same (ascii "group") k) _ n

only-group : (k : Bytes) (v : Json) (ms : List Member) → NoSecond none (member k v ∷ ms) → same k (ascii "group") ≡ true → among (ascii "group") (map name_of ms) ≡ false
unfolding distinct
only-group k v ms n e = subst (λ (x : Bytes). among x (map name_of ms) ≡ false) (same_true k (ascii "group") e) (not-true (among k (map name_of ms)) (and_left (not (among k (map name_of ms))) _ n))

no-group : (g k : Bytes) (v : Json) (ms : List Member) → NoSecond (some g) (member k v ∷ ms) → same (ascii "group") k ≡ false
unfolding among any
no-group g k v ms n = or_left (same (ascii "group") k) _ n

-- a group is met: no second one
group-met-at : (g : Option Bytes) (done : List Param) (k : Bytes) (v : Json) (ms : List Member) → NoSecond g (member k v ∷ ms) → same (ascii "group") k ≡ true
    → ((w : Bytes) → NoSecond (some w) ms → Steps ms (some w) done)
    → chain (group_step g done (group_of v)) (λ y. steps_of y ms) ≡ chain (both ◌∷◌ (param_from (member k v)) (each param_from ms)) (settled g done)
group-met-at none done k v ms n e ih = let i = same-swap k (ascii "group") ∙ e in group-step done k v ms i (λ w. ih w (only-group k v ms n i))
group-met-at (some g) done k v ms n e ih = not-both e (no-group g k v ms n)

-- one after the other as all at once, where there is no second group
steps-are : (g : Option Bytes) (done : List Param) (ms : List Member) → NoSecond g ms → leb (value_count done) 64 ≡ true → Steps ms g done
unfolding steps_of step_of each keep all
steps-are none done [] n h = rw (append-nil done, h)
steps-are (some g) done [] n h = rw (append-nil done, h)
steps-are g done (member k v ∷ ms) n h =
    by_bool (same (ascii "group") k)
    (λ e. rw e (group-met-at g done k v ms n e (λ w o. steps-are (some w) done ms o h)))
    (λ e. rw e (param_step_lem g done k v ms (same-swap k (ascii "group") ∙ e) (λ d l. steps-are g d ms (none_left g k v ms n) l)))

-- ---- type, parameters and values fit

no-params : (ps : List Param) → fits (ps ++ []) ≡ leb (length ps) 32 && leb (value_count ps) 64
unfolding fits
no-params ps = rw (append-nil ps)

value-more : (ps : List Param) (x : Bytes) → fits (ps ++ (param (ascii "value") (x ∷ []) ∷ [])) ≡ leb (length ps + 1) 32 && leb (value_count ps + 1) 64
unfolding fits value_count
value-more ps x = rw (length-append ps (param (ascii "value") (x ∷ []) ∷ []), count-append ps (param (ascii "value") (x ∷ []) ∷ []))

and-swap : (a b : Bool) → (a && b) ≡ (b && a)
and-swap true true = refl
and-swap true false = refl
and-swap false true = refl
and-swap false false = refl

-- one more that fits says that these do
fewer : (n : ℕ) → leb (n + 1) 64 ≡ true → leb n 64 ≡ true
fewer n h = le-leb n 64 (omega (tests, h))

known-fits : (ps : List Param) (w : Bool) (n : ℕ) → w && (leb (length ps + 1) 32 && leb (n + 1) 64) ≡ leb n 64 && (leb (length ps + 1) 32 && (leb (n + 1) 64 && w))
known-fits ps w n = by (leb (n + 1) 64) (leb n 64) (leb (length ps + 1) 32) w (fewer n)
  where
    by : (m l c w : Bool) → (m ≡ true → l ≡ true) → w && (c && m) ≡ l && (c && (m && w))
    by true l c w h = rw (h refl) (and-swap w (c && true) ∙ by-c c w)
      where
        by-c : (c w : Bool) → (c && true) && w ≡ c && w
        by-c true w = refl
        by-c false w = refl
    by false l c w h = rw (and_none c) (and_none w ∙ sym (and_none l))

unknown-word : is_lower_word (ascii "unknown") ≡ true
unfolding all is_lower_name between
unknown-word = refl

type-fits : (ps : List Param) (x : Bytes)
    → is_lower_word x && fits (ps ++ pick (same x (ascii "unknown")) [] (param (ascii "value") (x ∷ []) ∷ [])) ≡ leb (value_count ps) 64 && type_fits (value_count ps) (length ps) x
type-fits ps x =
    by_bool (same x (ascii "unknown"))
    (λ e. rw (e, sym (same-swap x (ascii "unknown")) ∙ e, ap is_lower_word (same_true x (ascii "unknown") e) ∙ unknown-word, no-params ps) (and-swap (leb (length ps) 32) (leb (value_count ps) 64)))
    (λ e. rw (e, sym (same-swap x (ascii "unknown")) ∙ e, value-more ps x) (known-fits ps (is_lower_word x) (value_count ps)))

shuffled : (w n t a f v y : Bool) → t && f ≡ v && y → w && n && t && a && f ≡ n && w && (a && v && y)
shuffled true true true true f v y e = e
shuffled true true true false f v y e = refl
shuffled true true false true f v y e = e
shuffled true true false false f v y e = refl
shuffled true false t a f v y e = refl
shuffled false true t a f v y e = refl
shuffled false false t a f v y e = refl

form-is : (n g : Bytes) (ps : List Param) (x v : Bytes)
    → kept_form (record { name = n; group = g; params = ps; type = x; value = v }) ≡ (not (among n never_kept) && is_lower_word n) && (fine [] ps && type_fits (value_count ps) (length ps) x)
unfolding kept_form kept_as_line
form-is n g ps x v = shuffled (is_lower_word n) (not (among n never_kept)) (is_lower_word x) (all good ps) _ (leb (value_count ps) 64) (type_fits (value_count ps) (length ps) x) (type-fits ps x)

-- ---- the whole entry

-- an entry whose form is that of a kept line
abbrev standing : Kept → Option Kept
standing k = provided (kept_form k) (some k)

name-first : {A : Type 0} (x : Bytes) (f : Bytes → Option A) → chain (line_name x) f ≡ provided (not (among x never_kept) && is_lower_word x) (f x)
name-first x f = by (not (among x never_kept)) (is_lower_word x)
  where
    by : (a b : Bool) → chain (provided a (provided b (some x))) f ≡ provided (a && b) (f x)
    by true true = refl
    by true false = refl
    by false b = refl

provided-none : {A : Type 0} (t : Bool) → provided {A = A} t none ≡ none
provided-none true = refl
provided-none false = refl

group-met : (ps : List Param) → group_from ps ≡ Option.map group_text (group_next none ps)
group-met [] = refl
group-met (param n [] ∷ ps) = refl
group-met (param n (g ∷ []) ∷ ps) = by (is_lower_word g)
  where
    by : (b : Bool) → provided b (some g) ≡ Option.map group_text (provided b (some (some g)))
    by true = refl
    by false = refl
group-met (param n (g ∷ (h ∷ hs)) ∷ ps) = refl

module _ (x : Bytes) (jt jv : Json) where
  abbrev named : Bool
  named = not (among x never_kept) && is_lower_word x

  abbrev kept : Bytes → List Param → Bytes → Bytes → Kept
  kept g ps t v = record { name = x; group = g; params = ps; type = t; value = v }

  rest-is : (h : Option Bytes) (ps : List Param) (t v : Option Bytes)
      → provided named (chain (provided (fine [] ps) (some (sofar h ps))) λ z. chain (chain t λ y. provided (type_fits (value_count (params_in z)) (length (params_in z)) y) (some y)) λ y. chain v λ w. some (kept_of x z y w))
      ≡ chain (chain t λ y. chain v λ w. some (kept (group_text h) ps y w)) standing
  rest-is h ps none v = by (fine [] ps) named
    where
      by : (f n : Bool) → provided {A = Kept} n (chain (provided f (some (sofar h ps))) λ z. none) ≡ none
      by true n = provided-none n
      by false n = provided-none n
  rest-is h ps (some t) none = by (fine [] ps) named (λ z. type_fits (value_count (params_in z)) (length (params_in z)) t)
    where
      by : (f n : Bool) (y : Sofar → Bool) → provided {A = Kept} n (chain (provided f (some (sofar h ps))) λ z. chain (provided (y z) (some t)) λ y. none) ≡ none
      by true n y = ap (provided n) (no_value (provided (y (sofar h ps)) (some t))) ∙ provided-none n
      by false n y = provided-none n
  rest-is h ps (some t) (some v) =
      by named (fine [] ps) (λ z. type_fits (value_count (params_in z)) (length (params_in z)) t)
      ∙ ap (λ (y : Bool). provided y (some (kept (group_text h) ps t v))) (sym (form-is x (group_text h) ps t v))
    where
      by : (n f : Bool) (y : Sofar → Bool)
          → provided n (chain (provided f (some (sofar h ps))) λ z. chain (provided (y z) (some t)) λ y. some (kept_of x z y v)) ≡ provided (n && (f && y (sofar h ps))) (some (kept (group_text h) ps t v))
      by true true y = typed (y (sofar h ps))
        where
          typed : (b : Bool) → chain (provided b (some t)) (λ y. some (kept_of x (sofar h ps) y v)) ≡ provided b (some (kept (group_text h) ps t v))
          typed true = refl
          typed false = refl
      by true false y = refl
      by false f y = refl

  group-is : (ps : List Param) (o : Option (Option Bytes))
      → provided named (chain (chain o λ h. provided (fine [] ps) (some (sofar h ps))) λ z. composed_rest x z jt jv) ≡ chain (chain (Option.map group_text o) λ g. chain (as_string jt) λ y. chain (as_string jv) λ w. some (kept g ps y w)) standing
  unfolding composed_rest
  group-is ps none = provided-none named
  group-is ps (some h) = rest-is h ps (as_string jt) (as_string jv)

  params_are : (o : Option (List Param))
      → provided named (chain (chain o (settled none [])) λ z. composed_rest x z jt jv)
      ≡ chain (chain o λ ps. chain (group_from (keep is_group ps)) λ g. chain (as_string jt) λ y. chain (as_string jv) λ w. some (kept g (keep is_param ps) y w)) standing
  params_are none = provided-none named
  params_are (some ps) = rw (group-met (keep is_group ps)) (group-is (keep is_param ps) (group_next none (keep is_group ps)))

  members-are : (o : Option (List Member)) → ((ms : List Member) → o ≡ some ms → distinct (map name_of ms) ≡ true)
      → provided named (chain (chain o (steps_of none_yet)) λ z. composed_rest x z jt jv)
      ≡ chain (chain (chain o (each param_from)) λ ps. chain (group_from (keep is_group ps)) λ g. chain (as_string jt) λ y. chain (as_string jv) λ w. some (kept g (keep is_param ps) y w)) standing
  unfolding value_count
  members-are none d = provided-none named
  members-are (some ms) d = ap (λ (o : Option Sofar). provided named (chain o λ z. composed_rest x z jt jv)) (steps-are none [] ms (d ms refl) refl) ∙ params_are (each param_from ms)

four_is : (n p t v : Json) → ((ms : List Member) → as_object p ≡ some ms → distinct (map name_of ms) ≡ true) → composed_four (n ∷ (p ∷ (t ∷ (v ∷ [])))) ≡ chain (kept_from_four (n ∷ (p ∷ (t ∷ (v ∷ []))))) standing
four_is n p t v d = by (as_string n)
  where
    by : (o : Option Bytes)
        → chain (chain o line_name) (λ y. chain (chain (as_object p) (steps_of none_yet)) λ z. composed_rest y z t v)
        ≡ chain (chain o λ x. chain (chain (as_object p) (each param_from)) λ ps. chain (group_from (keep is_group ps)) λ g. chain (as_string t) λ y. chain (as_string v) λ w. some (kept x t v g (keep is_param ps) y w)) standing
    by none = refl
    by (some x) = name-first x _ ∙ members-are x t v (as_object p) d

pub composed-is : (j : Json) → distinct_names j ≡ true → composed j ≡ formed j
unfolding composed formed kept_from
composed-is j d = by (as_array j) refl
  where
    list : (js : List Json) → all distinct_names js ≡ true → composed_four js ≡ chain (kept_from_four js) standing
    list [] h = refl
    list (n ∷ []) h = refl
    list (n ∷ (p ∷ [])) h = refl
    list (n ∷ (p ∷ (t ∷ []))) h = refl
    list (n ∷ (p ∷ (t ∷ (v ∷ [])))) h = four_is n p t v (λ ms e. (members-distinct p ms (all_head distinct_names p _ (all_tail distinct_names n _ h)) e).0)
    list (n ∷ (p ∷ (t ∷ (v ∷ (w ∷ ws))))) h = refl

    by : (o : Option (List Json)) → as_array j ≡ o → chain o composed_four ≡ chain (chain o kept_from_four) standing
    by none e = refl
    by (some js) e = list js (elements-distinct j js d e)

-- what `fill_kept` makes of an entry of a text that reads
pub fills-formed : (b s : Bytes) (at : ℕ) (r : Bool) (after : Bytes) (u : List ℕ) → FillsKept b s at r after u → (j : Json) → json_at 14 s at ≡ some j → distinct_names j ≡ true → size j + 5 ≤ length b
    → HoldsAs after u r (formed j)
fills-formed b s at r after u f j w d l = subst (HoldsAs after u r) (composed-is j d) (f j w l)

-- ---- form, then class

pub stands-is : (s : Seen) (k : Kept) → kept_stands s k ≡ kept_form k && is_kept (classify s (kept_as_line k))
unfolding kept_stands kept_form
stands-is s k = refl

pub stands-formed : (s : Seen) (j : Json) → chain (kept_from j) (λ k. provided (kept_stands s k) (some k)) ≡ chain (formed j) λ k. provided (is_kept (classify s (kept_as_line k))) (some k)
unfolding formed
stands-formed s j = by (kept_from j)
  where
    by : (o : Option Kept) → chain o (λ k. provided (kept_stands s k) (some k)) ≡ chain (chain o standing) λ k. provided (is_kept (classify s (kept_as_line k))) (some k)
    by none = refl
    by (some k) = ap (λ (y : Bool). provided y (some k)) (stands-is s k) ∙ last (kept_form k)
      where
        last : (f : Bool) → provided (f && is_kept (classify s (kept_as_line k))) (some k) ≡ chain (provided f (some k)) λ k. provided (is_kept (classify s (kept_as_line k))) (some k)
        last true = refl
        last false = refl
