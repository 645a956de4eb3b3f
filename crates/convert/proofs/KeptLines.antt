-- A kept entry is the line it stands for, and its JSON.
use mathlib.Core.Path.{◌≡◌, refl, sym, ap, ◌∙◌}
use mathlib.Core.Bool.{true, false, ◌||◌, not}
use mathlib.Core.List.{List, [], ◌∷◌, ◌++◌, map, append-nil}
use mathlib.Core.Option.{some}
use Rattle.text.specs.Choice.{pick}
use Rattle.text.specs.Bytes.{Bytes, ascii, any, all, empty, same, lower, lowered, between, keep, each, flat}
use Rattle.text.proofs.Cases.{by_bool, not-both}
use Rattle.text.proofs.Same.{same_true}
use Rattle.text.proofs.Lists.{all_head, all_tail, keep_all, keep-none, all-not, each_map}
use Rattle.json_text.specs.Tree.{jstr, Member, member, object, as_string}
use Rattle.json_text.proofs.Listed.{members-listed, elems-listed}
use Rattle.line.specs.Grammar.{Param, param, param_values}
use Rattle.line.specs.Params.{named, values_named, lacking, first_or, value_type, besides_value, merged}
use Rattle.line.proofs.Merging.{Settled, settled-merged}
use Rattle.line.proofs.Named.{values_named-append, lacking-append, values_named-one, lacking-one, values_named-none, lacking-none}
use Rattle.convert.specs.Model.{Kept}
use Rattle.convert.specs.Value.{filled}
use Rattle.convert.specs.FromCard.{kept_line}
use Rattle.convert.specs.FromJson.{is_lower_word, strings, param_from, is_group, group_from, kept_from, kept_as_line}
use Rattle.convert.specs.ToJson.{where', values_json, param_json, kept_json}

pub record ProperKept (k : Kept) : Type 0 where
  pub name : lowered k.name ≡ k.name
  pub group : lowered k.group ≡ k.group
  pub word : empty k.group || is_lower_word k.group ≡ true
  pub type : lowered k.type ≡ k.type
  pub params : Settled k.params
  pub no_value : any (named (ascii "value")) k.params ≡ false
  pub no-group : any is_group k.params ≡ false
  pub values : all (λ p. not (empty (param_values p))) k.params ≡ true

-- ---- as a line

abbrev pub value_param : Bytes → List Param
value_param t = pick (same t (ascii "unknown")) [] (param (ascii "value") (t ∷ []) ∷ [])

value-named : same (lowered (ascii "value")) (ascii "value") ≡ true
unfolding same lowered lower between
value-named = refl

type-values : (t : Bytes) → first_or (ascii "unknown") (values_named (ascii "value") (value_param t)) ≡ t
type-values t =
    by_bool (same t (ascii "unknown"))
    (λ e. rw (e, values_named-none (ascii "value")) (sym (same_true t (ascii "unknown") e)))
    (λ e. rw (e, values_named-one (ascii "value") (ascii "value") (t ∷ []) value-named))

pub no-values : (ps : List Param) → any (named (ascii "value")) ps ≡ false → values_named (ascii "value") ps ≡ []
unfolding values_named flat
no-values ps h = rw (keep-none (named (ascii "value")) ps h)

none-lacking : (ps : List Param) → any (named (ascii "value")) ps ≡ false → lacking (ascii "value") ps ≡ ps
unfolding lacking
none-lacking ps h = keep_all (λ p. not (named (ascii "value") p)) ps (all-not (named (ascii "value")) ps ∙ ap not h)

value-lacking : (t : Bytes) → lacking (ascii "value") (value_param t) ≡ []
value-lacking t = by_bool (same t (ascii "unknown")) (λ e. rw (e, lacking-none (ascii "value"))) (λ e. rw (e, lacking-one (ascii "value") (ascii "value") (t ∷ []) value-named))

kept-type : (ps : List Param) (t : Bytes) → any (named (ascii "value")) ps ≡ false → lowered t ≡ t → value_type (ps ++ value_param t) ≡ t
unfolding value_type
kept-type ps t h l = rw (values_named-append (ascii "value") ps (value_param t), no-values ps h, type-values t, l)

kept-params : (ps : List Param) (t : Bytes) → any (named (ascii "value")) ps ≡ false → Settled ps → merged (besides_value (ps ++ value_param t)) ≡ ps
unfolding besides_value
kept-params ps t h s = rw (lacking-append (ascii "value") ps (value_param t), none-lacking ps h, value-lacking t, append-nil ps) (settled-merged ps s)

pub kept_line_lem : (k : Kept) → ProperKept k → kept_line (kept_as_line k) ≡ k
unfolding kept_line kept_as_line
kept_line_lem k g = rw (kept-params k.params k.type g.no_value g.params, kept-type k.params k.type g.no_value g.type, g.name, g.group)

-- ---- as JSON

strings-back : (vs : List Bytes) → not (empty vs) ≡ true → strings (values_json vs) ≡ some vs
strings-back [] h = not-both refl (sym h)
strings-back (v ∷ []) h = refl
strings-back (v ∷ (w ∷ ws)) h = rw (elems-listed (map jstr (v ∷ w ∷ ws)), each_map jstr as_string (λ s. refl) (v ∷ w ∷ ws))

param-back : (p : Param) → not (empty (param_values p)) ≡ true → param_from (param_json p) ≡ some p
param-back (param n vs) h = rw (strings-back vs h)

params-back : (ps : List Param) → all (λ p. not (empty (param_values p))) ps ≡ true → each param_from (map param_json ps) ≡ some ps
unfolding each
params-back [] h = refl
params-back (p ∷ ps) h = rw (param-back p (all_head _ p ps h), params-back ps (all_tail _ p ps h))

-- the group stands first, where there is one
abbrev group_member : Bytes → List Member
group_member g = where' (filled g) (member (ascii "group") (jstr g))

abbrev group_param : Bytes → List Param
group_param g = pick (empty g) [] (param (ascii "group") (g ∷ []) ∷ [])

group-back : (g : Bytes) (ps : List Param) → all (λ p. not (empty (param_values p))) ps ≡ true → each param_from (group_member g ++ map param_json ps) ≡ some (group_param g ++ ps)
unfolding each
group-back [] ps h = params-back ps h
group-back (c ∷ g) ps h = rw (params-back ps h)

is-group : (g : Bytes) → is_group (param (ascii "group") (g ∷ [])) ≡ true
unfolding same
is-group g = refl

the-group : (g : Bytes) (ps : List Param) → any is_group ps ≡ false → empty g || is_lower_word g ≡ true → group_from (keep is_group (group_param g ++ ps)) ≡ some g
unfolding keep
the-group [] ps h w = rw (keep-none is_group ps h)
the-group (c ∷ g) ps h w = rw (is-group (c ∷ g), w)

the-params : (g : Bytes) (ps : List Param) → any is_group ps ≡ false → keep (λ p. not (is_group p)) (group_param g ++ ps) ≡ ps
unfolding keep
the-params [] ps h = keep_all (λ p. not (is_group p)) ps (all-not is_group ps ∙ ap not h)
the-params (c ∷ g) ps h = rw (is-group (c ∷ g)) (keep_all (λ p. not (is_group p)) ps (all-not is_group ps ∙ ap not h))

pub kept-json : (k : Kept) → ProperKept k → kept_from (kept_json k) ≡ some k
unfolding kept_from kept_json
kept-json k g =
    rw (
      elems-listed (jstr k.name ∷ object (group_member k.group ++ map param_json k.params) ∷ jstr k.type ∷ jstr k.value ∷ []),
      members-listed (group_member k.group ++ map param_json k.params),
      group-back k.group k.params g.values,
      the-group k.group k.params g.no-group g.word,
      the-params k.group k.params g.no-group,
    )
