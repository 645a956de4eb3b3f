-- An entry of vCardProps as a line's table: what its form must be, its parameters one after the other, and what the table then holds.
use Rattle.std.specs.Prelude.{◌≡◌, Bool, true, false, ◌&&◌, not, List, [], ◌∷◌, ◌++◌, ℕ, zero, suc, ◌+◌, ◌≤◌, ◌<◌, length, take, drop, get_or}
use Rattle.std.proofs.Math.Option.{Option, none, some, map}
use Rattle.text.specs.Choice.{pick, with-some, chain, provided}
use Rattle.text.specs.Bytes.{Bytes, ascii, all, among, empty, same, flat}
use Rattle.text.specs.Reader.{got, loop}
use Rattle.json_text.specs.Tree.{Json, Members, Member, member, members_of, as_string, as_object}
use Rattle.json_text.specs.Syntax.{pair, value}
use Rattle.json_text.specs.Strings.{decoded_members}
use Rattle.json_strings.specs.Decoded.{decoded_at}
use Rattle.json_index.specs.Index.{json_at}
use Rattle.line.specs.Grammar.{Param, param, param_name, Line, value_count, fits}
use Rattle.line_table.specs.Spread.{spread, spread_line, valued}
use Rattle.line_table.specs.Table.{part, line_in, Span, Sound}
use Rattle.convert.specs.Model.{Kept}
use Rattle.convert.specs.FromJson.{strings, is_lower_word, kept_from, kept_as_line, never_kept}
use Rattle.to_card_kept_entry.specs.strings.Strings.{RowsTo, more, size, size_members, Grew, PutAs, Table, capped, group_of, runs_in}
use Rattle.to_card_kept_entry.specs.declared.table.Filled.{Filled}
use Rattle.std.specs.Prelude.{Option as Maybe, Some, None}

-- ---- the form of a kept line (`kept_stands` without the class)

-- a parameter's name: in lower case, and not VALUE
abbrev pub good_name : Bytes → Bool
good_name n = is_lower_word n && not (same n (ascii "value"))

unfoldable pub kept_form : Kept → Bool
kept_form k =
    is_lower_word k.name && not (among k.name never_kept) && is_lower_word k.type
    && all (λ p. is_lower_word (param_name p) && not (same (param_name p) (ascii "value"))) k.params && fits (kept_as_line k).params

-- what an entry says, where its form is that of a kept line
unfoldable pub formed : Json → Option Kept
formed j = chain (kept_from j) λ k. provided (kept_form k) (some k)

-- ---- its parameters, one after the other

-- the group, if it was met, and the parameters so far
pub data Sofar : Type 0 where
  sofar : Option Bytes → List Param → Sofar

abbrev pub group_in : Sofar → Option Bytes
group_in (sofar g ps) = g

abbrev pub params_in : Sofar → List Param
params_in (sofar g ps) = ps

-- a group, where there was none
abbrev pub group_step : Option Bytes → List Param → Option Bytes → Option Sofar
group_step none ps o = map (λ w. sofar (some w) ps) o
group_step (some g) ps o = none

abbrev pub fit_param : ℕ → Bytes → Json → Option (List Bytes)
fit_param m k v = chain (capped m (strings v)) λ vs. provided (good_name k) (some vs)

abbrev pub param_step : Option Bytes → List Param → Bytes → Option (List Bytes) → Option Sofar
param_step g ps k o = map (λ vs. sofar g (ps ++ (param k vs ∷ []))) o

unfoldable pub step_of : Sofar → Bytes → Json → Option Sofar
step_of z k v = pick (same (ascii "group") k) (group_step (group_in z) (params_in z) (group_of v)) (param_step (group_in z) (params_in z) k (fit_param (value_count (params_in z)) k v))

unfoldable pub steps_of : Sofar → List Member → Option Sofar
steps_of z [] = some z
steps_of z (member k v ∷ ms) = chain (step_of z k v) λ y. steps_of y ms

-- ---- what the buffer and the table hold of them

abbrev pub GroupAt : Bytes → ℕ → ℕ → Option Bytes → Type 0
GroupAt p from to none = (from ≡ 0) × (to ≡ 0)
GroupAt p from to (some w) = Span p from to × (part p from to ≡ w) × (0 < to)

pub record Has (b : Bytes) (t : List ℕ) (f : Filled) (z : Sofar) : Type 0 where
  pub table : Table (take f.end b) t f.rows (params_in z)
  pub few : f.rows ≡ value_count (params_in z)
  pub many : f.count ≡ length (params_in z)
  pub group : GroupAt (take f.end b) f.from f.to (group_in z)

-- what is taken of the buffer stays
pub record Stays (b : Bytes) (n : ℕ) (after : Bytes) (k : ℕ) : Type 0 where
  pub long : length after ≡ length b
  pub from : n ≤ k
  pub within : k ≤ length b
  pub is : take n after ≡ take n b

-- ---- one parameter

pub record AddedParam (b : Bytes) (n : ℕ) (t : List ℕ) (m : ℕ) (r : RowsTo) (after : Bytes) (u : List ℕ) (k : Bytes) (ws : List Bytes) : Type 0 where
  pub end : ℕ
  pub said : r ≡ more end (m + length ws)
  pub grew : Grew b n after end (k ++ flat ws)
  pub adds : (qs : List Param) → Table (take n b) t m qs → Table (take n b ++ (k ++ flat ws)) u (m + length ws) (qs ++ (param k ws ∷ []))

abbrev pub ParamAs : Bytes → ℕ → List ℕ → ℕ → RowsTo → Bytes → List ℕ → Bytes → Option (List Bytes) → Type 0
ParamAs b n t m r after u k none = r ≡ None
ParamAs b n t m r after u k (some ws) = AddedParam b n t m r after u k ws

abbrev pub PutsParam : Bytes → ℕ → List ℕ → ℕ → Bytes → ℕ → ℕ → RowsTo → Bytes → List ℕ → Type 0
PutsParam b n t m s q at r after u = (k : Bytes) (v : Json) → decoded_at s q ≡ some k → json_at 12 s at ≡ some v → n + (length k + size v) ≤ length b
    → ParamAs b n t m r after u k (fit_param m k v)

-- ---- all of them

abbrev pub Step : Type 0
Step = Maybe Filled

-- bounds, whatever the text is
abbrev pub StepIn : ℕ → ℕ → ℕ → Step → Type 0
StepIn n room count (Some f) = (n ≤ f.end) × (f.end ≤ room) × (f.rows ≤ 64) × (f.count ≤ count)
StepIn n room count None = Unit {0}

pub record Stepped (b : Bytes) (n : ℕ) (most : ℕ) (r : Step) (after : Bytes) (u : List ℕ) (z : Sofar) : Type 0 where
  pub filled : Filled
  pub said : r ≡ Some filled
  pub has : Has after u filled z
  pub stays : Stays b n after filled.end
  pub short : filled.end ≤ most

abbrev pub StepAs : Bytes → ℕ → ℕ → Step → Bytes → List ℕ → Option Sofar → Type 0
StepAs b n most r after u none = r ≡ None
StepAs b n most r after u (some z) = Stepped b n most r after u z

abbrev pub PutsMember : Bytes → List ℕ → Filled → Bytes → ℕ → ℕ → Step → Bytes → List ℕ → Type 0
PutsMember b t f s q at r after u = (k : Bytes) (v : Json) → decoded_at s q ≡ some k → json_at 12 s at ≡ some v → (z : Sofar) → Has b t f z → f.end + (length k + size v) ≤ length b
    → StepAs b f.end (f.end + (length k + size v)) r after u (step_of z k v)

abbrev pub none_yet : Sofar
none_yet = sofar none []

abbrev pub PutsFrom : Bytes → ℕ → Bytes → ℕ → Step → Bytes → List ℕ → Type 0
PutsFrom b n s at r after u = (us ms : Members) (w : Bytes) → loop (pair (value 12)) (drop at s) ≡ got us w → decoded_members us ≡ some ms → n + size_members ms ≤ length b
    → StepAs b n (n + size_members ms) r after u (steps_of none_yet (members_of ms))

abbrev pub PutsObject : Bytes → ℕ → Bytes → ℕ → Step → Bytes → List ℕ → Type 0
PutsObject b n s at r after u = (v : Json) → json_at 13 s at ≡ some v → n + size v ≤ length b
    → StepAs b n (n + size v) r after u (chain (as_object v) (steps_of none_yet))
