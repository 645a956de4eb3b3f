-- Strings of a JSON text one after the other in a buffer, and the values of a parameter as rows of a table over it.
use Rattle.std.specs.Prelude.{◌≡◌, Bool, true, false, ◌&&◌, not, List, [], ◌∷◌, ◌++◌, ℕ, zero, suc, ◌+◌, ◌-◌, ◌≤◌, ◌<◌, eqb, leb, length, take, drop, get_or}
use Rattle.std.proofs.Math.Option.{Option, none, some, map}
use Rattle.text.specs.Choice.{pick, chain, provided}
use Rattle.text.specs.Bytes.{Bytes, empty, each, flat}
use Rattle.text.specs.Reader.{got, loop}
use Rattle.json_text.specs.Tree.{Json, jnull, jtrue, jfalse, jnum, jstr, jarr, jobj, Elems, enil, econs, Members, mnil, mcons, elems_of, as_string}
use Rattle.json_text.specs.Syntax.{item, value}
use Rattle.json_text.specs.Strings.{decoded_elems}
use Rattle.json_strings.specs.Decoded.{decoded_at, text_at}
use Rattle.json_index.specs.Index.{json_at}
use Rattle.line.specs.Grammar.{Param, param, param_name, param_values}
use Rattle.line_table.specs.Spread.{spread}
use Rattle.line_table.specs.Table.{part, base, name_at, value_at, rows_in, Span, Spans}
use Rattle.convert.specs.FromJson.{strings, is_lower_word}
use Rattle.std.specs.Prelude.{Option as Maybe, Some, None}
use Rattle.to_card_kept_entry.specs.declared.strings.Rows.{Rows}

-- ---- how many bytes the strings and names of a value have in all

unfoldable mutual
  pub size : Json → ℕ
  size jnull = 0
  size jtrue = 0
  size jfalse = 0
  size (jnum x) = 0
  size (jstr x) = length x
  size (jarr es) = size_elems es
  size (jobj ms) = size_members ms

  pub size_elems : Elems → ℕ
  size_elems enil = 0
  size_elems (econs j es) = size j + size_elems es

  pub size_members : Members → ℕ
  size_members mnil = 0
  size_members (mcons k j ms) = length k + size j + size_members ms

-- ---- strings without an escape

-- the string from a place on stands for the very bytes up to another
pub record BareText (s : Bytes) (at e : ℕ) : Type 0 where
  pub from : at ≤ e
  pub within : e ≤ length s
  pub is : text_at s at ≡ take (e - at) (drop at s)

-- ---- one string more in a buffer whose first n bytes are taken

-- x stands after them, up to k
pub record Grew (b : Bytes) (n : ℕ) (after : Bytes) (k : ℕ) (x : Bytes) : Type 0 where
  pub long : length after ≡ length b
  pub is : take k after ≡ take n b ++ x
  pub to : k ≡ n + length x
  pub within : k ≤ length b

-- where what is in the buffer then ends
abbrev pub To : Type 0
To = Maybe ℕ

-- the same, and how many rows the table then has
abbrev pub RowsTo : Type 0
RowsTo = Maybe Rows

abbrev pub more : ℕ → ℕ → RowsTo
more end count = Some (record { end = end; count = count })

-- the answer of a writer of one string
abbrev pub Puts : Bytes → ℕ → Bytes → To → Bytes → Type 0
Puts b n x (Some k) after = Grew b n after k x
Puts b n x None after = (length after ≡ length b) × (length b < n + length x)

-- what is taken stays in the buffer
abbrev pub Within : ℕ → ℕ → To → Type 0
Within n room (Some k) = (n ≤ k) × (k ≤ room)
Within n room None = Unit {0}

-- where there is a string it is there
abbrev pub PutAs : Bytes → ℕ → To → Bytes → Option Bytes → Type 0
PutAs b n r after none = r ≡ None
PutAs b n r after (some x) = (k : ℕ) × (r ≡ Some k) × Grew b n after k x

-- of whatever value stands at a place, where there is room for its strings
abbrev pub PutsAt : Bytes → ℕ → Bytes → ℕ → To → Bytes → Type 0
PutsAt b n s at r after = (d : ℕ) (v : Json) → json_at d s at ≡ some v → n + size v ≤ length b → PutAs b n r after (as_string v)

-- ---- a table's rows as parameters again

-- a row's parameter begins at a: it is that of the row before
abbrev pub follows_by : List ℕ → ℕ → ℕ → Bool
follows_by t zero a = false
follows_by t (suc m) a = eqb (get_or t (base m) 0) a

-- one value more for the last parameter
unfoldable pub add_to : List Param → Bytes → List Param
add_to [] v = []
add_to (p ∷ []) v = param (param_name p) (param_values p ++ (v ∷ [])) ∷ []
add_to (p ∷ (q ∷ ps)) v = p ∷ add_to (q ∷ ps) v

-- the first n rows: those whose names begin at one place are one parameter
unfoldable pub runs_in : Bytes → List ℕ → ℕ → List Param
runs_in s t zero = []
runs_in s t (suc n) =
    let ps : List Param = runs_in s t n in
    pick (follows_by t n (get_or t (base n) 0)) (add_to ps (value_at s t n)) (ps ++ (param (name_at s t n) (value_at s t n ∷ []) ∷ []))

-- the table holds these parameters
pub record Table (p : Bytes) (t : List ℕ) (m : ℕ) (qs : List Param) : Type 0 where
  pub rows : rows_in p t m ≡ spread qs
  pub runs : runs_in p t m ≡ qs
  pub spans : Spans p t m
  pub begun : (k : ℕ) → k < m → get_or t (base k) 0 < length p

abbrev pub opened : Bytes → List Bytes → List Param
opened n [] = []
opened n (v ∷ vs) = param n (v ∷ vs) ∷ []

-- and these values of a parameter whose name stands from a to e
pub record Adding (p : Bytes) (t : List ℕ) (m a e : ℕ) (qs : List Param) (vs : List Bytes) : Type 0 where
  pub table : Table p t m (qs ++ opened (part p a e) vs)
  pub name : Span p a e
  pub follows : follows_by t m a ≡ not (empty vs)
  pub filled : a < e

-- ---- values of a parameter

-- 01: 64 values at most
abbrev pub capped : ℕ → Option (List Bytes) → Option (List Bytes)
capped m o = chain o λ vs. provided (leb (m + length vs) 64) (some vs)

pub record Added (b : Bytes) (n : ℕ) (t : List ℕ) (m a e : ℕ) (r : RowsTo) (after : Bytes) (u : List ℕ) (ws : List Bytes) : Type 0 where
  pub end : ℕ
  pub said : r ≡ more end (m + length ws)
  pub grew : Grew b n after end (flat ws)
  pub adds : (qs : List Param) (vs : List Bytes) → Adding (take n b) t m a e qs vs → Adding (take n b ++ flat ws) u (m + length ws) a e qs (vs ++ ws)

abbrev pub AddAs : Bytes → ℕ → List ℕ → ℕ → ℕ → ℕ → RowsTo → Bytes → List ℕ → Option (List Bytes) → Type 0
AddAs b n t m a e r after u none = r ≡ None
AddAs b n t m a e r after u (some ws) = Added b n t m a e r after u ws

-- what is taken stays in the buffer and the table
pub record Bounds (b after : Bytes) (t u : List ℕ) : Type 0 where
  pub long : length after ≡ length b
  pub wide : length u ≡ length t

abbrev pub RowsIn : ℕ → ℕ → RowsTo → Type 0
RowsIn n room (Some r) = (n ≤ r.end) × (r.end ≤ room) × (r.count ≤ 64)
RowsIn n room None = Unit {0}

abbrev pub AddsValue : Bytes → ℕ → List ℕ → ℕ → ℕ → ℕ → Bytes → ℕ → RowsTo → Bytes → List ℕ → Type 0
AddsValue b n t m a e s at r after u = (d : ℕ) (v : Json) → json_at d s at ≡ some v → n + size v ≤ length b
    → AddAs b n t m a e r after u (capped m (map (λ x. x ∷ []) (as_string v)))

abbrev pub AddsFrom : Bytes → ℕ → List ℕ → ℕ → ℕ → ℕ → Bytes → ℕ → RowsTo → Bytes → List ℕ → Type 0
AddsFrom b n t m a e s at r after u = (us es : Elems) (w : Bytes) → loop (item (value 11)) (drop at s) ≡ got us w → decoded_elems us ≡ some es
    → n + size_elems es ≤ length b → AddAs b n t m a e r after u (capped m (each as_string (elems_of es)))

abbrev pub AddsValues : Bytes → ℕ → List ℕ → ℕ → ℕ → ℕ → Bytes → ℕ → RowsTo → Bytes → List ℕ → Type 0
AddsValues b n t m a e s at r after u = (v : Json) → json_at 12 s at ≡ some v → n + size v ≤ length b → AddAs b n t m a e r after u (capped m (strings v))

-- ---- the group

abbrev pub sole : List Bytes → Option Bytes
sole [] = none
sole (v ∷ []) = some v
sole (v ∷ (w ∷ ws)) = none

-- the one string of a parameter's value
unfoldable pub sole_in : Json → Option Bytes
sole_in v = chain (strings v) sole

abbrev pub SoleIs : Bytes → ℕ → Option Bytes → Type 0
SoleIs s r none = r ≡ 0
SoleIs s r (some x) = (0 < r) × (decoded_at s r ≡ some x)

abbrev pub TellsSole : Bytes → ℕ → ℕ → Type 0
TellsSole s at r = (v : Json) → json_at 12 s at ≡ some v → SoleIs s r (sole_in v)

-- a group: one string, a name in lower case
unfoldable pub group_of : Json → Option Bytes
group_of v = chain (sole_in v) λ g. provided (is_lower_word g) (some g)

abbrev pub PutsGroup : Bytes → ℕ → Bytes → ℕ → To → Bytes → Type 0
PutsGroup b n s at r after = (v : Json) → json_at 12 s at ≡ some v → n + size v ≤ length b → PutAs b n r after (group_of v)
