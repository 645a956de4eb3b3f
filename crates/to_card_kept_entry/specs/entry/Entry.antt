-- An entry of vCardProps, [name, {parameters}, type, value], as the table of the line that it is.
use Rattle.std.specs.Prelude.{◌≡◌, Bool, true, false, ◌&&◌, not, List, [], ◌∷◌, ◌++◌, ℕ, ◌+◌, ◌≤◌, ◌<◌, leb, length, take, get_or, set}
use Rattle.std.proofs.Math.Option.{Option, none, some}
use Rattle.text.specs.Choice.{pick, with-some, chain, provided}
use Rattle.text.specs.Bytes.{Bytes, ascii, among, same}
use Rattle.json_text.specs.Tree.{Json, as_string, as_array, as_object}
use Rattle.json_strings.specs.Decoded.{decoded_at}
use Rattle.json_index.specs.Index.{json_at, ValueEnds}
use Rattle.line.specs.Grammar.{Param, param, value_count}
use Rattle.line_table.specs.Spread.{spread_line, valued}
use Rattle.line_table.specs.Table.{line_in, Sound}
use Rattle.convert.specs.Model.{Kept}
use Rattle.convert.specs.FromJson.{is_lower_word, kept_as_line, never_kept}
use Rattle.to_card_kept_entry.specs.strings.Strings.{To, RowsTo, more, size, PutAs, Table, runs_in}
use Rattle.to_card_kept_entry.specs.declared.table.Filled.{Filled}
use Rattle.to_card_kept_entry.specs.table.Kept.{Sofar, group_in, params_in, none_yet, steps_of, Has, Stays, ParamAs}
use Rattle.to_card_kept_entry.specs.declared.entry.Four.{Four}
use Rattle.std.specs.Prelude.{Option as Maybe, Some, None}

-- ---- words

abbrev pub PutsWord : Bytes → ℕ → Bytes → ℕ → To → Bytes → Type 0
PutsWord b n s q r after = (x : Bytes) → decoded_at s q ≡ some x → n + length x ≤ length b → PutAs b n r after (provided (is_lower_word x) (some x))

-- a line's name: in lower case, and one that a kept line can have
abbrev pub line_name : Bytes → Option Bytes
line_name x = provided (not (among x never_kept)) (provided (is_lower_word x) (some x))

abbrev pub PutsName : Bytes → ℕ → Bytes → ℕ → To → Bytes → Type 0
PutsName b n s at r after = (d : ℕ) (v : Json) → json_at d s at ≡ some v → n + size v ≤ length b → PutAs b n r after (chain (as_string v) line_name)

-- ---- four elements

-- where they stand
abbrev pub FourAt : Type 0
FourAt = Maybe Four

abbrev pub elements : ℕ → ℕ → ℕ → ℕ → ℕ → FourAt
elements name params kind value end = Some (record { name = name; params = params; kind = kind; value = value; end = end })

-- they are in the text, and the array at a place ends at the last of the places
abbrev pub FourIn : Bytes → ℕ → FourAt → Type 0
FourIn s at (Some f) = (f.name ≤ length s) × (f.params ≤ length s) × (f.kind ≤ length s) × (f.value ≤ length s) × ValueEnds 13 s at f.end
FourIn s at None = Unit {0}

pub record FourHere (s : Bytes) (r : FourAt) (a b c d : Json) : Type 0 where
  pub name : ℕ
  pub params : ℕ
  pub kind : ℕ
  pub value : ℕ
  pub end : ℕ
  pub said : r ≡ elements name params kind value end
  pub is_name : json_at 13 s name ≡ some a
  pub is-params : json_at 13 s params ≡ some b
  pub is-kind : json_at 13 s kind ≡ some c
  pub is-value : json_at 13 s value ≡ some d

abbrev pub FourList : Bytes → FourAt → List Json → Type 0
FourList s r [] = r ≡ None
FourList s r (a ∷ []) = r ≡ None
FourList s r (a ∷ (b ∷ [])) = r ≡ None
FourList s r (a ∷ (b ∷ (c ∷ []))) = r ≡ None
FourList s r (a ∷ (b ∷ (c ∷ (d ∷ [])))) = FourHere s r a b c d
FourList s r (a ∷ (b ∷ (c ∷ (d ∷ (e ∷ es))))) = r ≡ None

abbrev pub FourIs : Bytes → FourAt → Option (List Json) → Type 0
FourIs s r none = r ≡ None
FourIs s r (some js) = FourList s r js

abbrev pub TellsFour : Bytes → ℕ → FourAt → Type 0
TellsFour s at r = (v : Json) → json_at 14 s at ≡ some v → FourIs s r (as_array v)

-- ---- the type, as VALUE

abbrev pub typed_as : ℕ → Bytes → Option (List Bytes)
typed_as m x = provided (leb (m + 1) 64) (provided (is_lower_word x) (some (x ∷ [])))

abbrev pub PutsTyped : Bytes → ℕ → List ℕ → ℕ → Bytes → ℕ → RowsTo → Bytes → List ℕ → Type 0
PutsTyped b n t m s at r after u = (d : ℕ) (v : Json) → json_at d s at ≡ some v → n + (5 + size v) ≤ length b
    → ParamAs b n t m r after u (ascii "value") (chain (as_string v) (typed_as m))

abbrev pub is_unknown : Bytes → Bool
is_unknown x = same (ascii "unknown") x

-- no parameter where it is unknown
abbrev pub type_param : Bytes → List Param
type_param x = pick (is_unknown x) [] (param (ascii "value") (x ∷ []) ∷ [])

-- 01: 32 parameters and 64 values at most, and a type in lower case
abbrev pub type_fits : ℕ → ℕ → Bytes → Bool
type_fits m c x = pick (is_unknown x) (leb c 32) (leb (c + 1) 32 && (leb (m + 1) 64 && is_lower_word x))

pub record AddedType (b : Bytes) (n : ℕ) (t : List ℕ) (m most : ℕ) (r : RowsTo) (after : Bytes) (u : List ℕ) (x : Bytes) : Type 0 where
  pub end : ℕ
  pub said : r ≡ more end (m + length (type_param x))
  pub stays : Stays b n after end
  pub short : end ≤ most
  pub table : (qs : List Param) → Table (take n b) t m qs → Table (take end after) u (m + length (type_param x)) (qs ++ type_param x)

abbrev pub TypeAs : Bytes → ℕ → List ℕ → ℕ → ℕ → RowsTo → Bytes → List ℕ → Option Bytes → Type 0
TypeAs b n t m most r after u none = r ≡ None
TypeAs b n t m most r after u (some x) = AddedType b n t m most r after u x

abbrev pub PutsType : Bytes → ℕ → List ℕ → ℕ → ℕ → Bytes → ℕ → RowsTo → Bytes → List ℕ → Type 0
PutsType b n t m c s at r after u = (d : ℕ) (v : Json) → json_at d s at ≡ some v → n + (5 + size v) ≤ length b
    → TypeAs b n t m (n + (5 + size v)) r after u (chain (as_string v) λ x. provided (type_fits m c x) (some x))

-- ---- the whole line

unfoldable pub headed_at : List ℕ → ℕ → ℕ → ℕ → ℕ → ℕ → ℕ → List ℕ
headed_at t from to end value stop n = set (set (set (set (set (set (set t 0 from) 1 to) 2 0) 3 end) 4 value) 5 stop) 6 n

pub record HoldsKept (b : Bytes) (t : List ℕ) (k : Kept) : Type 0 where
  pub held : line_in b t ≡ spread_line (kept_as_line k)
  pub runs : runs_in b t (get_or t 6 0) ≡ (kept_as_line k).params
  pub valued : valued (kept_as_line k).params ≡ true
  pub sound : Sound b t

abbrev pub HoldsAs : Bytes → List ℕ → Bool → Option Kept → Type 0
HoldsAs b t r none = r ≡ false
HoldsAs b t r (some k) = (r ≡ true) × HoldsKept b t k

abbrev pub group_text : Option Bytes → Bytes
group_text none = []
group_text (some g) = g

abbrev pub kept_of : Bytes → Sofar → Bytes → Bytes → Kept
kept_of n z x v = record { name = n; group = group_text (group_in z); params = params_in z; type = x; value = v }

-- type and value, after name and parameters
unfoldable pub composed_rest : Bytes → Sofar → Json → Json → Option Kept
composed_rest n z jt jv =
    chain (chain (as_string jt) λ x. provided (type_fits (value_count (params_in z)) (length (params_in z)) x) (some x)) λ x.
    chain (as_string jv) λ v. some (kept_of n z x v)

abbrev pub composed_four : List Json → Option Kept
composed_four [] = none
composed_four (n ∷ []) = none
composed_four (n ∷ (ps ∷ [])) = none
composed_four (n ∷ (ps ∷ (t ∷ []))) = none
composed_four (n ∷ (ps ∷ (t ∷ (v ∷ [])))) = chain (chain (as_string n) line_name) λ x. chain (chain (as_object ps) (steps_of none_yet)) λ z. composed_rest x z t v
composed_four (n ∷ (ps ∷ (t ∷ (v ∷ (w ∷ ws))))) = none

-- `formed` (`specs/table`), in the order in which code reads it: law `composed-is`
unfoldable pub composed : Json → Option Kept
composed j = chain (as_array j) composed_four

abbrev pub FillsRest : Bytes → List ℕ → Filled → ℕ → Bytes → ℕ → ℕ → Bool → Bytes → List ℕ → Type 0
FillsRest b t f e s kind value r after u = (z : Sofar) → Has b t f z → (jt jv : Json) → json_at 13 s kind ≡ some jt → json_at 13 s value ≡ some jv
    → f.end + (5 + size jt) + size jv ≤ length b → HoldsAs after u r (composed_rest (take e b) z jt jv)

abbrev pub FillsKept : Bytes → Bytes → ℕ → Bool → Bytes → List ℕ → Type 0
FillsKept b s at r after u = (j : Json) → json_at 14 s at ≡ some j → size j + 5 ≤ length b → HoldsAs after u r (composed j)
