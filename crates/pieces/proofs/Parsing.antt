-- Lines taken apart, one after the other.
use mathlib.Core.Path.{◌≡◌, refl, sym, ap, ap₂, ◌∙◌}
use mathlib.Core.Bool.{Bool, true, false}
use mathlib.Core.List.{List, [], ◌∷◌}
use mathlib.Core.Option.{none, some}
use Prim.Native.Nat.{ℕ, suc, ◌+◌, ◌-◌, ◌≤◌, ◌<◌}
use native.Mathlib.Omega.{arith}
use lib.Dec.{eqb}
use lib.ListN.{length, get_or}
use borrow.Author.Tests.{le-ltb, lt-ltb, ne_eqb}
use Rattle.text.specs.Choice.{pick, is_some}
use Rattle.text.proofs.Cases.{not-both}
use Rattle.text.specs.Bytes.{Bytes, ascii}
use Rattle.line.specs.Grammar.{Line, Param, read_line}
use Rattle.line.specs.Params.{values_named}
use Rattle.line_unfold.specs.Table.{line_at}
use Rattle.line_table.specs.Table.{line_in, table_length, Holds, Filled}
use Rattle.line_table.specs.Spread.{spread_line}
use Rattle.convert_types.specs.Marks.{marks, told, split}
use Rattle.convert_params.specs.Row.{values_kind, Row}
use Rattle.card_table.specs.Numbers.{type_count}
use Rattle.pieces.specs.Given.{parts_from, known_params, passed, parsed, parsed_lines}

-- ---- one line

-- a parameter of another kind
pub other-known : {s C F T : List ℕ} {ps : List Param} → Row s C F T ps → (get_or C 7 0 ≡ 0 → ⊥) → false ≡ known_params ps
unfolding known_params
other-known {ps = ps} r h =
    let n : length (values_kind 7 ps) ≡ 0 → ⊥ = λ e. h ((r.held 7 (omega arith)).count ∙ e) in
    rw (ne_eqb (length (values_kind 7 ps)) 0 n) refl

told-some : (r : Bool) (f : List ℕ) → is_some (told r f) ≡ r
unfolding told
told-some true f = refl
told-some false f = refl

-- none of them: TYPE decides
pub types-known : {s C F T : List ℕ} {ps : List Param} (f : List ℕ) (r : Bool) → Row s C F T ps → get_or C 7 0 ≡ 0
    → told r f ≡ marks type_count (split (values_named (ascii "type") ps)) (0 ∷ 0 ∷ 0 ∷ 0 ∷ 0 ∷ 0 ∷ 0 ∷ 0 ∷ 0 ∷ []) → r ≡ known_params ps
unfolding known_params
types-known {ps = ps} f r row e t =
    let z : length (values_kind 7 ps) ≡ 0 = sym (row.held 7 (omega arith)).count ∙ e in
    rw z (sym (told-some r f) ∙ ap is_some t)

pub passed-any : (marks : ℕ) (ps : List Param) → marks ≡ 0 → 1 ≡ passed marks ps
unfolding passed
passed-any marks ps e = rw e refl

pub passed-known : (marks : ℕ) (ps : List Param) (r : Bool) → (marks ≡ 0 → ⊥) → r ≡ known_params ps → r ≡ true → 1 ≡ passed marks ps
unfolding passed
passed-known marks ps r h e t = rw (ne_eqb marks 0 h, sym e ∙ t) refl

pub passed-not : (marks : ℕ) (ps : List Param) (r : Bool) → (marks ≡ 0 → ⊥) → r ≡ known_params ps → r ≡ false → 0 ≡ passed marks ps
unfolding passed
passed-not marks ps r h e t = rw (ne_eqb marks 0 h, sym e ∙ t) refl

bit-small : (a b : Bool) → pick a 1 (pick b 1 0) ≤ 1
bit-small true b = omega arith
bit-small false true = omega arith
bit-small false false = omega arith

pub one_at_most : (marks : ℕ) (ps : List Param) → passed marks ps ≤ 1
unfolding passed
one_at_most marks ps = bit-small (eqb marks 0) (known_params ps)

-- ---- line by line

module _ (bytes starts : List ℕ) (marks : ℕ) where
  -- how many of the lines from the k-th on pass
  abbrev pub pass_from : ℕ → ℕ → ℕ
  pass_from k m = parsed marks (parts_from bytes starts k m)

  pub pass_all : (n : ℕ) → 0 + pass_from 0 (n - 0) ≡ pass_from 0 n
  pass_all n =
      let e : n - 0 ≡ n = omega arith in
      let q : pass_from 0 (n - 0) ≡ pass_from 0 n = ap (pass_from 0) e in
      omega (arith, q)

  next-read : (k m : ℕ) (l : Line) → read_line (line_at bytes starts k) ≡ some l → pass_from k (suc m) ≡ passed marks (spread_line l).params + pass_from (suc k) m
  unfolding parts_from parsed
  next-read k m l e = rw e refl

  next-none : (k m : ℕ) → read_line (line_at bytes starts k) ≡ none → pass_from k (suc m) ≡ 0
  unfolding parts_from parsed
  next-none k m e = rw e refl

  later : (k n : ℕ) → k < n → n - k ≡ suc (n - (k + 1))
  later k n h = omega (arith, h)

  -- a line that the table holds
  pub pass-one : (k n good one : ℕ) (s t : List ℕ) → s ≡ line_at bytes starts k → k < n → Holds s t → one ≡ passed marks (line_in s t).params
      → good + pass_from k (n - k) ≡ pass_from 0 n → (good + one) + pass_from (k + 1) (n - (k + 1)) ≡ pass_from 0 n
  pass-one k n good one s t w h f e g =
      let p : passed marks (line_in s t).params ≡ passed marks (spread_line f.line).params = ap (λ l. passed marks l.params) f.held in
      let j : suc k ≡ k + 1 = omega arith in
      let q : pass_from k (n - k) ≡ one + pass_from (k + 1) (n - (k + 1)) =
      ap (pass_from k) (later k n h) ∙ next-read k (n - (k + 1)) f.line (ap read_line (sym w) ∙ f.is) ∙ ap₂ (λ x i. x + pass_from i (n - (k + 1))) (sym (e ∙ p)) j in
      omega (arith, q, g)

  -- what is no line ends it
  pub pass-stop : (k n good : ℕ) (s : Bytes) → s ≡ line_at bytes starts k → k < n → read_line s ≡ none → good + pass_from k (n - k) ≡ pass_from 0 n → good ≡ pass_from 0 n
  pass-stop k n good s w h e g =
      let q : pass_from k (n - k) ≡ 0 = ap (pass_from k) (later k n h) ∙ next-none k (n - (k + 1)) (ap read_line (sym w) ∙ e) in
      omega (arith, q, g)

  none_left : (k : ℕ) → pass_from k 0 ≡ 0
  unfolding parts_from parsed
  none_left k = refl

  pub pass-end : (k n good : ℕ) → n ≤ k → good + pass_from k (n - k) ≡ pass_from 0 n → good ≡ pass_from 0 n
  pass-end k n good h g =
      let z : n - k ≡ 0 = omega (arith, h) in
      let q : pass_from k (n - k) ≡ 0 = ap (pass_from k) z ∙ none_left k in
      omega (arith, q, g)

-- ---- the lent table

pub short-table : (table bytes starts : List ℕ) (n marks : ℕ) → length table < table_length → 0 ≡ parsed_lines table bytes starts n marks
unfolding parsed_lines
short-table table bytes starts n marks h = rw (lt-ltb (length table) table_length h) refl

pub wide-table : (table bytes starts : List ℕ) (n marks r : ℕ) → table_length ≤ length table → r ≡ parsed marks (parts_from bytes starts 0 n)
    → r ≡ parsed_lines table bytes starts n marks
unfolding parsed_lines
wide-table table bytes starts n marks r h e = rw (le-ltb (length table) table_length h) e

pub holds_as : (s t : List ℕ) (r : Bool) → r ≡ true → Filled s t r → Holds s t
holds_as s t true e h = h
holds_as s t false e h = not-both e refl

pub no_line : (s t : List ℕ) (r : Bool) → r ≡ false → Filled s t r → read_line s ≡ none
no_line s t false e h = h
no_line s t true e h = not-both refl e
