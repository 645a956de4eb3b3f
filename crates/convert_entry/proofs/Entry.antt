-- Whether a line converts as an entry, test by test.
use mathlib.Core.Path.{◌≡◌, refl, sym, ap, ◌∙◌}
use mathlib.Core.Bool.{Bool, true, false, ◌&&◌}
use mathlib.Core.List.{List, [], ◌∷◌}
use mathlib.Core.Option
use mathlib.Core.Option.{Option, none, some}
use Prim.Native.Nat.{ℕ, zero, suc, ◌-◌}
use native.Mathlib.Omega.{arith}
use lib.Dec.{eqb}
use lib.ListN.{length, take, drop, set, get_or, length-drop}
use lib.Seq.{take_all}
use Rattle.text.specs.Choice.{both, chain, provided, is_some}
use Rattle.text.specs.Bytes.{Bytes, ascii, empty, all, each}
use Rattle.text.proofs.Lists.{all_head, all_tail}
use borrow.Author.Tests.{eqb-true}
use Rattle.line.specs.Grammar.{Param, Line}
use Rattle.line.specs.Params.{values_named, only_named, besides_value, value_type}
use Rattle.convert.specs.Table.{Slot, in_order}
use Rattle.convert.specs.Model.{Entry, singly}
use Rattle.convert.specs.Value.{takes_type, read_as}
use Rattle.convert.specs.Classify.{Seen, key_from, pref_from, types_from, entry_of}
use Rattle.convert_types.specs.Marks.{type_at, marks, told, split}
use Rattle.convert_params.specs.Row.{Clear}
use Rattle.convert_entry.proofs.Named.{types}

-- ---- TYPE

some-both : {A B C : Type 0} (f : A → B → C) (x : Option A) (y : Option B) → is_some (both f x y) ≡ is_some x && is_some y
some-both f (some a) (some b) = refl
some-both f (some a) none = refl
some-both f none y = refl

some-map : {A B : Type 0} (f : A → B) (x : Option A) → is_some (Option.map f x) ≡ is_some x
some-map f (some a) = refl
some-map f none = refl

all-marked : (n : ℕ) (us : List Bytes) (row : List ℕ) → is_some (each (type_at n) us) ≡ is_some (marks n us row)
unfolding each marks
all-marked n [] row = refl
all-marked n (u ∷ us) row = some-both ◌∷◌ (type_at n u) (each (type_at n) us) ∙ onward (type_at n u) (λ c. all-marked n us (set row c 1))
  where
    onward : (o : Option ℕ) → ((c : ℕ) → is_some (each (type_at n) us) ≡ is_some (marks n us (set row c 1)))
        → is_some o && is_some (each (type_at n) us) ≡ is_some (chain o (λ c. marks n us (set row c 1)))
    onward none h = refl
    onward (some c) h = h c

types-each : (n : ℕ) (vs : List Bytes) → is_some (types_from n vs) ≡ is_some (each (type_at n) (split vs))
unfolding types_from type_at split
types-each n vs = some-map in_order (each (type_at n) (split vs))

some-told : (r : Bool) (row : List ℕ) → is_some (told r row) ≡ r
unfolding told
some-told true row = refl
some-told false row = refl

-- what the marking of all TYPE values says
pub types-told : (n : ℕ) (ps : List Param) (r : Bool) (row after : List ℕ) → told r after ≡ marks n (split (values_named (ascii "type") ps)) row
    → is_some (types_from n (values_named (ascii "type") (besides_value ps))) ≡ r
types-told n ps r row after e =
    ap (λ l. is_some (types_from n l)) (sym (types ps))
    ∙ types-each n (values_named (ascii "type") ps)
    ∙ all-marked n (split (values_named (ascii "type") ps)) row
    ∙ ap is_some (sym e)
    ∙ some-told r after

-- ---- the entry

chained : {A B C D E : Type 0} (t : Bool) (k : Option A) (p : Option B) (x : Option C) (v : Option D) (f : A → B → C → D → E)
    → is_some (provided t (chain k λ a. chain p λ b. chain x λ c. chain v λ d. some (f a b c d))) ≡ t && is_some k && is_some p && is_some x && is_some v
chained false k p x v f = refl
chained true none p x v f = refl
chained true (some a) none x v f = refl
chained true (some a) (some b) none v f = refl
chained true (some a) (some b) (some c) none f = refl
chained true (some a) (some b) (some c) (some d) f = refl

pub entry-some : (s : Seen) (w : Slot) (l : Line) → is_some (entry_of s w l)
    ≡ (empty l.group && only_named w.map.parameters (besides_value l.params) && takes_type w.map.form (value_type l.params))
    && is_some (key_from s w.index (values_named (ascii "prop-id") (besides_value l.params))) && is_some (pref_from (values_named (ascii "pref") (besides_value l.params)))
    && is_some (types_from w.map.types (values_named (ascii "type") (besides_value l.params))) && is_some (read_as w.map.form (value_type l.params) l.value)
unfolding entry_of
entry-some s w l =
    let ps : List Param = besides_value l.params in
    let type : Bytes = value_type l.params in
    chained {E = Entry} (empty l.group && only_named w.map.parameters ps && takes_type w.map.form type) (key_from s w.index (values_named (ascii "prop-id") ps))
    (pref_from (values_named (ascii "pref") ps)) (types_from w.map.types (values_named (ascii "type") ps)) (read_as w.map.form type l.value) (λ k p ts vs. record { key = k; which = w.which; parts = singly vs; types = ts; pref = p })

-- ---- rows that are all zero

zero-at : (l : List ℕ) → all (λ x. eqb x 0) l ≡ true → (m : ℕ) → get_or l m 0 ≡ 0
zero-at [] e m = refl
zero-at (x ∷ l) e zero = eqb-true x 0 (all_head (λ x. eqb x 0) x l e)
zero-at (x ∷ l) e (suc m) = zero-at l (all_tail (λ x. eqb x 0) x l e) m

abbrev pub eight : List ℕ
eight = 0 ∷ 0 ∷ 0 ∷ 0 ∷ 0 ∷ 0 ∷ 0 ∷ 0 ∷ []

pub clear-eight : Clear eight eight eight
unfolding all
clear-eight = record {
  wide = record { counts = omega arith; froms = omega arith; tos = omega arith };
  zero = zero-at eight refl;
}

-- `&s[a..]`
pub rest_part : (s : Bytes) (a : ℕ) → take (length s - a) (drop a s) ≡ drop a s
rest_part s a = take_all (length s - a) (drop a s) (omega (arith, length-drop a s))
