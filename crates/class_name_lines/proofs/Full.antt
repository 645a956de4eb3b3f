-- The class of FN and of N, test by test in the code's order.
use mathlib.Core.Path.{◌≡◌, refl, sym, ap, ◌∙◌}
use mathlib.Core.Bool.{Bool, true, false, ◌&&◌}
use mathlib.Core.List.{List}
use mathlib.Core.Option.{Option, none, some}
use Prim.Native.Nat.{ℕ}
use lib.Dec.{eqb}
use Rattle.text.specs.Choice.{pick, with-some, is_some}
use Rattle.text.specs.Bytes.{Bytes, empty}
use Rattle.line.specs.Grammar.{Line}
use Rattle.line.specs.Params.{besides_value, value_type}
use Rattle.line.specs.Text.{read_text}
use Rattle.convert.specs.Value.{read_name}
use Rattle.convert.specs.Classify.{Seen, as-full, as_parts, as-kept, bare, is_derived, full_class, parts_class}
use Rattle.convert_entry.specs.Rows.{code_of, type_number}
use Rattle.convert_entry.proofs.Tests.{number-unknown}

-- ---- a bare line

pub grouped : (l : Line) → empty l.group ≡ false → bare l ≡ false
grouped l g = rw g

pub bare-kind : (l : Line) (k : ℕ) → empty l.group ≡ true → k ≡ type_number (value_type l.params) → bare l ≡ eqb k 0
bare-kind l k g e = rw (g, e) (sym (number-unknown (value_type l.params)))

and-false : (a : Bool) → a && false ≡ false
and-false true = refl
and-false false = refl

-- ---- FN

full-code : (o : Option Bytes) → code_of (with-some o as-full as-kept) ≡ pick (is_some o) 21 16
full-code none = refl
full-code (some v) = refl

module _ (l : Line) (seen : Seen) where
  abbrev Full : ℕ → Type 0
  Full r = code_of (full_class seen l) ≡ r

  pub full-unbare : bare l ≡ false → Full 16
  unfolding full_class
  full-unbare b = rw b

  module _ (b : bare l ≡ true) where
    pub full-dropped : is_derived (besides_value l.params) ≡ true → Full 17
    unfolding full_class
    full-dropped d = rw (b, d)

    module _ (d : is_derived (besides_value l.params) ≡ false) where
      pub full-again : seen.full ≡ true → Full 16
      unfolding full_class
      full-again f = rw (b, d, f, and-false (empty (besides_value l.params)))

      pub full-params : empty (besides_value l.params) ≡ false → Full 16
      unfolding full_class
      full-params e = rw (b, d, e)

      pub full-read : seen.full ≡ false → empty (besides_value l.params) ≡ true → (r : Bool) → r ≡ is_some (read_text l.value) → Full (pick r 21 16)
      unfolding full_class
      full-read f e r h = rw (b, d, f, e) (full-code (read_text l.value) ∙ ap (λ x. pick x 21 16) (sym h))

-- ---- N

parts-code : (o : Option (List (List Bytes))) → code_of (with-some o as_parts as-kept) ≡ pick (is_some o) 22 16
parts-code none = refl
parts-code (some v) = refl

module _ (l : Line) (seen : Seen) where
  abbrev Parts : ℕ → Type 0
  Parts r = code_of (parts_class seen l) ≡ r

  pub parts_again : seen.parts ≡ true → Parts 16
  unfolding parts_class
  parts_again f = rw (f, and-false (bare l && empty (besides_value l.params)))

  pub parts-unbare : bare l ≡ false → Parts 16
  unfolding parts_class
  parts-unbare b = rw b

  module _ (b : bare l ≡ true) where
    pub parts-params : empty (besides_value l.params) ≡ false → Parts 16
    unfolding parts_class
    parts-params e = rw (b, e)

    pub parts-read : seen.parts ≡ false → empty (besides_value l.params) ≡ true → (r : Bool) → r ≡ is_some (read_name l.value) → Parts (pick r 22 16)
    unfolding parts_class
    parts-read f e r h = rw (b, f, e) (parts-code (read_name l.value) ∙ ap (λ x. pick x 22 16) (sym h))
