-- What FN and N of a parsed line answer, against `full_class` and `parts_class` of 01.
use Rattle.std.specs.Prelude.{◌≡◌, Bool, List, [], ◌∷◌, ℕ}
use Rattle.text.specs.Bytes.{Bytes}
use Rattle.convert.specs.Classify.{Seen, full_class, parts_class}
use Rattle.line_table.specs.Table.{line_in}
use Rattle.convert_entry.specs.Rows.{code_of}

-- all kinds of parameters but VALUE, and these but DERIVED
abbrev pub all_kinds : List ℕ
all_kinds = 0 ∷ 1 ∷ 2 ∷ 4 ∷ 5 ∷ 6 ∷ 7 ∷ []

abbrev pub besides_derived : List ℕ
besides_derived = 0 ∷ 1 ∷ 2 ∷ 4 ∷ 6 ∷ 7 ∷ []

-- for everything seen before in which FN, or N, has converted or not as the flag says
abbrev pub FullClass : Bytes → List ℕ → Bool → ℕ → Type 0
FullClass s t full r = (seen : Seen) → seen.full ≡ full → code_of (full_class seen (line_in s t)) ≡ r

abbrev pub PartsClass : Bytes → List ℕ → Bool → ℕ → Type 0
PartsClass s t parts r = (seen : Seen) → seen.parts ≡ parts → code_of (parts_class seen (line_in s t)) ≡ r
