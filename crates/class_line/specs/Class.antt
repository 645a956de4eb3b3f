-- What the classifier answers, against `classify` of 01: its number and what is seen with the line, for everything that was seen before.
use Rattle.std.specs.Prelude.{◌≡◌, Bool, true, false, List, ◌∷◌, ℕ, ◌<◌}
use Rattle.std.proofs.Math.Option.{some}
use Rattle.text.specs.Choice.{pick, with-some}
use Rattle.text.specs.Bytes.{Bytes, any, among, lowered}
use Rattle.convert.specs.Pointer.{pointed}
use Rattle.convert.specs.Classify.{Seen, id, is_id, see, classify}
use Rattle.convert_entry.specs.Rows.{code_of}
use Rattle.line_table.specs.Table.{part, Span, line_in}
use Rattle.class_properties.specs.Names.{name_number}
use Rattle.class_line.specs.declared.Class.{Class as Answer}
use Rattle.class_line.specs.declared.Class.TheVariants.{Kept, Dropped, Version, Uid, Kind, Full, Parts, Entry, Keyed, Member}

-- ---- the two questions

-- an earlier converted line of the map i has the PROP-ID from a to b
abbrev pub id_used : Seen → Bytes → ℕ → ℕ → ℕ → Bool
id_used seen s i a b = any (is_id i (part s a b)) seen.ids

-- an earlier JSPROP line made the member that the pointer from a to b points at
abbrev pub member_used : Seen → Bytes → ℕ → ℕ → Bool
member_used seen s a b = with-some (pointed (part s a b)) (λ n. among n seen.members) true

-- ---- the number, as `code_of` has it

abbrev pub number_of : Seen → Bytes → Answer → ℕ
number_of seen s Kept = 16
number_of seen s Dropped = 17
number_of seen s Version = 18
number_of seen s Uid = 19
number_of seen s Kind = 20
number_of seen s Full = 21
number_of seen s Parts = 22
number_of seen s (Entry i) = i
number_of seen s (Keyed i a b) = pick (id_used seen s i a b) 16 i
number_of seen s (Member a b) = pick (member_used seen s a b) 16 23

-- ---- what is seen with the line, as `see` has it

abbrev pub with_member : Seen → Bytes → Seen
with_member seen n = record { full = seen.full; parts = seen.parts; ids = seen.ids; members = n ∷ seen.members }

abbrev pub seen_with : Seen → Bytes → Answer → Seen
seen_with seen s Kept = seen
seen_with seen s Dropped = seen
seen_with seen s Version = seen
seen_with seen s Uid = seen
seen_with seen s Kind = seen
seen_with seen s Full = record { full = true; parts = seen.parts; ids = seen.ids; members = seen.members }
seen_with seen s Parts = record { full = seen.full; parts = true; ids = seen.ids; members = seen.members }
seen_with seen s (Entry i) = seen
seen_with seen s (Keyed i a b) =
    pick (id_used seen s i a b) seen (record { full = seen.full; parts = seen.parts; ids = id i (part s a b) ∷ seen.ids; members = seen.members })
seen_with seen s (Member a b) = pick (member_used seen s a b) seen (with-some (pointed (part s a b)) (with_member seen) seen)

-- ---- places

-- a pointer, to the member of that name
pub record Points (s : Bytes) (a b : ℕ) : Type 0 where
  pub span : Span s a b
  pub name : Bytes
  pub is : pointed (part s a b) ≡ some name

abbrev pub ClassIn : Bytes → Answer → Type 0
ClassIn s Kept = Unit {0}
ClassIn s Dropped = Unit {0}
ClassIn s Version = Unit {0}
ClassIn s Uid = Unit {0}
ClassIn s Kind = Unit {0}
ClassIn s Full = Unit {0}
ClassIn s Parts = Unit {0}
ClassIn s (Entry i) = i < 7
ClassIn s (Keyed i a b) = (i < 7) × Span s a b
ClassIn s (Member a b) = Points s a b

-- for everything seen before, in which FN and N have converted or not as the flags say
pub record Classes (s : Bytes) (t : List ℕ) (full parts : Bool) (r : Answer) : Type 0 where
  pub within : ClassIn s r
  pub code : (seen : Seen) → seen.full ≡ full → seen.parts ≡ parts → code_of (classify seen (line_in s t)) ≡ number_of seen s r
  pub sees : (seen : Seen) → seen.full ≡ full → seen.parts ≡ parts → see seen (classify seen (line_in s t)) ≡ seen_with seen s r

-- whatever the flags, or one of them
abbrev pub AnyFlags : Bytes → List ℕ → Answer → Type 0
AnyFlags s t r = (full parts : Bool) → Classes s t full parts r

abbrev pub FullFlags : Bytes → List ℕ → Bool → Answer → Type 0
FullFlags s t full r = (parts : Bool) → Classes s t full parts r

abbrev pub PartsFlags : Bytes → List ℕ → Bool → Answer → Type 0
PartsFlags s t parts r = (full : Bool) → Classes s t full parts r

-- the number of the line's name
abbrev pub Numbered : Bytes → List ℕ → ℕ → Type 0
Numbered s t k = name_number (lowered (line_in s t).name) ≡ k
