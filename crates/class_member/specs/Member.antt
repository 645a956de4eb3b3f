-- What JSPROP of a parsed line answers, against `member_class` of 01.
use Rattle.std.specs.Prelude.{◌≡◌, Bool, true, false, ◌||◌, not, List, [], ◌∷◌, ℕ, ◌≤◌, eqb, length, Option, None, Some}
use Rattle.std.proofs.Math.Option.{some}
use Prim.Native.Char.{code}
use Rattle.text.specs.Choice.{pick}
use Rattle.text.specs.Bytes.{Bytes, among}
use Rattle.json_text.specs.Tree.{Json}
use Rattle.convert.specs.Pointer.{pointed}
use Rattle.convert.specs.Classify.{Seen, as_member, as-kept, member_value, member_class}
use Rattle.line_table.specs.Table.{part, Span, line_in}
use Rattle.json_text.specs.Lookup.{room}
use Rattle.class_member.specs.declared.Pointer.{Pointer}

-- all kinds of parameters but VALUE and JSPTR
abbrev pub besides_pointer : List ℕ
besides_pointer = 0 ∷ 1 ∷ 2 ∷ 5 ∷ 6 ∷ 7 ∷ []

-- a byte of a pointer; the flag says that a tilde stands just before
abbrev pub points_on : Bool → ℕ → Bool
points_on true c = eqb c (code "0") || eqb c (code "1")
points_on false c = not (eqb c (code "/"))

-- these pointers point at those names, in order
abbrev pub Pointers : List Bytes → List Bytes → Type 0
Pointers [] [] = Unit {0}
Pointers [] (n ∷ ns) = ⊥
Pointers (p ∷ ps) [] = ⊥
Pointers (p ∷ ps) (n ∷ ns) = (pointed p ≡ some n) × Pointers ps ns

-- a scratch as long as the bytes, and bytes that the reader of JSON takes
pub record Room (s scratch : Bytes) : Type 0 where
  pub fits : length s ≤ length scratch
  pub small : length s ≤ room

-- the pointer from a to b points at a name that no member of the table has, and the value is JSON
pub record MemberAt (s : Bytes) (t : List ℕ) (a b : ℕ) : Type 0 where
  pub span : Span s a b
  pub name : Bytes
  pub points : pointed (part s a b) ≡ some name
  pub json : Json
  pub value : member_value (line_in s t).value ≡ some json
  pub class : (seen : Seen) → member_class seen (line_in s t) ≡ pick (among name seen.members) as-kept (as_member name json)

-- for everything seen before
abbrev pub MemberIs : Bytes → List ℕ → Option Pointer → Type 0
MemberIs s t None = (seen : Seen) → member_class seen (line_in s t) ≡ as-kept
MemberIs s t (Some p) = MemberAt s t p.start p.end
