-- What the contracts of this crate cite: contexts, features and pref of an entry, and the parameters that they make.
use Rattle.std.specs.Prelude.{◌≡◌, Bool, true, false, ◌&&◌, ◌||◌, List, [], ◌∷◌, ◌++◌, map, ℕ, zero, suc, ◌-◌, eqb, ltb, leb, length, take, drop, get_or, set, Err, Result, Ok}
use Rattle.to_card_params.specs.declared.Pref.{Pref}
use Rattle.to_card_pen.specs.declared.NoCard.{NoCard}
use Rattle.to_card_pen.specs.Refusal.{no_card}
use Rattle.std.proofs.Math.Option.{Option, none, some}
use Prim.Native.Char.{code}
use Rattle.text.specs.Choice.{pick, with-some, chain, provided}
use Rattle.text.specs.Bytes.{Bytes, ascii, empty, parts}
use Rattle.json_text.specs.Tree.{Json, as_number}
use Rattle.json_access.specs.declared.Kind.{Kind}
use Rattle.json_access.specs.declared.Kind.TheVariants.{Null, True, False, Number, String, Array, Object}
use Rattle.json_index.specs.Index.{Slot}
use Rattle.convert.specs.Table.{TypeName, json_type}
use Rattle.convert.specs.Value.{is_pref}
use Rattle.convert.specs.FromJson.{flags_from}

abbrev pub code_of : Kind → ℕ
code_of Null = 0
code_of True = 1
code_of False = 2
code_of Number = 3
code_of String = 4
code_of Array = 5
code_of Object = 6

-- ---- contexts and features

-- a row of marks with one more mark for each of these places
unfoldable pub mark_all : List ℕ → List ℕ → List ℕ
mark_all row [] = row
mark_all row (c ∷ cs) = mark_all (set row c 1) cs

-- contexts or features, none of them where the member is absent
unfoldable pub flags_in : ℕ → List TypeName → Option Json → Option (List ℕ)
flags_in i ts o = with-some o (flags_from i ts) (some [])

abbrev pub FlagsAs : List ℕ → Bool → List ℕ → Option (List ℕ) → Type 0
FlagsAs row r after none = r ≡ false
FlagsAs row r after (some cs) = (r ≡ true) × (after ≡ mark_all row cs)

-- of the value in a slot: whether each member is a flag of the table, and then a mark for each
abbrev pub TellsFlags : Bytes → ℕ → ℕ → Bytes → List ℕ → Bool → List ℕ → Type 0
TellsFlags s slot base names row r after = (ts : List TypeName) → parts (code ",") names ≡ map json_type ts → (o : Option Json) → Slot 13 s slot o → FlagsAs row r after (flags_in base ts o)

-- the values of TYPE at these marks: what stands before one, one of k places from c on
unfoldable pub type_lead : Bool → Bytes
type_lead begun = pick begun (ascii ",") (ascii ";TYPE=")

unfoldable pub type_part : List Bytes → ℕ → Bool → Bool → Bytes
type_part names c on begun = pick on (type_lead begun ++ get_or names c []) []

unfoldable pub types_from : List Bytes → List ℕ → ℕ → ℕ → Bool → Bytes
types_from names row zero c begun = []
types_from names row (suc k) c begun = type_part names c (eqb (get_or row c 0) 1) begun ++ types_from names row k (suc c) (begun || eqb (get_or row c 0) 1)

-- ---- pref

-- as it is spelled; nothing where the member is absent
unfoldable pub pref_in : Option Json → Option Bytes
pref_in o = with-some o (λ v. chain (as_number v) λ p. provided (is_pref p) (some p)) (some [])

-- the bytes from a to e, where these are places of the text
unfoldable pub span_of : Bytes → ℕ → ℕ → Bytes
span_of s a e = pick (leb e (length s) && ltb a e) (take (e - a) (drop a s)) []

abbrev pub Sought : Type 0
Sought = Result Pref NoCard

abbrev pub pref_at : ℕ → ℕ → Sought
pref_at a e = Ok (record { start = a; end = e })

abbrev pub PrefAs : Bytes → Sought → Option Bytes → Type 0
PrefAs s r none = r ≡ Err no_card
PrefAs s r (some p) = (a : ℕ) × (e : ℕ) × (r ≡ pref_at a e) × (span_of s a e ≡ p)

abbrev pub TellsPref : Bytes → ℕ → Sought → Type 0
TellsPref s slot r = (o : Option Json) → Slot 13 s slot o → PrefAs s r (pref_in o)

unfoldable pub pref_piece : Bytes → Bytes
pref_piece p = pick (empty p) [] (ascii ";PREF=" ++ p)
