-- The middle of both conversions: what a card says, in one form for all that is equal.
use Rattle.std.specs.Prelude.{Bool, not, List, [], ◌∷◌, map, ℕ, get_or}
use Rattle.std.proofs.Math.Option.{Option}
use Rattle.text.specs.Bytes.{Bytes, any, empty}
use Rattle.json_text.specs.Tree.{Member}
use Rattle.line.specs.Grammar.{Param}
use Rattle.convert.specs.Table.{Part, name_row}

-- An entry of one of the seven maps.
pub record Entry : Type 0 where
  pub key : Bytes  -- empty until one is made
  pub which : ℕ  -- which of the map's properties: TITLE or ROLE
  pub parts : List (List Bytes)  -- of its value, each with its values; a string is a part of one value, and so are ORG's name (perhaps empty) and each unit
  pub types : List ℕ  -- places in the table of TYPE, in its order
  pub pref : Bytes  -- as spelled; empty where there is none

-- A kept line (01's term): a line that is not converted, as an entry of vCardProps. All but the values is lower-case.
pub record Kept : Type 0 where
  pub name : Bytes
  pub group : Bytes
  pub params : List Param  -- names differ; VALUE is not among them
  pub type : Bytes
  pub value : Bytes

pub record Card : Type 0 where
  pub uid : Bytes
  pub kind : Bytes  -- empty where there is none
  pub full : Option Bytes
  pub parts : List (List Bytes)  -- components by kind, in the order of N's parts; no value is empty
  pub maps : List (List Entry)  -- in the table's order
  pub members : List Member  -- of JSPROP lines
  pub kept : List Kept

-- strings as parts: each is one of its own
abbrev pub singly : List Bytes → List (List Bytes)
singly vs = map (λ v. v ∷ []) vs

-- no component of any kind
abbrev pub no_parts : List (List Bytes)
no_parts = map (λ (p : Part). []) name_row

-- there is a component
unfoldable pub has_parts : List (List Bytes) → Bool
has_parts ps = any (λ vs. not (empty vs)) ps

-- values of the part i
abbrev pub part : List (List Bytes) → ℕ → List Bytes
part ps i = get_or ps i []
