-- Which line converts: one definition for both directions. A card's lines are classed in order, each by what was seen before it;
-- an entry of vCardProps is classed after all converted lines ("in its place").
use Rattle.std.specs.Prelude.{Bool, true, false, ◌&&◌, not, List, [], ◌∷◌, map, ℕ, eqb, take}
use Rattle.std.proofs.Math.Option
use Rattle.std.proofs.Math.Option.{Option, none, some}
use Prim.Native.Char.{code}
use Rattle.text.specs.Choice.{pick, with-some, chain, provided}
use Rattle.text.specs.Bytes.{Bytes, ascii, empty, any, same, among, lowered, parts, flat, each}
use Rattle.json_text.specs.Tree.{Json}
use Rattle.json_text.specs.Read.{Reading, tree, refused, reading}
use Rattle.json_text.specs.Lookup.{member_depth}
use Rattle.line.specs.Grammar.{Param, param, Line}
use Rattle.line.specs.Params.{values_named, only_named, value_type, besides_value}
use Rattle.line.specs.Text.{read_text}
use Rattle.convert.specs.Table.{Slot, slot_of, type_names, vcard_type, position, in_order, reserved}
use Rattle.convert.specs.Model.{Entry, singly}
use Rattle.convert.specs.Value.{is_key_text, is_pref, read_as, takes_type, read_name}
use Rattle.convert.specs.Pointer.{pointed}

-- ---- what a line becomes

pub data Class : Type 0 where
  as-version : Class
  as-uid : Bytes → Class
  as-kind : Bytes → Class
  as_dropped : Class  -- FN with only DERIVED=TRUE
  as-full : Bytes → Class  -- name.full
  as_parts : List (List Bytes) → Class  -- name.components
  as-entry : ℕ → Entry → Class  -- of the map at that place in the table; its key is the PROP-ID, or empty
  as_member : Bytes → Json → Class  -- a top-level member
  as-kept : Class

-- ---- what converted lines before it leave behind

pub data Id : Type 0 where
  id : (index : ℕ) (key : Bytes) → Id

pub record Seen : Type 0 where
  pub full : Bool
  pub parts : Bool
  pub ids : List Id  -- PROP-IDs, each with its map's place
  pub members : List Bytes  -- names made by JSPROP

abbrev pub nothing : Seen
nothing = record { full = false; parts = false; ids = []; members = [] }

abbrev pub is_id : ℕ → Bytes → Id → Bool
is_id i k (id j l) = eqb i j && same k l

-- no PROP-ID: nothing to remember
abbrev pub with_id : ℕ → Bytes → List Id → List Id
with_id i k ids = pick (empty k) ids (id i k ∷ ids)

abbrev pub see : Seen → Class → Seen
see s as-version = s
see s (as-uid v) = s
see s (as-kind v) = s
see s as_dropped = s
see s (as-full v) = record { full = true; parts = s.parts; ids = s.ids; members = s.members }
see s (as_parts v) = record { full = s.full; parts = true; ids = s.ids; members = s.members }
see s (as-entry i e) = record { full = s.full; parts = s.parts; ids = with_id i e.key s.ids; members = s.members }
see s (as_member n j) = record { full = s.full; parts = s.parts; ids = s.ids; members = n ∷ s.members }
see s as-kept = s

-- ---- FN and N

-- a line that may convert at all: no group, and VALUE absent
abbrev pub bare : Line → Bool
bare l = empty l.group && same (value_type l.params) (ascii "unknown")

-- the sole parameter DERIVED=TRUE, in any case
unfoldable pub is_derived : List Param → Bool
is_derived [] = false
is_derived (param n [] ∷ ps) = false
is_derived (param n (v ∷ []) ∷ ps) = same (lowered n) (ascii "derived") && same (lowered v) (ascii "true") && empty ps
is_derived (param n (v ∷ (w ∷ ws)) ∷ ps) = false

unfoldable pub full_class : Seen → Line → Class
full_class s l =
    pick (bare l && is_derived (besides_value l.params)) as_dropped
    (with-some (provided (bare l && empty (besides_value l.params) && not s.full) (read_text l.value)) as-full as-kept)

unfoldable pub parts_class : Seen → Line → Class
parts_class s l =
    with-some (provided (bare l && empty (besides_value l.params) && not s.parts) (read_name l.value)) as_parts as-kept

-- ---- JSPROP

abbrev pub sole : List Bytes → Option Bytes
sole [] = none
sole (v ∷ []) = some v
sole (v ∷ (w ∷ ws)) = none

abbrev pub tree_of : Reading → Option Json
tree_of (tree j) = some j
tree_of (refused n) = none

-- the member's name: one pointer, to a name that is new and no member of the table
unfoldable pub member_name : Seen → List Param → Option Bytes
member_name s ps =
    chain (provided (only_named (ascii "jsptr" ∷ []) ps) (sole (values_named (ascii "jsptr") ps))) λ p.
    chain (pointed p) λ n.
    provided (not (among n reserved) && not (among n s.members)) (some n)

-- its value: JSON of depth 15 at most, in TEXT
unfoldable pub member_value : Bytes → Option Json
member_value v = chain (read_text v) λ t. tree_of (reading member_depth t)

unfoldable pub member_class : Seen → Line → Class
member_class s l =
    with-some (provided (bare l) (member_name s (besides_value l.params)))
    (λ n. with-some (member_value l.value) (as_member n) as-kept) as-kept

-- ---- the seven maps

-- PROP-ID: absent, or one valid value that no earlier converted line of the map has
abbrev pub key_from : Seen → ℕ → List Bytes → Option Bytes
key_from s i [] = some []
key_from s i (k ∷ []) = provided (is_key_text k && not (any (is_id i k) s.ids)) (some k)
key_from s i (k ∷ (j ∷ ks)) = none

-- PREF: absent, or one valid value
abbrev pub pref_from : List Bytes → Option Bytes
pref_from [] = some []
pref_from (p ∷ []) = provided (is_pref p) (some p)
pref_from (p ∷ (q ∷ qs)) = none

-- TYPE: each value, split at commas, is one of the first n of the table
unfoldable pub types_from : ℕ → List Bytes → Option (List ℕ)
types_from n vs =
    Option.map in_order (each (λ v. position (λ t. same (lowered v) (vcard_type t)) (take n type_names)) (flat (map (parts (code ",")) vs)))

unfoldable pub entry_of : Seen → Slot → Line → Option Entry
entry_of s w l =
    let ps : List Param = besides_value l.params in
    let type : Bytes = value_type l.params in
    provided (empty l.group && only_named w.map.parameters ps && takes_type w.map.form type)
    (chain (key_from s w.index (values_named (ascii "prop-id") ps)) λ k.
    chain (pref_from (values_named (ascii "pref") ps)) λ p.
    chain (types_from w.map.types (values_named (ascii "type") ps)) λ ts.
    chain (read_as w.map.form type l.value) λ vs.
    some (record { key = k; which = w.which; parts = singly vs; types = ts; pref = p }))

unfoldable pub entry_class : Seen → Slot → Line → Class
entry_class s w l = with-some (entry_of s w l) (as-entry w.index) as-kept

-- ---- all lines

unfoldable pub classify : Seen → Line → Class
classify s l =
    let n : Bytes = lowered l.name in
    let f : Class = full_class s l in
    let p : Class = parts_class s l in
    let m : Class = member_class s l in
    let e : Class = with-some (slot_of n) (λ w. entry_class s w l) as-kept in
    pick (same n (ascii "version")) as-version
    (pick (same n (ascii "uid")) (as-uid l.value)
    (pick (same n (ascii "kind")) (as-kind (lowered l.value))
    (pick (same n (ascii "fn")) f
    (pick (same n (ascii "n")) p
    (pick (same n (ascii "jsprop")) m e)))))

-- a line with what it becomes
pub record Classed : Type 0 where
  pub line : Line
  pub class : Class

-- the line, and the later ones by what is seen with it
abbrev pub onward : Line → Seen → (Seen → List Classed) → Class → List Classed
onward l s later c = record { line = l; class = c } ∷ later (see s c)

unfoldable pub classed_after : Seen → List Line → List Classed
classed_after s [] = []
classed_after s (l ∷ ls) = onward l s (λ t. classed_after t ls) (classify s l)

unfoldable pub classed : List Line → List Classed
classed ls = classed_after nothing ls
