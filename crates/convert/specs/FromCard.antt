-- A card's lines to the model.
use Rattle.std.specs.Prelude.{List, [], ◌∷◌, ◌++◌, map, ℕ, suc, eqb}
use Rattle.std.proofs.Math.Option.{Option, none, some}
use Prim.Native.Char.{code}
use Rattle.text.specs.Choice.{pick}
use Rattle.text.specs.Bytes.{Bytes, lowered, flat}
use Rattle.text.specs.Decimal.{decimal}
use Rattle.json_text.specs.Tree.{Member, member}
use Rattle.line.specs.Grammar.{Line}
use Rattle.line.specs.Params.{value_type, besides_value, merged}
use Rattle.convert.specs.Table.{Map, maps}
use Rattle.convert.specs.Model.{Entry, Kept, Card, no_parts}
use Rattle.convert.specs.Classify.{Class, as-version, as-uid, as-kind, as_dropped, as-full, as_parts, as-entry, as_member, as-kept, Classed, classed}
use Rattle.convert.specs.Keys.{keys}

-- ---- what a line gives to each part of the model

-- a kept line: lower-case name, group and parameter names, equal-named parameters as one, VALUE as the type, the raw value
unfoldable pub kept_line : Line → Kept
kept_line l =
    record {
      name = lowered l.name;
      group = lowered l.group;
      params = merged (besides_value l.params);
      type = value_type l.params;
      value = l.value;
    }

-- an entry with the place of its map
pub data Placed : Type 0 where
  placed : ℕ → Entry → Placed

-- each list has one element at most
pub record Gives : Type 0 where
  pub uid : List Bytes
  pub kind : List Bytes
  pub full : List Bytes
  pub parts : List (List (List Bytes))
  pub entry : List Placed
  pub member : List Member
  pub kept : List Kept

abbrev pub gives : Line → Class → Gives
gives l as-version = record { uid = []; kind = []; full = []; parts = []; entry = []; member = []; kept = [] }
gives l (as-uid v) = record { uid = v ∷ []; kind = []; full = []; parts = []; entry = []; member = []; kept = [] }
gives l (as-kind v) = record { uid = []; kind = v ∷ []; full = []; parts = []; entry = []; member = []; kept = [] }
gives l as_dropped = record { uid = []; kind = []; full = []; parts = []; entry = []; member = []; kept = [] }
gives l (as-full v) = record { uid = []; kind = []; full = v ∷ []; parts = []; entry = []; member = []; kept = [] }
gives l (as_parts ps) = record { uid = []; kind = []; full = []; parts = ps ∷ []; entry = []; member = []; kept = [] }
gives l (as-entry i e) = record { uid = []; kind = []; full = []; parts = []; entry = placed i e ∷ []; member = []; kept = [] }
gives l (as_member n j) = record { uid = []; kind = []; full = []; parts = []; entry = []; member = member n j ∷ []; kept = [] }
gives l as-kept = record { uid = []; kind = []; full = []; parts = []; entry = []; member = []; kept = kept_line l ∷ [] }

-- all that lines give to one part, in their order
unfoldable pub gathered : {A : Type 0} → (Gives → List A) → List Classed → List A
gathered f cs = flat (map (λ (c : Classed). f (gives c.line c.class)) cs)

-- ---- the model

abbrev pub first_of : {A : Type 0} → List A → Option A
first_of [] = none
first_of (x ∷ xs) = some x

abbrev pub or_else : {A : Type 0} → Option A → A → A
or_else (some a) b = a
or_else none b = b

-- the entries of the map at place i
unfoldable pub in_map : ℕ → List Placed → List Entry
in_map i [] = []
in_map i (placed j e ∷ ps) = pick (eqb i j) (e ∷ in_map i ps) (in_map i ps)

-- entries with their keys
unfoldable pub with_keys : List Bytes → List Entry → List Entry
with_keys [] es = []
with_keys (k ∷ ks) [] = []
with_keys (k ∷ ks) (e ∷ es) = record { key = k; which = e.which; parts = e.parts; types = e.types; pref = e.pref } ∷ with_keys ks es

abbrev pub keyed_entries : Map → List Entry → List Entry
keyed_entries m es = with_keys (keys m.prefix (map (λ (e : Entry). e.key) es)) es

unfoldable pub maps_from : ℕ → List Map → List Placed → List (List Entry)
maps_from i [] ps = []
maps_from i (m ∷ ms) ps = keyed_entries m (in_map i ps) ∷ maps_from (suc i) ms ps

-- No UID: stem, hyphen, card number.
unfoldable pub made_uid : Bytes → ℕ → Bytes
made_uid stem n = stem ++ code "-" ∷ decimal n

unfoldable pub card_of_classed : Bytes → ℕ → List Classed → Card
card_of_classed stem n cs =
    record {
      uid = or_else (first_of (gathered (λ (g : Gives). g.uid) cs)) (made_uid stem n);
      kind = or_else (first_of (gathered (λ (g : Gives). g.kind) cs)) [];
      full = first_of (gathered (λ (g : Gives). g.full) cs);
      parts = or_else (first_of (gathered (λ (g : Gives). g.parts) cs)) no_parts;
      maps = maps_from 0 maps (gathered (λ (g : Gives). g.entry) cs);
      members = gathered (λ (g : Gives). g.member) cs;
      kept = gathered (λ (g : Gives). g.kept) cs;
    }

unfoldable pub card_of_lines : Bytes → ℕ → List Line → Card
card_of_lines stem n ls = card_of_classed stem n (classed ls)
