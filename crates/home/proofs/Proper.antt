-- What both readers guarantee of a card, and what makes a card come home: the middle of the way home.
use mathlib.Core.Path.{◌≡◌}
use mathlib.Core.Bool.{true, false, ◌&&◌, ◌||◌, not}
use mathlib.Core.List.{List, [], ◌∷◌, map}
use lib.ListN.{length}
use lib.Dec.{ltb}
use Rattle.text.specs.Choice.{with-some}
use Rattle.text.specs.Bytes.{any, all, among, empty, distinct, flat}
use Rattle.text.specs.Utf8.{utf8}
use Rattle.json_text.specs.Tree.{Member, name_of, value_of}
use Rattle.json_text.proofs.Sound.{Sound}
use Rattle.line.specs.Grammar.{param_values}
use Rattle.line.proofs.Merging.{Settled}
use Rattle.convert.specs.Table.{Map, maps, reserved}
use Rattle.convert.specs.Model.{Entry, Kept, Card}
use Rattle.convert.specs.Value.{filled}
use Rattle.convert.specs.FromJson.{is_lower_word, is_group, kept_stands, seen_in}
use Rattle.convert.specs.Carry.{carried}
use Rattle.convert.proofs.Entries.{Proper}

-- an entry of a map, its strings in UTF-8
pub record ProperEntry (m : Map) (e : Entry) : Type 0 where
  pub proper : Proper m e
  pub which : ltb e.which (length m.properties) ≡ true
  pub texts-utf8 : all utf8 (flat e.parts) ≡ true

abbrev pub ProperEntries : Map → List Entry → Type 0
ProperEntries m [] = Unit {0}
ProperEntries m (e ∷ es) = ProperEntry m e × ProperEntries m es

-- one list of entries for each map of the table, with keys that differ
abbrev pub ProperMaps : List Map → List (List Entry) → Type 0
ProperMaps [] [] = Unit {0}
ProperMaps [] (es ∷ ess) = ⊥
ProperMaps (m ∷ ms) [] = ⊥
ProperMaps (m ∷ ms) (es ∷ ess) = ProperEntries m es × (distinct (map (λ (e : Entry). e.key) es) ≡ true) × ProperMaps ms ess

-- members of JSPROP lines: a name that no table has, a value of depth 15 at most
pub record ProperMember (m : Member) : Type 0 where
  pub name : filled (name_of m) && not (among (name_of m) reserved) && utf8 (name_of m) ≡ true
  pub value : Sound 15 (value_of m)

abbrev pub ProperMembers : List Member → Type 0
ProperMembers [] = Unit {0}
ProperMembers (m ∷ ms) = ProperMember m × ProperMembers ms

-- a kept line
pub record KeptFine (k : Kept) : Type 0 where
  pub group : empty k.group || is_lower_word k.group ≡ true
  pub params : Settled k.params
  pub no-group : any is_group k.params ≡ false
  pub values : all (λ p. not (empty (param_values p))) k.params ≡ true
  pub params-utf8 : all (λ p. all utf8 (param_values p)) k.params ≡ true
  pub value-utf8 : utf8 k.value ≡ true

abbrev pub AllKeptFine : List Kept → Type 0
AllKeptFine [] = Unit {0}
AllKeptFine (k ∷ ks) = KeptFine k × AllKeptFine ks

pub record ProperCard (c : Card) : Type 0 where
  pub uid : filled c.uid && utf8 c.uid ≡ true
  pub kind : empty c.kind || is_lower_word c.kind ≡ true
  pub full : with-some c.full utf8 true ≡ true
  pub seven : length c.parts ≡ 7
  pub parts : all (all (λ v. filled v && utf8 v)) c.parts ≡ true
  pub entries : ProperMaps maps c.maps
  pub members : ProperMembers c.members
  pub names : distinct (map name_of c.members) ≡ true
  pub kept : AllKeptFine c.kept
  pub stand : all (kept_stands (seen_in c)) c.kept ≡ true  -- names, types and parameter names are lower-case words; each stays kept
  pub carries : carried c ≡ true
