-- Cards that a reader can give: what both round trips ask of the model.
use mathlib.Core.Path.{◌≡◌, refl}
use mathlib.Core.Bool.{true, false, ◌||◌}
use mathlib.Core.List.{List, [], ◌∷◌, map}
use mathlib.Core.Option.{some}
use lib.ListN.{length, get_or}
use lib.Dec.{ltb}
use Rattle.text.specs.Choice.{pick}
use Rattle.text.specs.Bytes.{Bytes, any, all, empty, same, among, distinct}
use Rattle.json_text.specs.Tree.{Member, member, name_of}
use Rattle.json_text.proofs.Sound.{Sound}
use Rattle.convert.specs.Table.{Map, maps, position, reserved}
use Rattle.convert.specs.Model.{Entry, Kept, Card}
use Rattle.convert.specs.Value.{filled}
use Rattle.convert.specs.Carry.{apart}
use Rattle.convert.specs.FromJson.{is_lower_word, kept_stands, seen_in, entry_members}
use Rattle.convert.proofs.Entries.{Proper}
use Rattle.convert.proofs.EntryParts.{Row}
use Rattle.convert.proofs.KeptLines.{ProperKept}

-- ---- entries

pub record Good (m : Map) (e : Entry) : Type 0 where
  pub proper : Proper m e
  pub kind : pick (empty m.kinds) (some 0) (position (same (get_or m.kinds e.which [])) m.kinds) ≡ some e.which
  pub which : ltb e.which (length m.properties) ≡ true

abbrev pub AllGood : Map → List Entry → Type 0
AllGood m [] = Unit {0}
AllGood m (e ∷ es) = Good m e × AllGood m es

abbrev pub keys_of : List Entry → List Bytes
keys_of es = map (λ (e : Entry). e.key) es

-- as many lists of entries as rows; the keys of a map differ
abbrev pub GoodMaps : List Map → List (List Entry) → Type 0
GoodMaps [] [] = Unit {0}
GoodMaps [] (es ∷ ess) = ⊥
GoodMaps (m ∷ ms) [] = ⊥
GoodMaps (m ∷ ms) (es ∷ ess) = AllGood m es × (distinct (keys_of es) ≡ true) × GoodMaps ms ess

-- ---- components: seven kinds, no empty value, nothing in both of two parts that N writes together

abbrev pub Seven : List (List Bytes) → Type 0
Seven ps =
    (a : List Bytes) × (b : List Bytes) × (c : List Bytes) × (d : List Bytes) × (e : List Bytes) × (f : List Bytes) × (g : List Bytes)
    × (ps ≡ a ∷ b ∷ c ∷ d ∷ e ∷ f ∷ g ∷ []) × (all (all filled) (a ∷ b ∷ c ∷ d ∷ e ∷ f ∷ g ∷ []) ≡ true) × (apart a f ≡ true) × (apart e g ≡ true)

-- ---- members and kept lines

abbrev pub GoodMembers : List Member → Type 0
GoodMembers [] = Unit {0}
GoodMembers (member n j ∷ ms) = (empty n ≡ false) × (among n reserved ≡ false) × Sound 15 j × GoodMembers ms

abbrev pub AllKept : List Kept → Type 0
AllKept [] = Unit {0}
AllKept (k ∷ ks) = ProperKept k × AllKept ks

pub record ProperCard (c : Card) : Type 0 where
  pub uid : filled c.uid ≡ true
  pub kind : empty c.kind || is_lower_word c.kind ≡ true
  pub parts : Seven c.parts
  pub maps : GoodMaps maps c.maps
  pub members : GoodMembers c.members
  pub names : distinct (map name_of c.members) ≡ true
  pub kept : AllKept c.kept
  pub stands : all (kept_stands (seen_in c)) c.kept ≡ true

-- ---- the rows of the table

abbrev pub AllRows : List Map → Type 0
AllRows [] = Unit {0}
AllRows (m ∷ ms) = Row m × AllRows ms

pub all-rows : AllRows maps
unfolding entry_members among any same
all-rows = (
  record { content = refl; name = refl; content-known = refl; kind-known = refl; units-known = refl; contexts-known = refl; pref-known = refl; features-known = refl },
  (
    record { content = refl; name = refl; content-known = refl; kind-known = refl; units-known = refl; contexts-known = refl; pref-known = refl; features-known = refl },
    (
      record { content = refl; name = refl; content-known = refl; kind-known = refl; units-known = refl; contexts-known = refl; pref-known = refl; features-known = refl },
      (
        record { content = refl; name = refl; content-known = refl; kind-known = refl; units-known = refl; contexts-known = refl; pref-known = refl; features-known = refl },
        (
          record { content = refl; name = refl; content-known = refl; kind-known = refl; units-known = refl; contexts-known = refl; pref-known = refl; features-known = refl },
          (
            record { content = refl; name = refl; content-known = refl; kind-known = refl; units-known = refl; contexts-known = refl; pref-known = refl; features-known = refl },
            (record { content = refl; name = refl; content-known = refl; kind-known = refl; units-known = refl; contexts-known = refl; pref-known = refl; features-known = refl }, tt),
          ),
        ),
      ),
    ),
  ),
)
