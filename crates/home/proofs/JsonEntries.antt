-- Entries of the maps from sound JSON are proper.
use mathlib.Core.Path.{◌≡◌, refl, sym, ap, subst, ◌∙◌}
use mathlib.Core.Logic.{inl, inr}
use mathlib.Core.Bool.{Bool, true, ◌&&◌, ◌||◌, not}
use mathlib.Core.List.{List, [], ◌∷◌, ◌++◌, map}
use mathlib.Core.Option
use mathlib.Core.Option.{some}
use Prim.Native.Nat.{ℕ, ◌+◌}
use lib.ListN.{length, take, drop}
use lib.Dec.{leb, ltb}
use borrow.Author.Tests.{lt-ltb}
use Rattle.text.specs.Choice.{chain, provided}
use Rattle.text.specs.Bytes.{Bytes, ascii, any, all, empty, same, among, distinct, each}
use Rattle.text.proofs.Cases.{by_bool, and_left, and_right, tests}
use Rattle.text.proofs.Choices.{none-some, some_same, provided-inv, chain-inv, map-inv, both-inv}
use Rattle.text.proofs.Lists.{all_both, all-imply}
use Rattle.json_text.specs.Tree.{Json, Member, member, name_of, field, as_string, as_number, as_object}
use Rattle.json_text.proofs.Sound.{Sound}
use Rattle.convert.specs.Table.{Map, maps, TypeName, type_names, json_type, position}
use Rattle.convert.specs.Model.{Entry, singly}
use Rattle.convert.specs.Value.{is_key_text, is_pref}
use Rattle.convert.specs.FromJson.{only_members, optional, is_true, flag_of, flags_from, content_from, entry_members, entry_from, map_from}
use Rattle.convert.proofs.Forms.{flat-singly}
use Rattle.convert.proofs.Orders.{in_order-again}
use Rattle.convert.proofs.Types.{below}
use Rattle.convert.proofs.Entries.{coherent}
use Rattle.home.proofs.Proper.{ProperEntry, ProperEntries, ProperMaps}
use Rattle.home.proofs.Alls.{All, all-test, test-all, all-mono, each-gives, each-called}
use Rattle.home.proofs.SoundLists.{SoundMember, object-sound, optional-inv, optional-holds, no_field}
use Rattle.home.proofs.Positions.{position-inside, in_order-all}
use Rattle.home.proofs.JsonTexts.{content-formed}
use Rattle.home.proofs.MapLines.{key_of}

-- ---- rows of the table: what an entry may have agrees with the row's parameters and with how many values of TYPE it takes

-- a member is allowed only under the condition
abbrev only_if : Bytes → Bool → Map → Bool
only_if n b m = not (among n (entry_members m)) || b

pub record Row (m : Map) : Type 0 where
  pub some-property : leb 1 (length m.properties) ≡ true
  pub kinds : leb (length m.kinds) (length m.properties) ≡ true
  pub row : coherent m ≡ true
  pub contexts : only_if (ascii "contexts") (leb 2 m.types) m ≡ true
  pub features : only_if (ascii "features") (leb 9 m.types) m ≡ true
  pub pref : only_if (ascii "pref") (among (ascii "pref") m.parameters) m ≡ true

abbrev is_row : Map → Bool
is_row m =
    leb 1 (length m.properties) && (leb (length m.kinds) (length m.properties) && (coherent m
    && (only_if (ascii "contexts") (leb 2 m.types) m && (only_if (ascii "features") (leb 9 m.types) m && only_if (ascii "pref") (among (ascii "pref") m.parameters) m))))

is-row : (m : Map) → is_row m ≡ true → Row m
is-row m h =
    let b = and_right (leb 1 (length m.properties)) _ h in
    let c = and_right (leb (length m.kinds) (length m.properties)) _ b in
    let d = and_right (coherent m) _ c in
    let e = and_right (only_if (ascii "contexts") (leb 2 m.types) m) _ d in
    record {
      some-property = and_left _ _ h;
      kinds = and_left _ _ b;
      row = and_left (coherent m) _ c;
      contexts = and_left (only_if (ascii "contexts") (leb 2 m.types) m) _ d;
      features = and_left (only_if (ascii "features") (leb 9 m.types) m) _ e;
      pref = and_right (only_if (ascii "features") (leb 9 m.types) m) _ e;
    }

all-rows : all is_row maps ≡ true
unfolding all entry_members among any same
all-rows = refl

pub rows : All Row maps
rows = all-mono (λ m. is_row m ≡ true) Row is-row maps (test-all is_row maps all-rows)

-- ---- flags

abbrev FlagBelow : ℕ → ℕ → Type 0
FlagBelow n c = below n c ≡ true

flag-below : (i n : ℕ) (ts : List TypeName) → i + length ts ≡ n → (m : Member) (c : ℕ) → flag_of i ts m ≡ some c → FlagBelow n c
flag-below i n ts l (member k j) c e =
    let p = provided-inv (is_true j) (Option.map (λ k. i + k) (position (λ t. same k (json_type t)) ts)) e in
    let q = map-inv (λ k. i + k) (position (λ t. same k (json_type t)) ts) p.1 in
    lt-ltb c n (omega (tests, position-inside (λ t. same k (json_type t)) ts q.0 q.1, q.2))

flags-below : (i n : ℕ) (ts : List TypeName) → i + length ts ≡ n → (j : Json) (cs : List ℕ) → flags_from i ts j ≡ some cs → all (below n) cs ≡ true
unfolding flags_from
flags-below i n ts l j cs e =
    let q = chain-inv (as_object j) (each (flag_of i ts)) e in
    all-test (below n) cs (each-gives (flag_of i ts) (λ m. Unit {0}) (FlagBelow n) (λ m c u f. flag-below i n ts l m c f) q.0 cs (units q.0) q.2)
  where
    units : (ms : List Member) → All (λ m. Unit {0}) ms
    units [] = tt
    units (m ∷ ms) = (tt, units ms)

-- a member that is there is allowed
allowed : (n : Bytes) (b : Bool) (m : Map) (ms : List Member) (j : Json) → only_members (entry_members m) ms ≡ true → only_if n b m ≡ true → field n ms ≡ some j → b ≡ true
allowed n b m ms j o r e =
    by_bool (among n (entry_members m)) (λ q. rw q at r) (λ q. none-some (sym (no_field (entry_members m) n ms o q) ∙ e))

weaker : (n k : ℕ) (cs : List ℕ) → leb k n ≡ true → all (below k) cs ≡ true → all (below n) cs ≡ true
weaker n k cs l h = all-imply (below k) (below n) (λ c q. lt-ltb c n (omega tests)) cs h

module _ (m : Map) (r : Row m) (ms : List Member) (o : only_members (entry_members m) ms ≡ true) where
  flags-fit : (n : Bytes) (i k : ℕ) (ts : List TypeName) (cs : List ℕ) → i + length ts ≡ k → only_if n (leb k m.types) m ≡ true → optional n [] (flags_from i ts) ms ≡ some cs
      → all (below m.types) cs ≡ true
  unfolding all
  flags-fit n i k ts cs l u e =
      elim (optional-inv n [] (flags_from i ts) ms cs e) [
        | inl q ↦ rw (← q.1)
        | inr q ↦ weaker m.types k cs (allowed n (leb k m.types) m ms q.0 o u q.1) (flags-below i k ts l q.0 cs q.2)
      ]

  pref-fits : (p : Bytes) → optional (ascii "pref") [] (λ v. chain (as_number v) λ p. provided (is_pref p) (some p)) ms ≡ some p → empty p || (among (ascii "pref") m.parameters && is_pref p) ≡ true
  pref-fits p e =
      elim (optional-inv (ascii "pref") [] (λ v. chain (as_number v) λ p. provided (is_pref p) (some p)) ms p e) [
        | inl q ↦ rw (← q.1)
        | inr q ↦ there q.0 q.1 q.2
      ]
    where
      there : (j : Json) → field (ascii "pref") ms ≡ some j → chain (as_number j) (λ p. provided (is_pref p) (some p)) ≡ some p → empty p || (among (ascii "pref") m.parameters && is_pref p) ≡ true
      there j f g =
          let c = chain-inv (as_number j) (λ p. provided (is_pref p) (some p)) g in
          let d = provided-inv (is_pref c.0) (some c.0) c.2 in
          let i : is_pref p ≡ true = ap is_pref (sym (some_same d.1)) ∙ d.0 in
          by_bool (empty p) (λ q. rw q) (λ q. rw (q, allowed (ascii "pref") (among (ascii "pref") m.parameters) m ms j o r.pref f, i))

  kind_fits : (w : ℕ) → optional (ascii "kind") 0 (λ v. chain (as_string v) λ s. position (same s) m.kinds) ms ≡ some w → ltb w (length m.properties) ≡ true
  kind_fits w e =
      elim (optional-inv (ascii "kind") 0 (λ v. chain (as_string v) λ s. position (same s) m.kinds) ms w e) [
        | inl q ↦ lt-ltb w (length m.properties) (omega (tests, r.some-property, q.1))
        | inr q ↦ there q.0 q.2
      ]
    where
      there : (j : Json) → chain (as_string j) (λ s. position (same s) m.kinds) ≡ some w → ltb w (length m.properties) ≡ true
      there j g =
          let c = chain-inv (as_string j) (λ s. position (same s) m.kinds) g in
          lt-ltb w (length m.properties) (omega (tests, r.kinds, position-inside (same c.0) m.kinds w c.2))

-- ---- entries

pub entry-proper : (d : ℕ) (m : Map) → Row m → (o : Member) (e : Entry) → SoundMember d o → entry_from m o ≡ some e → ProperEntry m e
unfolding entry_from
entry-proper d m r (member k j) e h q =
    let a = chain-inv (provided (is_key_text k) (as_object j)) _ q in
    let ms : List Member = a.0 in
    let b = provided-inv (is_key_text k) (as_object j) a.1 in
    let s = object-sound d j ms h.1 b.1 in
    let c = provided-inv (only_members (entry_members m) ms) _ a.2 in
    let w = chain-inv (optional (ascii "kind") 0 (λ v. chain (as_string v) λ s. position (same s) m.kinds) ms) _ c.1 in
    let vs = chain-inv (content_from m.form m.content ms) _ w.2 in
    let xs = chain-inv (optional (ascii "contexts") [] (flags_from 0 (take 2 type_names)) ms) _ vs.2 in
    let fs = chain-inv (optional (ascii "features") [] (flags_from 2 (drop 2 type_names)) ms) _ xs.2 in
    let p = chain-inv (optional (ascii "pref") [] (λ v. chain (as_number v) λ p. provided (is_pref p) (some p)) ms) _ fs.2 in
    let t = content-formed s.0 m.form m.content ms vs.0 s.3 vs.1 in
    let u : all (below m.types) (xs.0 ++ fs.0) ≡ true =
    all_both (below m.types) xs.0 fs.0 (flags-fit m r ms c.0 (ascii "contexts") 0 2 (take 2 type_names) xs.0 refl r.contexts xs.1) (flags-fit m r ms c.0 (ascii "features") 2 9 (drop 2 type_names) fs.0 refl r.features fs.1) in
    subst (ProperEntry m) (some_same p.2) (record {
      proper = record {
        key = b.0;
        texts = rw (flat-singly vs.0) t.0;
        one_each = ap singly (flat-singly vs.0);
        codes = in_order-all (below m.types) (xs.0 ++ fs.0) u;
        order = in_order-again (xs.0 ++ fs.0);
        row = r.row;
        pref = pref-fits m r ms c.0 p.0 p.1;
      };
      which = kind_fits m r ms c.0 w.0 w.1;
      texts-utf8 = rw (flat-singly vs.0) t.1;
    })

pub entry_key : (m : Map) (o : Member) (e : Entry) → entry_from m o ≡ some e → e.key ≡ name_of o
unfolding entry_from
entry_key m (member k j) e q =
    let a = chain-inv (provided (is_key_text k) (as_object j)) _ q in
    let ms : List Member = a.0 in
    let c = provided-inv (only_members (entry_members m) ms) _ a.2 in
    let w = chain-inv (optional (ascii "kind") 0 (λ v. chain (as_string v) λ s. position (same s) m.kinds) ms) _ c.1 in
    let vs = chain-inv (content_from m.form m.content ms) _ w.2 in
    let xs = chain-inv (optional (ascii "contexts") [] (flags_from 0 (take 2 type_names)) ms) _ vs.2 in
    let fs = chain-inv (optional (ascii "features") [] (flags_from 2 (drop 2 type_names)) ms) _ xs.2 in
    let p = chain-inv (optional (ascii "pref") [] (λ v. chain (as_number v) λ p. provided (is_pref p) (some p)) ms) _ fs.2 in
    ap (λ (e : Entry). e.key) (sym (some_same p.2))

pub entries-all : (m : Map) (es : List Entry) → All (ProperEntry m) es → ProperEntries m es
entries-all m [] h = tt
entries-all m (e ∷ es) h = (h.0, entries-all m es h.1)

-- ---- maps

abbrev MapFine : Map → List Entry → Type 0
MapFine m es = ProperEntries m es × (distinct (map key_of es) ≡ true)

object-fine : (d : ℕ) (m : Map) → Row m → (es : List Entry) (j : Json) → Sound d j → chain (as_object j) (each (entry_from m)) ≡ some es → MapFine m es
object-fine d m r es j h e =
    let i = chain-inv (as_object j) (each (entry_from m)) e in
    let s = object-sound d j i.0 h i.1 in (
      entries-all m es (each-gives (entry_from m) (SoundMember s.0) (ProperEntry m) (entry-proper s.0 m r) i.0 es s.3 i.2),
      ap distinct (each-called (entry_from m) name_of key_of (entry_key m) i.0 es i.2) ∙ s.2,
    )

nothing-twice : distinct [] ≡ true
unfolding distinct
nothing-twice = refl

map-fine : (d : ℕ) (ms : List Member) → All (SoundMember d) ms → (m : Map) → Row m → (es : List Entry) → map_from ms m ≡ some es → MapFine m es
unfolding map_from
map-fine d ms h m r es e =
    optional-holds (MapFine m) d m.member [] (λ j. chain (as_object j) (each (entry_from m))) ms es h (tt, nothing-twice) (object-fine d m r es) e

pub maps-proper : (d : ℕ) (ms : List Member) → All (SoundMember d) ms → (ns : List Map) → All Row ns → (ess : List (List Entry)) → each (map_from ms) ns ≡ some ess → ProperMaps ns ess
unfolding each
maps-proper d ms h [] r ess e = subst (ProperMaps []) (some_same e) tt
maps-proper d ms h (n ∷ ns) r ess e =
    let i = both-inv ◌∷◌ (map_from ms n) (each (map_from ms) ns) e in
    let f = map-fine d ms h n r.0 i.0 i.2 in
    subst (ProperMaps (n ∷ ns)) i.4 (f.0, f.1, maps-proper d ms h ns r.1 i.1 i.3)
