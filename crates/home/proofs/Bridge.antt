-- A proper card meets what the laws about JSON trees ask of one.
use mathlib.Core.Path.{◌≡◌, refl}
use mathlib.Core.Bool.{true, ◌&&◌, not}
use mathlib.Core.List.{List, [], ◌∷◌}
use mathlib.Core.Option.{some}
use Prim.Native.Nat.{ℕ, zero, suc}
use native.Mathlib.Omega.{arith}
use lib.ListN.{length, get_or}
use lib.Dec.{ltb}
use Rattle.text.specs.Choice.{pick}
use Rattle.text.specs.Bytes.{Bytes, ascii, all, empty, same, among}
use Rattle.text.specs.Utf8.{utf8}
use Rattle.text.proofs.Cases.{and_left, and_right, not-true, tests}
use Rattle.text.proofs.Lists.{all_head, all_tail, all-imply}
use Rattle.json_text.specs.Tree.{Member, member}
use Rattle.convert.specs.Table.{Map, maps, position, reserved}
use Rattle.convert.specs.Model.{Entry, Kept, Card, part}
use Rattle.convert.specs.Value.{filled}
use Rattle.convert.specs.Classify.{Seen}
use Rattle.convert.specs.FromJson.{kept_stands}
use Rattle.convert.specs.Carry.{apart}
use Rattle.convert.proofs.Proper as Readable
use Rattle.home.proofs.Proper.{ProperEntries, ProperMaps, ProperMembers, AllKeptFine, ProperCard}
use Rattle.home.proofs.Carried.{is_carried}
use Rattle.home.proofs.Stands.{stands-inv}
use Rattle.home.proofs.KeptFacts.{proper-kept}
use Rattle.home.proofs.Alls.{All}

-- ---- entries: the kind tells which property, for every row of the table

abbrev Kinded : Map → Type 0
Kinded m =
    (w : ℕ) → ltb w (length m.properties) ≡ true
    → pick (empty m.kinds) (some 0) (position (same (get_or m.kinds w [])) m.kinds) ≡ some w

one-property : (w : ℕ) → ltb w 1 ≡ true → some 0 ≡ some w
one-property zero h = refl
one-property (suc w) h = absurd (omega tests)

two-kinds : (w : ℕ) → ltb w 2 ≡ true → position (same (get_or (ascii "title" ∷ ascii "role" ∷ []) w [])) (ascii "title" ∷ ascii "role" ∷ []) ≡ some w
unfolding position same
two-kinds zero h = refl
two-kinds (suc zero) h = refl
two-kinds (suc (suc w)) h = absurd (omega tests)

table-kinded : All Kinded maps
table-kinded = (one-property, (one-property, (one-property, (one-property, (one-property, (two-kinds, (one-property, tt)))))))

entries-good : (m : Map) → Kinded m → (es : List Entry) → ProperEntries m es → Readable.AllGood m es
entries-good m k [] g = tt
entries-good m k (e ∷ es) g = (record { proper = g.0.proper; kind = k e.which g.0.which; which = g.0.which }, entries-good m k es g.1)

maps-good : (ms : List Map) → All Kinded ms → (ess : List (List Entry)) → ProperMaps ms ess → Readable.GoodMaps ms ess
maps-good [] k [] g = tt
maps-good [] k (es ∷ ess) g = g
maps-good (m ∷ ms) k [] g = g
maps-good (m ∷ ms) k (es ∷ ess) g = (entries-good m k.0 es g.0, g.1, maps-good ms k.1 ess g.2)

-- ---- components

seven-parts : (ps : List (List Bytes)) → length ps ≡ 7 → all (all filled) ps ≡ true → apart (part ps 0) (part ps 5) ≡ true → apart (part ps 4) (part ps 6) ≡ true → Readable.Seven ps
seven-parts [] l f x y = absurd (omega arith)
seven-parts (a ∷ []) l f x y = absurd (omega arith)
seven-parts (a ∷ (b ∷ [])) l f x y = absurd (omega arith)
seven-parts (a ∷ (b ∷ (c ∷ []))) l f x y = absurd (omega arith)
seven-parts (a ∷ (b ∷ (c ∷ (d ∷ [])))) l f x y = absurd (omega arith)
seven-parts (a ∷ (b ∷ (c ∷ (d ∷ (e ∷ []))))) l f x y = absurd (omega arith)
seven-parts (a ∷ (b ∷ (c ∷ (d ∷ (e ∷ (g ∷ [])))))) l f x y = absurd (omega arith)
seven-parts (a ∷ (b ∷ (c ∷ (d ∷ (e ∷ (g ∷ (h ∷ []))))))) l f x y = (a, b, c, d, e, g, h, refl, f, x, y)
seven-parts (a ∷ (b ∷ (c ∷ (d ∷ (e ∷ (g ∷ (h ∷ (i ∷ ps)))))))) l f x y = absurd (omega arith)

pub all-filled : (ps : List (List Bytes)) → all (all (λ v. filled v && utf8 v)) ps ≡ true → all (all filled) ps ≡ true
all-filled ps h = all-imply (all (λ v. filled v && utf8 v)) (all filled) (λ vs g. all-imply (λ v. filled v && utf8 v) filled (λ v e. and_left (filled v) (utf8 v) e) vs g) ps h

-- ---- members and kept lines

members-good : (ms : List Member) → ProperMembers ms → Readable.GoodMembers ms
members-good [] g = tt
members-good (member n j ∷ ms) g =
    let h : filled n && not (among n reserved) ≡ true = and_left (filled n && not (among n reserved)) (utf8 n) g.0.name in
    (not-true (empty n) (and_left (filled n) _ h), not-true (among n reserved) (and_right (filled n) _ h), g.0.value, members-good ms g.1)

all-kept : (s : Seen) (ks : List Kept) → AllKeptFine ks → all (kept_stands s) ks ≡ true → Readable.AllKept ks
all-kept s [] g h = tt
all-kept s (k ∷ ks) g h = (proper-kept s k g.0 (stands-inv s k (all_head (kept_stands s) k ks h)), all-kept s ks g.1 (all_tail (kept_stands s) k ks h))

-- ---- the whole

pub readable : (c : Card) → ProperCard c → Readable.ProperCard c
readable c g =
    let a = is_carried c g.carries in
    record {
      uid = and_left (filled c.uid) _ g.uid;
      kind = g.kind;
      parts = seven-parts c.parts g.seven (all-filled c.parts g.parts) a.surnames a.suffixes;
      maps = maps-good maps table-kinded c.maps g.entries;
      members = members-good c.members g.members;
      names = g.names;
      kept = all-kept _ c.kept g.kept g.stand;
      stands = g.stand;
    }
