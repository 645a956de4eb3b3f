-- The maps are read back from a card's members.
use mathlib.Core.Path.{◌≡◌, refl, ◌∙◌}
use mathlib.Core.Bool.{true, false, not}
use mathlib.Core.List.{List, [], ◌∷◌, map}
use mathlib.Core.Option.{none, some}
use Rattle.text.specs.Choice.{pick}
use Rattle.text.specs.Bytes.{Bytes, any, empty, same, among, distinct, each}
use Rattle.text.proofs.Cases.{by_bool, and_left, and_right, or_left, or_right, not-true, not-both}
use Rattle.text.proofs.Same.{same_true, same-swap, among-head, among_later}
use Rattle.json_text.specs.Tree.{Member, member, object, field}
use Rattle.json_text.proofs.Listed.{members-listed, field-append, field-none}
use Rattle.convert.specs.Table.{Map}
use Rattle.convert.specs.Model.{Entry}
use Rattle.convert.specs.FromJson.{entry_from, map_from}
use Rattle.convert.specs.ToJson.{where', entry_json, maps_json}
use Rattle.convert.proofs.EntryParts.{right-none, where-same, where-other}
use Rattle.convert.proofs.EntryJson.{entry-json}
use Rattle.convert.proofs.Proper.{AllGood, GoodMaps, AllRows}
use Rattle.convert.proofs.EntryParts.{Row}

abbrev pub member_names : List Map → List Bytes
member_names ms = map (λ (m : Map). m.member) ms

-- ---- one map

entries-back : (m : Map) → Row m → (es : List Entry) → AllGood m es → each (entry_from m) (map (entry_json m) es) ≡ some es
unfolding each
entries-back m r [] g = refl
entries-back m r (e ∷ es) g = rw (entry-json m e r g.0.proper g.0.kind, entries-back m r es g.1)

map_back : (m : Map) (es : List Entry) (ms : List Member) → Row m → AllGood m es → field m.member ms ≡ pick (not (empty es)) (some (object (map (entry_json m) es))) none → map_from ms m ≡ some es
unfolding map_from
map_back m [] ms r g h = rw h
map_back m (e ∷ es) ms r g h = rw (h, members-listed (map (entry_json m) (e ∷ es))) (entries-back m r (e ∷ es) g)

-- ---- all of them

-- a name that no map has
pub maps-other : (n : Bytes) (ms : List Map) (ess : List (List Entry)) → among n (member_names ms) ≡ false → field n (maps_json ms ess) ≡ none
unfolding maps_json among any
maps-other n [] ess h = field-none n
maps-other n (m ∷ ms) [] h = field-none n
maps-other n (m ∷ ms) (es ∷ ess) h =
    field-append n (where' (not (empty es)) (member m.member (object (map (entry_json m) es)))) (maps_json ms ess)
    ∙ rw (where-other n m.member (not (empty es)) (object (map (entry_json m) es)) (same-swap m.member n ∙ or_left (same n m.member) _ h)) (maps-other n ms ess (or_right (same n m.member) _ h))

maps-here : (m : Map) (ms : List Map) (es : List Entry) (ess : List (List Entry)) → among m.member (member_names ms) ≡ false
    → field m.member (maps_json (m ∷ ms) (es ∷ ess)) ≡ pick (not (empty es)) (some (object (map (entry_json m) es))) none
unfolding maps_json
maps-here m ms es ess h =
    field-append m.member (where' (not (empty es)) (member m.member (object (map (entry_json m) es)))) (maps_json ms ess)
    ∙ rw (where-same m.member (not (empty es)) (object (map (entry_json m) es)), maps-other m.member ms ess h) (right-none (pick (not (empty es)) (some (object (map (entry_json m) es))) none))

maps-later : (n : Bytes) (m : Map) (ms : List Map) (es : List Entry) (ess : List (List Entry)) → same m.member n ≡ false → field n (maps_json (m ∷ ms) (es ∷ ess)) ≡ field n (maps_json ms ess)
unfolding maps_json
maps-later n m ms es ess h =
    field-append n (where' (not (empty es)) (member m.member (object (map (entry_json m) es)))) (maps_json ms ess)
    ∙ rw (where-other n m.member (not (empty es)) (object (map (entry_json m) es)) h)

differs : (n m : Bytes) (ns : List Bytes) → among n ns ≡ true → among m ns ≡ false → same m n ≡ false
differs n m ns p q = by_bool (same m n) (λ e. not-both p (rw (← same_true m n e) q)) (λ e. e)

-- in members where each map's name finds what was written for it
pub maps-back : (ms : List Map) (ess : List (List Entry)) (whole : List Member) → AllRows ms → GoodMaps ms ess → distinct (member_names ms) ≡ true
    → ((n : Bytes) → among n (member_names ms) ≡ true → field n whole ≡ field n (maps_json ms ess)) → each (map_from whole) ms ≡ some ess
unfolding each distinct
maps-back [] [] whole r g d f = refl
maps-back [] (es ∷ ess) whole r g d f = absurd g
maps-back (m ∷ ms) [] whole r g d f = absurd g
maps-back (m ∷ ms) (es ∷ ess) whole r g d f =
    let new : among m.member (member_names ms) ≡ false = not-true (among m.member (member_names ms)) (and_left _ _ d) in
    rw (
      map_back m es whole r.0 g.0 (f m.member (among-head m.member (member_names ms)) ∙ maps-here m ms es ess new),
      maps-back ms ess whole r.1 g.2 (and_right (not (among m.member (member_names ms))) _ d)
          (λ n p. f n (among_later n m.member (member_names ms) p) ∙ maps-later n m ms es ess (differs n m.member (member_names ms) p new)),
    )
