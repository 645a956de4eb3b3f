-- The lines of a card in order: no member's name and no PROP-ID of a map comes twice; what was seen before a line was seen in all.
use mathlib.Core.Path.{◌≡◌, refl, sym, ap, subst}
use mathlib.Core.Bool.{true, false, ◌&&◌, ◌||◌, not}
use mathlib.Core.List.{List, [], ◌∷◌, ◌++◌, map}
use Prim.Native.Nat.{ℕ, suc}
use lib.ListN.{length}
use lib.Dec.{eqb}
use borrow.Author.Tests.{eqb-true}
use Rattle.text.specs.Bytes.{Bytes, any, empty, same, among, distinct, flat, keep}
use Rattle.text.proofs.Cases.{by_bool, not-true, not-both}
use Rattle.text.proofs.Same.{same_true, same_self, among-head, among_later}
use Rattle.json_text.specs.Tree.{Member, name_of}
use Rattle.line.specs.Grammar.{Line}
use Rattle.convert.specs.Model.{Entry}
use Rattle.convert.specs.Classify.{Class, as-version, as-uid, as-kind, as_dropped, as-full, as_parts, as-entry, as_member, as-kept, Id, id, is_id, with_id, Seen, see, classify, Classed, classed_after}
use Rattle.convert.specs.FromCard.{Gives, gives, gathered, Placed, placed, in_map}
use Rattle.convert.specs.Answers.{emptied}
use Rattle.home.proofs.Alls.{All}
use Rattle.home.proofs.KeyedEntries.{given}
use Rattle.home.proofs.LineKept.{LineFine}
use Rattle.home.proofs.Covered.{Covers, CoversClass, covers-see}
use Rattle.home.proofs.ClassFacts.{WellClass, NewClass, class-fit}
use Rattle.home.proofs.MapLines.{key_of}

abbrev pub LineGood : Line → Type 0
LineGood l = LineFine l × (emptied l ≡ false)

-- ---- each line by itself

pub classed-well : (s : Seen) (ls : List Line) → All LineGood ls → All (λ (c : Classed). LineFine c.line × WellClass c.line c.class) (classed_after s ls)
unfolding classed_after
classed-well s [] h = tt
classed-well s (l ∷ ls) h = ((h.0.0, (class-fit s l h.0.0 h.0.1).0), classed-well (see s (classify s l)) ls h.1)

-- it was classed by what t covers
pub covered : (t s : Seen) (ls : List Line) → Covers t s → All (λ (c : Classed). CoversClass t c.class) (classed_after s ls)
    → All (λ (c : Classed). (u : Seen) × Covers t u × (classify u c.line ≡ c.class)) (classed_after s ls)
unfolding classed_after
covered t s [] h k = tt
covered t s (l ∷ ls) h k = ((s, h, refl), covered t (see s (classify s l)) ls (covers-see t s (classify s l) h k.0) k.1)

pub classed-length : (s : Seen) (ls : List Line) → length (classed_after s ls) ≡ length ls
unfolding classed_after
classed-length s [] = refl
classed-length s (l ∷ ls) = ap suc (classed-length (see s (classify s l)) ls)

-- ---- lists of names

one_more : (n : Bytes) (ns : List Bytes) → among n ns ≡ false → distinct ns ≡ true → distinct (n ∷ ns) ≡ true
unfolding distinct
one_more n ns a d = rw (a, d)

not-among : (n m : Bytes) (ns : List Bytes) → same n m ≡ false → among n ns ≡ false → among n (m ∷ ns) ≡ false
unfolding among any
not-among n m ns a b = rw (a, b)

-- ---- members

abbrev members_of : List Classed → List Member
members_of cs = gathered (λ (g : Gives). g.member) cs

abbrev NewMembers : Seen → List Member → Type 0
NewMembers s ms = (distinct (map name_of ms) ≡ true) × ((n : Bytes) → among n s.members ≡ true → among n (map name_of ms) ≡ false)

no-members : (s : Seen) → NewMembers s []
unfolding distinct among any
no-members s = (refl, λ n e. refl)

new-member : (s : Seen) (l : Line) (c : Class) (ms : List Member) → NewClass s c → NewMembers (see s c) ms → NewMembers s ((gives l c).member ++ ms)
new-member s l as-version ms n h = h
new-member s l (as-uid v) ms n h = h
new-member s l (as-kind v) ms n h = h
new-member s l as_dropped ms n h = h
new-member s l (as-full v) ms n h = h
new-member s l (as_parts ps) ms n h = h
new-member s l (as-entry i e) ms n h = h
new-member s l (as_member m j) ms n h = (first, later)
  where
    first : distinct (m ∷ map name_of ms) ≡ true
    first = one_more m (map name_of ms) (h.1 m (among-head m s.members)) h.0

    later : (x : Bytes) → among x s.members ≡ true → among x (m ∷ map name_of ms) ≡ false
    later x e = not-among x m (map name_of ms) (by_bool (same x m) (λ q. not-both (subst (λ (y : Bytes). among y s.members ≡ true) (same_true x m q) e) n) (λ q. q)) (h.1 x (among_later x m s.members e))
new-member s l as-kept ms n h = h

pub members-new : (s : Seen) (ls : List Line) → All LineGood ls → NewMembers s (members_of (classed_after s ls))
unfolding classed_after gathered flat
members-new s [] h = no-members s
members-new s (l ∷ ls) h = new-member s l (classify s l) (members_of (classed_after (see s (classify s l)) ls)) (class-fit s l h.0.0 h.0.1).1 (members-new (see s (classify s l)) ls h.1)

-- ---- PROP-IDs

abbrev entries_of : List Classed → List Placed
entries_of cs = gathered (λ (g : Gives). g.entry) cs

abbrev ids_in : ℕ → List Placed → List Bytes
ids_in i ps = keep given (map key_of (in_map i ps))

abbrev NewIds : ℕ → Seen → List Placed → Type 0
NewIds i s ps = (distinct (ids_in i ps) ≡ true) × ((k : Bytes) → any (is_id i k) s.ids ≡ true → among k (ids_in i ps) ≡ false)

no-ids : (i : ℕ) (s : Seen) → NewIds i s []
unfolding in_map keep distinct among any
no-ids i s = (refl, λ k e. refl)

seen-later : (i : ℕ) (k : Bytes) (j : ℕ) (m : Bytes) (is : List Id) → any (is_id i k) is ≡ true → any (is_id i k) (id j m ∷ is) ≡ true
unfolding any
seen-later i k j m is e = by_bool (eqb i j && same k m) (λ q. rw q) (λ q. rw (q, e))

seen_here : (i j : ℕ) (k : Bytes) (is : List Id) → eqb i j ≡ true → any (is_id i k) (id j k ∷ is) ≡ true
unfolding any
seen_here i j k is p = rw (p, same_self k)

new-entry : (i : ℕ) (s : Seen) (j : ℕ) (e : Entry) (ps : List Placed) → empty e.key || not (any (is_id j e.key) s.ids) ≡ true
    → (distinct (ids_in i ps) ≡ true) × ((k : Bytes) → any (is_id i k) (with_id j e.key s.ids) ≡ true → among k (ids_in i ps) ≡ false)
    → NewIds i s (placed j e ∷ ps)
unfolding in_map keep
new-entry i s j e ps n h =
    by_bool (empty e.key)
    (λ q. let t : (k : Bytes) → any (is_id i k) s.ids ≡ true → among k (ids_in i ps) ≡ false = λ k r. h.1 k (rw q r) in
    by_bool (eqb i j) (λ p. rw (p, q) (h.0, t)) (λ p. rw p (h.0, t)))
    (λ q. let u : any (is_id j e.key) s.ids ≡ false = not-true (any (is_id j e.key) s.ids) (rw q at n) in
    let t : (k : Bytes) → any (is_id i k) s.ids ≡ true → among k (ids_in i ps) ≡ false = λ k r. h.1 k (rw q (seen-later i k j e.key s.ids r)) in
    by_bool (eqb i j)
    (λ p. let z : i ≡ j = eqb-true i j p in
    let here : among e.key (ids_in i ps) ≡ false = h.1 e.key (rw q (seen_here i j e.key s.ids p)) in
    rw (p, q) (
      one_more e.key (ids_in i ps) here h.0,
      λ k r. not-among k e.key (ids_in i ps) (by_bool (same k e.key) (λ v. not-both (subst (λ (x : Bytes). any (is_id i x) s.ids ≡ true) (same_true k e.key v) r) (subst (λ (x : ℕ). any (is_id x e.key) s.ids ≡ false) (sym z) u)) (λ v. v)) (t k r),
    ))
    (λ p. rw p (h.0, t)))

new-id : (i : ℕ) (s : Seen) (l : Line) (c : Class) (ps : List Placed) → NewClass s c → NewIds i (see s c) ps → NewIds i s ((gives l c).entry ++ ps)
new-id i s l as-version ps n h = h
new-id i s l (as-uid v) ps n h = h
new-id i s l (as-kind v) ps n h = h
new-id i s l as_dropped ps n h = h
new-id i s l (as-full v) ps n h = h
new-id i s l (as_parts vs) ps n h = h
new-id i s l (as-entry j e) ps n h = new-entry i s j e ps n h
new-id i s l (as_member m j) ps n h = h
new-id i s l as-kept ps n h = h

pub ids-new : (i : ℕ) (s : Seen) (ls : List Line) → All LineGood ls → NewIds i s (entries_of (classed_after s ls))
unfolding classed_after gathered flat
ids-new i s [] h = no-ids i s
ids-new i s (l ∷ ls) h = new-id i s l (classify s l) (entries_of (classed_after (see s (classify s l)) ls)) (class-fit s l h.0.0 h.0.1).1 (ids-new i (see s (classify s l)) ls h.1)
