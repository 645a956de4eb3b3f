-- A card from lines is proper.
use mathlib.Core.Path.{◌≡◌, refl, ap}
use mathlib.Core.Logic.{inl}
use mathlib.Core.Bool.{Bool, true, false, ◌&&◌, ◌||◌, not}
use mathlib.Core.List.{List, [], ◌∷◌, ◌++◌}
use mathlib.Core.Option.{none, some}
use Prim.Native.Nat.{ℕ, ◌≤◌}
use native.Mathlib.Omega.{arith}
use lib.ListN.{length}
use lib.Dec.{eqb, leb}
use borrow.Author.Tests.{leb-true}
use Rattle.text.specs.Choice.{with-some}
use Rattle.text.specs.Bytes.{Bytes, any, all, empty, among, is_digit, between, each}
use Rattle.text.specs.Decimal.{decimal}
use Rattle.text.specs.Utf8.{utf8}
use Rattle.text.proofs.Cases.{by_bool, tests, implied, beyond, and_left, and_right, and-true, or_left, or_right, not-both}
use Rattle.text.proofs.Lists.{all-imply, all_both, all_cons, any_head, any-tail}
use Rattle.text.proofs.Decimals.{decimal-digits}
use Rattle.json_text.specs.Tree.{Member, member, name_of}
use Rattle.line.specs.Class.{is_name, is_key, is_stem, is_control}
use Rattle.line.specs.Grammar.{Line, accepted, read_line}
use Rattle.convert.specs.Table.{maps}
use Rattle.convert.specs.Model.{Kept, Card, has_parts, no_parts}
use Rattle.convert.specs.Value.{filled}
use Rattle.convert.specs.Carry.{carried_raw, carried_text, carried_param, carried_maps, carried_kept, apart, apart_parts, carried}
use Rattle.convert.specs.Classify.{Class, as-version, as-uid, as-kind, as_dropped, as-full, as_parts, as-entry, as_member, as-kept, Seen, nothing, Classed, classed_after, classed, classify}
use Rattle.convert.specs.FromCard.{placed, Gives, gathered, first_of, or_else, maps_from, made_uid, card_of_classed, card_of_lines}
use Rattle.convert.specs.FromJson.{is_lower_word, kept_stands, seen_in}
use Rattle.convert.specs.Answers.{is_stem_text, garbled, misused, second_from, emptied}
use Rattle.home.proofs.Proper.{ProperMember, ProperMembers, KeptFine, AllKeptFine, ProperMaps, ProperCard}
use Rattle.home.proofs.Alls.{All, all-test, all-mono, all_two, each-gives, In, in_all, all_in, in-among}
use Rattle.home.proofs.Words.{or_word}
use Rattle.home.proofs.Clean.{is_ascii, Clean}
use Rattle.home.proofs.CleanLines.{name-ascii, CleanLine, read-clean}
use Rattle.home.proofs.CleanTexts.{CleanText}
use Rattle.home.proofs.ReadNames.{NameWell}
use Rattle.home.proofs.KeyedEntries.{PlacedWell, placed-proper, ids-cover}
use Rattle.home.proofs.LineKept.{LineFine}
use Rattle.home.proofs.Covered.{Covers, CoversClass}
use Rattle.home.proofs.Ordered.{LineGood, classed-well, covered, classed-length, members-new, ids-new}
use Rattle.home.proofs.Gathered.{gathered-all, in-gathered, Well, UidFine, uid-given, kind-given, full-given, SomeName, parts-given, entry-given, MemberFine, member-given, KeptGood, kept-given, Stood, stand-given, entries-length, or-else, first-in, is-first}
use Rattle.home.proofs.WrittenClean.{is_printed, clean-printed}

-- ---- a made UID

no-stem : (c : ℕ) → is_ascii c ≡ false → is_stem c ≡ false
unfolding is_stem is_key
no-stem c l = rw (off, other 95 refl, other 58 refl)
  where
    off : is_name c ≡ false
    off = by_bool (is_name c) (λ q. not-both (name-ascii c q) l) (λ q. q)

    other : (b : ℕ) → is_ascii b ≡ true → eqb c b ≡ false
    other b a = by_bool (eqb c b) (λ e. absurd (omega tests)) (λ e. e)

stem-plain : (c : ℕ) → is_stem c ≡ true → is_printed c ≡ true
unfolding is_stem is_key is_name between is_control
stem-plain c h = implied is_stem is_printed 128 c refl (λ l. no-stem c l) h

digit-plain : (c : ℕ) → is_digit c ≡ true → is_printed c ≡ true
unfolding between is_control
digit-plain c h = implied is_digit is_printed 128 c refl (λ l. beyond 48 57 c (omega tests)) h

hyphen-plain : is_printed 45 ≡ true
unfolding is_control
hyphen-plain = refl

append-filled : (s t : Bytes) → filled s ≡ true → filled (s ++ t) ≡ true
append-filled [] t h = not-both h refl
append-filled (c ∷ s) t h = refl

made-fine : (stem : Bytes) (n : ℕ) → is_stem_text stem ≡ true → UidFine (made_uid stem n)
unfolding is_stem_text made_uid carried_raw
made-fine stem n h =
    let a = and_left (filled stem && leb (length stem) 200) _ h in
    let s = all-imply is_stem is_printed stem-plain stem (and_right (filled stem && leb (length stem) 200) _ h) in
    let d = all_cons is_printed 45 (decimal n) hyphen-plain (all-imply is_digit is_printed digit-plain (decimal n) (decimal-digits n)) in
    let u = all_both is_printed stem (45 ∷ decimal n) s d in
    let c : Clean (stem ++ 45 ∷ decimal n) = clean-printed (stem ++ 45 ∷ decimal n) u in (
      and-true (append-filled stem (45 ∷ decimal n) (and_left (filled stem) _ a)) c.0,
      ap not c.1,
    )

-- ---- the model

empty_name : NameWell no_parts
unfolding all apart
empty_name = record { seven = refl; whole = refl; carry = refl; apart-0 = refl; apart-4 = refl }

full-holds : (p : Bytes → Bool) (vs : List Bytes) → All (λ v. p v ≡ true) vs → with-some (first_of vs) p true ≡ true
full-holds p [] h = refl
full-holds p (v ∷ vs) h = h.0

all-members : (ms : List Member) → All ProperMember ms → ProperMembers ms
all-members [] h = tt
all-members (m ∷ ms) h = (h.0, all-members ms h.1)

all-fine : (ks : List Kept) → All KeptFine ks → AllKeptFine ks
all-fine [] h = tt
all-fine (k ∷ ks) h = (h.0, all-fine ks h.1)

covers-nothing : (t : Seen) → Covers t nothing
unfolding among any
covers-nothing t = record { full = λ e. not-both e refl; parts = λ e. not-both e refl; ids = λ i k e. not-both e refl; members = λ n e. not-both e refl }

module _ (stem : Bytes) (n : ℕ) (cs : List Classed) (h : All (λ (c : Classed). Well c.line c.class) cs) where
  abbrev card : Card
  card = card_of_classed stem n cs

  parts_all : All SomeName (gathered (λ (g : Gives). g.parts) cs)
  parts_all = gathered-all (λ (g : Gives). g.parts) Well SomeName parts-given cs h

  -- what the lines leave behind was seen in the card
  cover-class : (l : Line) (c : Class) → Well l c → In (record { line = l; class = c }) cs → CoversClass (seen_in card) c
  unfolding seen_in card_of_classed
  cover-class l as-version w i = tt
  cover-class l (as-uid v) w i = tt
  cover-class l (as-kind v) w i = tt
  cover-class l as_dropped w i = tt
  cover-class l (as-full v) w i = is-first v (gathered (λ (g : Gives). g.full) cs) (in-gathered (λ (g : Gives). g.full) l (as-full v) v cs (inl refl) i)
  cover-class l (as_parts ps) w i =
      first-in (λ ps. has_parts ps ≡ true) ps (gathered (λ (g : Gives). g.parts) cs) no_parts (in-gathered (λ (g : Gives). g.parts) l (as_parts ps) ps cs (inl refl) i)
      (all-mono SomeName (λ ps. has_parts ps ≡ true) (λ ps k. k.1) (gathered (λ (g : Gives). g.parts) cs) parts_all)
  cover-class l (as-entry j e) w i = λ q.
      ids-cover j e w.1.0 (gathered (λ (g : Gives). g.entry) cs) w.1.1 q (in-gathered (λ (g : Gives). g.entry) l (as-entry j e) (placed j e) cs (inl refl) i)
  cover-class l (as_member m j) w i =
      in-among name_of (member m j) (gathered (λ (g : Gives). g.member) cs) (in-gathered (λ (g : Gives). g.member) l (as_member m j) (member m j) cs (inl refl) i)
  cover-class l as-kept w i = tt

  cover_all : All (λ (c : Classed). CoversClass (seen_in card) c.class) cs
  cover_all = in_all (λ (c : Classed). CoversClass (seen_in card) c.class) cs (λ c i. cover-class c.line c.class (all_in (λ (c : Classed). Well c.line c.class) cs c h i) i)

module _ (stem : Bytes) (n : ℕ) (ls : List Line) (st : is_stem_text stem ≡ true) (good : All LineGood ls) (few : length ls ≤ 512) where
  abbrev cs : List Classed
  cs = classed_after nothing ls

  abbrev made : Card
  made = card_of_classed stem n cs

  well : All (λ (c : Classed). Well c.line c.class) cs
  well = classed-well nothing ls good

  uid-all : UidFine (or_else (first_of (gathered (λ (g : Gives). g.uid) cs)) (made_uid stem n))
  uid-all = or-else UidFine (gathered (λ (g : Gives). g.uid) cs) (made_uid stem n) (gathered-all (λ (g : Gives). g.uid) Well UidFine uid-given cs well) (made-fine stem n st)

  kind-all : empty (or_else (first_of (gathered (λ (g : Gives). g.kind) cs)) []) || is_lower_word (or_else (first_of (gathered (λ (g : Gives). g.kind) cs)) []) ≡ true
  kind-all =
      or-else (λ k. empty k || is_lower_word k ≡ true) (gathered (λ (g : Gives). g.kind) cs) []
      (all-mono (λ k. is_lower_word k ≡ true) (λ k. empty k || is_lower_word k ≡ true) or_word (gathered (λ (g : Gives). g.kind) cs) (gathered-all (λ (g : Gives). g.kind) Well (λ k. is_lower_word k ≡ true) kind-given cs well)) refl

  fulls : All CleanText (gathered (λ (g : Gives). g.full) cs)
  fulls = gathered-all (λ (g : Gives). g.full) Well CleanText full-given cs well

  name-all : NameWell (or_else (first_of (gathered (λ (g : Gives). g.parts) cs)) no_parts)
  name-all =
      or-else NameWell (gathered (λ (g : Gives). g.parts) cs) no_parts
      (all-mono SomeName NameWell (λ ps k. k.0) (gathered (λ (g : Gives). g.parts) cs) (parts_all stem n cs well)) empty_name

  entries-all : ProperMaps maps (maps_from 0 maps (gathered (λ (g : Gives). g.entry) cs)) × (carried_maps maps (maps_from 0 maps (gathered (λ (g : Gives). g.entry) cs)) ≡ true)
  entries-all =
      placed-proper (gathered (λ (g : Gives). g.entry) cs) (gathered-all (λ (g : Gives). g.entry) Well PlacedWell entry-given cs well)
      (omega (arith, entries-length cs, classed-length nothing ls)) (λ i. (ids-new i nothing ls good).0)

  members-all : All MemberFine (gathered (λ (g : Gives). g.member) cs)
  members-all = gathered-all (λ (g : Gives). g.member) Well MemberFine member-given cs well

  kepts : All KeptGood (gathered (λ (g : Gives). g.kept) cs)
  kepts = gathered-all (λ (g : Gives). g.kept) Well KeptGood kept-given cs well

  stand-all : all (kept_stands (seen_in made)) (gathered (λ (g : Gives). g.kept) cs) ≡ true
  stand-all =
      all-test (kept_stands (seen_in made)) (gathered (λ (g : Gives). g.kept) cs)
      (gathered-all (λ (g : Gives). g.kept) (Stood (seen_in made)) (λ k. kept_stands (seen_in made) k ≡ true) (stand-given (seen_in made)) cs
      (all_two (λ (c : Classed). Well c.line c.class) (λ (c : Classed). (u : Seen) × Covers (seen_in made) u × (classify u c.line ≡ c.class)) cs well
      (covered (seen_in made) nothing ls (covers-nothing (seen_in made)) (cover_all stem n cs well))))

  carries-all : carried made ≡ true
  unfolding carried apart_parts card_of_classed
  carries-all =
      rw (
        uid-all.1,
        full-holds carried_text (gathered (λ (g : Gives). g.full) cs) (all-mono CleanText (λ v. carried_text v ≡ true) (λ v k. k.1) (gathered (λ (g : Gives). g.full) cs) fulls),
        name-all.carry,
        name-all.apart-0,
        name-all.apart-4,
        entries-all.1,
        all-test (λ m. carried_param (name_of m)) (gathered (λ (g : Gives). g.member) cs) (all-mono MemberFine (λ m. carried_param (name_of m) ≡ true) (λ m k. k.1) (gathered (λ (g : Gives). g.member) cs) members-all),
        all-test carried_kept (gathered (λ (g : Gives). g.kept) cs) (all-mono KeptGood (λ k. carried_kept k ≡ true) (λ k c. c.1) (gathered (λ (g : Gives). g.kept) cs) kepts),
      )

  pub lines-proper : ProperCard (card_of_lines stem n ls)
  unfolding card_of_lines classed card_of_classed
  lines-proper =
      record {
        uid = uid-all.0;
        kind = kind-all;
        full = full-holds utf8 (gathered (λ (g : Gives). g.full) cs) (all-mono CleanText (λ v. utf8 v ≡ true) (λ v k. k.0) (gathered (λ (g : Gives). g.full) cs) fulls);
        seven = name-all.seven;
        parts = name-all.whole;
        entries = entries-all.0;
        members = all-members (gathered (λ (g : Gives). g.member) cs) (all-mono MemberFine ProperMember (λ m k. k.0) (gathered (λ (g : Gives). g.member) cs) members-all);
        names = (members-new nothing ls good).0;
        kept = all-fine (gathered (λ (g : Gives). g.kept) cs) (all-mono KeptGood KeptFine (λ k c. c.0) (gathered (λ (g : Gives). g.kept) cs) kepts);
        stand = stand-all;
        carries = carries-all;
      }

-- ---- from the refusals that were not given

any_false : {A : Type 0} (p : A → Bool) (xs : List A) → any p xs ≡ false → All (λ x. p x ≡ false) xs
any_false p [] h = tt
any_false p (x ∷ xs) h = (any_head p x xs h, any_false p xs (any-tail p x xs h))

pub not-garbled : (s : Bytes) → garbled s ≡ false → Clean s
unfolding garbled
not-garbled s h = (by_bool (utf8 s) (λ e. e) (λ e. not-both (ap not e) (or_left (not (utf8 s)) _ h)), or_right (not (utf8 s)) _ h)

pub lines-good : (raw : List Bytes) (ls : List Line) → each read_line raw ≡ some ls → any garbled raw ≡ false → any misused ls ≡ false → any emptied ls ≡ false → All LineGood ls
lines-good raw ls e g m f =
    let c = each-gives read_line Clean (λ l. CleanLine l × (accepted l ≡ true)) read-clean raw ls (all-mono (λ s. garbled s ≡ false) Clean not-garbled raw (any_false garbled raw g)) e in
    let d = all_two (λ l. CleanLine l × (accepted l ≡ true)) (λ l. misused l ≡ false) ls c (any_false misused ls m) in
    all_two LineFine (λ l. emptied l ≡ false) ls
    (all-mono (λ l. (CleanLine l × (accepted l ≡ true)) × (misused l ≡ false)) LineFine (λ l k. record { clean = k.0.0; accept = k.0.1; used = k.1 }) ls d) (any_false emptied ls f)

-- refusal 8 is not needed: of several UIDs or KINDs the model takes the first
pub card-proper : (stem : Bytes) (n : ℕ) (raw : List Bytes) (ls : List Line) → is_stem_text stem ≡ true → each read_line raw ≡ some ls → any garbled raw ≡ false → any misused ls ≡ false
    → second_from 1 [] ls ≡ none → any emptied ls ≡ false → leb (length ls) 512 ≡ true → ProperCard (card_of_lines stem n ls)
card-proper stem n raw ls st e g m o f k = lines-proper stem n ls st (lines-good raw ls e g m f) (leb-true (length ls) 512 k)
