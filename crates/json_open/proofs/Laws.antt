-- Laws of the pass that judges the members of an object and indexes them, over plain values.
use mathlib.Core.Path.{◌≡◌, refl, sym, ap, subst, ◌∙◌}
use mathlib.Core.Bool.{true}
use mathlib.Core.List.{List, [], ◌∷◌}
use mathlib.Core.Option.{Option, none, some}
use Prim.Native.Nat.{ℕ, zero, suc, ◌+◌, ◌<◌}
use native.Mathlib.Omega.{arith}
use lib.ListN.{length, drop, get_or}
use borrow.Author.Tests.{eq-eqb, ne_eqb}
use Rattle.text.specs.Places.{Read}
use Rattle.std.specs.Prelude.{Result, Ok, Err}
use Rattle.std.proofs.Common.{Continue, Break}
use Rattle.text.specs.Bytes.{Bytes, is, parts}
use Rattle.text.specs.Reader.{got, on, first}
use Rattle.text.specs.Places.{byte_at, GivesT, Passes}
use Rattle.text.proofs.Choices.{map-inv}
use Rattle.text.proofs.Fine.{got-what, got-rest, under-inv}
use Rattle.text.proofs.Places.{by_bool, on-yes, on-no}
use Rattle.json_text.specs.Grammar.{is_space}
use Rattle.json_text.specs.Tree.{Json, jobj, Members, mnil, mcons, Member, member, members_of, as_object}
use Rattle.json_text.specs.Syntax.{skip, name, sep, pairs, value}
use Rattle.json_text.specs.Strings.{decode, decoded, decoded_members}
use Rattle.json_text.specs.Read.{reading}
use Rattle.json_marks.proofs.Laws.{skip-to}
use Rattle.json_scan.proofs.First.{as-object}
use Rattle.json_strings.specs.Decoded.{decoded_at}
use Rattle.json_sound.specs.declared.Sounded.TheVariants.{Sound as SoundTo, Unsound as UnsoundTo}
use Rattle.json_sound.specs.Sound.{Found, is_sound, sound_members, soundly, unsoundly, Judged, Onward}
use Rattle.json_sound.specs.Noted.{NotedName, Notes}
use Rattle.json_sound.proofs.Judging.{onward-up}
use Rattle.json_sound.proofs.Values.{judges-object}
use Rattle.json_sound.proofs.Walk.{ToMembers}
use Rattle.json_index.specs.Index.{meant, json_at, placed, first_at, noted, Clear, IndexesFrom, IndexOf, Indexes}
use Rattle.json_index.proofs.Names.{placed-le}
use Rattle.json_index.proofs.Slots.{Going, going-first, going-last, going_on}
use Rattle.json_index.proofs.Laws.{Here, pair-here, others-on, others-none, next_of, members-cons, members-nil, first-nil, nil-decoded, Todo}
use Rattle.json_index.proofs.Objects.{at-inv, no-object}
use Rattle.json_read.specs.declared.Fault.{Fault}
use Rattle.json_read.specs.declared.Fault.TheVariants.{NotJson}
use Rattle.json_read.specs.Verdict.{Verdict, verdict_of, ended_as, Follows}
use Rattle.json_read.proofs.Laws.{read-bad, read-unsound}
use Rattle.json_open.specs.declared.Opened.{Opened}
use Rattle.json_open.specs.declared.Opened.TheVariants.{Object, Other}
use Rattle.json_open.specs.Opened.{as_verdict, answered, PairsIndexed, IndexedIf, Opens}

-- ---- a member that is read and noted

module _ (d : ℕ) (s : Bytes) (at : ℕ) (names : Bytes) (xs : List ℕ) (i : ℕ) (todo : Todo d s at names xs i)
    (us n : Bytes) (v : ℕ) (is_name : name (drop i s) ≡ got us (drop v s)) (is-key : decode us ≡ some n)
    (j : Json) (e : ℕ) (is-value : value d (drop v s) ≡ got j (drop e s))
    (k : ℕ) (is-k : k ≡ placed (some n) (parts 44 names)) (in-k : k < length xs) (not-0 : 0 < v) (ys : List ℕ) (is-ys : ys ≡ noted xs k v) where
  -- it is the member that is next
  module _ (vs : Members) (z : Here d s i vs) where
    key-is : decode z.key ≡ some n
    key-is = ap decode (got-what (sym z.is_name ∙ is_name)) ∙ is-key

    read-so : got z.val z.rest-val ≡ got j (drop e s)
    read-so = sym z.is-value ∙ ap (value d) (got-rest (sym z.is_name ∙ is_name)) ∙ is-value

  step : (whole : ℕ → Option Json) (vs rs : Members) (z : Here d s i vs) (ws : Members) → mcons z.key z.val ws ≡ vs → decoded_members vs ≡ some rs
      → ((m : ℕ) → Going d s (get_or xs m 0) (whole m) (first_at (parts 44 names) m (members_of rs)))
      → (os : Members) × (decoded_members ws ≡ some os) × ((m : ℕ) → Going d s (get_or ys m 0) (whole m) (first_at (parts 44 names) m (members_of os)))
  unfolding json_at
  step whole vs rs z ws q f g =
      let ns = parts 44 names in
      let o = next_of z.key z.val ws rs (ap decoded_members q ∙ f) in
      let l : members_of rs ≡ member o.key o.val ∷ members_of o.others = ap members_of (sym o.is) ∙ members-cons o.key o.val o.others in
      let p : k ≡ placed (some o.key) ns = is-k ∙ ap (λ (x : Option Bytes). placed x ns) (sym (key-is vs z) ∙ o.is-key) in
      let a : json_at d s v ≡ some o.val = ap meant is-value ∙ ap decoded (sym (got-what (read-so vs z))) ∙ o.is-val in (
        o.others,
        o.is-others,
        λ m.
            subst (λ (x : List ℕ). Going d s (get_or x m 0) (whole m) (first_at ns m (members_of o.others))) (sym is-ys)
            (going_on d s ns xs k v o.key o.val (members_of o.others) whole p in-k not-0 a m (subst (λ (x : List Member). Going d s (get_or xs m 0) (whole m) (first_at ns m x)) l (g m))),
      )

  pub todo-on : (p : ℕ) → GivesT s e (sep 125 zero suc (drop e s)) (Continue p) → Todo d s at names ys p
  todo-on p w us ms t x f =
      let y = todo us ms t x f in
      let z = pair-here d s i y.0 t y.2 in
      let o = others-on d s i y.0 t y.2 z e (got-rest (read-so y.0 z)) p w in
      let n = step (λ m. first_at (parts 44 names) m (members_of ms)) y.0 y.1 z o.0 o.2 y.3 y.4 in
      (o.0, n.0, o.1, n.1, n.2)

  pub todo-last : (r : Read) → GivesT s e (sep 125 zero suc (drop e s)) (Break r) → IndexesFrom d s at names ys
  todo-last r w us ms t x f m =
      let ns = parts 44 names in
      let y = todo us ms t x f in
      let z = pair-here d s i y.0 t y.2 in
      let o = others-none d s i y.0 t y.2 z e (got-rest (read-so y.0 z)) r w in
      let n = step (λ m. first_at ns m (members_of ms)) y.0 y.1 z mnil o y.3 y.4 in
      let l : first_at ns m (members_of n.0) ≡ none = ap (λ (x : Members). first_at ns m (members_of x)) (sym (nil-decoded n.0 n.1)) ∙ ap (first_at ns m) members-nil ∙ first-nil ns m in
      going-last d s (get_or ys m 0) _ (subst (Going d s (get_or ys m 0) (first_at ns m (members_of ms))) l (n.2 m))

-- by what the readers of the name and of the value say
module _ (d : ℕ) (s : Bytes) (at i : ℕ) (ps fs : List ℕ) (k : ℕ) (judging : ToMembers d s at i ps fs k) (after afters : List ℕ) (r : Found) (notes : Notes s i ps fs k r after afters)
    (v : ℕ) (is-v : r ≡ Ok (SoundTo v)) (e : ℕ) (judged : Judged s (value d (drop v s)) is_sound (Ok (SoundTo e)))
    (from : ℕ) (names : Bytes) (xs : List ℕ) (todo : Todo d s from names xs i) (room : length (parts 44 names) < length xs) (not-0 : 0 < v)
    (ys : List ℕ) (is-ys : ys ≡ noted xs (placed (decoded_at s (get_or after k 0)) (parts 44 names)) v) where
  name-is : NotedName s i judging.0 k after afters (Ok (SoundTo v))
  name-is = subst (NotedName s i judging.0 k after afters) is-v (notes judging.0 judging.1)

  in-slots : placed (decoded_at s (get_or after k 0)) (parts 44 names) < length xs
  in-slots = omega (arith, placed-le (decoded_at s (get_or after k 0)) (parts 44 names), room)

  is-placed : placed (decoded_at s (get_or after k 0)) (parts 44 names) ≡ placed (some name-is.1) (parts 44 names)
  is-placed = ap (λ (o : Option Bytes). placed o (parts 44 names)) name-is.6

  pub member-on : (p : ℕ) → GivesT s e (sep 125 zero suc (drop e s)) (Continue p) → Todo d s from names ys p
  member-on = todo-on d s from names xs i todo name-is.0 name-is.1 v name-is.2 name-is.3 judged.0 e judged.1 _ is-placed in-slots not-0 ys is-ys

  pub member-last : (q : Read) → GivesT s e (sep 125 zero suc (drop e s)) (Break q) → IndexesFrom d s from names ys
  member-last = todo-last d s from names xs i todo name-is.0 name-is.1 v name-is.2 name-is.3 judged.0 e judged.1 _ is-placed in-slots not-0 ys is-ys

-- ---- the members of an object, from after the byte that opens it

module _ (d : ℕ) (s : Bytes) (at i : ℕ) (h : Passes is_space s at i) (b : ℕ) (e : b ≡ byte_at s i) (names : Bytes) (xs : List ℕ) where
  pub pairs-none : b ≡ 125 → Clear xs → PairsIndexed d s at names xs
  unfolding pairs
  pairs-none q clear us ms t x f m =
      let w : got mnil (drop (i + 1) s) ≡ got us t = sym (ap (on (is 125) _ _) (skip-to h) ∙ on-yes (is 125) s i b e _ _ (eq-eqb _ _ q)) ∙ x in
      let o : mnil ≡ ms = nil-decoded ms (ap decoded_members (got-what w) ∙ f) in
      let l : first_at (parts 44 names) m (members_of ms) ≡ none = ap (λ (x : Members). first_at (parts 44 names) m (members_of x)) (sym o) ∙ ap (first_at (parts 44 names) m) members-nil ∙ first-nil (parts 44 names) m in
      going-last d s (get_or xs m 0) _ (subst (Going d s (get_or xs m 0) (first_at (parts 44 names) m (members_of ms))) l (going-first d s (get_or xs m 0) _ (clear m)))

  pub pairs-some : (b ≡ 125 → ⊥) → IndexesFrom d s i names xs → PairsIndexed d s at names xs
  unfolding pairs
  pairs-some n g us ms t x f = g us ms t (sym (ap (on (is 125) _ _) (skip-to h) ∙ on-no (is 125) s i b e _ _ (ne_eqb _ _ n)) ∙ x) f

module _ (d : ℕ) (s : Bytes) (at : ℕ) (names : Bytes) (xs : List ℕ) where
  pub indexed-as : {r q : Found} → r ≡ q → IndexedIf d s at names xs q → IndexedIf d s at names xs r
  indexed-as e h = subst (IndexedIf d s at names xs) (sym e) h

  pub indexed-sound : (r : Read) → PairsIndexed d s at names xs → IndexedIf d s at names xs (soundly r)
  indexed-sound (Ok e) h = h
  indexed-sound (Err b) h = tt

  pub indexed-unsound : (r : Read) → IndexedIf d s at names xs (unsoundly r)
  indexed-unsound (Ok e) = tt
  indexed-unsound (Err b) = tt

-- ---- the whole text

not_sound : {f : Fault} → ◌≡◌ {A = Verdict} (Err f) (Ok tt) → ⊥
not_sound e = let z : ◌≡◌ {A = ℕ} 0 1 = cc in omega arith

-- a text that is JSON was read as sound
module _ (s : Bytes) (v : Verdict) where
  ended-refused : (e : ℕ) → ended_as (length s) (drop e s) (Err (NotJson 0)) ≡ Ok tt → ⊥
  ended-refused e q = by_bool (is 256 (first (skip (drop e s)))) (λ p. not_sound (rw p at q)) (λ p. not_sound (rw p at q))

  sound-only : (r : Found) → Judged s (value 16 s) is_sound r → Onward 0 (length s) r → v ≡ verdict_of (reading 16 s) → v ≡ Ok tt → (e : ℕ) × (r ≡ Ok (SoundTo e))
  sound-only (Ok (SoundTo e)) h o q z = (e, refl)
  sound-only (Ok (UnsoundTo e)) h o q z = absurd (ended-refused e (read-unsound 16 s e h ∙ sym q ∙ z))
  sound-only (Err b) h o q z = absurd (not_sound (read-bad 16 s b o.1 h ∙ sym q ∙ z))

answer-verdict : (v : Verdict) (o : Opened) → as_verdict (answered v o) ≡ v
answer-verdict (Ok u) o = refl
answer-verdict (Err f) o = refl

opens_by : (s names : Bytes) (xs : List ℕ) (v : Verdict) (o : Opened) → (v ≡ Ok tt → Opens s names xs (Ok o)) → Opens s names xs (answered v o)
opens_by s names xs (Ok u) o h = h refl
opens_by s names xs (Err f) o h = tt

module _ (s names : Bytes) (xs : List ℕ) (i b : ℕ) (h : Passes is_space s 0 i) (e : b ≡ byte_at s i) (v : Verdict) (r : Result Opened Fault) where
  pub read-other : (b ≡ 123 → ⊥) → v ≡ verdict_of (reading 16 s) → r ≡ answered v Other → (as_verdict r ≡ verdict_of (reading 16 s)) × Opens s names xs r
  read-other n said is = (
    ap as_verdict is ∙ answer-verdict v Other ∙ said,
    subst (Opens s names xs) (sym is) (opens_by s names xs v Other (λ z. no-object 15 s 0 names xs i b h e n)),
  )

  module _ (q : b ≡ 123) where
    -- the members of the object are those after its brace
    object-indexed : PairsIndexed 15 s (i + 1) names xs → Indexes 15 s 0 names xs true
    unfolding decoded
    object-indexed g j w =
        let u = at-inv 16 s 0 j w in
        let x = under-inv jobj (pairs (value 15) (drop (i + 1) s)) (sym (as-object s i b e 0 h 16 (λ z. omega arith) (λ z. omega (arith, q, z)) q) ∙ u.2) in
        let m = map-inv jobj (decoded_members x.0) (ap decoded x.2 ∙ u.3) in
        subst (IndexOf 15 s (parts 44 names) xs true) (ap as_object m.2) (refl, g x.0 m.0 u.1 x.1 m.1)

    pub read-object : (p : Found) → Judged s (pairs (value 15) (drop (i + 1) s)) (sound_members []) p → Onward (i + 1) (length s) p → IndexedIf 15 s (i + 1) names xs p
        → Follows s p v → r ≡ answered v Object → (as_verdict r ≡ verdict_of (reading 16 s)) × Opens s names xs r
    read-object p judged onward g follows is =
        let whole = judges-object s i b e 0 h 16 (λ z. omega arith) (λ z. omega (arith, q, z)) q p judged in
        let said = follows 16 whole in (
          ap as_verdict is ∙ answer-verdict v Object ∙ said,
          subst (Opens s names xs) (sym is) (opens_by s names xs v Object (λ z.
              let w = sound-only s v p whole (onward-up 0 (i + 1) (length s) p (omega arith) onward) said z in
              object-indexed (subst (IndexedIf 15 s (i + 1) names xs) w.1 g))),
        )
