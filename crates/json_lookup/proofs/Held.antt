-- The part that the look-up hands back is the member's value.
use mathlib.Core.Path.{◌≡◌, refl, sym, ap, subst, ◌∙◌}
use mathlib.Core.Bool.{Bool, true, false, ◌&&◌}
use mathlib.Core.List.{List, [], ◌∷◌, ◌++◌, tail}
use mathlib.Core.Logic.{◌⊎◌, inl, inr, ⊎_elim}
use mathlib.Core.Option.{Option, none, some}
use Prim.Native.Nat.{ℕ, suc, ◌+◌, ◌-◌}
use native.Mathlib.Omega.{arith}
use lib.ListN.{length, take, drop, length-append}
use lib.Dec.{eqb, leb}
use borrow.Author.Tests.{eqb-true, ne_eqb}
use Rattle.text.specs.Bytes.{Bytes, is, same, distinct}
use Rattle.text.specs.Choice.{pick, with-some, both, chain}
use Rattle.text.specs.Reader.{Got, got, bad, under, first, on, when, after, turns, loop}
use Rattle.text.proofs.Cases.{by_bool, and_left, and_right}
use Rattle.text.proofs.Choices.{some_same, map-inv, both-inv}
use Rattle.text.proofs.Readers.{not-bad, got-what, bind_inv, under-inv, on-inv, when-inv}
use Rattle.text.proofs.Same.{same-swap}
use Rattle.json_text.specs.Tree.{Json, jnull, jtrue, jfalse, jnum, jstr, jarr, jobj, Members, mnil, mcons, members_of, as_object, field}
use Rattle.json_text.specs.Syntax.{skip, scalar, elements, pair, pairs, value, text}
use Rattle.json_text.specs.Strings.{decode, decoded, decoded_elems, decoded_members, names, distinct_names, distinct_members}
use Rattle.json_text.specs.Read.{tree, refused, sound, reading_of, reading}
use Rattle.json_text.specs.Lookup.{Span, span_of, spans, given, found, is_tree, room, look_up, part_of, Part as Found}
use Rattle.json_access.specs.declared.Part.{Part}
use Rattle.json_lookup.specs.Finds.{place_of}
use Rattle.json_text.proofs.Fine.{value-fine}
use Rattle.json_text.proofs.Sound.{Sound}
use Rattle.json_text.proofs.Scalars.{scalar-gives}
use Rattle.json_lookup.specs.Held.{member_of, value_of, Holds}
use Rattle.json_lookup.proofs.Spans.{Spanned, spanned}
use Rattle.json_lookup.proofs.Rests.{Ends, ends-then, ends-tail, ends-skip, ends-value, end-by-length, before-by-length}

-- ---- a value, read alone

nothing-more : (t w : Bytes) → w ≡ t ++ w → t ≡ []
nothing-more [] w e = refl
nothing-more (c ∷ t) w e = absurd (omega (arith, ap length e, length-append t w))

value-alone : (d : ℕ) (s w : Bytes) (u : Json) (h : Ends s w) → value d s ≡ got u w → value d h.0 ≡ got u []
value-alone d s w u h e =
    let c = (value-fine d).cut h.0 w u w (ap (value d) (sym h.1) ∙ e) (omega arith) in
    c.2 ∙ ap (got u) (nothing-more c.0 w c.1)

reads-alone : (d : ℕ) (x : Bytes) (u v : Json) → value d x ≡ got u [] → decoded u ≡ some v → distinct_names v ≡ true → reading d x ≡ tree v
unfolding reading text sound skip Rattle.text.specs.Reader.past when
reads-alone d x u v e f g = rw (e, f, g)

-- ---- the first of that name

module _ (s m : Bytes) where
  held : (ps : List Span) (us ms : Members) → Spanned 15 s ps us → decoded_members us ≡ some ms → distinct_members ms ≡ true → Holds (part_of s (found (length s) m ps)) (field m (members_of ms))
  unfolding found part_of field members_of decoded_members distinct_members
  held [] mnil ms h e g = subst (λ (x : Members). Holds [] (field m (members_of x))) (some_same e) refl
  held [] (mcons k u us) ms h e g = absurd h
  held (p ∷ ps) mnil ms h e g = absurd h
  held (p ∷ ps) (mcons k u us) ms h e g =
      let i = both-inv (λ (f : Members → Members) rest. f rest) (both (λ n v rest. mcons n v rest) (decode k) (decoded u)) (decoded_members us) e in
      let l = both-inv (λ n v rest. mcons n v rest) (decode k) (decoded u) i.2 in
      let w : mcons l.0 l.1 i.1 ≡ ms = ap (λ (f : Members → Members). f i.1) l.4 ∙ i.4 in
      let q : distinct_names l.1 && distinct_members i.1 ≡ true = ap distinct_members w ∙ g in
      let y : decode p.name ≡ some l.0 = ap decode h.0 ∙ l.2 in
      let a = ends-value 15 p.from u p.after h.2 in
      let b : take (length p.from - length p.after) (drop (length s - length p.from) s) ≡ a.0 =
      ap (take (length p.from - length p.after)) (end-by-length s p.from h.1) ∙ before-by-length p.from p.after a in
      let r : reading 15 a.0 ≡ tree l.1 = reads-alone 15 a.0 u l.1 (value-alone 15 p.from p.after u a h.2) l.3 (and_left (distinct_names l.1) _ q) in
      subst (λ (x : Members). Holds (part_of s (found (length s) m (p ∷ ps))) (field m (members_of x))) w
      (by_bool (same m l.0)
      (λ z. rw (y, z, same-swap l.0 m, z) (ap (reading 15) b ∙ r))
      (λ z. rw (y, z, same-swap l.0 m, z) (held ps us i.1 h.3 i.3 (and_right (distinct_names l.1) _ q))))

-- ---- a text

on-true : {A : Type 0} (p : ℕ → Bool) (f : ℕ → Bytes → Got A) (g : Bytes → Got A) (s : Bytes) → p (first s) ≡ true → on p f g s ≡ f (first s) (tail s)
unfolding on
on-true p f g s e = rw e

on-false : {A : Type 0} (p : ℕ → Bool) (f : ℕ → Bytes → Got A) (g : Bytes → Got A) (s : Bytes) → p (first s) ≡ false → on p f g s ≡ g s
unfolding on
on-false p f g s e = rw e

module _ (s m : Bytes) where
  -- no member is looked through where no object opens
  nothing-found : eqb (first (skip s)) 123 ≡ false → part_of s (found (length s) m (given (spans 15 s))) ≡ []
  unfolding spans found part_of on
  nothing-found e = rw e

  flat-value : (k : Json) → Sound 0 k → chain (as_object k) (field m) ≡ none
  flat-value jnull h = refl
  flat-value jtrue h = refl
  flat-value jfalse h = refl
  flat-value (jnum x) h = refl
  flat-value (jstr x) h = refl
  flat-value (jarr es) h = refl
  flat-value (jobj ms) h = absurd (omega (arith, h.1))

  other_byte : (b : ℕ) → eqb b 91 ≡ true → eqb b 123 ≡ false
  other_byte b e = let q = eqb-true b 91 e in ne_eqb b 123 (λ z. omega arith)

  -- the members of an object, by what follows its brace
  members-held : (us ms : Members) (w : Bytes) → eqb (first (skip s)) 123 ≡ true → pairs (value 15) (tail (skip s)) ≡ got us w → decoded_members us ≡ some ms → distinct_members ms ≡ true
      → Holds (part_of s (found (length s) m (given (spans 15 s)))) (field m (members_of ms))
  unfolding pairs spans loop
  members-held us ms w q e f g = by (on-inv (is 125) _ _ r e)
    where
      r : Bytes
      r = skip (tail (skip s))

      looked : Got (List Span) → Type 0
      looked x = Holds (part_of s (found (length s) m (given x))) (field m (members_of ms))

      opened : spans 15 s ≡ on (is 125) (λ c t. got [] t) (loop (span_of 15)) r
      opened = on-true (is 123) _ bad (skip s) q

      by : ((eqb (first r) 125 ≡ true) × (got mnil (tail r) ≡ got us w)) ⊎ ((eqb (first r) 125 ≡ false) × (turns (pair (value 15)) (suc (length r)) r ≡ got us w)) → looked (spans 15 s)
      by (inl p) = subst looked (sym (opened ∙ on-true (is 125) _ _ r p.0)) (held s m [] us ms (subst (Spanned 15 s []) (got-what p.1) tt) f g)
      by (inr p) =
          let x = spanned 15 s (suc (length r)) r us w (ends-then (ends-skip s) (ends-then (ends-tail (skip s)) (ends-skip (tail (skip s))))) p.1 in
          subst looked (sym (opened ∙ on-false (is 125) _ _ r p.0 ∙ x.1)) (held s m x.0 us ms x.2 f g)

  -- a value one deep or more, by its first byte: stated at any depth, so that 16 of them are not written out
  opens_as : (d : ℕ) → value (suc d) s ≡ on (is 91) (λ c t. under jarr (elements (value d) t)) (on (is 123) (λ c t. under jobj (pairs (value d) t)) scalar) (skip s)
  unfolding value
  opens_as d = refl

  value-held : (u k : Json) (w : Bytes) → value 16 s ≡ got u w → decoded u ≡ some k → distinct_names k ≡ true → Holds (part_of s (found (length s) m (given (spans 15 s)))) (chain (as_object k) (field m))
  unfolding decoded distinct_names
  value-held u k w e f g = by (on-inv (is 91) _ _ (skip s) (sym (opens_as 15) ∙ e))
    where
      looked : Json → Type 0
      looked x = Holds (part_of s (found (length s) m (given (spans 15 s)))) (chain (as_object x) (field m))

      by₂ : ((eqb (first (skip s)) 123 ≡ true) × (under jobj (pairs (value 15) (tail (skip s))) ≡ got u w)) ⊎ ((eqb (first (skip s)) 123 ≡ false) × (scalar (skip s) ≡ got u w)) → looked k
      by₂ (inl q) =
          let i = under-inv jobj (pairs (value 15) (tail (skip s))) q.1 in
          let n = map-inv jobj (decoded_members i.0) (ap decoded i.2 ∙ f) in
          let z : distinct (names n.0) && distinct_members n.0 ≡ true = ap distinct_names n.2 ∙ g in
          subst looked n.2 (members-held i.0 n.0 w q.0 i.1 n.1 (and_right (distinct (names n.0)) _ z))
      by₂ (inr q) = subst (Holds (part_of s (found (length s) m (given (spans 15 s))))) (sym (flat-value k (scalar-gives 0 (skip s) u w q.1 k f g))) (nothing-found q.0)

      by : ((eqb (first (skip s)) 91 ≡ true) × (under jarr (elements (value 15) (tail (skip s))) ≡ got u w)) ⊎ ((eqb (first (skip s)) 91 ≡ false) × (on (is 123) (λ c t. under jobj (pairs (value 15) t)) scalar (skip s) ≡ got u w)) → looked k
      by (inl q) =
          let i = under-inv jarr (elements (value 15) (tail (skip s))) q.1 in
          let n = map-inv jarr (decoded_elems i.0) (ap decoded i.2 ∙ f) in
          subst looked n.2 (nothing-found (other_byte (first (skip s)) q.0))
      by (inr q) = by₂ (on-inv (is 123) _ _ (skip s) q.1)

  text-value : (u : Json) (t : Bytes) → text 16 s ≡ got u t → (w : Bytes) × (value 16 s ≡ got u w)
  unfolding text
  text-value u t e =
      let v = bind_inv (value 16 s) (λ j t. when (is 256) (got j) bad (skip t)) e in
      let z : v.0 ≡ u = ⊎_elim (λ q. got-what q.1) (λ q. absurd (not-bad q.1)) (when-inv (is 256) (got v.0) bad (skip v.1) v.3) in
      (v.1, v.2 ∙ ap (λ (j : Json). got j v.1) z)

  -- THE LAW: read alone, the part handed back is the value that the text's tree has under that name; it is empty where there is none
  pub part_held : Holds (part_of s (look_up s m)) (value_of s m)
  unfolding look_up value_of part_of reading sound
  part_held = by_bool (leb (length s) room) (λ p. rw p (read (text 16 s) refl)) (λ p. rw p refl)
    where
      judged : (u : Json) (t : Bytes) → text 16 s ≡ got u t → (o : Option Json) → decoded u ≡ o
          → Holds (part_of s (pick (is_tree (with-some o (λ k. pick (distinct_names k) (tree k) (refused 0)) (refused 0))) (found (length s) m (given (spans 15 s))) none))
          (member_of m (with-some o (λ k. pick (distinct_names k) (tree k) (refused 0)) (refused 0)))
      judged u t e none f = refl
      judged u t e (some k) f = by_bool (distinct_names k) (λ g. rw g (let v = text-value u t e in value-held u k v.0 v.1 f g)) (λ g. rw g refl)

      read : (x : Got Json) → text 16 s ≡ x → Holds (part_of s (pick (is_tree (reading_of (length s) x)) (found (length s) m (given (spans 15 s))) none)) (member_of m (reading_of (length s) x))
      read (got u t) e = judged u t e (decoded u) refl
      read (bad t) e = refl

-- the bytes of the part that was found
bytes-at : (s : Bytes) (r : Part) (o : Option Found) → r ≡ place_of o → take (r.end - r.start) (drop r.start s) ≡ part_of s o
unfolding part_of
bytes-at s r none e = rw e
bytes-at s r (some p) e = let n : p.offset + p.size - p.offset ≡ p.size = omega arith in rw (e, n)

-- the promises of the look-up
pub part-handed : (s m : Bytes) (r : Part) → r ≡ place_of (look_up s m)
    → (take (r.end - r.start) (drop r.start s) ≡ part_of s (look_up s m)) × Holds (take (r.end - r.start) (drop r.start s)) (value_of s m)
part-handed s m r e = let h = bytes-at s r (look_up s m) e in (h, subst (λ (x : Bytes). Holds x (value_of s m)) (sym h) (part_held s m))
