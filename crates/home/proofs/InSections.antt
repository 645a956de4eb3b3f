-- The converted lines of a card in the order of the normal form's sections: the same lines, each as often as it came.
use mathlib.Core.Path.{◌≡◌, refl, sym, ap, ap₂, ◌∙◌}
use mathlib.Core.Bool.{Bool, true, false, not}
use mathlib.Core.List.{List, [], ◌∷◌, ◌++◌, map, append_assoc, append-nil}
use mathlib.Core.Option.{some}
use Prim.Native.Nat.{ℕ, zero, suc, ◌+◌}
use lib.Dec.{eqb}
use Rattle.text.specs.Choice.{pick}
use Rattle.text.specs.Bytes.{any, lowered, keep, flat}
use Rattle.text.proofs.Cases.{by_bool, not-both, not-true, or_left, or_right}
use Rattle.text.proofs.Choices.{none-some}
use Rattle.line.specs.Grammar.{Line}
use Rattle.convert.specs.Table.{Map, maps}
use Rattle.convert.specs.Classify.{Class, as-version, as-uid, as-kind, as_dropped, as-full, as_parts, as-entry, as_member, as-kept, Seen, see, classify, Classed, classed_after}
use Rattle.convert.specs.NormalCard.{uids, kinds, fulls, names, members, map_at, section_of, section_number, section}
use Rattle.home.specs.Allowed.{Into, here}
use Rattle.home.proofs.Alls.{All}
use Rattle.home.proofs.Slots.{at, slot_row}
use Rattle.home.proofs.LineSays.{Says, class-says}
use Rattle.home.proofs.Standing.{into-before, Reordered, none_left, one_placed}

abbrev pub ClassSays : Classed → Type 0
ClassSays c = Says c.line c.class

all_say : (s : Seen) (ls : List Line) → All ClassSays (classed_after s ls)
unfolding classed_after
all_say s [] = tt
all_say s (l ∷ ls) = (class-says s l, all_say (see s (classify s l)) ls)

-- ---- converted lines

abbrev pub converts : Class → Bool
converts as-version = false
converts (as-uid v) = true
converts (as-kind v) = true
converts as_dropped = false
converts (as-full v) = true
converts (as_parts ps) = true
converts (as-entry i e) = true
converts (as_member n j) = true
converts as-kept = false

unfoldable pub converted_of : List Classed → List Line
converted_of cs = map (λ (c : Classed). c.line) (keep (λ (c : Classed). converts c.class) cs)

-- ---- by numbers

abbrev number : Class → ℕ
number c = section_number (section_of c)

numbered : ℕ → List Classed → List Line
numbered k cs = map (λ (c : Classed). c.line) (keep (λ (c : Classed). eqb (number c.class) k) cs)

-- all lines with these numbers, in the order of the numbers
in_order_of : List ℕ → List Classed → List Line
in_order_of ks cs = flat (map (λ k. numbered k cs) ks)

-- one of the numbers, and only once
once : ℕ → List ℕ → Bool
once n [] = false
once n (k ∷ ks) = pick (eqb n k) (not (any (eqb n) ks)) (once n ks)

module _ (l : Line) (c : Class) (cs : List Classed) where
  abbrev more : List Classed
  more = record { line = l; class = c } ∷ cs

  other-number : (k : ℕ) → eqb (number c) k ≡ false → numbered k more ≡ numbered k cs
  unfolding numbered keep
  other-number k e = rw e

  own-number : (k : ℕ) → eqb (number c) k ≡ true → numbered k more ≡ l ∷ numbered k cs
  unfolding numbered keep
  own-number k e = rw e

  not_there : (ks : List ℕ) → any (eqb (number c)) ks ≡ false → in_order_of ks more ≡ in_order_of ks cs
  unfolding in_order_of flat any
  not_there [] h = refl
  not_there (k ∷ ks) h = ap₂ ◌++◌ (other-number k (or_left (eqb (number c) k) _ h)) (not_there ks (or_right (eqb (number c) k) _ h))

  put_in : (ks : List ℕ) → once (number c) ks ≡ true → Into l (in_order_of ks cs) (in_order_of ks more)
  unfolding in_order_of flat once
  put_in [] h = not-both h refl
  put_in (k ∷ ks) h =
      by_bool (eqb (number c) k)
      (λ e. rw (own-number k e, not_there ks (not-true (any (eqb (number c)) ks) (rw e at h))) here)
      (λ e. rw (other-number k e) (into-before (numbered k cs) (put_in ks (rw e at h))))

-- ---- the sections' numbers

abbrev sections : List ℕ
sections = 1 ∷ 2 ∷ 3 ∷ 4 ∷ 7 ∷ 8 ∷ 9 ∷ 10 ∷ 11 ∷ 12 ∷ 13 ∷ 5 ∷ []

row-once : (i : ℕ) (m : Map) → at i maps ≡ some m → once (7 + i) sections ≡ true
unfolding once any
row-once zero m e = refl
row-once (suc zero) m e = refl
row-once (suc (suc zero)) m e = refl
row-once (suc (suc (suc zero))) m e = refl
row-once (suc (suc (suc (suc zero)))) m e = refl
row-once (suc (suc (suc (suc (suc zero))))) m e = refl
row-once (suc (suc (suc (suc (suc (suc zero)))))) m e = refl
row-once (suc (suc (suc (suc (suc (suc (suc i))))))) m e = none-some e

-- a converted line is of one section
one-section : (l : Line) (c : Class) → Says l c → converts c ≡ true → once (number c) sections ≡ true
unfolding once any
one-section l as-version h e = not-both e refl
one-section l (as-uid v) h e = refl
one-section l (as-kind v) h e = refl
one-section l as_dropped h e = not-both e refl
one-section l (as-full v) h e = refl
one-section l (as_parts ps) h e = refl
one-section l (as-entry i x) h e =
    let q : once (7 + h.0.index) sections ≡ true = row-once h.0.index h.0.map (slot_row (lowered l.name) h.0 h.1).0 in
    ap (λ (i : ℕ). once (7 + i) sections) (sym h.2) ∙ q
one-section l (as_member n j) h e = refl
one-section l as-kept h e = not-both e refl

-- the others are of none
no-section : (c : Class) → converts c ≡ false → any (eqb (number c)) sections ≡ false
unfolding any
no-section as-version e = refl
no-section (as-uid v) e = not-both refl e
no-section (as-kind v) e = not-both refl e
no-section as_dropped e = refl
no-section (as-full v) e = not-both refl e
no-section (as_parts ps) e = not-both refl e
no-section (as-entry i x) e = not-both refl e
no-section (as_member n j) e = not-both refl e
no-section as-kept e = refl

-- ---- the converted lines

nothing-there : (ks : List ℕ) → in_order_of ks [] ≡ []
unfolding in_order_of numbered keep flat
nothing-there [] = refl
nothing-there (k ∷ ks) = nothing-there ks

numbers-reordered : (cs : List Classed) → All ClassSays cs → Reordered (converted_of cs) (in_order_of sections cs)
unfolding converted_of keep
numbers-reordered [] h = rw (nothing-there sections) none_left
numbers-reordered (c ∷ cs) h =
    by_bool (converts c.class)
    (λ e. rw e (one_placed (numbers-reordered cs h.1) (put_in c.line c.class cs sections (one-section c.line c.class h.0 e))))
    (λ e. rw (e, not_there c.line c.class cs sections (no-section c.class e)) (numbers-reordered cs h.1))

-- ---- by their names

unfoldable pub map_sections : ℕ → List Map → List Classed → List Line
map_sections i [] cs = []
map_sections i (m ∷ ms) cs = section (map_at i) cs ++ map_sections (suc i) ms cs

-- UID, KIND, FN, N, the maps, JSPROP
abbrev pub sectioned : List Classed → List Line
sectioned cs = section uids cs ++ section kinds cs ++ section fulls cs ++ section names cs ++ map_sections 0 maps cs ++ section members cs

nested : (u k f n a b c d e g h j : List Line)
    → u ++ (k ++ (f ++ (n ++ (a ++ (b ++ (c ++ (d ++ (e ++ (g ++ (h ++ (j ++ []))))))))))) ≡ u ++ k ++ f ++ n ++ (a ++ (b ++ (c ++ (d ++ (e ++ (g ++ (h ++ []))))))) ++ j
nested u k f n a b c d e g h j = simp (append_assoc, append-nil)

by_names : (cs : List Classed) → in_order_of sections cs ≡ sectioned cs
unfolding in_order_of numbered flat section map_sections
by_names cs =
    nested (section uids cs) (section kinds cs) (section fulls cs) (section names cs) (section (map_at 0) cs) (section (map_at 1) cs) (section (map_at 2) cs) (section (map_at 3) cs) (section (map_at 4) cs) (section (map_at 5) cs)
    (section (map_at 6) cs) (section members cs)

pub lines-reordered : (s : Seen) (ls : List Line) → Reordered (converted_of (classed_after s ls)) (sectioned (classed_after s ls))
lines-reordered s ls = rw (← by_names (classed_after s ls)) (numbers-reordered (classed_after s ls) (all_say s ls))
