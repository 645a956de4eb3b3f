-- A class settled by what the JSON of a card holds, and whether it is that of a kept line.
use mathlib.Core.Path.{◌≡◌, refl, sym, ap, subst, ◌∙◌}
use mathlib.Core.Bool.{Bool, true, false, ◌&&◌, not}
use mathlib.Core.List.{List, [], ◌∷◌, map}
use mathlib.Core.Option.{some}
use Prim.Native.Nat.{ℕ, zero, suc, ◌-◌, ◌≤◌, ◌<◌}
use native.Mathlib.Omega.{arith}
use lib.Dec.{eqb}
use lib.ListN.{length, drop, length-take, length-drop}
use borrow.Author.Tests.{ne_eqb}
use Rattle.text.specs.Choice.{pick, with-some, is_some, provided}
use Rattle.text.specs.Bytes.{Bytes, ascii, among}
use Rattle.text.proofs.Cases.{and_left, not-true}
use Rattle.text.proofs.Same.{among_none}
use Rattle.text.proofs.Choices.{none-some, some_same, provided-inv, chain-inv}
use Rattle.json_text.specs.Tree.{name_of}
use Rattle.line.specs.Grammar.{Param, Line}
use Rattle.line.specs.Params.{values_named, only_named}
use Rattle.convert.specs.Table.{maps, reserved}
use Rattle.convert.specs.Model.{Entry, Card, has_parts}
use Rattle.convert.specs.Pointer.{pointed}
use Rattle.convert.specs.Classify.{Class, as-version, as-uid, as-kind, as_dropped, as-full, as_parts, as-entry, as_member, as-kept, Seen, sole, member_name, see, classify}
use Rattle.convert.specs.FromJson.{is_kept, seen_in}
use Rattle.convert_entry.specs.Rows.{code_of}
use Rattle.home.proofs.Classes.{Fact, class-fact}
use Rattle.home.proofs.Slots.{at, slot_row}
use Rattle.line_table.specs.Table.{part, line_in}
use Rattle.class_line.specs.declared.Class.{Class as Answer}
use Rattle.class_line.specs.declared.Class.TheVariants.{Kept, Dropped, Version, Uid, Kind, Full, Parts, Entry as InMap, Keyed, Member as AsMember}
use Rattle.class_line.specs.Class.{member_used, with_member, Points, Classes}
use Rattle.to_card_kept_used.specs.Used.{IdUsed, PointerUsed, CardIn, Unreserved, KeptIn}

-- ---- the number that is settled

settled : (u : Bool) (i : ℕ) → (16 ≡ i → ⊥) → eqb 16 (pick u 16 i) ≡ u
settled true i n = refl
settled false i n = ne_eqb 16 i n

pub part-fits : (b : Bytes) (x y m : ℕ) → length b ≤ m → length (part b x y) ≤ m
part-fits b x y m l = omega (arith, length-take (y - x) (drop x b), length-drop x b)

module _ (s : Bytes) (slots : List ℕ) (b : Bytes) where
  pub kept-as : {class c : Answer} (r : Bool) → class ≡ c → KeptIn s slots b c r → KeptIn s slots b class r
  kept-as r e h = subst (λ (x : Answer). KeptIn s slots b x r) (sym e) h

  pub kept_entry : (i : ℕ) → i < 7 → KeptIn s slots b (InMap i) false
  kept_entry i h c w u = sym (ne_eqb 16 i (λ z. omega arith))

  pub kept-keyed : (i x y : ℕ) (r : Bool) → i < 7 → IdUsed s slots i (part b x y) r → KeptIn s slots b (Keyed i x y) r
  unfolding seen_in
  kept-keyed i x y r h g c w u = g w.object c.maps w.slotted w.entries ∙ sym (settled _ i (λ z. omega arith))

  pub kept-member : (x y : ℕ) (r : Bool) → Points b x y → PointerUsed s (part b x y) r → KeptIn s slots b (AsMember x y) r
  unfolding seen_in
  kept-member x y r p g c w u =
      g p.name p.is (u p.name p.is) w.value w.object w.text w.is
      ∙ ap (λ ms. among p.name (map name_of ms)) (sym w.others)
      ∙ sym (settled _ 23 (λ z. omega arith) ∙ ap (λ o. with-some o (λ n. among n (map name_of c.members)) true) p.is)

-- ---- only a kept line has the number of one

inside : {A : Type 0} (i : ℕ) (xs : List A) (x : A) → at i xs ≡ some x → i < length xs
inside i [] x e = none-some e
inside zero (y ∷ xs) x e = omega arith
inside (suc i) (y ∷ xs) x e = let h = inside i xs x e in omega arith

index_below : (seen : Seen) (l : Line) (i : ℕ) (e : Entry) → Fact seen l (as-entry i e) → i < 7
index_below seen l i e f =
    let h : f.0.index < 7 = inside f.0.index maps f.0.map (slot_row _ f.0 f.1).0 in
    omega (arith, f.2)

kept-code : (seen : Seen) (l : Line) (c : Class) → Fact seen l c → is_kept c ≡ eqb 16 (code_of c)
kept-code seen l as-version f = refl
kept-code seen l (as-uid v) f = refl
kept-code seen l (as-kind v) f = refl
kept-code seen l as_dropped f = refl
kept-code seen l (as-full v) f = refl
kept-code seen l (as_parts ps) f = refl
kept-code seen l (as-entry i e) f = sym (ne_eqb 16 i (λ z. omega (arith, index_below seen l i e f)))
kept-code seen l (as_member n j) f = refl
kept-code seen l as-kept f = refl

pub is-kept : (seen : Seen) (l : Line) → is_kept (classify seen l) ≡ eqb 16 (code_of (classify seen l))
is-kept seen l = kept-code seen l (classify seen l) (class-fact seen l)

-- ---- the classifier names no member of the table

named_other : (seen : Seen) (ps : List Param) (n : Bytes) → member_name seen ps ≡ some n → among n reserved ≡ false
unfolding member_name
named_other seen ps n e =
    let a = chain-inv (provided (only_named (ascii "jsptr" ∷ []) ps) (sole (values_named (ascii "jsptr") ps))) _ e in
    let b = chain-inv (pointed a.0) _ a.2 in
    let c = provided-inv (not (among b.0 reserved) && not (among b.0 seen.members)) (some b.0) b.2 in
    ap (λ m. among m reserved) (sym (some_same c.1)) ∙ not-true (among b.0 reserved) (and_left _ _ c.0)

module _ (full parts : Bool) (l : Line) (n : Bytes) where
  abbrev before : Seen
  before = record { full = full; parts = parts; ids = []; members = [] }

  seen_same : (m : Bytes) (xs ys : List Bytes) → m ∷ xs ≡ n ∷ ys → m ≡ n
  seen_same m xs ys e = cc

  by-class : (c : Class) → Fact before l c → code_of c ≡ 23 → see before c ≡ with_member before n → among n reserved ≡ false
  by-class as-version f e w = absurd (omega (arith, e))
  by-class (as-uid v) f e w = absurd (omega (arith, e))
  by-class (as-kind v) f e w = absurd (omega (arith, e))
  by-class as_dropped f e w = absurd (omega (arith, e))
  by-class (as-full v) f e w = absurd (omega (arith, e))
  by-class (as_parts ps) f e w = absurd (omega (arith, e))
  by-class (as-entry i x) f e w = absurd (omega (arith, e, index_below before l i x f))
  by-class (as_member m j) f e w = ap (λ x. among x reserved) (sym (seen_same m [] [] (ap (λ (s : Seen). s.members) w))) ∙ named_other before _ m f.0
  by-class as-kept f e w = absurd (omega (arith, e))

pub unreserved : {b : Bytes} {t : List ℕ} {full parts : Bool} (class : Answer) → Classes b t full parts class → Unreserved b class
unreserved Kept h = tt
unreserved Dropped h = tt
unreserved Version h = tt
unreserved Uid h = tt
unreserved Kind h = tt
unreserved Full h = tt
unreserved Parts h = tt
unreserved (InMap i) h = tt
unreserved (Keyed i x y) h = tt
unreserved {b} {t} {full} {parts} (AsMember x y) h = λ n q.
    let seen = before full parts (line_in b t) n in
    let u : member_used seen b x y ≡ false = ap (λ o. with-some o (λ m. among m []) true) q ∙ among_none n in
    by-class full parts (line_in b t) n (classify seen (line_in b t)) (class-fact seen (line_in b t))
    (h.code seen refl refl ∙ ap (λ v. pick v 16 23) u)
    (h.sees seen refl refl ∙ ap (λ v. pick v seen (with-some (pointed (part b x y)) (with_member seen) seen)) u ∙ ap (λ o. with-some o (with_member seen) seen) q)

-- ---- the line that the classifier judged, after all lines of the card

pub stands-kept : {s : Bytes} {slots : List ℕ} {b : Bytes} {t : List ℕ} {full parts : Bool} {class : Answer} {r : Bool} → Classes b t full parts class → KeptIn s slots b class r
    → (c : Card) → CardIn s slots c → is_some c.full ≡ full → has_parts c.parts ≡ parts → r ≡ is_kept (classify (seen_in c) (line_in b t))
unfolding seen_in
stands-kept {b = b} {t} {class = class} h g c w f p = g c w (unreserved class h) ∙ ap (eqb 16) (sym (h.code (seen_in c) f p)) ∙ sym (is-kept (seen_in c) (line_in b t))
