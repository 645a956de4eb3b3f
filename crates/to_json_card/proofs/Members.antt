-- The members of JSPROP, line by line.
use mathlib.Core.Path.{◌≡◌, refl, sym, ap, ◌∙◌}
use mathlib.Core.Bool.{Bool, true, false, ◌&&◌, not}
use mathlib.Core.List.{List, [], ◌∷◌, ◌++◌}
use mathlib.Core.Option.{Option, none, some}
use Prim.Native.Nat.{ℕ, ◌+◌, ◌-◌, ◌≤◌, ◌<◌}
use native.Mathlib.Omega.{arith}
use lib.Dec.{eqb, leb, ltb}
use lib.ListN.{length, take, drop, get_or, length-take, length-drop}
use borrow.Author.Tests.{eqb-true, eqb-false}
use borrow.Rule.Slice.PartMut.{mid_of, put_mid}
use Rattle.text.specs.Choice.{pick, with-some, provided}
use Rattle.text.specs.Bytes.{Bytes, ascii, same, lowered, empty}
use Rattle.text.proofs.Cases.{not-both}
use Rattle.text.proofs.Choices.{some_same}
use Rattle.json_text.specs.Tree.{Json, Member, member}
use Rattle.line.specs.Grammar.{Line, read_line}
use Rattle.line.specs.Params.{besides_value}
use Rattle.line.specs.Text.{read_text}
use Rattle.convert.specs.Value.{read_name}
use Rattle.line_table.specs.Table.{line_in, Holds}
use Rattle.line_unfold.specs.Table.{line_at}
use Rattle.output.specs.Put.{Wrote, full}
use Rattle.std.specs.Prelude.{Ok, Err}
use Rattle.output.specs.Put.{Puts, Rest}
use Rattle.output.proofs.Rests.{rest_all, rest-as, rest-next, rest-stop}
use Rattle.convert.specs.Table.{Slot, slot_of}
use Rattle.convert.specs.Classify.{Seen, Class, as-version, as-uid, as-kind, as_dropped, as-full, as_parts, as-entry, as_member, as-kept, Classed, bare, is_derived, full_class, parts_class, member_class, entry_of, entry_class, classify}
use Rattle.convert.specs.FromCard.{Gives, gives, gathered}
use Rattle.convert_entry.specs.Rows.{code_of}
use Rattle.convert_put.specs.Pieces.{member_bytes, after}
use Rattle.table_entry.proofs.Spread.{class-held}
use Rattle.from_card_lines.specs.Classified.{Classified}
use Rattle.from_card_lines.proofs.Lines.{LineOf, line_of, no_more}
use Rattle.home.proofs.Classes.{Fact}
use Rattle.to_json_sections.specs.Sections.{members_in}
use Rattle.to_json_sections.proofs.Lines.{entry-low, gathered-cons, gathered_none, fact_of}
use Rattle.to_json_card.specs.Card.{IsMember, HasMember, PutsMemberTurn}

-- ---- a member is the class of a JSPROP line alone

abbrev is_member : Class → Bool
is_member (as_member n j) = true
is_member as-version = false
is_member (as-uid v) = false
is_member (as-kind v) = false
is_member as_dropped = false
is_member (as-full v) = false
is_member (as_parts v) = false
is_member (as-entry i e) = false
is_member as-kept = false

some-not : {A : Type 0} (o : Option A) (f : A → Class) → ((a : A) → is_member (f a) ≡ false) → is_member (with-some o f as-kept) ≡ false
some-not none f h = refl
some-not (some a) f h = h a

pick-not : (b : Bool) (x y : Class) → is_member x ≡ false → is_member y ≡ false → is_member (pick b x y) ≡ false
pick-not true x y p q = p
pick-not false x y p q = q

full-not : (s : Seen) (l : Line) → is_member (full_class s l) ≡ false
unfolding full_class
full-not s l =
    pick-not (bare l && is_derived (besides_value l.params)) as_dropped _ refl
    (some-not (provided (bare l && empty (besides_value l.params) && not s.full) (read_text l.value)) as-full (λ v. refl))

parts-not : (s : Seen) (l : Line) → is_member (parts_class s l) ≡ false
unfolding parts_class
parts-not s l = some-not (provided (bare l && empty (besides_value l.params) && not s.parts) (read_name l.value)) as_parts (λ v. refl)

entry-not : (s : Seen) (l : Line) (w : Slot) → is_member (entry_class s w l) ≡ false
unfolding entry_class
entry-not s l w = some-not (entry_of s w l) (as-entry w.index) (λ e. refl)

skip : (b : Bool) (x y z : Class) → is_member x ≡ false → is_member z ≡ true → pick b x y ≡ z → y ≡ z
skip true x y z p q e = not-both (ap is_member e ∙ q) p
skip false x y z p q e = e

last : (b : Bool) (x y z : Class) → is_member y ≡ false → is_member z ≡ true → pick b x y ≡ z → x ≡ z
last true x y z p q e = e
last false x y z p q e = not-both (ap is_member e ∙ q) p

pub member_of : (s : Seen) (l : Line) (n : Bytes) (j : Json) → classify s l ≡ as_member n j → member_class s l ≡ as_member n j
unfolding classify
member_of s l n j e =
    let N : Bytes = lowered l.name in
    let z : Class = as_member n j in
    last (same N (ascii "jsprop")) _ _ z (some-not (slot_of N) (λ w. entry_class s w l) (entry-not s l)) refl
    (skip (same N (ascii "n")) _ _ z (parts-not s l) refl
    (skip (same N (ascii "fn")) _ _ z (full-not s l) refl
    (skip (same N (ascii "kind")) _ _ z refl refl
    (skip (same N (ascii "uid")) _ _ z refl refl
    (skip (same N (ascii "version")) _ _ z refl refl e)))))

pub held-member : {s t : List ℕ} {m : Member} (h : Holds s t) (x : IsMember s m) → member_class x.seen (line_in s t) ≡ as_member x.name x.value
held-member {s} {t} h x =
    member_of x.seen (line_in s t) x.name x.value (class-held h x.seen ∙ ap (classify x.seen) (some_same (sym h.is ∙ x.read)) ∙ x.turn)

-- ---- the class of a number

member-class : (s : Seen) (l : Line) (x : Class) → Fact s l x → code_of x ≡ 23 → (n : Bytes) × (j : Json) × (x ≡ as_member n j)
member-class s l (as_member n j) f h = (n, j, refl)
member-class s l (as-entry i e) f h = absurd (omega (arith, h, entry-low s l i e f))
member-class s l as-kept f h = absurd (omega (arith, h))
member-class s l as-version f h = absurd (omega (arith, h))
member-class s l (as-uid v) f h = absurd (omega (arith, h))
member-class s l (as-kind v) f h = absurd (omega (arith, h))
member-class s l as_dropped f h = absurd (omega (arith, h))
member-class s l (as-full v) f h = absurd (omega (arith, h))
member-class s l (as_parts v) f h = absurd (omega (arith, h))

member-other : (l : Line) (x : Class) → (code_of x ≡ 23 → ⊥) → (gives l x).member ≡ []
member-other l (as_member a j) n = absurd (n refl)
member-other l (as-entry i e) n = refl
member-other l as-kept n = refl
member-other l as-version n = refl
member-other l (as-uid v) n = refl
member-other l (as-kind v) n = refl
member-other l as_dropped n = refl
member-other l (as-full v) n = refl
member-other l (as_parts v) n = refl

-- ---- lines

abbrev pub members_of : List Classed → List Member
members_of cs = gathered (λ (g : Gives). g.member) cs

after-cons : (m : Member) (ms : List Member) → after (m ∷ ms) ≡ ((44 ∷ []) ++ member_bytes m) ++ after ms
unfolding after
after-cons m ms = refl

after-nil : after [] ≡ []
unfolding after
after-nil = refl

module _ {scratch starts codes : List ℕ} {n : ℕ} {cs : List Classed} (h : Classified scratch starts codes n cs) where
  pub members-start : (room : Bytes) → Rest room (members_in cs) (after (members_of (drop 0 cs))) 0 room
  unfolding members_in
  members-start room = rest_all room (members_in cs)

  pub members-end : (k : ℕ) → n ≤ k → after (members_of (drop k cs)) ≡ []
  members-end k l = ap (λ x. after (members_of x)) (no_more h k l) ∙ ap after (gathered_none (λ (g : Gives). g.member)) ∙ after-nil

  module _ (k : ℕ) (l : k < n) (r : Bool) (is : r ≡ eqb (get_or codes k 0) 23) where
    abbrev c : Classed
    c = (line_of h k l).0

    abbrev at : LineOf scratch starts codes k c
    at = (line_of h k l).1

    abbrev split : drop k cs ≡ c ∷ drop (k + 1) cs
    split = (line_of h k l).2

    pub members-skip : {room : Bytes} {j : ℕ} {out : Bytes} → r ≡ false → Rest room (members_in cs) (after (members_of (drop k cs))) j out → Rest room (members_in cs) (after (members_of (drop (k + 1) cs))) j out
    members-skip z m =
        rest-as
        (ap after (ap (gathered (λ (g : Gives). g.member)) split ∙ gathered-cons (λ (g : Gives). g.member) c (drop (k + 1) cs)
        ∙ ap (λ x. x ++ members_of (drop (k + 1) cs)) (member-other c.line c.class (λ q. eqb-false (get_or codes k 0) 23 (sym is ∙ z) (at.code ∙ q))))) m

    module _ (z : r ≡ true) where
      there : (n : Bytes) × (j : Json) × (c.class ≡ as_member n j)
      there = member-class at.seen c.line c.class (fact_of at) (sym at.code ∙ eqb-true (get_or codes k 0) 23 (sym is ∙ z))

      pub the_member : Member
      the_member = member there.0 there.1

      member-next : members_of (drop k cs) ≡ the_member ∷ members_of (drop (k + 1) cs)
      unfolding the_member
      member-next =
          ap (gathered (λ (g : Gives). g.member)) split
          ∙ gathered-cons (λ (g : Gives). g.member) c (drop (k + 1) cs)
          ∙ ap (λ x. (gives c.line x).member ++ members_of (drop (k + 1) cs)) there.2

      pub is_member_lem : {s : Bytes} → s ≡ line_at scratch starts k → IsMember s the_member
      unfolding the_member
      is_member_lem q = record { line = c.line; read = ap read_line q ∙ at.read; seen = at.seen; name = there.0; value = there.1; turn = sym at.turn ∙ there.2; is = refl }

      pub has-member : {s : Bytes} → s ≡ line_at scratch starts k → HasMember s
      has-member q = (the_member, is_member_lem q)

      module _ {room : Bytes} {j : ℕ} {out : Bytes} (m : Rest room (members_in cs) (after (members_of (drop k cs))) j out) {s : Bytes} (q : s ≡ line_at scratch starts k) {w : Wrote} {last : Bytes}
          (p : PutsMemberTurn (mid_of j (length out - j) out) s w last) where
        left : Rest room (members_in cs) (((44 ∷ []) ++ member_bytes the_member) ++ after (members_of (drop (k + 1) cs))) j out
        left = rest-as (ap after member-next ∙ after-cons the_member (members_of (drop (k + 1) cs))) m

        pub members-stop : w ≡ (Err full) → Puts room (members_in cs) (Err full) (put_mid j (length out - j) out last)
        members-stop f = rest-stop _ left (p the_member (is_member_lem q)) f

        pub members-next : (i : ℕ) → w ≡ Ok i → Rest room (members_in cs) (after (members_of (drop (k + 1) cs))) (j + i) (put_mid j (length out - j) out last)
        members-next i f = rest-next _ left (p the_member (is_member_lem q)) f

-- ---- a line is no longer than all of them

pick-length : (b : Bool) (x y : Bytes) (n : ℕ) → length x ≤ n → length y ≤ n → length (pick b x y) ≤ n
pick-length true x y n p q = p
pick-length false x y n p q = q

part-short : (s : Bytes) (a b m : ℕ) → length s ≤ m → length (take (b - a) (drop a s)) ≤ m
part-short s a b m l = simp (length-take, length-drop) (omega arith)

pub line-short : (scratch starts : List ℕ) (k m : ℕ) → length scratch ≤ m → length (line_at scratch starts k) ≤ m
unfolding line_at
line-short scratch starts k m l =
    let a : ℕ = get_or starts k 0 in
    let b : ℕ = get_or starts (k + 1) 0 in
    let x : Bytes = take (b - a) (drop a scratch) in
    let y : Bytes = pick (ltb (length scratch) b) [] x in
    let z : Bytes = pick (ltb b a) [] y in
    let h : 0 ≤ m = omega arith in
    pick-length (leb (length starts) (k + 1)) [] z m h (pick-length (ltb b a) [] y m h (pick-length (ltb (length scratch) b) [] x m h (part-short scratch a b m l)))
