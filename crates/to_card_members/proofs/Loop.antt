-- The pass over the members, over plain values.
use mathlib.Core.Path.{◌≡◌, sym, ap, subst, ◌∙◌}
use Rattle.to_card_pen.proofs.Refusal.{not_ok}
use Rattle.to_card_pen.specs.Refusal.{no_card}
use Rattle.std.specs.Prelude.{Err}
use mathlib.Core.Bool.{Bool, true, ◌&&◌}
use mathlib.Core.List.{List, [], ◌∷◌}
use mathlib.Core.Option.{Option, none, some}
use Prim.Native.Nat.{ℕ, zero, suc, ◌+◌, ◌-◌, ◌≤◌}
use borrow.Rule.Slice.PartMut.{mid_of, put_mid}
use lib.ListN.{length, drop}
use Rattle.text.specs.Places.{Read}
use Rattle.std.proofs.Common.{Continue, Break}
use Rattle.text.specs.Choice.{both, chain}
use Rattle.text.specs.Bytes.{Bytes}
use Rattle.text.specs.Reader.{got, loop}
use Rattle.text.specs.Places.{byte_at, Passes, GivesT}
use Rattle.json_text.specs.Grammar.{is_space}
use Rattle.json_text.specs.Tree.{Members, mnil, mcons, Member, member, members_of}
use Rattle.json_text.specs.Syntax.{sep, pair, value}
use Rattle.json_text.specs.Strings.{decoded_members}
use Rattle.json_access.specs.declared.Places.{Places}
use Rattle.json_access.specs.Access.{TellsMember, Inside}
use Rattle.json_index.proofs.Laws.{Here, pair-here, others-on, others-none, next_of, members-cons, members-nil, nil-decoded}
use Rattle.json_index.proofs.Objects.{not-object, empty-object, object-members}
use Rattle.to_card_lines.specs.Lines.{Part, PartAs, no_lines, join_parts, parts_of, Laid, laid}
use Rattle.to_card_lines.proofs.Parts.{before, before-none, before-one, before_last, parts_none, parts-one, Done, done_none, done_on, done_all, none-wrong}
use Rattle.to_card_members.specs.Members.{other_part, members_part, OneIn, PutsOther, PutsFrom, PutsMembers}
use Rattle.to_card_members.proofs.Values.{compact-part}
use Rattle.to_card_members.proofs.Others.{members-part}

pub one_in : {room n l : ℕ} {c : Bool} {r : Laid} → OneIn room r → r ≡ laid n l c → (n ≤ room) × (l ≤ 1)
one_in {room} {n} {l} {c} {r} h e = subst (OneIn room) e h

-- ---- what is done and what is still to come

pub record Far (s room : Bytes) (ms : List Member) (t : Bytes) (i n lines : ℕ) (ok : Bool) (out : Bytes) : Type 0 where
  pub units : Members
  pub rest : Members
  pub part : Part
  pub is-units : loop (pair (value 15)) (drop i s) ≡ got units t
  pub is-rest : decoded_members units ≡ some rest
  pub is_all : parts_of other_part ms ≡ before part (parts_of other_part (members_of rest))
  pub done : Done room n lines ok out part

abbrev pub Going : Bytes → ℕ → Bytes → ℕ → ℕ → ℕ → Bool → Bytes → Type 0
Going s at room i n lines ok out = (us ms : Members) (t : Bytes) → loop (pair (value 15)) (drop at s) ≡ got us t → decoded_members us ≡ some ms
    → Far s room (members_of ms) t i n lines ok out

pub going-first : (s : Bytes) (at : ℕ) (room : Bytes) → Going s at room at 0 0 true room
going-first s at room us ms t e f = record { units = us; rest = ms; part = no_lines; is-units = e; is-rest = f; is_all = before-none _; done = done_none room }

module _ (s : Bytes) (at : ℕ) (room : Bytes) (i n lines : ℕ) (ok : Bool) (out : Bytes) (going : Going s at room i n lines ok out)
    (r : Places) (in-s : Inside i (length s) r.start r.end) (told : TellsMember 15 s i r) (p : Laid) (last : Bytes)
    (puts : PutsOther s r.name r.start r.end (mid_of n (length out - n) out) p last) where
  ends_of : (vs : Members) (z : Here 15 s i vs) → z.rest-val ≡ drop r.end s
  ends_of vs z = (told z.key z.rest-key z.is_name z.val z.rest-val z.is-value).1.ends

  -- the member at i, and the others
  step : (ms : List Member) (t : Bytes) (f : Far s room ms t i n lines ok out) (z : Here 15 s i f.units) (ws : Members) → mcons z.key z.val ws ≡ f.units
      → (x : Member) × (os : Members) × (decoded_members ws ≡ some os) × (parts_of other_part ms ≡ before f.part (both join_parts (other_part x) (parts_of other_part (members_of os))))
      × PartAs (mid_of n (length out - n) out) p last (other_part x)
  step ms t f z ws q =
      let w = told z.key z.rest-key z.is_name z.val z.rest-val z.is-value in
      let x = next_of z.key z.val ws f.rest (ap decoded_members q ∙ f.is-rest) in
      let a = compact-part 15 s z.rest-key z.rest-val z.val x.val r.start r.end in-s.ordered in-s.end-in w.1 z.is-value x.is-val in
      let l : members_of f.rest ≡ member x.key x.val ∷ members_of x.others = ap members_of (sym x.is) ∙ members-cons x.key x.val x.others in (
        member x.key x.val,
        x.others,
        x.is-others,
        f.is_all ∙ ap (before f.part) (ap (parts_of other_part) l ∙ parts-one other_part (member x.key x.val) (members_of x.others)),
        puts x.key x.val (w.0 ∙ x.is-key) a,
      )

  pub puts-wrong : (after : Bytes) → p ≡ Err no_card → PutsFrom s at room (Err no_card) after
  puts-wrong after e us ms t x y =
      let f = going us ms t x y in
      let z = pair-here 15 s i f.units t f.is-units in
      let w = step (members_of ms) t f z z.others (sym z.is) in
      by f.part (other_part w.0) (parts_of other_part (members_of w.1)) (parts_of other_part (members_of ms)) w.3 w.4
    where
      by : (d : Part) (o os want : Option Part) → want ≡ before d (both join_parts o os) → PartAs (mid_of n (length out - n) out) p last o → PartAs room (Err no_card) after want
      by d none os want h g = none-wrong room after want h
      by d (some c) os want h g = absurd (not_ok (sym e ∙ g.1))

  module _ (k l : ℕ) (c : Bool) (e : p ≡ laid k l c) where
    -- one member more is done
    further : (ms : List Member) (t : Bytes) (f : Far s room ms t i n lines ok out) (z : Here 15 s i f.units) (ws : Members) → mcons z.key z.val ws ≡ f.units
        → (os : Members) × (decoded_members ws ≡ some os) × (x : Part) × (parts_of other_part ms ≡ before x (parts_of other_part (members_of os)))
        × Done room (n + k) (lines + l) (ok && c) (put_mid n (length out - n) out last) x
    further ms t f z ws q = let w = step ms t f z ws q in let y = by (other_part w.0) (parts_of other_part (members_of w.1)) w.3 w.4 in (w.1, w.2, y.0, y.1, y.2)
      where
        by : (o os : Option Part) → parts_of other_part ms ≡ before f.part (both join_parts o os) → PartAs (mid_of n (length out - n) out) p last o
            → (x : Part) × (parts_of other_part ms ≡ before x os) × Done room (n + k) (lines + l) (ok && c) (put_mid n (length out - n) out last) x
        by none os h g = absurd (not_ok (sym g ∙ e))
        by (some x) os h g = (join_parts f.part x, h ∙ before-one f.part x os, done_on room n lines ok out f.part f.done p last x g e)

    pub going_on : (j : ℕ) → GivesT s r.end (sep 125 zero suc (drop r.end s)) (Continue j) → Going s at room j (n + k) (lines + l) (ok && c) (put_mid n (length out - n) out last)
    going_on j w us ms t x y =
        let f = going us ms t x y in
        let z = pair-here 15 s i f.units t f.is-units in
        let o = others-on 15 s i f.units t f.is-units z r.end (ends_of f.units z) j w in
        let g = further (members_of ms) t f z o.0 o.2 in
        record { units = o.0; rest = g.0; part = g.2; is-units = o.1; is-rest = g.1; is_all = g.3; done = g.4 }

    pub puts-all : (v : Read) → GivesT s r.end (sep 125 zero suc (drop r.end s)) (Break v) → PutsFrom s at room (laid (n + k) (lines + l) (ok && c)) (put_mid n (length out - n) out last)
    puts-all v w us ms t x y =
        let f = going us ms t x y in
        let z = pair-here 15 s i f.units t f.is-units in
        let o = others-none 15 s i f.units t f.is-units z r.end (ends_of f.units z) v w in
        let g = further (members_of ms) t f z mnil o in
        let m : parts_of other_part (members_of g.0) ≡ some no_lines = ap (λ (u : Members). parts_of other_part (members_of u)) (sym (nil-decoded g.0 g.1)) ∙ ap (parts_of other_part) members-nil ∙ parts_none other_part in
        done_all room (n + k) (lines + l) (ok && c) _ g.2 g.4 (parts_of other_part (members_of ms)) (g.3 ∙ ap (before g.2) m ∙ before_last g.2)

-- ---- the whole object

module _ (s room : Bytes) (i b : ℕ) (p : Passes is_space s 0 i) (e : b ≡ byte_at s i) where
  pub members-other : (b ≡ 123 → ⊥) → (after : Bytes) → PutsMembers s room (Err no_card) after
  members-other n after v w = none-wrong room after _ (ap (λ (x : Option (List Member)). chain x members_part) (not-object 15 s 0 [] [] i b p e n v w))

  module _ (q : b ≡ 123) (j c : ℕ) (k : Passes is_space s (i + 1) j) (f : c ≡ byte_at s j) where
    pub members-empty : c ≡ 125 → PutsMembers s room (laid 0 0 true) room
    members-empty z v w =
        done_all room 0 0 true room no_lines (done_none room) _
        (ap (λ (x : Option (List Member)). chain x members_part) (empty-object 15 s 0 [] [] i b p e q j c k f z v w) ∙ sym (members-part []) ∙ parts_none other_part)

    pub members-full : (c ≡ 125 → ⊥) → (x : Laid) (after : Bytes) → PutsFrom s j room x after → PutsMembers s room x after
    members-full z x after g v w =
        let u = object-members 15 s 0 [] [] i b p e q j c k f z v w in
        subst (PartAs room x after) (members-part (members_of u.1) ∙ sym (ap (λ (y : Option (List Member)). chain y members_part) u.5)) (g u.0 u.1 u.2 u.3 u.4)
