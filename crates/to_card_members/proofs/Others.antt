-- A member as a part of a card, and all of them in the definitions' words.
use mathlib.Core.Path.{◌≡◌, refl, sym, ap, subst, ◌∙◌}
use Rattle.to_card_pen.specs.Refusal.{no_card}
use Rattle.std.specs.Prelude.{Err}
use mathlib.Core.Bool.{Bool, true, false, ◌&&◌, not}
use mathlib.Core.List.{List, [], ◌∷◌, ◌++◌, map, append_assoc}
use mathlib.Core.Option.{Option, none, some}
use Prim.Native.Nat.{ℕ, ◌-◌}
use lib.Dec.{eqb}
use lib.ListN.{length, take, drop}
use borrow.Author.Tests.{eq-eqb, ne_eqb}
use Rattle.text.specs.Choice.{pick, both, provided, is_some}
use Rattle.text.specs.Bytes.{Bytes, ascii, all, among, same, keep, parts, on_head, uppered, upper, between}
use Rattle.text.proofs.Cases.{by_bool, not-true, not-false}
use Rattle.text.proofs.Same.{among_of}
use Rattle.json_text.specs.Tree.{Json, jnull, Member, member, name_of}
use Rattle.json_text.specs.Compact.{compact}
use Rattle.json_compact.specs.Squeezed.{squeezed}
use Rattle.json_strings.specs.Decoded.{decoded_at}
use Rattle.json_index.specs.Index.{placed, first_at}
use Rattle.json_index.proofs.Fields.{first-other}
use Rattle.line.specs.Text.{write_text}
use Rattle.line.specs.Write.{fold, fold_from, write_value, write_values, write_params, write_group, write_line}
use Rattle.convert.specs.Table.{reserved}
use Rattle.convert.specs.Value.{filled}
use Rattle.convert.specs.Pointer.{pointer}
use Rattle.convert.specs.FromJson.{other_members}
use Rattle.convert.specs.Carry.{carried_param}
use Rattle.convert.specs.ToCard.{member_line}
use Rattle.to_card_lines.specs.declared.Penned.{Penned}
use Rattle.to_card_lines.specs.Lines.{line_bytes, Part, PartAs, no_lines, join_parts, parts_of, laid}
use Rattle.to_card_lines.proofs.Laws.{lines_none, lines-one, fills-none, fills-as}
use Rattle.to_card_head.specs.Head.{TellsFilled}
use Rattle.to_card_members.specs.Members.{member_bytes, MemberLine, member_part, other_part, members_part, PutsOther}

-- ---- the line

line_of : (k : Bytes) (v : Json) → write_line (member_line (member k v)) ≡ member_bytes k (compact v)
unfolding member_line member_bytes write_line write_group write_params write_values write_value uppered upper between same
line_of k v =
    let x = write_text false (compact v) in
    ap (λ (t : Bytes). ascii "JSPROP;JSPTR=\"" ++ t) (sym (append_assoc (pointer k) (ascii "\":") x))
    ∙ sym (append_assoc (ascii "JSPROP;JSPTR=\"") (pointer k ++ ascii "\":") x) ∙ ap (λ (t : Bytes). t ++ x) (sym (append_assoc (ascii "JSPROP;JSPTR=\"") (pointer k) (ascii "\":")))

line-bytes : (k y : Bytes) (v : Json) → y ≡ compact v → fold_from 0 (member_bytes k y) ++ (13 ∷ 10 ∷ []) ≡ line_bytes (member_line (member k v))
unfolding line_bytes fold
line-bytes k y v e = ap (λ (t : Bytes). fold_from 0 (member_bytes k t) ++ (13 ∷ 10 ∷ [])) e ∙ ap (λ (t : Bytes). fold_from 0 t ++ (13 ∷ 10 ∷ [])) (sym (line_of k v))

-- ---- which member it is

pub is-reserved : parts 44 (ascii "@type,version,uid,kind,name,nicknames,emails,phones,links,notes,titles,organizations,vCardProps") ≡ reserved
unfolding parts on_head
is-reserved = refl

other_place : (n : Bytes) (ns : List Bytes) → eqb (placed (some n) ns) (length ns) ≡ not (among n ns)
unfolding first_at all
other_place n ns = by (eqb (placed (some n) ns) (length ns)) (among n ns) (first-other ns (member n jnull ∷ []))
  where
    by : (b a : Bool) → (a && true) ≡ not (is_some (pick b (some jnull) none)) → b ≡ not a
    by true true e = e
    by true false e = refl
    by false true e = refl
    by false false e = e

module _ (s : Bytes) (name a e : ℕ) (room : Bytes) (k : ℕ) (names : Bytes) (names-are : parts 44 names ≡ reserved) (place : k ≡ placed (decoded_at s name) (parts 44 names)) where
  where-is : (x : Bytes) → decoded_at s name ≡ some x → eqb k 13 ≡ not (among x reserved)
  where-is x q = ap (λ (i : ℕ). eqb i 13) (place ∙ ap (λ (ns : List Bytes). placed (decoded_at s name) ns) names-are ∙ ap (λ (o : Option Bytes). placed o reserved) q) ∙ other_place x reserved

  pub other-said : (k ≡ 13 → ⊥) → PutsOther s name a e room (laid 0 0 true) room
  unfolding other_part
  other-said n x v q w =
      let z : among x reserved ≡ true = not-false (among x reserved) (sym (where-is x q) ∙ ne_eqb k 13 n) in
      subst (PartAs room (laid 0 0 true) room) (sym (ap (λ (b : Bool). pick b (some no_lines) (provided (filled x) (some (member_part (member x v))))) z)) (0, refl, fills-as (sym lines_none) (fills-none room))

  module _ (p : k ≡ 13) (b : Bool) (is-filled : TellsFilled s name b) where
    other-is : (x : Bytes) (v : Json) → decoded_at s name ≡ some x → (c : Bool) → b ≡ c → other_part (member x v) ≡ provided c (some (member_part (member x v)))
    unfolding other_part
    other-is x v q c r =
        let z : among x reserved ≡ false = not-true (among x reserved) (sym (where-is x q) ∙ eq-eqb k 13 p) in
        let y : filled x ≡ c = sym (is-filled x q) ∙ r in
        ap (λ (d : Bool). pick d (some no_lines) (provided (filled x) (some (member_part (member x v))))) z ∙ ap (λ (d : Bool). provided d (some (member_part (member x v)))) y

    pub other-empty : b ≡ false → (after : Bytes) → PutsOther s name a e room (Err no_card) after
    other-empty r after x v q w = subst (PartAs room (Err no_card) after) (sym (other-is x v q false r)) refl

    pub other-line : b ≡ true → (l : Penned) (after : Bytes) → MemberLine s name a e room l after → PutsOther s name a e room (laid l.bytes 1 l.carried) after
    other-line r l after m x v q w =
        let t : m.text ≡ x = m.is x q in
        subst (PartAs room (laid l.bytes 1 l.carried) after) (sym (other-is x v q true r)) (
          l.bytes,
          ap (laid l.bytes 1) (m.carried ∙ ap carried_param t),
          fills-as (ap (λ (u : Bytes). fold_from 0 (member_bytes u (squeezed (take (e - a) (drop a s)))) ++ (13 ∷ 10 ∷ [])) t ∙ line-bytes x _ v w ∙ sym (lines-one (member_line (member x v)))) m.fills,
        )

-- ---- all of them

abbrev part_of : List Member → Part
part_of ms = record { lines = map member_line ms; carried = all (λ x. carried_param (name_of x)) ms }

reserved-filled : (n : Bytes) → among n reserved ≡ true → filled n ≡ true
reserved-filled n e = among_of (λ (s : Bytes). filled s ≡ true) reserved (refl, (refl, (refl, (refl, (refl, (refl, (refl, (refl, (refl, (refl, (refl, (refl, (refl, tt))))))))))))) n e

-- one member before others, of which d says whether all names are filled
module _ (m : Member) (os : List Member) where
  one-said : among (name_of m) reserved ≡ true → (d : Bool) → both join_parts (other_part m) (provided d (some (part_of os))) ≡ provided (filled (name_of m) && d) (some (part_of os))
  unfolding other_part
  one-said e d = rw (e, reserved-filled (name_of m) e) (by d)
    where
      by : (d : Bool) → both join_parts (some no_lines) (provided d (some (part_of os))) ≡ provided d (some (part_of os))
      by true = refl
      by false = refl

  one-other : among (name_of m) reserved ≡ false → (d : Bool) → both join_parts (other_part m) (provided d (some (part_of os))) ≡ provided (filled (name_of m) && d) (some (join_parts (member_part m) (part_of os)))
  unfolding other_part
  one-other e d = rw e (by (filled (name_of m)) d)
    where
      by : (c d : Bool) → both join_parts (provided c (some (member_part m))) (provided d (some (part_of os))) ≡ provided (c && d) (some (join_parts (member_part m) (part_of os)))
      by true true = refl
      by true false = refl
      by false d = refl

pub members-part : (ms : List Member) → parts_of other_part ms ≡ members_part ms
unfolding parts_of members_part all keep map
members-part [] = refl
members-part (m ∷ ms) =
    ap (both join_parts (other_part m)) (members-part ms)
    ∙ by_bool (among (name_of m) reserved)
    (λ e. one-said m (other_members ms) e (all (λ x. filled (name_of x)) ms) ∙ rw e)
    (λ e. one-other m (other_members ms) e (all (λ x. filled (name_of x)) ms) ∙ rw e)
