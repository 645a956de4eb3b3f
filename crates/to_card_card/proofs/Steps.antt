-- Each step of the whole: one part, then the rest.
use mathlib.Core.Path.{◌≡◌, refl, sym, ap, subst, ◌∙◌}
use Rattle.to_card_lines.proofs.Parts.{all_lines}
use Rattle.to_card_pen.specs.Refusal.{no_card}
use Rattle.std.specs.Prelude.{Err}
use mathlib.Core.Bool.{Bool, true, false, ◌&&◌}
use mathlib.Core.List.{List}
use mathlib.Core.Option.{Option, none, some, map}
use Prim.Native.Nat.{ℕ, suc, ◌+◌, ◌-◌, ◌<◌}
use native.Mathlib.Omega.{arith}
use borrow.Rule.Slice.PartMut.{mid_of, put_mid}
use lib.Dec.{eqb}
use lib.ListN.{length, get_or}
use Rattle.text.specs.Choice.{both, chain}
use Rattle.text.specs.Bytes.{Bytes, ascii, each}
use Rattle.json_text.specs.Tree.{Members, members_of, field}
use Rattle.json_index.specs.Index.{Slot}
use Rattle.convert.specs.Table.{maps, reserved}
use Rattle.convert.specs.Model.{Entry, has_parts}
use Rattle.convert.specs.FromJson.{Name, map_from}
use Rattle.convert.specs.ToCard.{line_where}
use Rattle.to_card_maps.specs.Seven.{MapsAs, PutsMaps}
use Rattle.to_card_lines.specs.Lines.{Part, PartAs, join_parts, Laid, laid}
use Rattle.to_card_members.specs.Members.{members_part}
use Rattle.to_card_name.specs.Name.{name_lines, n_line, PutsName, FullGiven}
use Rattle.to_card_kept.specs.Kept.{Known, seen_of, kept_parts, PutsKept}
use Rattle.to_card_sections.specs.Sections.{name_in, maps_part, last_parts, rest_parts, body_parts}
use Rattle.to_card_card.specs.Whole.{few, FewAs, Object, PutsOthers, PutsLast, PutsRest, PutsBody}
use Rattle.to_card_card.proofs.Joining.{Has, has-few, has-as, has-said, has_both, few-wrong, as-wrong, few-none, both_first, both-second}

-- ---- other members, then kept lines

module _ (s : Bytes) (slots : List ℕ) (full parts : Bool) (room : Bytes) (r : Laid) (out : Bytes) (members : PutsOthers s slots room r out) where
  module _ (mm : Members) (ess : List (List Entry)) (known : Known s slots mm ess) where
    members-put : PartAs room r out (members_part (members_of mm))
    members-put = members mm known.object known.indexed

  pub last-first : r ≡ Err no_card → (after : Bytes) → PutsLast s slots full parts room (Err no_card) after
  unfolding last_parts
  last-first e after mm ess known n f p =
      few-wrong room after (last_parts (seen_of n ess (members_of mm)) (members_of mm))
      (both_first (members_part (members_of mm)) (kept_parts (seen_of n ess (members_of mm)) (field (ascii "vCardProps") (members_of mm)))
      (as-wrong room out r (members_part (members_of mm)) (members-put mm ess known) e))

  module _ (n l : ℕ) (c : Bool) (e : r ≡ laid n l c) (q : Laid) (last : Bytes) (kept : PutsKept s slots full parts (mid_of n (length out - n) out) q last) where
    pub last-second : q ≡ Err no_card → (after : Bytes) → PutsLast s slots full parts room (Err no_card) after
    unfolding last_parts
    last-second w after mm ess known name f p =
        let y : Option Part = kept_parts (seen_of name ess (members_of mm)) (field (ascii "vCardProps") (members_of mm)) in
        few-wrong room after (last_parts (seen_of name ess (members_of mm)) (members_of mm))
        (both-second (members_part (members_of mm)) y (as-wrong (mid_of n (length out - n) out) last q y (kept mm ess known name f p) w))

    pub last-all : (m k : ℕ) (d : Bool) → q ≡ laid m k d → PutsLast s slots full parts room (laid (n + m) (few (few l + few k)) (c && d)) (put_mid n (length out - n) out last)
    unfolding last_parts
    last-all m k d w mm ess known name f p =
        let x : Option Part = members_part (members_of mm) in
        let y : Option Part = kept_parts (seen_of name ess (members_of mm)) (field (ascii "vCardProps") (members_of mm)) in
        has-said (both join_parts x y) (has_both x y (has-as x (members-put mm ess known) e) (has-as y (kept mm ess known name f p) w))

-- ---- the maps, then these

maps-as : (room : Bytes) (r : Laid) (after : Bytes) (o : Option (List (List Entry))) → MapsAs maps room r after o → PartAs room r after (map maps_part o)
maps-as room r after none h = h
maps-as room r after (some ess) h = h

abbrev known_of : {s : Bytes} {slots : List ℕ} {mm : Members} → Object s slots mm → (ess : List (List Entry)) → each (map_from (members_of mm)) maps ≡ some ess → Known s slots mm ess
known_of o ess e = record { object = o.object; distinct = o.distinct; indexed = o.indexed; read = e }

module _ (s : Bytes) (slots : List ℕ) (full parts : Bool) (room : Bytes) (r : Laid) (out : Bytes) (puts : PutsMaps s slots room r out) where
  module _ (mm : Members) (object : Object s slots mm) (name : Name) where
    abbrev tail : Option (List (List Entry)) → Option Part
    tail o = chain o λ ess. both join_parts (some (maps_part ess)) (last_parts (seen_of name ess (members_of mm)) (members_of mm))

    maps-put : PartAs room r out (map maps_part (each (map_from (members_of mm)) maps))
    maps-put = maps-as room r out (each (map_from (members_of mm)) maps) (puts (members_of mm) object.indexed)

    tail-is : (o : Option (List (List Entry))) → each (map_from (members_of mm)) maps ≡ o → rest_parts name (members_of mm) ≡ tail o
    unfolding rest_parts
    tail-is o e = ap tail e

  none-maps : (o : Option (List (List Entry))) → map maps_part o ≡ none → o ≡ none
  none-maps none e = refl
  none-maps (some ess) e = let z : ◌≡◌ {A = ℕ} 0 1 = cc in absurd (omega arith)

  pub rest-first : r ≡ Err no_card → (after : Bytes) → PutsRest s slots full parts room (Err no_card) after
  rest-first e after mm object name f p =
      few-wrong room after (rest_parts name (members_of mm))
      (tail-is mm object name none (none-maps (each (map_from (members_of mm)) maps) (as-wrong room out r (map maps_part (each (map_from (members_of mm)) maps)) (maps-put mm object name) e)))

  module _ (n l : ℕ) (c : Bool) (e : r ≡ laid n l c) (q : Laid) (last : Bytes) (rest : PutsLast s slots full parts (mid_of n (length out - n) out) q last) where
    pub rest-second : q ≡ Err no_card → (after : Bytes) → PutsRest s slots full parts room (Err no_card) after
    rest-second w after mm object name f p = few-wrong room after (rest_parts name (members_of mm)) (by (each (map_from (members_of mm)) maps) refl)
      where
        by : (o : Option (List (List Entry))) → each (map_from (members_of mm)) maps ≡ o → rest_parts name (members_of mm) ≡ none
        by none g = tail-is mm object name none g
        by (some ess) g =
            let y : Option Part = last_parts (seen_of name ess (members_of mm)) (members_of mm) in
            tail-is mm object name (some ess) g ∙ both-second (some (maps_part ess)) y (few-none (mid_of n (length out - n) out) last q y (rest mm ess (known_of object ess g) name f p) w)

    pub rest_all : (m k : ℕ) (d : Bool) → q ≡ laid m k d → PutsRest s slots full parts room (laid (n + m) (few (few l + k)) (c && d)) (put_mid n (length out - n) out last)
    rest_all m k d w mm object name f p = by (each (map_from (members_of mm)) maps) refl
      where
        by : (o : Option (List (List Entry))) → each (map_from (members_of mm)) maps ≡ o
            → FewAs room (laid (n + m) (few (few l + k)) (c && d)) (put_mid n (length out - n) out last) (rest_parts name (members_of mm))
        by none g =
            let x : Has room n (few l) c out none = has-as none (subst (PartAs room r out) (ap (map maps_part) g) (maps-put mm object name)) e in
            absurd (never x.is)
          where
            never : {p : Part} → none ≡ some p → ⊥
            never h = let z : ◌≡◌ {A = ℕ} 0 1 = cc in omega arith
        by (some ess) g =
            let y : Option Part = last_parts (seen_of name ess (members_of mm)) (members_of mm) in
            let x : PartAs room r out (some (maps_part ess)) = subst (PartAs room r out) (ap (map maps_part) g) (maps-put mm object name) in
            subst (FewAs room (laid (n + m) (few (few l + k)) (c && d)) (put_mid n (length out - n) out last)) (sym (tail-is mm object name (some ess) g))
            (has-said (both join_parts (some (maps_part ess)) y) (has_both (some (maps_part ess)) y (has-as (some (maps_part ess)) x e) (has-few y (rest mm ess (known_of object ess g) name f p) w)))

-- ---- the name, then these

-- FN alone, or FN and N
name-lines : (n : Name) → eqb (length (name_lines n).lines) 2 ≡ has_parts n.parts
unfolding name_lines
name-lines n = by (has_parts n.parts)
  where
    by : (b : Bool) → eqb (suc (length (line_where b (n_line n.parts)))) 2 ≡ b
    by true = refl
    by false = refl

new-name : Rattle.text.specs.Bytes.among (ascii "name") (lib.ListN.take 4 reserved) ≡ false
unfolding Rattle.text.specs.Bytes.among Rattle.text.specs.Bytes.any Rattle.text.specs.Bytes.same
new-name = refl

module _ (s : Bytes) (slots : List ℕ) (room : Bytes) (r : Laid) (out : Bytes) (puts : PutsName s (get_or slots 4 0) room r out) where
  module _ (mm : Members) (object : Object s slots mm) where
    name-slot : Slot 15 s (get_or slots 4 0) (field (ascii "name") (members_of mm))
    name-slot = let l : 4 < length reserved = omega arith in subst (Slot 15 s (get_or slots 4 0)) (Rattle.json_index.proofs.Fields.first_field reserved 4 l new-name (members_of mm)) (object.indexed 4)

    name-put : PartAs room r out (map name_lines (name_in (members_of mm)))
    name-put = puts (field (ascii "name") (members_of mm)) name-slot

    abbrev body : Option Name → Option Part
    body o = chain o λ n. both join_parts (some (name_lines n)) (rest_parts n (members_of mm))

    body_is : (o : Option Name) → name_in (members_of mm) ≡ o → body_parts (members_of mm) ≡ body o
    unfolding body_parts
    body_is o e = ap body e

  none-name : (o : Option Name) → map name_lines o ≡ none → o ≡ none
  none-name none e = refl
  none-name (some n) e = let z : ◌≡◌ {A = ℕ} 0 1 = cc in absurd (omega arith)

  pub body-first : r ≡ Err no_card → (after : Bytes) → PutsBody s slots room (Err no_card) after
  body-first e after mm object =
      few-wrong room after (body_parts (members_of mm)) (body_is mm object none (none-name (name_in (members_of mm)) (as-wrong room out r (map name_lines (name_in (members_of mm))) (name-put mm object) e)))

  module _ (n l : ℕ) (c : Bool) (e : r ≡ laid n l c) (full : Bool) (tells : FullGiven s (get_or slots 4 0) full) (q : Laid) (last : Bytes)
      (rest : PutsRest s slots full (eqb l 2) (mid_of n (length out - n) out) q last) where
    module _ (mm : Members) (object : Object s slots mm) (name : Name) (g : name_in (members_of mm) ≡ some name) where
      name-here : PartAs room r out (some (name_lines name))
      name-here = subst (PartAs room r out) (ap (map name_lines) g) (name-put mm object)

      count-is : l ≡ length (name_lines name).lines
      count-is = let w = name-here in all_lines (sym e ∙ w.1)

      rest_put : FewAs (mid_of n (length out - n) out) q last (rest_parts name (members_of mm))
      rest_put = rest mm object name (tells (field (ascii "name") (members_of mm)) (name-slot mm object) name g) (sym (name-lines name) ∙ sym (ap (λ (k : ℕ). eqb k 2) count-is))

    pub body-second : q ≡ Err no_card → (after : Bytes) → PutsBody s slots room (Err no_card) after
    body-second w after mm object = few-wrong room after (body_parts (members_of mm)) (by (name_in (members_of mm)) refl)
      where
        by : (o : Option Name) → name_in (members_of mm) ≡ o → body_parts (members_of mm) ≡ none
        by none g = body_is mm object none g
        by (some name) g =
            let y : Option Part = rest_parts name (members_of mm) in
            body_is mm object (some name) g ∙ both-second (some (name_lines name)) y (few-none (mid_of n (length out - n) out) last q y (rest_put mm object name g) w)

    pub body-all : (m k : ℕ) (d : Bool) → q ≡ laid m k d → PutsBody s slots room (laid (n + m) (few (few l + k)) (c && d)) (put_mid n (length out - n) out last)
    body-all m k d w mm object = by (name_in (members_of mm)) refl
      where
        never : {p : Part} → none ≡ some p → ⊥
        never h = let z : ◌≡◌ {A = ℕ} 0 1 = cc in omega arith

        by : (o : Option Name) → name_in (members_of mm) ≡ o → FewAs room (laid (n + m) (few (few l + k)) (c && d)) (put_mid n (length out - n) out last) (body_parts (members_of mm))
        by none g =
            let x : Has room n (few l) c out none = has-as none (subst (PartAs room r out) (ap (map name_lines) g) (name-put mm object)) e in
            absurd (never x.is)
        by (some name) g =
            let y : Option Part = rest_parts name (members_of mm) in
            subst (FewAs room (laid (n + m) (few (few l + k)) (c && d)) (put_mid n (length out - n) out last)) (sym (body_is mm object (some name) g))
            (has-said (both join_parts (some (name_lines name)) y) (has_both (some (name_lines name)) y (has-as (some (name_lines name)) (name-here mm object name g) e) (has-few y (rest_put mm object name g) w)))
