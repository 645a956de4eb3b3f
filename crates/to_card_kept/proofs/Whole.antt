-- vCardProps by its slot.
use mathlib.Core.Path.{◌≡◌, refl, sym, ap, subst, ◌∙◌}
use Rattle.to_card_pen.specs.Refusal.{no_card}
use Rattle.std.specs.Prelude.{Err}
use mathlib.Core.Bool.{Bool, true}
use mathlib.Core.List.{List, []}
use mathlib.Core.Option.{Option, none, some}
use Prim.Native.Nat.{ℕ, ◌+◌, ◌≤◌, ◌<◌}
use native.Mathlib.Omega.{arith}
use lib.ListN.{length, get_or}
use Rattle.text.specs.Choice.{chain}
use Rattle.text.specs.Bytes.{Bytes, ascii, any, all, among, same}
use Rattle.text.specs.Places.{byte_at, Passes}
use Rattle.text.proofs.Cases.{by_bool}
use Rattle.text.proofs.Choices.{none-some, some_same}
use Rattle.text.proofs.Same.{same_true}
use Rattle.json_text.specs.Grammar.{is_space}
use Rattle.json_text.specs.Tree.{Json, jnull, jtrue, jfalse, jnum, jstr, jarr, jobj, Members, mnil, mcons, Member, members_of, Elems, elems_of, field, as_array}
use Rattle.json_text.specs.Strings.{distinct_names}
use Rattle.json_access.specs.declared.Kind.TheVariants.{Array}
use Rattle.json_access.specs.Access.{kind_of}
use Rattle.json_index.specs.Index.{json_at, first_at, Slot}
use Rattle.json_index.proofs.Fields.{first_field}
use Rattle.to_card_kept_entry.specs.strings.Strings.{size, size_elems, size_members}
use Rattle.to_card_kept_entry.proofs.strings.Elements.{elems-nil, empty-array, array-elems, not-array}
use Rattle.to_card_kept_entry.proofs.room.Room.{room}
use Rattle.to_card_kept_entry.proofs.fill.Distinct.{elements-distinct, members-distinct, field-distinct}
use Rattle.convert.specs.Table.{reserved}
use Rattle.convert.specs.Model.{Entry}
use Rattle.convert.specs.Classify.{Seen}
use Rattle.to_card_params.proofs.Walk.{slot-none, slot-some, none-past}
use Rattle.to_card_lines.specs.Lines.{PartAs, no_lines, parts_of, Laid, laid}
use Rattle.to_card_lines.proofs.Parts.{parts_none, done_none, done_all, none-wrong}
use Rattle.to_card_kept.specs.Kept.{kept_parts, entry_part, seen_of, Known, PutsKept}
use Rattle.to_card_kept.specs.Puts.{EntriesAt, PutsFrom}

-- ---- the member

abbrev name : Bytes
name = ascii "vCardProps"

props-first : (ms : List Member) → first_at reserved 12 ms ≡ field name ms
unfolding among any same
props-first ms = first_field reserved 12 (omega arith) refl ms

props-slot : {s : Bytes} {slots : List ℕ} {mm : Members} {ess : List (List Entry)} → Known s slots mm ess → Slot 15 s (get_or slots 12 0) (field name (members_of mm))
props-slot {s} {slots} {mm} k = subst (Slot 15 s (get_or slots 12 0)) (props-first (members_of mm)) (k.indexed 12)

-- a member's name and value have no more bytes than the object
field-size : (n : Bytes) (mm : Members) (v : Json) → field n (members_of mm) ≡ some v → length n + size v ≤ size_members mm
unfolding field members_of size_members
field-size n mnil v e = none-some e
field-size n (mcons k j mm) v e =
    by_bool (same k n)
    (λ q. omega (arith, ap length (same_true k n q), ap size (some_same (rw q at e))))
    (λ q. omega (arith, field-size n mm v (rw q at e)))

object-size : (mm : Members) → size (jobj mm) ≡ size_members mm
unfolding size
object-size mm = refl

array_size : (es : Elems) → size (jarr es) ≡ size_elems es
unfolding size
array_size es = refl

module _ {s : Bytes} {slots : List ℕ} {mm : Members} {ess : List (List Entry)} (known : Known s slots mm ess) (es : Elems) (e : field name (members_of mm) ≡ some (jarr es)) where
  props-room : size_elems es + 5 ≤ length s
  props-room =
      let ten : length name ≡ 10 = refl in
      omega (arith, ten, field-size name mm (jarr es) e, array_size es, object-size mm, room 16 s 0 (jobj mm) known.object)

  props-distinct : all distinct_names (elems_of es) ≡ true
  props-distinct = elements-distinct (jarr es) (elems_of es) (field-distinct name (members_of mm) (jarr es) (members-distinct (jobj mm) (members_of mm) known.distinct refl).1 e) refl

-- ---- by the first bytes

other_none : (v : Json) → (kind_of v ≡ Array → ⊥) → as_array v ≡ none
other_none jnull n = refl
other_none jtrue n = refl
other_none jfalse n = refl
other_none (jnum x) n = refl
other_none (jstr x) n = refl
other_none (jarr es) n = absurd (n refl)
other_none (jobj ms) n = refl

array-none : (seen : Seen) (v : Json) → as_array v ≡ none → kept_parts seen (some v) ≡ none
unfolding kept_parts
array-none seen v e = ap (λ (o : Option (List Json)). chain o (parts_of (entry_part seen))) e

array_parts : (seen : Seen) (v : Json) (js : List Json) → as_array v ≡ some js → kept_parts seen (some v) ≡ parts_of (entry_part seen) js
unfolding kept_parts
array_parts seen v js e = ap (λ (o : Option (List Json)). chain o (parts_of (entry_part seen))) e

no-parts : (seen : Seen) → kept_parts seen none ≡ some no_lines
unfolding kept_parts
no-parts seen = refl

module _ (s : Bytes) (slots : List ℕ) (full parts : Bool) (out : Bytes) where
  pub kept-absent : get_or slots 12 0 ≡ 0 → PutsKept s slots full parts out (laid 0 0 true) out
  kept-absent e mm ess known n f p =
      let seen = seen_of n ess (members_of mm) in
      done_all out 0 0 true out no_lines (done_none out) _ (ap (kept_parts seen) (slot-none (props-slot known) e) ∙ no-parts seen)

  module _ (at : ℕ) (is : at ≡ get_or slots 12 0) (there : at ≡ 0 → ⊥) where
    value_of : {mm : Members} {ess : List (List Entry)} → Known s slots mm ess → (v : Json) × (field name (members_of mm) ≡ some v) × (json_at 15 s at ≡ some v)
    value_of known = let v = slot-some (props-slot known) (λ z. there (is ∙ z)) in (v.0, v.1, ap (json_at 15 s) is ∙ v.2)

    pub kept-past : length s < at → (after : Bytes) → PutsKept s slots full parts out (Err no_card) after
    kept-past l after mm ess known n f p = let v = value_of known in none-past 15 s at v.0 l v.2

    module _ (i b : ℕ) (h : Passes is_space s at i) (e : b ≡ byte_at s i) where
      pub kept-other : (b ≡ 91 → ⊥) → (after : Bytes) → PutsKept s slots full parts out (Err no_card) after
      kept-other z after mm ess known n f p =
          let seen = seen_of n ess (members_of mm) in
          let v = value_of known in
          none-wrong out after _ (ap (kept_parts seen) v.1 ∙ array-none seen v.0 (other_none v.0 (not-array 14 s at i b h e z v.0 v.2)))

      module _ (q : b ≡ 91) (j c : ℕ) (k : Passes is_space s (i + 1) j) (g : c ≡ byte_at s j) where
        pub kept-empty : c ≡ 93 → PutsKept s slots full parts out (laid 0 0 true) out
        kept-empty z mm ess known n f p =
            let seen = seen_of n ess (members_of mm) in
            let v = value_of known in
            let w : as_array v.0 ≡ some [] = ap as_array (empty-array 14 s at i b h e q j c k g z v.0 v.2) ∙ ap some elems-nil in
            done_all out 0 0 true out no_lines (done_none out) _ (ap (kept_parts seen) v.1 ∙ array_parts seen v.0 [] w ∙ parts_none (entry_part seen))

        pub kept_full : (c ≡ 93 → ⊥) → (r : Laid) (after : Bytes) → PutsFrom s slots j full parts out r after → PutsKept s slots full parts out r after
        kept_full z r after from mm ess known n f p =
            let seen = seen_of n ess (members_of mm) in
            let v = value_of known in
            let u = array-elems 14 s at i b h e q j c k g z v.0 v.2 in
            let y : field name (members_of mm) ≡ some (jarr u.1) = v.1 ∙ ap some u.5 in
            let es : EntriesAt s j u.1 =
            record { units = u.0; rest = u.2; is-units = u.3; is = u.4; distinct = props-distinct known u.1 y; room = props-room known u.1 y } in
            subst (PartAs out r after) (sym (ap (kept_parts seen) y ∙ array_parts seen (jarr u.1) (elems_of u.1) refl)) (from u.1 es mm ess known n f p)
