-- The class of JSPROP, test by test in the code's order.
use mathlib.Core.Path.{◌≡◌, refl, sym, ap, ◌∙◌}
use mathlib.Core.Bool.{Bool, true, false, ◌&&◌, not}
use mathlib.Core.List.{List, [], ◌∷◌}
use mathlib.Core.Option.{Option, none, some}
use Prim.Native.Nat.{ℕ}
use native.Mathlib.Omega.{arith}
use lib.ListN.{length, take, drop, get_or}
use Rattle.text.specs.Choice.{pick, with-some, provided, is_some}
use Rattle.text.specs.Bytes.{Bytes, ascii, all, any, same, among}
use Rattle.text.proofs.Cases.{by_bool}
use Rattle.json_text.specs.Tree.{Json}
use Rattle.line.specs.Grammar.{Param, Line}
use Rattle.line.specs.Params.{values_named, only_named, besides_value}
use Rattle.convert.specs.Table.{reserved}
use Rattle.convert.specs.Pointer.{pointed}
use Rattle.convert.specs.Classify.{Seen, as_member, as-kept, bare, sole, member_name, member_value, member_class}
use Rattle.line_table.specs.Table.{part, Span, line_in}
use Rattle.convert_params.specs.Row.{values_kind, Row}
use Rattle.convert_params.proofs.Which.{kind-4}
use Rattle.convert_entry.specs.Rows.{zeros}
use Rattle.convert_entry.proofs.Named.{only-kinds, values-kind, values-besides}
use Rattle.convert_entry.proofs.Tests.{held_one}
use Rattle.class_member.specs.Member.{besides_pointer}
use Rattle.std.specs.Prelude.{None, Some}
use Rattle.class_member.specs.Member.{MemberIs}
use Rattle.class_member.proofs.Pointing.{among-reserved}

-- ---- options

is_none : {A : Type 0} (o : Option A) → is_some o ≡ false → o ≡ none
is_none none h = refl
is_none (some a) h = absurd (let z : ◌≡◌ {A = ℕ} 0 1 = cc in omega arith)

is-there : {A : Type 0} (o : Option A) → is_some o ≡ true → (a : A) × (o ≡ some a)
is-there (some a) h = (a, refl)
is-there none h = absurd (let z : ◌≡◌ {A = ℕ} 0 1 = cc in omega arith)

provided-none : (b : Bool) → provided {A = Bytes} b none ≡ none
provided-none true = refl
provided-none false = refl

not-sole : (vs : List Bytes) → (length vs ≡ 1 → ⊥) → sole vs ≡ none
not-sole [] n = refl
not-sole (v ∷ []) n = absurd (n refl)
not-sole (v ∷ (w ∷ ws)) n = refl

-- ---- the class by the name and the value

module _ (seen : Seen) (l : Line) where
  abbrev qs : List Param
  qs = besides_value l.params

  unbare : bare l ≡ false → member_class seen l ≡ as-kept
  unfolding member_class
  unbare b = rw b

  nameless : member_name seen qs ≡ none → member_class seen l ≡ as-kept
  unfolding member_class
  nameless e = by_bool (bare l) (λ b. rw (b, e)) (λ b. rw b)

  no_value : member_value l.value ≡ none → member_class seen l ≡ as-kept
  unfolding member_class
  no_value e = rw e (either (provided (bare l) (member_name seen qs)))
    where
      either : (o : Option Bytes) → with-some o (λ n. as-kept) as-kept ≡ as-kept
      either none = refl
      either (some n) = refl

  by_name : (n : Bytes) (j : Json) (b : Bool) → bare l ≡ true → member_name seen qs ≡ provided (not b) (some n) → member_value l.value ≡ some j → member_class seen l ≡ pick b as-kept (as_member n j)
  unfolding member_class
  by_name n j true b e v = rw (b, e)
  by_name n j false b e v = rw (b, e, v)

  -- ---- the name

  no_pointer : sole (values_named (ascii "jsptr") qs) ≡ none → member_name seen qs ≡ none
  unfolding member_name
  no_pointer e = rw (e, provided-none (only_named (ascii "jsptr" ∷ []) qs))

  others : only_named (ascii "jsptr" ∷ []) qs ≡ false → member_name seen qs ≡ none
  unfolding member_name
  others e = rw e

  module _ (only : only_named (ascii "jsptr" ∷ []) qs ≡ true) (p : Bytes) (values : values_named (ascii "jsptr") qs ≡ p ∷ []) where
    unpointed : pointed p ≡ none → member_name seen qs ≡ none
    unfolding member_name
    unpointed e = rw (only, values, e)

    name-is : (n : Bytes) → pointed p ≡ some n → member_name seen qs ≡ provided (not (among n reserved) && not (among n seen.members)) (some n)
    unfolding member_name
    name-is n e = rw (only, values, e)

-- ---- by the rows that a pass over the parameters left

not-value : same (ascii "jsptr") (ascii "value") ≡ false
unfolding same
not-value = refl

module _ (s : Bytes) (t : List ℕ) where
  abbrev l : Line
  l = line_in s t

  module _ {C F T : List ℕ} (r : Row s C F T l.params) where
    only-pointer : only_named (ascii "jsptr" ∷ []) (besides_value l.params) ≡ zeros besides_pointer C
    unfolding all any
    only-pointer = only-kinds (4 ∷ []) besides_pointer refl refl refl l.params r

    pointers : values_named (ascii "jsptr") (besides_value l.params) ≡ values_kind 4 l.params
    pointers = values-besides (ascii "jsptr") not-value l.params ∙ sym (values-kind 4 (ascii "jsptr") (omega arith) kind-4 refl l.params)

    pub member-many : (get_or C 4 0 ≡ 1 → ⊥) → MemberIs s t None
    member-many n seen =
        nameless seen l (no_pointer seen l (ap sole pointers ∙ not-sole (values_kind 4 l.params) (λ e. n ((r.held 4 (omega arith)).count ∙ e))))

    pub member-others : zeros besides_pointer C ≡ false → MemberIs s t None
    member-others e seen = nameless seen l (others seen l (only-pointer ∙ e))

    pub member-unbare : bare l ≡ false → MemberIs s t None
    member-unbare b seen = unbare seen l b

    module _ (one : get_or C 4 0 ≡ 1) (z : zeros besides_pointer C ≡ true) where
      abbrev p : Bytes
      p = part s (get_or F 4 0) (get_or T 4 0)

      value-is : values_named (ascii "jsptr") (besides_value l.params) ≡ p ∷ []
      value-is = pointers ∙ held_one (r.held 4 (omega arith)) one

      pub member-unpointed : is_some (pointed p) ≡ false → MemberIs s t None
      member-unpointed e seen = nameless seen l (unpointed seen l (only-pointer ∙ z) p value-is (is_none (pointed p) e))

      module _ (there : is_some (pointed p) ≡ true) (h b : Bool) (head : h ≡ among p (take 5 reserved)) where
        abbrev name : Bytes
        name = (is-there (pointed p) there).0

        points : pointed p ≡ some name
        points = (is-there (pointed p) there).1

        named : (seen : Seen) → member_name seen (besides_value l.params) ≡ provided (not (among name reserved) && not (among name seen.members)) (some name)
        named seen = name-is seen l (only-pointer ∙ z) p value-is name points

        taken : (seen : Seen) → among name reserved ≡ true → member_class seen l ≡ as-kept
        taken seen e = nameless seen l (named seen ∙ rw e)

        pub member-head : h ≡ true → MemberIs s t None
        member-head e seen = taken seen (among-reserved p name points ∙ rw (sym head ∙ e))

        module _ (f : h ≡ false) (section : b ≡ among p (drop 5 reserved)) where
          reserved-is : among name reserved ≡ b
          reserved-is = among-reserved p name points ∙ rw (sym head ∙ f) (sym section)

          pub member-section : b ≡ true → MemberIs s t None
          member-section e seen = taken seen (reserved-is ∙ e)

          pub member-invalid : is_some (member_value l.value) ≡ false → MemberIs s t None
          member-invalid e seen = no_value seen l (is_none (member_value l.value) e)

          pub member-at : b ≡ false → bare l ≡ true → is_some (member_value l.value) ≡ true → Span s (get_or F 4 0) (get_or T 4 0) → MemberIs s t (Some (record { start = get_or F 4 0; end = get_or T 4 0 }))
          member-at g e v w = record {
            span = w;
            name = name;
            points = points;
            json = (is-there (member_value l.value) v).0;
            value = (is-there (member_value l.value) v).1;
            class = λ seen.
                by_name seen l name (is-there (member_value l.value) v).0 (among name seen.members) e (named seen ∙ rw (reserved-is ∙ g)) (is-there (member_value l.value) v).1;
          }
