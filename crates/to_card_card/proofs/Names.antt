-- The object of the whole text.
use mathlib.Core.Path.{◌≡◌, refl, sym, ap, subst, ◌∙◌}
use Rattle.to_card_pen.specs.Refusal.{no_card}
use Rattle.std.specs.Prelude.{Err}
use Rattle.to_card_lines.specs.Lines.{Laid}
use mathlib.Core.Bool.{Bool, true, false}
use mathlib.Core.List.{List, [], ◌∷◌}
use mathlib.Core.Option.{Option, none, some}
use Prim.Native.Nat.{ℕ, zero, suc, ◌<◌}
use native.Mathlib.Omega.{arith}
use lib.ListN.{length}
use Rattle.text.specs.Choice.{chain}
use Rattle.text.specs.Bytes.{Bytes, parts}
use Rattle.json_text.specs.Tree.{Json, jnull, jtrue, jfalse, jnum, jstr, jarr, jobj, Members, Member, members_of, as_object}
use Rattle.json_text.specs.Strings.{distinct_names}
use Rattle.json_index.specs.Index.{Clear, Indexed, IndexOf, Indexes}
use Rattle.convert.specs.Table.{reserved}
use Rattle.convert.specs.FromJson.{card_from_json, card_from_members}
use Rattle.to_card_members.proofs.Others.{is-reserved}
use Rattle.to_card_name.proofs.Whole.{clear-seven}
use Rattle.to_card_card.specs.Whole.{card_names, Object, CardAs, PutsWhole, PutsCard}

some_is : {A : Type 0} {a b : A} → some a ≡ some b → a ≡ b
some_is h = cc

not_some : {A : Type 0} {a : A} → none ≡ some a → ⊥
not_some h = let z : ◌≡◌ {A = ℕ} 0 1 = cc in omega arith

-- ---- the whole text

pub reserved-names : length (parts 44 card_names) < 14
reserved-names =
    let e : length (parts 44 card_names) ≡ 13 = ap length is-reserved in
    omega arith

pub clear-fourteen : Clear (0 ∷ 0 ∷ 0 ∷ 0 ∷ 0 ∷ 0 ∷ 0 ∷ 0 ∷ 0 ∷ 0 ∷ 0 ∷ 0 ∷ 0 ∷ 0 ∷ [])
clear-fourteen zero = refl
clear-fourteen (suc zero) = refl
clear-fourteen (suc (suc zero)) = refl
clear-fourteen (suc (suc (suc zero))) = refl
clear-fourteen (suc (suc (suc (suc zero)))) = refl
clear-fourteen (suc (suc (suc (suc (suc zero))))) = refl
clear-fourteen (suc (suc (suc (suc (suc (suc zero)))))) = refl
clear-fourteen (suc (suc (suc (suc (suc (suc (suc i))))))) = clear-seven i

module _ (s : Bytes) (room : Bytes) (xs : List ℕ) (b : Bool) (index : Indexes 15 s 0 card_names xs b) where
  object_of : (v : Json) (ms : List Member) → as_object v ≡ some ms → (mm : Members) × (v ≡ jobj mm) × (ms ≡ members_of mm)
  object_of jnull ms e = absurd (not_some e)
  object_of jtrue ms e = absurd (not_some e)
  object_of jfalse ms e = absurd (not_some e)
  object_of (jnum x) ms e = absurd (not_some e)
  object_of (jstr x) ms e = absurd (not_some e)
  object_of (jarr x) ms e = absurd (not_some e)
  object_of (jobj mm) ms e = (mm, refl, sym (some_is e))

  pub card-other : b ≡ false → (after : Bytes) → PutsCard s room (Err no_card) after
  unfolding card_from_json
  card-other e after v h d = subst (CardAs room (Err no_card) after) (sym (ap (λ (o : Option (List Member)). chain o card_from_members) (by (as_object v) (index v h)))) refl
    where
      by : (o : Option (List Member)) → IndexOf 15 s (parts 44 card_names) xs b o → o ≡ none
      by none w = refl
      by (some ms) w = let z : ◌≡◌ {A = ℕ} 0 1 = cc in absurd (omega arith)

  pub card-whole : (r : Laid) (after : Bytes) → b ≡ true → PutsWhole s xs room r after → PutsCard s room r after
  unfolding card_from_json
  card-whole r after e puts v h d = by (as_object v) refl (index v h)
    where
      by : (o : Option (List Member)) → as_object v ≡ o → IndexOf 15 s (parts 44 card_names) xs b o → CardAs room r after (card_from_json v)
      by none g w = let z : ◌≡◌ {A = ℕ} 0 1 = cc in absurd (omega arith)
      by (some ms) g w =
          let o = object_of v ms g in
          let i : Indexed 15 s reserved xs (members_of o.0) = subst (λ (x : List Member). Indexed 15 s reserved xs x) o.2 (subst (λ (ns : List Bytes). Indexed 15 s ns xs ms) is-reserved w.1) in
          let object : Object s xs o.0 = record { object = h ∙ ap some o.1; distinct = sym (ap distinct_names o.1) ∙ d; indexed = i } in
          subst (λ (x : Json). CardAs room r after (card_from_json x)) (sym o.1) (puts o.0 object)
