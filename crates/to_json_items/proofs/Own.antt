-- Which values of a list are its own: filled, and none of those of another.
use mathlib.Core.Path.{◌≡◌, refl, sym, ap, subst, ◌∙◌}
use mathlib.Core.Bool.{Bool, true, false, ◌&&◌, not}
use mathlib.Core.List.{List, [], ◌∷◌}
use Prim.Native.Nat.{ℕ, ◌-◌, ◌≤◌}
use native.Mathlib.Omega.{arith}
use lib.Dec.{ltb, leb}
use lib.ListN.{length, take}
use borrow.Author.Tests.{leb-true}
use Rattle.text.specs.Choice.{is_some}
use Rattle.text.specs.Bytes.{Bytes, empty, same, among, any, keep}
use Rattle.text.proofs.Cases.{and_right, not-both}
use Rattle.text.proofs.Lists.{keep_same}
use Rattle.line.specs.Text.{text_from, read_text, split_from, split_text}
use Rattle.line_text.specs.Read.{plain_text}
use Rattle.convert.specs.Value.{filled}
use Rattle.convert_values.specs.Values.{texts_of, Noted}
use Rattle.convert_values.proofs.Texts.{length-empty, length-filled, plain-empty}
use Rattle.to_json_items.specs.Items.{is_own}

alone : (o : Bytes) → length o ≡ 0 → (t : Bytes) → empty t ≡ false → among t (texts_of 44 o) ≡ false
unfolding among any same split_text split_from plain_text read_text text_from
alone [] z [] e = not-both refl e
alone [] z (c ∷ t) e = refl
alone (x ∷ o) z t e = absurd (omega (arith, z))

module _ (u o : Bytes) (good : is_some (read_text u) ≡ true) where
  pub own-empty : length u ≡ 0 → false ≡ is_own (texts_of 44 o) (plain_text u)
  unfolding is_own
  own-empty e = sym (ap (λ b. not b && not (among (plain_text u) (texts_of 44 o))) (plain-empty u good ∙ length-empty u e))

  own-filled : (length u ≡ 0 → ⊥) → is_own (texts_of 44 o) (plain_text u) ≡ not (among (plain_text u) (texts_of 44 o))
  unfolding is_own
  own-filled n = ap (λ b. not b && not (among (plain_text u) (texts_of 44 o))) (plain-empty u good ∙ length-filled u n)

  -- the only value of nothing is empty
  pub own_alone : (length u ≡ 0 → ⊥) → length o ≡ 0 → true ≡ is_own (texts_of 44 o) (plain_text u)
  own_alone n z = sym (own-filled n ∙ ap not (alone o z (plain_text u) (plain-empty u good ∙ length-filled u n)))

  pub own-sought : (length u ≡ 0 → ⊥) → (r : Bool) → r ≡ among (plain_text u) (texts_of 44 o) → not r ≡ is_own (texts_of 44 o) (plain_text u)
  own-sought n r e = ap not e ∙ sym (own-filled n)

  pub own-noted : (length u ≡ 0 → ⊥) → (r : Bool) → (empty (plain_text u) ≡ false → r ≡ among (plain_text u) (texts_of 44 o)) → not r ≡ is_own (texts_of 44 o) (plain_text u)
  own-noted n r e = own-sought n r (e (plain-empty u good ∙ length-filled u n))

-- a list that is noted fits the rows
pub long-fits : (n : ℕ) → ltb 64 n && leb n 32768 ≡ true → n ≤ 32768
long-fits n e = leb-true n 32768 (and_right (ltb 64 n) (leb n 32768) e)

-- the rows from the first on
pub noted-rows : (o : Bytes) (ps fs : List ℕ) (n : ℕ) → Noted o (take n ps) (take n fs) → Noted o (take (n - 0) ps) (take (n - 0) fs)
noted-rows o ps fs n h = let e : n ≡ n - 0 = omega arith in subst (λ (k : ℕ). Noted o (take k ps) (take k fs)) e h

-- nothing is among no others
alone-is : (t : Bytes) → is_own (texts_of 44 []) t ≡ filled t
unfolding is_own among any same split_text split_from plain_text read_text text_from
alone-is [] = refl
alone-is (c ∷ t) = refl

pub own-none : (ts : List Bytes) → keep (is_own (texts_of 44 [])) ts ≡ keep filled ts
own-none ts = keep_same (is_own (texts_of 44 [])) filled alone-is ts
