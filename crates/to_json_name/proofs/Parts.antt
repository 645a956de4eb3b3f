-- N's parts: where they begin, and their own values.
use mathlib.Core.Path.{◌≡◌, refl, sym, ap, subst, ◌∙◌}
use mathlib.Core.Bool.{true, false, ◌||◌, not}
use mathlib.Core.List.{List, [], ◌∷◌}
use mathlib.Core.Option.{some}
use Prim.Native.Nat.{ℕ, zero, suc, ◌+◌, ◌-◌, ◌≤◌, ◌<◌}
use native.Mathlib.Nat.{le_refl}
use native.Mathlib.Omega.{arith}
use lib.Dec.{eqb, ltb, leb}
use lib.ListN.{length, take, drop, get_or, drop_of_length-le}
use borrow.Author.Tests.{ne_eqb, lt-ltb, le-ltb, ltb-true, ltb-false}
use Rattle.text.specs.Choice.{pick, is_some, provided}
use Rattle.text.specs.Bytes.{Bytes, empty, any, same, among, keep, each}
use Rattle.text.proofs.Cases.{by_bool}
use Rattle.text.proofs.Choices.{both-inv, map-inv, chain-inv, provided-inv, some_same}
use Rattle.line.specs.Text.{read_text, text_from, split_from, split_text}
use Rattle.line_text.specs.Read.{plain_text}
use Rattle.line_text.specs.Split.{PartEnds}
use Rattle.convert.specs.Model.{part}
use Rattle.convert.specs.Table.{name_row}
use Rattle.convert.specs.Value.{filled, head_or, part_values, without, own_parts, read_name, read_parts}
use Rattle.convert_values.specs.Values.{texts_of, Readable}
use Rattle.to_json_items.specs.Items.{is_own}
use Rattle.convert_values.proofs.Texts.{each-plain, nothing-readable}
use Rattle.to_json_items.proofs.Own.{own-none}
use Rattle.to_json_name.specs.Name.{part_of, PartFrom, other_part, others_of, values_of, NameSound}

-- ---- where part k begins

pub record Passing (v : Bytes) (at j : ℕ) : Type 0 where
  pub within : at ≤ length v
  pub is : (n : ℕ) → get_or (split_text 59 (drop at v)) n [] ≡ part_of v (n + j)

-- no part is filled where nothing stands
none_filled : (n : ℕ) → get_or (split_text 59 []) n [] ≡ []
unfolding split_text split_from
none_filled zero = refl
none_filled (suc n) = refl

pub passing-start : (v : Bytes) → Passing v 0 0
passing-start v = record { within = omega arith; is = λ n. let z : n ≡ n + 0 = omega arith in ap (part_of v) z }

head-is : (us : List Bytes) → head_or [] us ≡ get_or us 0 []
head-is [] = refl
head-is (u ∷ us) = refl

pub passing-here : (v : Bytes) (at j k : ℕ) → Passing v at j → j ≡ k → PartFrom v k at
passing-here v at j k h e = record {
  within = h.within;
  is = head-is (split_text 59 (drop at v)) ∙ h.is 0 ∙ (let z : 0 + j ≡ k = omega arith in ap (part_of v) z);
}

module _ (v : Bytes) (at j e : ℕ) (h : Passing v at j) (p : PartEnds 59 v at e) where
  pub passing-on : e < length v → Passing v (e + 1) (j + 1)
  passing-on l = record {
    within = omega arith;
    is = λ n.
        let z : suc n + j ≡ n + (j + 1) = omega arith in
        sym (ap (λ us. get_or us (suc n) []) (p.parts ∙ ap (λ b. take (e - at) (drop at v) ∷ pick b (split_text 59 (drop (e + 1) v)) []) (lt-ltb e (length v) l)))
        ∙ h.is (suc n)
        ∙ ap (part_of v) z;
  }

  no_more : length v ≤ e → (n : ℕ) → part_of v (suc n + j) ≡ []
  no_more o n =
      sym (h.is (suc n))
      ∙ ap (λ us. get_or us (suc n) []) (p.parts ∙ ap (λ b. take (e - at) (drop at v) ∷ pick b (split_text 59 (drop (e + 1) v)) []) (le-ltb e (length v) o))

  passing-end : (k : ℕ) → j < k → length v ≤ e → Passing v (length v) k
  passing-end k l o = record {
    within = le_refl _;
    is = λ n.
        let z : suc (n + (k - (j + 1))) + j ≡ n + k = omega arith in
        ap (λ x. get_or (split_text 59 x) n []) (drop_of_length-le v (le_refl _))
        ∙ none_filled n
        ∙ sym (no_more o (n + (k - (j + 1))))
        ∙ ap (part_of v) z;
  }

  pub passing-out : (k : ℕ) → j < k → length v ≤ e → PartFrom v k (length v)
  passing-out k l o = passing-here v (length v) k k (passing-end k l o) refl

  pub passing-next : (r : ℕ) → (e < length v → r ≡ e + 1) → (length v ≤ e → r ≡ length v) → Passing v r (j + 1)
  passing-next r on out =
      by_bool (ltb e (length v))
      (λ q. let l : e < length v = ltb-true e (length v) q in subst (λ x. Passing v x (j + 1)) (sym (on l)) (passing-on l))
      (λ q. let l : length v ≤ e = ltb-false e (length v) q in subst (λ x. Passing v x (j + 1)) (sym (out l)) (passing-end (j + 1) (omega arith) l))

-- the slice from there to its end
pub slice_is : (v : Bytes) (k a b : ℕ) → PartFrom v k a → PartEnds 59 v a b → take (b - a) (drop a v) ≡ part_of v k
slice_is v k a b f p = sym (ap (head_or []) p.parts) ∙ f.is

pub slice-good : (v : Bytes) (k a b : ℕ) → NameSound v → PartFrom v k a → PartEnds 59 v a b → Readable 44 (take (b - a) (drop a v))
slice-good v k a b g f p = ap (λ u. is_some (each read_text (split_text 44 u))) (slice_is v k a b f p) ∙ g.readable k

pub other-family : (k : ℕ) → k ≡ 0 → 5 ≡ other_part k
unfolding other_part
other-family k e = rw e

pub other-suffix : (k : ℕ) → k ≡ 4 → 6 ≡ other_part k
unfolding other_part
other-suffix k e = rw e

pub other_none : (k : ℕ) → (k ≡ 0 → ⊥) → (k ≡ 4 → ⊥) → 7 ≡ other_part k
unfolding other_part
other_none k a b = rw (ne_eqb k 0 a, ne_eqb k 4 b)

module _ (v : Bytes) (k q : ℕ) (e : q ≡ other_part k) where
  pub values-alone : (u : Bytes) → u ≡ part_of v k → q ≡ 7 → keep (is_own (texts_of 44 [])) (texts_of 44 u) ≡ values_of v k
  unfolding values_of others_of
  values-alone u w z =
      ap (λ x. keep (is_own (texts_of 44 [])) (texts_of 44 x)) w
      ∙ sym (ap (λ b. keep (is_own (texts_of 44 (pick b [] (part_of v (other_part k))))) (texts_of 44 (part_of v k))) (ap (λ x. eqb x 7) (sym e ∙ z)))

  pub values-besides : (u o : Bytes) → u ≡ part_of v k → o ≡ part_of v q → (q ≡ 7 → ⊥) → keep (is_own (texts_of 44 o)) (texts_of 44 u) ≡ values_of v k
  unfolding values_of others_of
  values-besides u o w x z =
      ap (λ y. keep (is_own (texts_of 44 o)) (texts_of 44 y)) w
      ∙ ap (λ y. keep (is_own (texts_of 44 y)) (texts_of 44 (part_of v k))) (x ∙ ap (part_of v) e)
      ∙ sym (ap (λ b. keep (is_own (texts_of 44 (pick b [] (part_of v (other_part k))))) (texts_of 44 (part_of v k))) (ap (λ y. eqb y 7) (sym e) ∙ ne_eqb q 7 z))

-- ---- what N's value reads as

never : {P : Type 0} → false ≡ true → P
never e = absurd (let z : ◌≡◌ {A = ℕ} 0 1 = cc in omega arith)

-- the filled values of a part
abbrev filled_of : Bytes → List Bytes
filled_of u = keep filled (texts_of 44 u)

no-values : filled_of [] ≡ []
unfolding keep split_text split_from plain_text read_text text_from
no-values = refl

part-reads : (u : Bytes) (q : List Bytes) → part_values u ≡ some q → (q ≡ filled_of u) × Readable 44 u
unfolding part_values
part-reads u q e =
    let m = map-inv (keep filled) (each read_text (split_text 44 u)) e in
    (sym m.2 ∙ sym (ap (keep filled) (each-plain (split_text 44 u) m.0 m.1)), ap is_some m.1)

parts-read : (us : List Bytes) (qs : List (List Bytes)) → each part_values us ≡ some qs → (k : ℕ) → (part qs k ≡ filled_of (get_or us k [])) × Readable 44 (get_or us k [])
unfolding each
parts-read [] qs e k = (ap (λ l. get_or l k []) (sym (some_same e)) ∙ sym no-values, nothing-readable)
parts-read (u ∷ us) qs e zero =
    let q = both-inv ◌∷◌ (part_values u) (each part_values us) e in
    (ap (λ l. get_or l 0 []) (sym q.4) ∙ (part-reads u q.0 q.2).0, (part-reads u q.0 q.2).1)
parts-read (u ∷ us) qs e (suc k) =
    let q = both-inv ◌∷◌ (part_values u) (each part_values us) e in
    let r = parts-read us q.1 q.3 k in
    (ap (λ l. get_or l (suc k) []) (sym q.4) ∙ r.0, r.1)

-- ---- own values

differs : (t : Bytes) → empty t ≡ false → same t [] ≡ false
unfolding same
differs [] e = never (sym e)
differs (c ∷ t) e = refl

among-filled : (t : Bytes) → empty t ≡ false → (os : List Bytes) → among t (keep filled os) ≡ among t os
unfolding among any keep
among-filled t e [] = refl
among-filled t e ([] ∷ os) = among-filled t e os ∙ sym (ap (λ b. b || any (same t) os) (differs t e))
among-filled t e ((c ∷ o) ∷ os) = ap (λ b. same t (c ∷ o) || b) (among-filled t e os)

own-values : (os ts : List Bytes) → without (keep filled os) (keep filled ts) ≡ keep (is_own os) ts
unfolding without is_own keep
own-values os [] = refl
own-values os (t ∷ ts) =
    by_bool (empty t)
    (λ b. rw b (own-values os ts))
    (λ b. rw (b, among-filled t b os, own-values os ts))

-- ---- all seven

pub record Seven (v : Bytes) (ps : List (List Bytes)) : Type 0 where
  pub is : ps ≡ values_of v 0 ∷ values_of v 1 ∷ values_of v 2 ∷ values_of v 3 ∷ values_of v 4 ∷ values_of v 5 ∷ values_of v 6 ∷ []
  pub good : NameSound v

module _ (v : Bytes) (qs : List (List Bytes)) (r : each part_values (split_text 59 v) ≡ some qs) where
  reads : (k : ℕ) → part qs k ≡ filled_of (part_of v k)
  reads k = (parts-read (split_text 59 v) qs r k).0

  alone : (k : ℕ) → other_part k ≡ 7 → part qs k ≡ values_of v k
  alone k e = reads k ∙ sym (own-none (texts_of 44 (part_of v k))) ∙ values-alone v k 7 (sym e) (part_of v k) refl refl

  besides : (k q : ℕ) → other_part k ≡ q → (q ≡ 7 → ⊥) → without (part qs q) (part qs k) ≡ values_of v k
  besides k q e n =
      ap (λ l. without l (part qs k)) (reads q)
      ∙ ap (without (filled_of (part_of v q))) (reads k)
      ∙ own-values (texts_of 44 (part_of v q)) (texts_of 44 (part_of v k))
      ∙ values-besides v k q (sym e) (part_of v k) (part_of v q) refl refl n

  own-seven : own_parts name_row qs ≡ values_of v 0 ∷ values_of v 1 ∷ values_of v 2 ∷ values_of v 3 ∷ values_of v 4 ∷ values_of v 5 ∷ values_of v 6 ∷ []
  unfolding own_parts other_part
  own-seven =
      rw (besides 0 5 refl (λ z. omega arith), alone 1 refl, alone 2 refl, alone 3 refl, besides 4 6 refl (λ z. omega arith), alone 5 refl, alone 6 refl)

pub name-seven : (v : Bytes) (ps : List (List Bytes)) → read_name v ≡ some ps → Seven v ps
unfolding read_parts
name-seven v ps e =
    let a = provided-inv (leb (length (split_text 59 v)) 7) _ e in
    let b = chain-inv (each part_values (split_text 59 v)) (λ qs. provided (any (λ vs. not (empty vs)) qs) (some (own_parts name_row qs))) a.1 in
    let c = provided-inv (any (λ vs. not (empty vs)) b.0) (some (own_parts name_row b.0)) b.2 in
    record {
      is = sym (some_same c.1) ∙ own-seven v b.0 b.1;
      good = record { readable = λ k. (parts-read (split_text 59 v) b.0 b.1 k).1 };
    }
