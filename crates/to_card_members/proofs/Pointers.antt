-- Pointers and TEXT, byte by byte.
use mathlib.Core.Path.{◌≡◌, refl, sym, ap, ◌∙◌}
use mathlib.Core.Bool.{Bool, true, false, ◌&&◌, not}
use mathlib.Core.List.{[], ◌∷◌, ◌++◌, append-nil, append_assoc}
use mathlib.Core.Option.{none, some}
use Prim.Native.Nat.{ℕ, ◌+◌, ◌-◌, ◌<◌}
use lib.Dec.{eqb}
use lib.ListN.{length, take, get_or}
use borrow.Rule.Slice.PartMut.{mid_of, put_mid}
use borrow.Author.Tests.{ne_eqb}
use Rattle.text.specs.Choice.{pick}
use Rattle.text.specs.Bytes.{Bytes, any, all}
use Rattle.text.proofs.Choices.{none-some}
use Rattle.text.proofs.Lists.{all-not}
use Rattle.json_strings.specs.declared.Byte.{Byte}
use Rattle.json_strings.specs.declared.Byte.TheVariants.{One, End, Alone}
use Rattle.json_strings.specs.Decoded.{decoded_at, left, byte_of}
use Rattle.json_strings.proofs.Laws.{left-none}
use Rattle.json_strings.proofs.NextByte.{not-alone, none_left, one_left}
use Rattle.line.specs.Class.{is_control}
use Rattle.line.specs.Text.{escape, write_text}
use Rattle.line_pen.specs.declared.Pen.{Pen}
use Rattle.line_pen.specs.Pen.{Pens}
use Rattle.line_pen.proofs.Laws.{pens-none, pens-as, pens-then, one_more}
use Rattle.to_card_pen.specs.Styles.{stands_in, all_stand_in}
use Rattle.to_card_pen.proofs.Strings.{stand-more}
use Rattle.convert.specs.Carry.{carried_raw, carried_param}
use Rattle.convert.specs.Pointer.{pointer}
use Rattle.to_card_members.specs.Members.{Points}

-- ---- one byte

module _ (c : ℕ) where
  pub pointed-tilde : c ≡ 126 → 126 ∷ 48 ∷ [] ≡ pointer (c ∷ [])
  unfolding pointer
  pointed-tilde e = rw e

  pub pointed-slash : (c ≡ 126 → ⊥) → c ≡ 47 → 126 ∷ 49 ∷ [] ≡ pointer (c ∷ [])
  unfolding pointer
  pointed-slash n e = rw e

  pub pointed-other : (c ≡ 126 → ⊥) → (c ≡ 47 → ⊥) → c ∷ [] ≡ pointer (c ∷ [])
  unfolding pointer
  pointed-other n m = rw (ne_eqb c 126 n, ne_eqb c 47 m)

pub pointer_none : pointer [] ≡ []
unfolding pointer
pointer_none = refl

abbrev pointed_byte : ℕ → Bytes
pointed_byte b = pick (eqb b 126) (126 ∷ 48 ∷ []) (pick (eqb b 47) (126 ∷ 49 ∷ []) (b ∷ []))

pub pointer-more : (y : Bytes) (c : ℕ) → pointer y ++ pointer (c ∷ []) ≡ pointer (y ++ (c ∷ []))
unfolding pointer
pointer-more [] c = refl
pointer-more (b ∷ y) c = append_assoc (pointed_byte b) (pointer y) (pointer (c ∷ [])) ∙ ap (λ (t : Bytes). pointed_byte b ++ t) (pointer-more y c)

-- ---- which names a parameter can carry

both-all : (p q : ℕ → Bool) (s : Bytes) → all (λ c. p c && q c) s ≡ (all p s && all q s)
unfolding all
both-all p q [] = refl
both-all p q (c ∷ s) = ap (λ (x : Bool). (p c && q c) && x) (both-all p q s) ∙ go (p c) (q c) (all p s) (all q s)
  where
    go : (a b x y : Bool) → ((a && b) && (x && y)) ≡ ((a && x) && (b && y))
    go false b x y = refl
    go true false true y = refl
    go true false false y = refl
    go true true x y = refl

pub stands-param : (s : Bytes) → all_stand_in 3 s ≡ carried_param s
unfolding all_stand_in stands_in carried_param carried_raw
stands-param s =
    both-all (λ c. not (is_control c)) (λ c. not (eqb c 34)) s
    ∙ ap (λ (x : Bool). x && all (λ c. not (eqb c 34)) s) (all-not is_control s) ∙ ap (λ (x : Bool). not (any is_control s) && x) (all-not (λ c. eqb c 34) s)

nothing-stands : all_stand_in 3 [] ≡ true
unfolding all_stand_in all
nothing-stands = refl

-- ---- a string's bytes

-- what is written so far; where the string stands for bytes, what is still to come of them
pub record Far (s : Bytes) (at : ℕ) (room : Bytes) (column n k : ℕ) (ok : Bool) (i h : ℕ) (out : Bytes) : Type 0 where
  pub done : Bytes
  pub rest : (x : Bytes) → decoded_at s at ≡ some x → (todo : Bytes) × (left s i h ≡ some todo) × (x ≡ done ++ todo)
  pub pens : Pens room column (pointer done) (record { bytes = n; column = k }) out
  pub stands : ok ≡ all_stand_in 3 done

pub far-first : (s : Bytes) (at : ℕ) (room : Bytes) (column : ℕ) → Far s at room column 0 column true at 0 room
far-first s at room column = record { done = []; rest = λ x e. (x, left-none s at ∙ e, refl); pens = pens-as (sym pointer_none) (pens-none room column); stands = sym nothing-stands }

pub points_none : (s : Bytes) (at : ℕ) (room : Bytes) (column : ℕ) → decoded_at s at ≡ none → Points s at room column (record { bytes = 0; column = column; carried = true }) room
points_none s at room column e = record { text = []; is = λ x w. none-some (sym e ∙ w); pens = pens-as (sym pointer_none) (pens-none room column); carried = sym nothing-stands ∙ stands-param [] }

module _ (s : Bytes) (at : ℕ) (room : Bytes) (column n k : ℕ) (ok : Bool) (i h : ℕ) (out : Bytes) (f : Far s at room column n k ok i h out) (r : Byte) (q : left s i h ≡ byte_of s r) where
  pub far-alone : r ≡ Alone → Points s at room column (record { bytes = n; column = k; carried = ok }) out
  far-alone e = record { text = f.done; is = λ x w. let t = f.rest x w in absurd (not-alone s q t.0 t.1 e); pens = f.pens; carried = f.stands ∙ stands-param f.done }

  pub far-end : r ≡ End → Points s at room column (record { bytes = n; column = k; carried = ok }) out
  far-end e = record {
    text = f.done;
    is = λ x w. let t = f.rest x w in sym (t.2 ∙ ap (λ (z : Bytes). f.done ++ z) (none_left s q t.0 t.1 e) ∙ append-nil f.done);
    pens = f.pens;
    carried = f.stands ∙ stands-param f.done;
  }

  pub far-one : {b j l : ℕ} → r ≡ One b j l → {p : Pen} {last : Bytes} → Pens (mid_of n (length out - n) out) k (pointer (b ∷ [])) p last → {c : Bool} → c ≡ stands_in 3 b
      → Far s at room column (n + p.bytes) p.column (ok && c) j l (put_mid n (length out - n) out last)
  far-one {b} {j} {l} e {p} {last} m {c} y = record {
    done = f.done ++ (b ∷ []);
    rest = λ x w.
        let t = f.rest x w in
        let o = one_left s q t.0 t.1 e in
        (o.0, o.1, t.2 ∙ ap (λ (z : Bytes). f.done ++ z) o.2 ∙ sym (append_assoc f.done (b ∷ []) o.0));
    pens = pens-as (pointer-more f.done b) (pens-then f.pens m);
    stands = ap (λ (t : Bool). t && c) f.stands ∙ ap (λ (t : Bool). all_stand_in 3 f.done && t) y ∙ stand-more 3 f.done b;
  }

-- ---- TEXT of bytes

pub text-none : write_text false [] ≡ []
unfolding write_text
text-none = refl

pub text-append : (x y : Bytes) → write_text false (x ++ y) ≡ write_text false x ++ write_text false y
unfolding write_text
text-append [] y = refl
text-append (c ∷ x) y = ap (λ (t : Bytes). escape false c ++ t) (text-append x y) ∙ sym (append_assoc (escape false c) (write_text false x) (write_text false y))

text-byte : (c : ℕ) → write_text false (c ∷ []) ≡ escape false c
unfolding write_text
text-byte c = append-nil (escape false c)

pub text-more : (s : Bytes) (i : ℕ) → i < length s → write_text false (take i s) ++ escape false (get_or s i 0) ≡ write_text false (take (i + 1) s)
text-more s i h =
    ap (λ (t : Bytes). write_text false (take i s) ++ t) (sym (text-byte (get_or s i 0))) ∙ sym (text-append (take i s) (get_or s i 0 ∷ [])) ∙ ap (write_text false) (one_more s i h)
