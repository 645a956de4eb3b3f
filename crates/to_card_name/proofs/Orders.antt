-- The two orders of kinds, in the words of `write_name` and `derived_line`.
use mathlib.Core.Path.{◌≡◌, refl, sym, ap, ◌∙◌}
use mathlib.Core.Bool.{Bool, true, false, ◌&&◌, ◌||◌, not}
use mathlib.Core.List.{List, [], ◌∷◌, ◌++◌, map, append-nil, append_assoc}
use Prim.Native.Nat.{ℕ}
use Rattle.text.specs.Bytes.{Bytes, ascii, all, empty, flat, joined}
use Rattle.text.proofs.Lists.{map_both}
use Rattle.line.specs.Text.{escape, write_text}
use Rattle.line.proofs.Texts.{write-append}
use Rattle.to_card_pen.specs.Styles.{written_in, stands_in, all_stand_in}
use Rattle.to_card_pen.proofs.Styles.{written-text, written-parts, stands-text}
use Rattle.convert.specs.Value.{written_parts, write_name, write_parts}
use Rattle.convert.specs.Carry.{carried_text}
use Rattle.to_card_parts.specs.Parts.{list_from}
use Rattle.to_card_parts.proofs.Values.{list-append, empty-map}
use Rattle.to_card_order.specs.Order.{values_at, order_from, carried_order}

-- ---- values with a mark between them

pub joined-list : (d : ℕ) (xs : List Bytes) → joined (d ∷ []) xs ≡ list_from d false xs
unfolding joined list_from
joined-list d [] = refl
joined-list d (x ∷ []) = sym (append-nil x)
joined-list d (x ∷ (y ∷ ys)) = ap (λ (t : Bytes). x ++ d ∷ t) (joined-list d (y ∷ ys))

map_same : (f g : Bytes → Bytes) → ((x : Bytes) → f x ≡ g x) → (xs : List Bytes) → map f xs ≡ map g xs
map_same f g h [] = refl
map_same f g h (x ∷ xs) = ap (λ (y : Bytes). y ∷ map f xs) (h x) ∙ ap (λ (ys : List Bytes). g x ∷ ys) (map_same f g h xs)

all_same : (f g : Bytes → Bool) → ((x : Bytes) → f x ≡ g x) → (xs : List Bytes) → all f xs ≡ all g xs
unfolding all
all_same f g h [] = refl
all_same f g h (x ∷ xs) = ap (λ (b : Bool). b && all f xs) (h x) ∙ ap (λ (b : Bool). g x && b) (all_same f g h xs)

all-parts : (f g : Bytes → Bool) → ((x : Bytes) → f x ≡ g x) → (ps : List (List Bytes)) → all (all f) ps ≡ all (all g) ps
unfolding all
all-parts f g h [] = refl
all-parts f g h (p ∷ ps) = ap (λ (b : Bool). b && all (all f) ps) (all_same f g h p) ∙ ap (λ (b : Bool). all g p && b) (all-parts f g h ps)

-- two lists of values, the second after the first
list-then : (style mark : ℕ) (b : Bool) (p q : List Bytes) → list_from mark b (map (written_in style) (p ++ q)) ≡ list_from mark b (map (written_in style) p) ++ list_from mark (b || not (empty p)) (map (written_in style) q)
list-then style mark b p q =
    ap (list_from mark b) (map_both (written_in style) p q) ∙ list-append mark b (map (written_in style) p) (map (written_in style) q)
    ∙ ap (λ (x : Bool). list_from mark b (map (written_in style) p) ++ list_from mark (b || not x) (map (written_in style) q)) (empty-map (written_in style) p)

-- ---- N

-- values of one part as they are written
abbrev part_text : List Bytes → Bytes
part_text vs = joined (ascii ",") (map (write_text true) vs)

part-list : (vs : List Bytes) → list_from 44 false (map (written_in 2) vs) ≡ part_text vs
part-list vs = ap (list_from 44 false) (map_same (written_in 2) (write_text true) written-parts vs) ∙ sym (joined-list 44 (map (write_text true) vs))

one : (p : List Bytes) (t : Bytes) → list_from 44 false (map (written_in 2) p) ++ t ≡ part_text p ++ t
one p t = ap (λ (x : Bytes). x ++ t) (part-list p)

two : (p q : List Bytes) (t : Bytes) → list_from 44 false (map (written_in 2) p) ++ (list_from 44 (false || not (empty p)) (map (written_in 2) q) ++ t) ≡ part_text (p ++ q) ++ t
two p q t =
    sym (append_assoc (list_from 44 false (map (written_in 2) p)) (list_from 44 (false || not (empty p)) (map (written_in 2) q)) t)
    ∙ ap (λ (x : Bytes). x ++ t) (sym (list-then 2 44 false p q) ∙ part-list (p ++ q))

module _ (p0 p1 p2 p3 p4 p5 p6 : List Bytes) where
  abbrev parts : List (List Bytes)
  parts = p0 ∷ p1 ∷ p2 ∷ p3 ∷ p4 ∷ p5 ∷ p6 ∷ []

  abbrev plain : List Bytes → Bytes
  plain p = list_from 44 false (map (written_in 2) p)

  pub name-order : order_from 2 44 parts false (ascii "05;1;2;3;46;5;6") ≡ write_name parts
  unfolding order_from values_at write_parts written_parts joined
  name-order =
      let r6 : Bytes = plain p6 ++ [] in
      let r5 : Bytes = plain p5 ++ 59 ∷ r6 in
      let r4 : Bytes = plain p4 ++ (list_from 44 (false || not (empty p4)) (map (written_in 2) p6) ++ 59 ∷ r5) in
      let r3 : Bytes = plain p3 ++ 59 ∷ r4 in
      let r2 : Bytes = plain p2 ++ 59 ∷ r3 in
      let r1 : Bytes = plain p1 ++ 59 ∷ r2 in
      let e6 : r6 ≡ part_text p6 = append-nil (plain p6) ∙ part-list p6 in
      let e5 : r5 ≡ part_text p5 ++ 59 ∷ part_text p6 = one p5 (59 ∷ r6) ∙ ap (λ (t : Bytes). part_text p5 ++ 59 ∷ t) e6 in
      let e4 : r4 ≡ part_text (p4 ++ p6) ++ 59 ∷ (part_text p5 ++ 59 ∷ part_text p6) = two p4 p6 (59 ∷ r5) ∙ ap (λ (t : Bytes). part_text (p4 ++ p6) ++ 59 ∷ t) e5 in
      let e3 = one p3 (59 ∷ r4) ∙ ap (λ (t : Bytes). part_text p3 ++ 59 ∷ t) e4 in
      let e2 = one p2 (59 ∷ r3) ∙ ap (λ (t : Bytes). part_text p2 ++ 59 ∷ t) e3 in
      let e1 = one p1 (59 ∷ r2) ∙ ap (λ (t : Bytes). part_text p1 ++ 59 ∷ t) e2 in
      two p0 p5 (59 ∷ r1) ∙ ap (λ (t : Bytes). part_text (p0 ++ p5) ++ 59 ∷ t) e1

  -- ---- FN made of the components

  text-joined : (vs : List Bytes) → write_text false (joined (ascii " ") vs) ≡ joined (ascii " ") (map (write_text false) vs)
  unfolding joined write_text escape
  text-joined [] = refl
  text-joined (v ∷ []) = refl
  text-joined (v ∷ (w ∷ ws)) = write-append false v (32 ∷ joined (ascii " ") (w ∷ ws)) ∙ ap (λ (t : Bytes). write_text false v ++ 32 ∷ t) (text-joined (w ∷ ws))

  spaced : (vs : List Bytes) → list_from 32 false (map (written_in 1) vs) ≡ write_text false (joined (ascii " ") vs)
  spaced vs = ap (list_from 32 false) (map_same (written_in 1) (write_text false) written-text vs) ∙ sym (joined-list 32 (map (write_text false) vs)) ∙ sym (text-joined vs)

  abbrev values : Bool → List Bytes → Bytes
  values b p = list_from 32 b (map (written_in 1) p)

  -- what is written of the rest, once b says whether a value has been written
  step : (b : Bool) (p q : List Bytes) (t : Bytes) → values (b || not (empty p)) q ≡ t → values b (p ++ q) ≡ values b p ++ t
  step b p q t e = list-then 1 32 b p q ∙ ap (λ (x : Bytes). values b p ++ x) e

  pub derived-order : order_from 1 32 parts false (ascii "0123456") ≡ write_text false (joined (ascii " ") (flat parts))
  unfolding order_from values_at flat list_from
  derived-order =
      let b1 : Bool = false || not (empty p0) in
      let b2 : Bool = b1 || not (empty p1) in
      let b3 : Bool = b2 || not (empty p2) in
      let b4 : Bool = b3 || not (empty p3) in
      let b5 : Bool = b4 || not (empty p4) in
      let b6 : Bool = b5 || not (empty p5) in
      let e6 = step b6 p6 [] [] refl in
      let e5 = step b5 p5 (p6 ++ []) _ e6 in
      let e4 = step b4 p4 (p5 ++ (p6 ++ [])) _ e5 in
      let e3 = step b3 p3 (p4 ++ (p5 ++ (p6 ++ []))) _ e4 in
      let e2 = step b2 p2 (p3 ++ (p4 ++ (p5 ++ (p6 ++ [])))) _ e3 in
      let e1 = step b1 p1 (p2 ++ (p3 ++ (p4 ++ (p5 ++ (p6 ++ []))))) _ e2 in
      sym (step false p0 (p1 ++ (p2 ++ (p3 ++ (p4 ++ (p5 ++ (p6 ++ [])))))) _ e1) ∙ spaced (p0 ++ (p1 ++ (p2 ++ (p3 ++ (p4 ++ (p5 ++ (p6 ++ [])))))))

  -- ---- 13

  stands_parts : (x : Bytes) → all_stand_in 2 x ≡ carried_text x
  unfolding all_stand_in stands_in
  stands_parts x = stands-text x

  and-false : (a : Bool) → a && false ≡ false
  and-false true = refl
  and-false false = refl

  seven : (c0 c1 c2 c3 c4 c5 c6 : Bool)
      → (c0 && (c5 && (true && (c1 && (true && (c2 && (true && (c3 && (true && (c4 && (c6 && (true && (c5 && (true && (c6 && true))))))))))))))) ≡ (c0 && (c1 && (c2 && (c3 && (c4 && (c5 && (c6 && true)))))))
  seven c0 c1 c2 c3 c4 true true = refl
  seven c0 c1 c2 c3 c4 true false = refl
  seven c0 c1 c2 c3 c4 false c6 = ap (λ (x : Bool). c0 && x) (sym (ap (λ (x : Bool). c1 && (c2 && (c3 && x))) (and-false c4) ∙ ap (λ (x : Bool). c1 && (c2 && x)) (and-false c3) ∙ ap (λ (x : Bool). c1 && x) (and-false c2) ∙ and-false c1))

  pub carried-order : carried_order 2 parts (ascii "05;1;2;3;46;5;6") ≡ all (all carried_text) parts
  unfolding carried_order values_at all
  carried-order =
      seven (all (all_stand_in 2) p0) (all (all_stand_in 2) p1) (all (all_stand_in 2) p2) (all (all_stand_in 2) p3) (all (all_stand_in 2) p4) (all (all_stand_in 2) p5) (all (all_stand_in 2) p6)
      ∙ all-parts (all_stand_in 2) carried_text stands_parts parts
