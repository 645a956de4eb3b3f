-- TYPE: the marked values in the table's order.
use mathlib.Core.Path.{◌≡◌, refl, sym, ap, ◌∙◌}
use mathlib.Core.Bool.{Bool, true, false, ◌||◌}
use mathlib.Core.List.{List, [], ◌∷◌, ◌++◌, map, append_assoc, append-nil}
use Prim.Native.Nat.{ℕ, zero, suc, ◌+◌, ◌-◌, ◌≤◌, ◌<◌}
use native.Mathlib.Omega.{arith}
use native.Mathlib.Numerals.{add-one}
use borrow.Rule.Slice.PartMut.{mid_of, put_mid}
use lib.Dec.{eqb}
use lib.ListN.{length, get_or, set, length-set}
use lib.Seq.{get_or-set_same, get_or-set_other}
use borrow.Author.Tests.{eqb-true, eqb-false}
use Rattle.text.specs.Bytes.{Bytes, ascii, any, keep}
use Rattle.text.proofs.Cases.{by_bool}
use Rattle.line_pen.specs.declared.Pen.{Pen}
use Rattle.line_pen.specs.Pen.{Pens}
use Rattle.line_pen.proofs.Laws.{pens-as, pens-none, pens-then}
use Rattle.convert.specs.Table.{type_names, vcard_type, feature-type, context_codes, feature_codes, in_order}
use Rattle.to_card_params.specs.Params.{mark_all, type_lead, type_part, types_from}

-- ---- one value

pub lead-on : (b : Bool) → b ≡ true → ascii "," ≡ type_lead b
unfolding type_lead
lead-on b e = rw e

pub lead-off : (b : Bool) → b ≡ false → ascii ";TYPE=" ≡ type_lead b
unfolding type_lead
lead-off b e = rw e

part_none : (names : List Bytes) (c : ℕ) (on begun : Bool) → on ≡ false → [] ≡ type_part names c on begun
unfolding type_part
part_none names c on begun e = rw e

pub part_off : {room : Bytes} {k : ℕ} (names : List Bytes) (c : ℕ) (on begun : Bool) → on ≡ false → Pens room k (type_part names c on begun) (record { bytes = 0; column = k }) room
part_off {room} {k} names c on begun e = pens-as (part_none names c on begun e) (pens-none room k)

pub part-on : (names : List Bytes) (c : ℕ) (on begun : Bool) {x : Bytes} → on ≡ true → x ≡ get_or names c [] → type_lead begun ++ x ≡ type_part names c on begun
unfolding type_part
part-on names c on begun {x} e h = rw (e, h)

-- ---- the loop

pub record Far (names : List Bytes) (row : List ℕ) (room : Bytes) (column at k : ℕ) (begun : Bool) (c : ℕ) (out : Bytes) : Type 0 where
  pub done : Bytes
  pub pens : Pens room column done (record { bytes = at; column = k }) out
  pub left : types_from names row 9 0 false ≡ done ++ types_from names row (9 - c) c begun

pub far-first : (names : List Bytes) (row : List ℕ) (room : Bytes) (column : ℕ) → Far names row room column 0 column false 0 room
far-first names row room column = record { done = []; pens = pens-none room column; left = refl }

types-one : (names : List Bytes) (row : List ℕ) (c : ℕ) (begun : Bool) → c < 9 → types_from names row (9 - c) c begun ≡ type_part names c (eqb (get_or row c 0) 1) begun ++ types_from names row (9 - (c + 1)) (c + 1) (begun || eqb (get_or row c 0) 1)
unfolding types_from
types-one names row c begun h =
    let n : 9 - c ≡ suc (9 - (c + 1)) = omega arith in
    rw (n, add-one)

types-last : (names : List Bytes) (row : List ℕ) (c : ℕ) (begun : Bool) → 9 ≤ c → types_from names row (9 - c) c begun ≡ []
unfolding types_from
types-last names row c begun h = let n : 9 - c ≡ 0 = omega arith in rw n

module _ {names : List Bytes} {row : List ℕ} {room : Bytes} {column at k : ℕ} {begun : Bool} {c : ℕ} {out : Bytes} (f : Far names row room column at k begun c out) where
  pub far-on : {p : Pen} {last : Bytes} → c < 9 → Pens (mid_of at (length out - at) out) k (type_part names c (eqb (get_or row c 0) 1) begun) p last
      → Far names row room column (at + p.bytes) p.column (begun || eqb (get_or row c 0) 1) (c + 1) (put_mid at (length out - at) out last)
  far-on {p} {last} l q = record {
    done = f.done ++ type_part names c (eqb (get_or row c 0) 1) begun;
    pens = pens-then f.pens q;
    left = f.left ∙ ap (λ (x : Bytes). f.done ++ x) (types-one names row c begun l) ∙ sym (append_assoc f.done _ _);
  }

  pub far-end : 9 ≤ c → Pens room column (types_from names row 9 0 false) (record { bytes = at; column = k }) out
  far-end l = pens-as (sym (f.left ∙ ap (λ (x : Bytes). f.done ++ x) (types-last names row c begun l) ∙ append-nil f.done)) f.pens

-- ---- in the words of the table

-- values one after the other
unfoldable pub listed : Bool → List Bytes → Bytes
listed begun [] = []
listed begun (v ∷ vs) = type_lead begun ++ (v ++ listed true vs)

abbrev places_from : ℕ → ℕ → List ℕ
places_from zero c = []
places_from (suc k) c = c ∷ places_from k (suc c)

or-true : (b : Bool) → b || true ≡ true
or-true true = refl
or-true false = refl

or-false : (b : Bool) → b || false ≡ b
or-false true = refl
or-false false = refl

types-listed : (names : List Bytes) (row : List ℕ) (k c : ℕ) (begun : Bool) → types_from names row k c begun ≡ listed begun (map (λ c. get_or names c []) (keep (λ c. eqb (get_or row c 0) 1) (places_from k c)))
unfolding types_from type_part listed keep
types-listed names row zero c begun = refl
types-listed names row (suc k) c begun =
    by_bool (eqb (get_or row c 0) 1)
    (λ e. rw (e, or-true begun, append_assoc, types-listed names row k (suc c) true))
    (λ e. rw (e, or-false begun) (types-listed names row k (suc c) begun))

mark-is : (cs row : List ℕ) (c : ℕ) → c < length row → eqb (get_or (mark_all row cs) c 0) 1 ≡ (eqb (get_or row c 0) 1 || any (eqb c) cs)
unfolding mark_all any
mark-is [] row c h = sym (or-false _)
mark-is (x ∷ cs) row c h =
    let l : c < length (set row x 1) = rw (length-set row x 1) h in
    mark-is cs (set row x 1) c l ∙ by_bool (eqb c x)
    (λ e. let y : get_or (set row x 1) c 0 ≡ 1 = rw (eqb-true c x e) (get_or-set_same row x 1 0 (rw (eqb-true c x e) at h)) in rw (y, e) (sym (or-true (eqb (get_or row c 0) 1))))
    (λ e. let y : get_or (set row x 1) c 0 ≡ get_or row c 0 = get_or-set_other row x c 1 0 (eqb-false c x e) in rw (y, e))

pub marks-append : (row xs ys : List ℕ) → mark_all (mark_all row xs) ys ≡ mark_all row (xs ++ ys)
unfolding mark_all
marks-append row [] ys = refl
marks-append row (x ∷ xs) ys = marks-append (set row x 1) xs ys

keep_same : (p q : ℕ → Bool) (k c : ℕ) → ((x : ℕ) → x < c + k → p x ≡ q x) → keep p (places_from k c) ≡ keep q (places_from k c)
unfolding keep
keep_same p q zero c h = refl
keep_same p q (suc k) c h = rw (h c (omega arith), keep_same p q k (suc c) (λ x l. h x (omega arith)))

name-at : (c : ℕ) → get_or (map vcard_type type_names) c [] ≡ vcard_type (get_or type_names c (feature-type [] []))
name-at c = go type_names c
  where
    go : (ts : List Rattle.convert.specs.Table.TypeName) (c : ℕ) → get_or (map vcard_type ts) c [] ≡ vcard_type (get_or ts c (feature-type [] []))
    go [] c = refl
    go (t ∷ ts) zero = refl
    go (t ∷ ts) (suc c) = go ts c

map_same : (f g : ℕ → Bytes) → ((c : ℕ) → f c ≡ g c) → (cs : List ℕ) → map f cs ≡ map g cs
map_same f g h [] = refl
map_same f g h (c ∷ cs) = rw (h c, map_same f g h cs)

-- the marks of these codes, in the table's order
pub types-order : (cs : List ℕ) → types_from (map vcard_type type_names) (mark_all (0 ∷ 0 ∷ 0 ∷ 0 ∷ 0 ∷ 0 ∷ 0 ∷ 0 ∷ 0 ∷ []) cs) 9 0 false ≡ listed false (map (λ c. vcard_type (get_or type_names c (feature-type [] []))) (in_order cs))
unfolding in_order
types-order cs =
    let row : List ℕ = 0 ∷ 0 ∷ 0 ∷ 0 ∷ 0 ∷ 0 ∷ 0 ∷ 0 ∷ 0 ∷ [] in
    types-listed (map vcard_type type_names) (mark_all row cs) 9 0 false
    ∙ ap (λ (l : List ℕ). listed false (map (λ c. get_or (map vcard_type type_names) c []) l)) (keep_same (λ c. eqb (get_or (mark_all row cs) c 0) 1) (λ c. any (eqb c) cs) 9 0 (λ x l. mark-is cs row x (omega arith) ∙ zeros x (omega arith)))
    ∙ ap (listed false) (map_same _ _ name-at (keep (λ c. any (eqb c) cs) (context_codes ++ feature_codes)))
  where
    zeros : (x : ℕ) → x < 9 → (eqb (get_or (0 ∷ 0 ∷ 0 ∷ 0 ∷ 0 ∷ 0 ∷ 0 ∷ 0 ∷ 0 ∷ []) x 0) 1 || any (eqb x) cs) ≡ any (eqb x) cs
    zeros x l = ap (λ (b : Bool). b || any (eqb x) cs) (Rattle.text.proofs.Cases.in_range (λ x. eqb (get_or (0 ∷ 0 ∷ 0 ∷ 0 ∷ 0 ∷ 0 ∷ 0 ∷ 0 ∷ 0 ∷ []) x 0) 1) (λ x. false) x 0 9 refl (omega arith) (omega arith))
