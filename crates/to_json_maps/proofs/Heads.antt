-- The rows of the table by their places, as the code has them.
use mathlib.Core.Path.{◌≡◌, refl, sym, ap, ◌∙◌}
use mathlib.Core.Bool.{Bool, true, false}
use mathlib.Core.List.{List, [], ◌∷◌}
use Prim.Native.Nat.{ℕ, zero, suc, ◌≤◌, ◌<◌}
use native.Mathlib.Omega.{arith}
use lib.Dec.{leb}
use lib.ListN.{length, get_or, replicate, length-replicate}
use borrow.Author.Tests.{leb-true}
use Rattle.text.proofs.Cases.{in_range}
use Rattle.text.specs.Bytes.{Bytes, ascii}
use Rattle.json_text.specs.Compact.{quoted, spelled_all, spelled}
use Rattle.convert.specs.Table.{Map, maps}
use Rattle.to_json_maps.specs.Maps.{no_map, map_at, prefix_of, head_piece, Unmarked}

pub head-begun : (m : Map) (b : Bool) → b ≡ true → 44 ∷ [] ≡ head_piece m b
unfolding head_piece
head-begun m b e = rw e

pub head_at : {t : Bytes} (i j : ℕ) (b : Bool) → b ≡ false → i ≡ j → t ≡ head_piece (map_at j) false → t ≡ head_piece (map_at i) b
head_at i j b e q h = h ∙ ap (λ k. head_piece (map_at k) false) (sym q) ∙ ap (head_piece (map_at i)) (sym e)

pub nicknames : ascii ",\"nicknames\":{" ≡ head_piece (map_at 0) false
unfolding head_piece map_at quoted spelled_all spelled
nicknames = refl

pub emails : ascii ",\"emails\":{" ≡ head_piece (map_at 1) false
unfolding head_piece map_at quoted spelled_all spelled
emails = refl

pub phones : ascii ",\"phones\":{" ≡ head_piece (map_at 2) false
unfolding head_piece map_at quoted spelled_all spelled
phones = refl

pub links : ascii ",\"links\":{" ≡ head_piece (map_at 3) false
unfolding head_piece map_at quoted spelled_all spelled
links = refl

pub notes : ascii ",\"notes\":{" ≡ head_piece (map_at 4) false
unfolding head_piece map_at quoted spelled_all spelled
notes = refl

pub titles : ascii ",\"titles\":{" ≡ head_piece (map_at 5) false
unfolding head_piece map_at quoted spelled_all spelled
titles = refl

pub organizations : ascii ",\"organizations\":{" ≡ head_piece (map_at 6) false
unfolding head_piece map_at quoted spelled_all spelled
organizations = refl

-- ---- no such map

beyond : (ms : List Map) (i : ℕ) → length ms ≤ i → get_or ms i no_map ≡ no_map
beyond [] i h = refl
beyond (m ∷ ms) zero h = absurd (omega arith)
beyond (m ∷ ms) (suc i) h = beyond ms i (omega arith)

abbrev NoMap : ℕ → Type 0
NoMap i = (i ≡ 0 → ⊥) × (i ≡ 1 → ⊥) × (i ≡ 2 → ⊥) × (i ≡ 3 → ⊥) × (i ≡ 4 → ⊥) × (i ≡ 5 → ⊥) × (i ≡ 6 → ⊥)

three : (i : ℕ) → (i ≡ 0 → ⊥) → (i ≡ 1 → ⊥) → (i ≡ 2 → ⊥) → (i ≡ 3 → ⊥) → 4 ≤ i
three i a b c d = omega arith

seven : (i : ℕ) → 4 ≤ i → (i ≡ 4 → ⊥) → (i ≡ 5 → ⊥) → (i ≡ 6 → ⊥) → 7 ≤ i
seven i l a b c = omega arith

high : (i : ℕ) → NoMap i → 7 ≤ i
high i (a, b, c, d, e, f, g) = seven i (three i a b c d) e f g

no-map : (i : ℕ) → NoMap i → map_at i ≡ no_map
unfolding map_at
no-map i h = beyond maps i (high i h)

nameless : ascii ",\"\":{" ≡ head_piece no_map false
unfolding head_piece quoted spelled_all spelled
nameless = refl

pub head-none : (i : ℕ) (b : Bool) → b ≡ false → (i ≡ 0 → ⊥) → (i ≡ 1 → ⊥) → (i ≡ 2 → ⊥) → (i ≡ 3 → ⊥) → (i ≡ 4 → ⊥) → (i ≡ 5 → ⊥) → (i ≡ 6 → ⊥) → ascii ",\"\":{" ≡ head_piece (map_at i) b
head-none i b z a c d e f g h = nameless ∙ ap (λ m. head_piece m false) (sym (no-map i (a, c, d, e, f, g, h))) ∙ ap (head_piece (map_at i)) (sym z)

pub prefix-at : {t : Bytes} (i j : ℕ) → i ≡ j → t ≡ prefix_of j → t ≡ prefix_of i
prefix-at i j q h = h ∙ ap prefix_of (sym q)

pub prefix0 : ascii "NICK" ≡ prefix_of 0
unfolding prefix_of map_at
prefix0 = refl

pub prefix1 : ascii "EMAIL" ≡ prefix_of 1
unfolding prefix_of map_at
prefix1 = refl

pub prefix2 : ascii "PHONE" ≡ prefix_of 2
unfolding prefix_of map_at
prefix2 = refl

pub prefix3 : ascii "LINK" ≡ prefix_of 3
unfolding prefix_of map_at
prefix3 = refl

pub prefix4 : ascii "NOTE" ≡ prefix_of 4
unfolding prefix_of map_at
prefix4 = refl

pub prefix5 : ascii "TITLE" ≡ prefix_of 5
unfolding prefix_of map_at
prefix5 = refl

pub prefix6 : ascii "ORG" ≡ prefix_of 6
unfolding prefix_of map_at
prefix6 = refl

pub prefix-none : (i : ℕ) → (i ≡ 0 → ⊥) → (i ≡ 1 → ⊥) → (i ≡ 2 → ⊥) → (i ≡ 3 → ⊥) → (i ≡ 4 → ⊥) → (i ≡ 5 → ⊥) → (i ≡ 6 → ⊥) → [] ≡ prefix_of i
unfolding prefix_of
prefix-none i a b c d e f g = ap (λ (m : Map). m.prefix) (sym (no-map i (a, b, c, d, e, f, g)))

pub prefixes : (i : ℕ) → prefix_of i ≡ (map_at i).prefix
unfolding prefix_of
prefixes i = refl

short : (i : ℕ) → i < 7 → leb (length (prefix_of i)) 16 ≡ true
unfolding prefix_of map_at
short i l = in_range (λ i. leb (length (prefix_of i)) 16) (λ i. true) i 0 7 refl (omega arith) l

pub prefix-fits : (i : ℕ) → i < 7 → length (prefix_of i) ≤ 16
prefix-fits i l = leb-true (length (prefix_of i)) 16 (short i l)

pub prefix-short : (i : ℕ) (p : Bytes) → i < 7 → p ≡ prefix_of i → length p ≤ 16
prefix-short i p l e = omega (arith, ap length e, prefix-fits i l)

-- ---- a row without marks

zero-at : (n j : ℕ) → ◌≡◌ {A = ℕ} (get_or (replicate n 0) j 0) 0
zero-at zero j = refl
zero-at (suc n) zero = refl
zero-at (suc n) (suc j) = zero-at n j

pub unmarked : Unmarked (replicate 1025 0)
unmarked = record { wide = omega (arith, length-replicate {A = ℕ} 1025 0); zero = zero-at 1025 }
