-- TYPE: codes in the table's order are the table's values that are given.
use mathlib.Core.Path.{◌≡◌, refl, sym, ap, ap₂, ◌∙◌}
use mathlib.Core.Bool.{true, ◌||◌}
use mathlib.Core.List.{List, [], ◌∷◌, map}
use mathlib.Core.Option.{some}
use Prim.Native.Nat.{ℕ}
use lib.Dec.{eqb, ltb}
use Rattle.text.specs.Bytes.{Bytes, any, all, same, among, lowered, parts, flat, each}
use Rattle.text.proofs.Cases.{by_below, up_to, not-both}
use Rattle.text.proofs.Same.{same_true}
use Rattle.convert.specs.Table.{feature-type, type_names, vcard_type, in_order, position}
use Rattle.convert.specs.Classify.{types_from}
use Rattle.convert.specs.NormalCard.{type_form}
use Rattle.convert.proofs.Types.{type_text, code_of}
use Rattle.convert.proofs.Orders.{codes}
use Rattle.home.proofs.Known.{on_map, on_none, on_each}
use Rattle.home.proofs.Images.{keep-map, keep-agree}
use Rattle.home.proofs.Positions.{position-passes, position-inside, position-take}

-- the values differ
same-type : (c d : ℕ) → ltb c 9 ≡ true → ltb d 9 ≡ true → same (type_text c) (type_text d) ≡ eqb c d
unfolding same
same-type c d h l =
    by_below (λ c. same (type_text c) (type_text d)) (λ c. eqb c d) c 9 (by_below (λ d. map (λ c. same (type_text c) (type_text d)) (up_to 9)) (λ d. map (λ c. eqb c d) (up_to 9)) d 9 refl (λ n. not-both l n)) (λ n. not-both h n)

-- a value read as a code is that code's
code-value : (n : ℕ) (v : Bytes) (d c : ℕ) → code_of n v ≡ some d → ltb c 9 ≡ true → eqb c d ≡ same (type_text c) (lowered v)
code-value n v d c e h =
    let p : position (λ t. same (lowered v) (vcard_type t)) type_names ≡ some d = position-take (λ t. same (lowered v) (vcard_type t)) n type_names d e in
    let q : lowered v ≡ type_text d = same_true (lowered v) (type_text d) (position-passes (λ t. same (lowered v) (vcard_type t)) (feature-type [] []) type_names d p) in
    rw q (sym (same-type c d h (position-inside (λ t. same (lowered v) (vcard_type t)) type_names d p)))

pub given-codes : (n c : ℕ) → ltb c 9 ≡ true → (vs : List Bytes) (cs : List ℕ) → each (code_of n) vs ≡ some cs → any (eqb c) cs ≡ among (type_text c) (map lowered vs)
unfolding any among
given-codes n c h [] cs e = on_none (code_of n) e λ r. rw (← r)
given-codes n c h (v ∷ vs) cs e = on_each (code_of n) v vs e λ d ds p q r. rw (← r) (ap₂ ◌||◌ (code-value n v d c p h) (given-codes n c h vs ds q))

pub all_codes : all (λ c. ltb c 9) codes ≡ true
unfolding all
all_codes = refl

pub types-form : (n : ℕ) (vs : List Bytes) (ts : List ℕ) → types_from n vs ≡ some ts → map type_text ts ≡ type_form vs
unfolding types_from type_form in_order
types-form n vs ts e =
    on_map in_order (each (code_of n) (flat (map (parts 44) vs))) e λ cs p q.
    ap (map type_text) (sym q)
    ∙ ap (map type_text) (keep-agree (λ c. ltb c 9) (λ c. any (eqb c) cs) (λ c. among (type_text c) (map lowered (flat (map (parts 44) vs)))) (λ c h. given-codes n c h (flat (map (parts 44) vs)) cs p) codes all_codes)
    ∙ sym (keep-map (λ t. among t (map lowered (flat (map (parts 44) vs)))) type_text codes)
