-- Arrays in compact form, element by element.
use mathlib.Core.Path.{◌≡◌, refl, sym, ap, ◌∙◌}
use mathlib.Core.Bool.{Bool, true, false, ◌||◌, not}
use mathlib.Core.List.{List, [], ◌∷◌, ◌++◌, map, append_assoc}
use Prim.Native.Nat.{ℕ, ◌<◌}
use native.Mathlib.Omega.{arith}
use lib.ListN.{length, length-append}
use Rattle.text.specs.Choice.{pick}
use Rattle.text.specs.Bytes.{Bytes, empty, flat}
use Rattle.json_text.specs.Tree.{Json, from_elems, array}
use Rattle.json_text.specs.Compact.{quoted, written, written_elems, elems_after}
use Rattle.convert_put.proofs.Compact.{written-append}
use Rattle.to_json_items.specs.Items.{lead, opening, item_head, item_piece, listed, elems}

or-true : (b : Bool) → true ≡ b || true
or-true true = refl
or-true false = refl

or-false : (b : Bool) → b ≡ b || false
or-false true = refl
or-false false = refl

pub elems-append : (b : Bool) (xs ys : List Json) → elems b (xs ++ ys) ≡ elems b xs ++ elems (b || not (empty xs)) ys
unfolding elems
elems-append b [] ys = ap (λ c. elems c ys) (or-false b)
elems-append b (x ∷ xs) ys =
    ap (λ (l : Bytes). pick b (44 ∷ []) [] ++ (written x [] ++ l)) (elems-append true xs ys)
    ∙ ap (λ c. pick b (44 ∷ []) [] ++ (written x [] ++ (elems true xs ++ elems c ys))) (or-true b)
    ∙ simp append_assoc

elems-after : (js : List Json) (u : Bytes) → elems_after (from_elems js) u ≡ elems true js ++ (93 ∷ u)
unfolding elems_after from_elems elems
elems-after [] u = refl
elems-after (j ∷ js) u =
    ap (λ (x : Bytes). 44 ∷ x) (ap (written j) (elems-after js u) ∙ written-append j [] (elems true js ++ (93 ∷ u)) ∙ sym (append_assoc (written j []) (elems true js) (93 ∷ u)))

pub array-bytes : (js : List Json) (u : Bytes) → written (array js) u ≡ 91 ∷ (elems false js ++ (93 ∷ u))
unfolding written written_elems from_elems elems
array-bytes [] u = refl
array-bytes (j ∷ js) u =
    ap (λ (x : Bytes). 91 ∷ x) (ap (written j) (elems-after js u) ∙ written-append j [] (elems true js ++ (93 ∷ u)) ∙ sym (append_assoc (written j []) (elems true js) (93 ∷ u)))

-- ---- items as elements

-- what an item of kind k is
abbrev pub Item : ℕ → (Bytes → Json) → Type 0
Item k f = (t : Bytes) → written (f t) [] ≡ lead k ++ (quoted t [] ++ (125 ∷ []))

item-is : (b : Bool) (k : ℕ) (f : Bytes → Json) → Item k f → (t : Bytes) → item_piece b k t ≡ item_head b k ++ written (f t) []
unfolding flat
item-is b k f i t = ap (λ (x : Bytes). item_head b k ++ x) (sym (i t))

later-items : (k : ℕ) (f : Bytes → Json) → Item k f → (ts : List Bytes) → listed k true ts ≡ elems true (map f ts)
unfolding listed elems item_head
later-items k f i [] = refl
later-items k f i (t ∷ ts) =
    ap (λ (x : Bytes). x ++ listed k true ts) (item-is true k f i t) ∙ ap (λ (x : Bytes). 44 ∷ (written (f t) [] ++ x)) (later-items k f i ts)

pub first-items : (k : ℕ) (f : Bytes → Json) → Item k f → (t : Bytes) (ts : List Bytes) → listed k false (t ∷ ts) ≡ opening k ++ elems false (map f (t ∷ ts))
unfolding listed elems item_head
first-items k f i t ts =
    ap (λ (x : Bytes). x ++ listed k true ts) (item-is false k f i t)
    ∙ append_assoc (opening k) (written (f t) []) (listed k true ts)
    ∙ ap (λ (x : Bytes). opening k ++ (written (f t) [] ++ x)) (later-items k f i ts)

no-list : (k : ℕ) → listed k false [] ≡ elems false []
unfolding listed elems
no-list k = refl

-- where nothing stands before the first
pub all-items : (k : ℕ) (f : Bytes → Json) → Item k f → opening k ≡ [] → (b : Bool) (ts : List Bytes) → listed k b ts ≡ elems b (map f ts)
all-items k f i o true ts = later-items k f i ts
all-items k f i o false [] = no-list k
all-items k f i o false (t ∷ ts) = first-items k f i t ts ∙ ap (λ (x : Bytes). x ++ elems false (map f (t ∷ ts))) o

-- ---- whether there are any

pub listed-some : (k : ℕ) (b : Bool) (t : Bytes) (ts : List Bytes) → 0 < length (listed k b (t ∷ ts))
unfolding listed flat
listed-some k b t ts = simp length-append (omega arith)
