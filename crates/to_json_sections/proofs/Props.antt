-- vCardProps as pieces.
use mathlib.Core.Path.{◌≡◌, refl, sym, ap, ◌∙◌}
use mathlib.Core.Bool.{Bool, true, false}
use mathlib.Core.List.{List, [], ◌∷◌, ◌++◌, map, append_assoc, append-nil}
use Rattle.text.specs.Bytes.{Bytes, ascii, flat}
use Rattle.json_text.specs.Tree.{Json, from_elems, array}
use Rattle.json_text.specs.Compact.{spelled, spelled_all, quoted, written, written_elems, elems_after}
use Rattle.convert.specs.Model.{Kept}
use Rattle.convert.specs.ToJson.{kept_json}
use Rattle.convert_put.specs.Pieces.{member_bytes, after}
use Rattle.convert_put.proofs.Compact.{quoted-append, written-append}
use Rattle.to_json_sections.specs.Sections.{prop_head, prop_piece, props_end, props_from, props_bytes}

-- ---- arrays, element by element

-- elements after others: each after a comma
abbrev commaed : List Json → Bytes
commaed [] = []
commaed (j ∷ js) = 44 ∷ (written j [] ++ commaed js)

listed : (js : List Json) (u : Bytes) → elems_after (from_elems js) u ≡ commaed js ++ (93 ∷ u)
unfolding elems_after from_elems
listed [] u = refl
listed (j ∷ js) u =
    ap (λ (x : Bytes). 44 ∷ x)
    (written-append j [] (elems_after (from_elems js) u) ∙ ap (λ (x : Bytes). written j [] ++ x) (listed js u) ∙ sym (append_assoc (written j []) (commaed js) (93 ∷ u)))

array-bytes : (j : Json) (js : List Json) (u : Bytes) → written (array (j ∷ js)) u ≡ 91 ∷ (written j [] ++ (commaed js ++ (93 ∷ u)))
unfolding written written_elems from_elems
array-bytes j js u =
    ap (λ (x : Bytes). 91 ∷ x) (written-append j [] (elems_after (from_elems js) u) ∙ ap (λ (x : Bytes). written j [] ++ x) (listed js u))

-- ---- the member

two : (x y : Bytes) → flat (x ∷ y ∷ []) ≡ x ++ y
unfolding flat
two x y = ap (λ z. x ++ z) (append-nil y)

from-begun : (ks : List Kept) → props_from true ks ≡ commaed (map kept_json ks) ++ (93 ∷ [])
unfolding props_from prop_piece prop_head props_end
from-begun [] = refl
from-begun (k ∷ ks) =
    rw (two (44 ∷ []) (written (kept_json k) []), from-begun ks)
    (ap (λ (x : Bytes). 44 ∷ x) (sym (append_assoc (written (kept_json k) []) (commaed (map kept_json ks)) (93 ∷ []))))

head-is : ascii ",\"vCardProps\":[" ≡ 44 ∷ quoted (ascii "vCardProps") (58 ∷ 91 ∷ [])
unfolding quoted spelled_all spelled
head-is = refl

pub props-whole : (ks : List Kept) → props_from false ks ≡ props_bytes ks
unfolding props_from prop_piece prop_head props_end props_bytes after member_bytes
props-whole [] = refl
props-whole (k ∷ ks) =
    let h : Bytes = ascii ",\"vCardProps\":[" in
    let x : Bytes = written (kept_json k) [] in
    let y : Bytes = x ++ (commaed (map kept_json ks) ++ (93 ∷ [])) in
    ap (λ (z : Bytes). z ++ props_from true ks) (two h x)
    ∙ append_assoc h x (props_from true ks)
    ∙ ap (λ (z : Bytes). h ++ (x ++ z)) (from-begun ks)
    ∙ ap (λ (z : Bytes). z ++ y) head-is
    ∙ ap (λ (z : Bytes). 44 ∷ z) (sym (quoted-append (ascii "vCardProps") (58 ∷ 91 ∷ []) y))
    ∙ sym (ap (λ (z : Bytes). 44 ∷ z) (append-nil _ ∙ ap (λ (z : Bytes). quoted (ascii "vCardProps") (58 ∷ z)) (array-bytes (kept_json k) (map kept_json ks) [])))

-- ---- pieces as the code has them

pub head-begun : (b : Bool) → b ≡ true → 44 ∷ [] ≡ prop_head b
unfolding prop_head
head-begun b e = rw e

pub head_first : (b : Bool) → b ≡ false → ascii ",\"vCardProps\":[" ≡ prop_head b
unfolding prop_head
head_first b e = rw e

pub piece_is : (b : Bool) (k : Kept) → prop_head b ++ written (kept_json k) [] ≡ prop_piece b k
unfolding prop_piece
piece_is b k = sym (two (prop_head b) (written (kept_json k) []))

pub end_none : (b : Bool) → b ≡ false → props_end b ≡ []
unfolding props_end
end_none b e = rw e

pub end-some : (b : Bool) → b ≡ true → props_end b ≡ (93 ∷ []) ++ []
unfolding props_end
end-some b e = rw e

pub from_cons : (b : Bool) (k : Kept) (ks : List Kept) → props_from b (k ∷ ks) ≡ prop_piece b k ++ props_from true ks
unfolding props_from
from_cons b k ks = refl

pub from-nil : (b : Bool) → props_from b [] ≡ props_end b
unfolding props_from
from-nil b = refl
