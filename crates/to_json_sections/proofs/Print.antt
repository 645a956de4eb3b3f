-- The JSON of a card's classified lines is its sections, one after the other.
use mathlib.Core.Path.{◌≡◌, sym, ap, ◌∙◌}
use mathlib.Core.List.{List, [], ◌∷◌, append_assoc}
use Prim.Native.Nat.{ℕ}
use Rattle.text.specs.Bytes.{Bytes, ascii, flat}
use Rattle.json_text.specs.Tree.{member, jstr}
use Rattle.convert.specs.Classify.{Classed}
use Rattle.convert.specs.FromCard.{card_of_classed}
use Rattle.convert.specs.ToJson.{print_json}
use Rattle.convert_put.specs.Pieces.{member_bytes, after}
use Rattle.convert_put.proofs.Card.{print-split}
use Rattle.to_json_head.specs.Head.{start_bytes}
use Rattle.to_json_sections.specs.Sections.{kept_of, props_bytes, uid_in, kind_in, kind_member, full_in, parts_in, name_in, members_in, sections}

pub print-sections : (stem : Bytes) (number : ℕ) (cs : List Classed) → print_json (card_of_classed stem number cs) ≡ flat (sections stem number cs)
unfolding card_of_classed start_bytes uid_in kind_in kind_member full_in parts_in name_in members_in props_bytes kept_of flat
print-sections stem number cs =
    print-split (card_of_classed stem number cs)
    ∙ ap (λ (x : Bytes). 123 ∷ x)
    (sym (append_assoc (member_bytes (member (ascii "@type") (jstr (ascii "Card")))) (after (member (ascii "version") (jstr (ascii "1.0")) ∷ member (ascii "uid") (jstr (uid_in stem number cs)) ∷ [])) _))
