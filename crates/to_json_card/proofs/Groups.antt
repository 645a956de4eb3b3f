-- The sections in groups are the whole.
use mathlib.Core.Path.{◌≡◌, sym, ◌∙◌}
use mathlib.Core.List.{List, [], ◌∷◌, append_assoc, append-nil}
use Prim.Native.Nat.{ℕ}
use Rattle.text.specs.Bytes.{Bytes, flat}
use Rattle.convert.specs.Classify.{Classed}
use Rattle.convert.specs.FromCard.{card_of_classed}
use Rattle.convert.specs.ToJson.{print_json}
use Rattle.to_json_sections.proofs.Print.{print-sections}
use Rattle.to_json_card.specs.Card.{top_pieces, rest_pieces}

grouped : (a b c d e f g : Bytes) → flat (flat (a ∷ b ∷ c ∷ []) ∷ flat (flat (d ∷ e ∷ []) ∷ flat (f ∷ g ∷ []) ∷ []) ∷ []) ≡ flat (a ∷ b ∷ c ∷ d ∷ e ∷ f ∷ g ∷ [])
unfolding flat
grouped a b c d e f g = simp (append-nil, append_assoc)

pub groups-print : (stem : Bytes) (number : ℕ) (cs : List Classed) → flat (flat (top_pieces stem number cs) ∷ flat (rest_pieces cs) ∷ []) ≡ print_json (card_of_classed stem number cs)
groups-print stem number cs = grouped _ _ _ _ _ _ _ ∙ sym (print-sections stem number cs)
