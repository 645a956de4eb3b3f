-- The answer to a proper card's printed bytes: the JSON of that card, where lines and bytes have room.
use mathlib.Core.Path.{◌≡◌}
use mathlib.Core.Bool.{true, false, ◌&&◌}
use Prim.Native.Nat.{ℕ}
use lib.ListN.{length}
use lib.Dec.{ltb}
use Rattle.text.specs.Bytes.{Bytes}
use Rattle.convert.specs.Model.{Card}
use Rattle.convert.specs.ToCard.{card_lines, print_card}
use Rattle.convert.specs.ToJson.{print_json}
use Rattle.convert.specs.Answers.{card_room, line_room, json_room, is_stem_text, is_card_number, raw_lines, fitted, convert_lines, convert_card, card_to_json}
use Rattle.home.proofs.Proper.{ProperCard}
use Rattle.home.proofs.CardLines.{card-unfolded, card-read}
use Rattle.home.proofs.CardTests.{card-answered}
use Rattle.home.proofs.CardSize.{card-size}
use Rattle.home.proofs.CardHome.{card-home}

module _ (c : Card) (p : ProperCard c) (few : ltb line_room (length (card_lines c)) ≡ false) (stem : Bytes) (n lent : ℕ) where
  card-converted : convert_card stem n lent (raw_lines (print_card c)) ≡ fitted json_room lent (print_json c)
  unfolding convert_card convert_lines
  card-converted = rw (card-unfolded c p, card-read c p, card-home c p stem n) (card-answered c p few (fitted json_room lent (print_json c)))

  pub card-to-json : is_stem_text stem && is_card_number n ≡ true → ltb card_room (length (print_card c)) ≡ false → card_to_json stem n lent (print_card c) ≡ fitted json_room lent (print_json c)
  unfolding card_to_json
  card-to-json h r = rw (h, card-size c, r) card-converted
