-- What the converter prints of an accepted card's lines is that card's normal form.
use mathlib.Core.Path.{◌≡◌, ap}
use mathlib.Core.Bool.{false}
use mathlib.Core.List.{List, [], ◌∷◌, ◌++◌, append_assoc}
use mathlib.Core.Option.{none, some}
use Prim.Native.Nat.{ℕ}
use Rattle.text.specs.Bytes.{Bytes, ascii, any, each}
use Rattle.line.specs.Grammar.{Line, read_line}
use Rattle.line.specs.Write.{write_card}
use Rattle.convert.specs.Classify.{nothing, classed}
use Rattle.convert.specs.FromCard.{card_of_classed, card_of_lines}
use Rattle.convert.specs.Property.{property}
use Rattle.convert.specs.ToCard.{full_line, card_lines, print_card}
use Rattle.convert.specs.Answers.{second_from, emptied, raw_lines, lines_of}
use Rattle.convert.specs.NormalCard.{normal_lines, normal_card}
use Rattle.home.proofs.NormalCardHead.{uid-part, kind-part}
use Rattle.home.proofs.NormalCardName.{fn-part, name-part}
use Rattle.home.proofs.NormalCardMaps.{maps-part}
use Rattle.home.proofs.NormalCardRest.{members-part, kept-part}

-- what the law needs of an accepted card's lines: refusals 8 and 9 are not given
pub record Accepted (ls : List Line) : Type 0 where
  pub once : second_from 1 [] ls ≡ none
  pub valued : any emptied ls ≡ false

-- the parts in their order
together : (v : Line) {u f : Line} {k ns ms js ks : List Line} {U K F N M J X : List Line} → u ∷ [] ≡ U → k ≡ K → f ∷ [] ≡ F → ns ≡ N → ms ≡ M → js ≡ J → ks ≡ X
    → v ∷ u ∷ (k ++ f ∷ ns ++ ms ++ js ++ ks) ≡ v ∷ (U ++ K ++ F ++ N ++ M ++ J ++ X)
together v {u} {f} {k} {ns} {ms} {js} {ks} a b c d e g h = rw (← a, ← b, ← c, ← d, ← e, ← g, ← h, append_assoc k (f ∷ []) ns)

pub lines-normal : (stem : Bytes) (n : ℕ) (ls : List Line) → Accepted ls → card_lines (card_of_lines stem n ls) ≡ normal_lines stem n (classed ls)
unfolding card_lines card_of_lines card_of_classed normal_lines classed full_line
lines-normal stem n ls a =
    together (property (ascii "version") [] (ascii "4.0")) (uid-part stem n nothing ls a.once) (kind-part nothing ls a.once a.valued) (fn-part nothing ls) (name-part nothing ls) (maps-part nothing ls) (members-part nothing ls) (kept-part nothing ls)

pub printed-normal : (stem : Bytes) (n : ℕ) (ls : List Line) → Accepted ls → print_card (card_of_lines stem n ls) ≡ write_card (normal_lines stem n (classed ls))
unfolding print_card
printed-normal stem n ls a = ap write_card (lines-normal stem n ls a)

-- the normal form of the bytes of a card
pub card-normal : (stem : Bytes) (n : ℕ) (s : Bytes) (raw : List Bytes) (ls : List Line) → raw_lines s ≡ some raw → each read_line raw ≡ some ls → Accepted ls → print_card (card_of_lines stem n ls) ≡ normal_card stem n s
unfolding normal_card lines_of
card-normal stem n s raw ls r e a = rw (r, e) (printed-normal stem n ls a)
