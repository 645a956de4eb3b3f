-- No other members where their slot is empty.
use mathlib.Core.Path.{◌≡◌, refl, sym, ◌∙◌}
use mathlib.Core.Bool.{true}
use mathlib.Core.List.{List, [], ◌∷◌}
use mathlib.Core.Option.{some}
use Prim.Native.Nat.{ℕ}
use lib.ListN.{get_or}
use borrow.Author.Tests.{eq-eqb}
use Rattle.text.specs.Bytes.{Bytes, all, among}
use Rattle.text.proofs.Cases.{and_left, and_right}
use Rattle.json_text.specs.Tree.{Member, name_of, jobj, members_of}
use Rattle.json_index.proofs.Fields.{first-other}
use Rattle.convert.specs.Table.{reserved}
use Rattle.to_card_lines.specs.Lines.{no_lines, parts_of, Laid, laid}
use Rattle.to_card_lines.proofs.Parts.{done_none, done_all}
use Rattle.to_card_members.specs.Members.{other_part, members_part, PutsMembers}
use Rattle.to_card_members.proofs.Others.{members-part}
use Rattle.to_card_card.specs.Whole.{PutsOthers}

nothing-else : (ms : List Member) → all (λ m. among (name_of m) reserved) ms ≡ true → parts_of other_part ms ≡ some no_lines
unfolding parts_of other_part all
nothing-else [] h = refl
nothing-else (m ∷ ms) h = rw (and_left (among (name_of m) reserved) _ h, nothing-else ms (and_right (among (name_of m) reserved) _ h))

module _ (s : Bytes) (slots : List ℕ) (room : Bytes) where
  pub others-none : get_or slots 13 0 ≡ 0 → PutsOthers s slots room (laid 0 0 true) room
  others-none z mm o ix =
      let only : all (λ m. among (name_of m) reserved) (members_of mm) ≡ true = first-other reserved (members_of mm) ∙ sym (ix 13).there ∙ eq-eqb _ 0 z in
      done_all room 0 0 true room no_lines (done_none room) (members_part (members_of mm)) (sym (members-part (members_of mm)) ∙ nothing-else (members_of mm) only)

  pub others-some : (r : Laid) (after : Bytes) → PutsMembers s room r after → PutsOthers s slots room r after
  others-some r after g mm o ix = g (jobj mm) o
