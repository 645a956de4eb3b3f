use mathlib.Core.Path.{◌≡◌}
use mathlib.Core.List.{List}
use Prim.Native.Nat.{◌-◌, ◌≤◌}
use lib.ListN.{length, drop}
use Rattle.output.specs.Put.{Rest}
use Rattle.convert.specs.Classify.{Classed}
use Rattle.convert_put.specs.Pieces.{after}
use Rattle.from_card_lines.specs.Classified.{Classified}
use Rattle.to_json_sections.specs.Sections.{members_in}
use Rattle.to_json_card.proofs.Members.{members_of}
use Rattle.to_json_card.proofs.put_members.Given as goal

abbrev pub invariant-loop-k : goal.invariant-loop-k
invariant-loop-k l = (l.k ≤ l.lines.count) × (length l.t ≡ length l.initial.t) × (length l.text ≡ length l.initial.text) × ((cs : List Classed) → Classified l.lines.scratch.now l.lines.starts.now l.lines.codes.now l.lines.count cs → Rest l.initial.out (members_in cs) (after (members_of (drop l.k cs))) l.at l.out)
