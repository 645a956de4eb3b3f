use mathlib.Core.Bool.{false}
use mathlib.Core.List.{List, []}
use lib.ListN.{replicate}
use Prim.Native.Nat.{◌≤◌}
use Rattle.convert.specs.Classify.{Classed}
use Rattle.from_card_lines.specs.Classified.{Classified}
use Rattle.to_json_maps.proofs.Marking.{Marking}
use Rattle.to_json_maps.proofs.may_have_ids.Given as goal

abbrev pub invariant-loop-k : goal.invariant-loop-k
invariant-loop-k l = (l.k ≤ l.lines.count) × ((cs : List Classed) → Classified l.lines.scratch.now l.lines.starts.now l.lines.codes.now l.lines.count cs → Marking [] l.i cs l.k false (replicate 1025 0))
