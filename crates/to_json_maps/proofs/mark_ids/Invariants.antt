use mathlib.Core.Path.{◌≡◌}
use mathlib.Core.List.{List}
use Prim.Native.Nat.{◌≤◌}
use lib.ListN.{length}
use Rattle.convert.specs.Classify.{Classed}
use Rattle.from_card_lines.specs.Classified.{Classified}
use Rattle.to_json_maps.proofs.Marking.{Marking}
use Rattle.to_json_maps.proofs.mark_ids.Given as goal

abbrev pub invariant-loop-k : goal.invariant-loop-k
invariant-loop-k l = (l.k ≤ l.lines.count) × (length l.row ≡ length l.initial.row) × (length l.t ≡ length l.initial.t) × ((cs : List Classed) → Classified l.lines.scratch.now l.lines.starts.now l.lines.codes.now l.lines.count cs → Marking l.prefix l.i cs l.k l.any l.row)
