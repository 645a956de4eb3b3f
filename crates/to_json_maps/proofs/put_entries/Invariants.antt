use mathlib.Core.Path.{◌≡◌}
use mathlib.Core.List.{List}
use Prim.Native.Nat.{◌≤◌}
use lib.ListN.{length}
use Rattle.convert.specs.Classify.{Classed}
use Rattle.from_card_lines.specs.Classified.{Classified}
use Rattle.to_json_maps.proofs.Turns.{Mapping}
use Rattle.to_json_maps.proofs.put_entries.Given as goal

abbrev pub invariant-loop-k : goal.invariant-loop-k
invariant-loop-k l = (l.k ≤ l.lines.count) × (length l.t ≡ length l.initial.t) × ((cs : List Classed) → Classified l.lines.scratch.now l.lines.starts.now l.lines.codes.now l.lines.count cs → Mapping l.initial.out l.prefix l.i l.lines.count cs l.k l.from l.begun l.at l.out)
