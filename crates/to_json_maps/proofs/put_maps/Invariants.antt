use mathlib.Core.Path.{◌≡◌}
use mathlib.Core.List.{List}
use Prim.Native.Nat.{◌≤◌}
use lib.ListN.{length, drop}
use Rattle.output.specs.Put.{Rest}
use Rattle.convert.specs.Table.{maps}
use Rattle.convert.specs.Classify.{Classed}
use Rattle.from_card_lines.specs.Classified.{Classified}
use Rattle.to_json_maps.proofs.Whole.{all_maps, maps_after}
use Rattle.to_json_maps.proofs.put_maps.Given as goal

abbrev pub invariant-loop-i : goal.invariant-loop-i
invariant-loop-i l = (l.i ≤ 7) × (length l.t ≡ length l.initial.t) × ((cs : List Classed) → Classified l.lines.scratch.now l.lines.starts.now l.lines.codes.now l.lines.count cs → Rest l.initial.out (all_maps cs) (maps_after l.i (drop l.i maps) cs) l.at l.out)
