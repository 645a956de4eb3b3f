use mathlib.Core.Path.{◌≡◌}
use mathlib.Core.List.{List}
use Prim.Native.Nat.{◌-◌, ◌≤◌}
use lib.ListN.{length, drop}
use Rattle.output.specs.Put.{Rest}
use Rattle.convert.specs.Classify.{Classed}
use Rattle.from_card_lines.specs.Classified.{Classified}
use Rattle.to_json_sections.specs.Sections.{kept_of, props_from, props_bytes}
use Rattle.to_json_sections.proofs.put_props.Given as goal

abbrev pub invariant-loop-k : goal.invariant-loop-k
invariant-loop-k l = (l.k ≤ l.lines.count) × (length l.t ≡ length l.initial.t) × ((cs : List Classed) → Classified l.lines.scratch.now l.lines.starts.now l.lines.codes.now l.lines.count cs → Rest l.initial.out (props_bytes (kept_of cs)) (props_from l.begun (kept_of (drop l.k cs))) l.at l.out)
