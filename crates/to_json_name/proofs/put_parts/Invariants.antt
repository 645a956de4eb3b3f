-- Each time round: part k begins at `from` (`Passing`), and what is written followed by the components of the parts from k on is those of all seven
-- (`Rest`, `components_from`). A turn writes the components of part k (`parts-on`): where any byte was written there is a component, which is what
-- `begun` must say; then it goes past the semicolon, or stays at the end, where all later parts are empty (`passing-next`). 7 - k falls; after the
-- seventh nothing is left (`no-parts`). Full comes from the part that lacked room (`parts-full`).
use mathlib.Core.Bool.{false}
use Prim.Native.Nat.{◌-◌, ◌≤◌}
use Rattle.output.specs.Put.{Rest}
use Rattle.to_json_name.specs.Name.{components_from}
use Rattle.to_json_name.proofs.Parts.{Passing}
use Rattle.to_json_name.proofs.put_parts.Given as goal

abbrev pub invariant-loop-k : goal.invariant-loop-k
invariant-loop-k l = (l.k ≤ 7) × Passing l.v l.from l.k × Rest l.initial.out (components_from 7 l.v 0 false) (components_from (7 - l.k) l.v l.k l.begun) l.at l.out
