use Rattle.to_card_params.proofs.Types.{Far}
use Rattle.text.specs.Bytes.{parts}
use Prim.Native.Nat.{◌≤◌}
use Rattle.to_card_params.proofs.pen_types.Given as goal

abbrev pub invariant-loop-c : goal.invariant-loop-c
invariant-loop-c l = (l.c ≤ 9) × Far (parts 44 l.names) l.row l.initial.out l.column l.at l.k l.begun l.c l.out
