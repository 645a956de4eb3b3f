-- Each time round: what is penned is the values of the kind of the first i components, with marks between them (`ByRows`). A turn takes row i,
-- which is the component i by RowsFrom, and pens its value where the kind is the same (`by-rows-on`); rows - i falls. After the last row it is the
-- values of all (`by-rows-all`). Over 16 components have no rows: pen_kind goes through the text instead, with the same contract.
use Prim.Native.Nat.{◌-◌}
use Rattle.to_card_parts.proofs.Rows.{ByRows}
use Rattle.to_card_parts.proofs.pen_listed.Given as goal

abbrev pub invariant-loop-i : goal.invariant-loop-i
invariant-loop-i l = ByRows l.s l.at l.style l.mark l.kind l.begun l.initial.out l.column l.i l.n l.c l.b l.ok l.out
