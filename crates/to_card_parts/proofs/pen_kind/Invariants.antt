-- Each time round: some text is penned, c is the column after it and b says whether a value stands there already; if components stand from `at` on,
-- it is the values of the kind of those before i, with marks between them (`Inking`). A turn pens the value of one component, or nothing where it
-- is of another kind (`inking-on`); length s - i falls. At the bracket it is the values of all (`inks-all`). An element that is no component ends
-- it: then nothing is promised of the text (`inks-wrong`).
use Prim.Native.Nat.{◌≤◌, ◌-◌}
use lib.ListN.{length}
use Rattle.to_card_parts.proofs.Passes.{Inking}
use Rattle.to_card_parts.proofs.pen_kind.Given as goal

abbrev pub invariant-loop-part : goal.invariant-loop-part
invariant-loop-part l = (l.i ≤ length l.s) × Inking l.s l.at l.style l.mark l.kind l.begun l.initial.out l.column l.i l.n l.c l.b l.ok l.out

abbrev pub decreases-loop-part : goal.decreases-loop-part
decreases-loop-part l = length l.s - l.i
