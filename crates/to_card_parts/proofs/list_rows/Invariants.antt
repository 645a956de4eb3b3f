-- Each time round, if elements stand from `at` on: those before i are components, each kind with a filled value among them is marked (`Checking`),
-- and, while they are at most 16, row by row their kinds and the places of their values are noted (`Listing`). A turn adds one component
-- (`checking-on`, `listing-on`); length s - i falls. An element that is no component makes it 0, which is 12 (`checks-wrong`); at the bracket marks
-- and rows are whole (`checks-all`, `lists-all`). `kind-in`: a kind is under the number of marks.
use mathlib.Core.Path.{◌≡◌}
use Prim.Native.Nat.{◌≤◌, ◌-◌}
use lib.ListN.{length}
use Rattle.to_card_parts.proofs.Passes.{Checking}
use Rattle.to_card_parts.proofs.Rows.{Listing}
use Rattle.to_card_parts.proofs.list_rows.Given as goal

abbrev pub invariant-loop-part : goal.invariant-loop-part
invariant-loop-part l =
    (l.i ≤ length l.s) × (length l.marks ≡ length l.initial.marks) × (length l.kinds ≡ length l.initial.kinds) × (length l.values ≡ length l.initial.values) × Checking l.s l.at l.i l.marks × Listing l.s l.at l.i l.kinds l.values l.n

abbrev pub decreases-loop-part : goal.decreases-loop-part
decreases-loop-part l = length l.s - l.i
