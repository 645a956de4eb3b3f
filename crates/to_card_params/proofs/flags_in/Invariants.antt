-- Each time round, of the object in the slot: the members before m are flags of the table, and the row has a mark for each (`Todo`). A turn takes
-- one that is true and whose name has a place in the table (`flags-on`); what is ahead of m in the text falls (`less-ahead`). False comes from a
-- member that is not true (`flags-not`), from another name (`flags-other`), or where the value is no object (`flags-none`); at the end each member
-- was a flag (`flags-all`). An empty slot has no flags (`flags-absent`).
use mathlib.Core.Path.{◌≡◌}
use lib.ListN.{length}
use Rattle.json_walk.proofs.Laws.{ahead, InText}
use Rattle.to_card_params.proofs.Flags.{Todo}
use Rattle.to_card_params.proofs.flags_in.Given as goal

abbrev pub invariant-loop-m : goal.invariant-loop-m
invariant-loop-m l = InText (length l.s) l.m × (length l.row ≡ length l.initial.row) × Todo l.s l.slot l.base l.names l.initial.row l.m l.row

abbrev pub decreases-loop-m : goal.decreases-loop-m
decreases-loop-m l = ahead (length l.s) l.m
