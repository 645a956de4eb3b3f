-- Each time round: the name and the value of each of the first k rows are within b (`Spans`). A row whose two parts are within b adds one
-- (`spans_on`). False is right wherever it is said: a table with a part outside b, or with too many rows, is not sound (`span-not`).
-- At the end the three parts of the line and all n rows make the table sound.
use Rattle.line_table.specs.Table.{Spans}
use Rattle.table_sound.proofs.is_sound.Given as goal

abbrev pub invariant-loop-k : goal.invariant-loop-k
invariant-loop-k l = Spans l.b l.t l.k
