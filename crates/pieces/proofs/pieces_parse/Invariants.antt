-- Those that passed so far and those that will pass are all that pass; the table stays as long as it was lent.
use Rattle.std.proofs.Common.{◌+◌, ◌-◌, ◌≡◌, ◌≤◌, length}
use Rattle.line_table.specs.Table.{table_length}
use Rattle.pieces.proofs.Parsing.{pass_from}
use Rattle.pieces.proofs.pieces_parse.Given as goal

abbrev pub invariant-loop-k : goal.invariant-loop-k
invariant-loop-k l =
    (table_length ≤ length l.table) × (l.good ≤ l.k) × (l.good + pass_from l.bytes l.starts l.marks l.k (l.n - l.k) ≡ pass_from l.bytes l.starts l.marks 0 l.n)
