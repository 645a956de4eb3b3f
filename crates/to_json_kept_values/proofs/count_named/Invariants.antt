-- Each time round: m is how many values the first k rows have under the name that stands from a to b, in any letter case, and m ≤ k (`Counting`). A
-- turn compares row k's name and adds one or nothing (`counting-on`); n - k falls. After the last row it is the number of all (`counting-all`). A
-- sound table has so few rows that neither the count nor an index wraps.
use Rattle.text.specs.Bytes.{lowered}
use Rattle.line_table.specs.Table.{part}
use Rattle.to_json_kept_values.proofs.Lists.{Counting}
use Rattle.to_json_kept_values.proofs.count_named.Given as goal

abbrev pub invariant-loop-k : goal.invariant-loop-k
invariant-loop-k l = Counting (lowered (part l.s l.a l.b)) l.s l.t l.n l.k l.m
