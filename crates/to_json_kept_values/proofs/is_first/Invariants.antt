-- Each time round: none of the first j rows has the name of row k, in any letter case (`None`). A turn compares row j's name: another one is one
-- more (`none-on`), the same one is found, and then the answer is false (`found`). k - j falls; at row k none had it (`none-all`). Rows before k
-- are rows of a sound table, so their names are within s.
use Prim.Native.Nat.{◌≤◌}
use Rattle.text.specs.Bytes.{lowered}
use Rattle.line_table.specs.Table.{name_at}
use Rattle.to_json_kept_values.proofs.Names.{None}
use Rattle.to_json_kept_values.proofs.is_first.Given as goal

abbrev pub invariant-loop-j : goal.invariant-loop-j
invariant-loop-j l = (l.j ≤ l.k) × None (lowered (name_at l.s l.t l.k)) l.s l.t l.j
