-- Each time round: what is written is the list of the values that the first k rows have under the name from a to b, with commas between them, and
-- `begun` says whether there is one (`Listing`). A turn writes row k's value if its name is the same in any letter case (`listing-on`); n - k
-- falls. After the last row it is the list of all (`listing-all`); Full comes from the value that lacked room (`listing_full`). Names and values of
-- the rows are within s, since the table is sound.
use Rattle.text.specs.Bytes.{lowered}
use Rattle.line_table.specs.Table.{part}
use Rattle.to_json_kept_values.proofs.Lists.{Listing}
use Rattle.to_json_kept_values.proofs.put_list.Given as goal

abbrev pub invariant-loop-k : goal.invariant-loop-k
invariant-loop-k l = Listing (lowered (part l.s l.a l.b)) l.s l.t l.initial.out l.n l.out l.at l.k l.begun
