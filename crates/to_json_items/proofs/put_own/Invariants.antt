-- Each time round: v has good parts from i on, and what is written followed by the items of those parts that are its own is the whole list
-- (`Putting`). A turn takes the part up to the next bare separator and writes it if it is filled and none of o's values (`putting-on`); `some` says
-- that an item stands before. length v + 1 - i falls, since a part may be empty, also at the very end. After the last part nothing is left
-- (`putting-last`); Full comes from the item (`putting-full`). `part-good`: each part has good escapes, which is_own and put_item_if ask for.
use Prim.Native.Nat.{◌-◌, ◌+◌}
use lib.ListN.{length}
use Rattle.text.specs.Bytes.{keep}
use Rattle.convert_values.specs.Values.{texts_of}
use Rattle.to_json_items.specs.Items.{listed, is_own}
use Rattle.to_json_items.proofs.Pieces.{Putting}
use Rattle.to_json_items.proofs.put_own.Given as goal

abbrev pub invariant-loop-n : goal.invariant-loop-n
invariant-loop-n l = Putting l.k l.d (texts_of 44 l.o) l.v (listed l.k l.begun (keep (is_own (texts_of 44 l.o)) (texts_of l.d l.v))) l.initial.out l.out l.at l.i l.some

abbrev pub decreases-loop-n : goal.decreases-loop-n
decreases-loop-n l = (length l.v + 1) - l.i
