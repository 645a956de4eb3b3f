-- Each time round: the pointer of the bytes seen so far is penned, `ok` says whether a parameter can carry them, and where the string stands for
-- bytes, the others are what is left from i on with h held (`Far`). A turn pens one byte, escaped (`far-one`); the `weight` of what is left and
-- held falls. A surrogate alone means that the string stands for no bytes, so nothing more is promised (`far-alone`); at its quote all are penned
-- (`far-end`).
use Prim.Native.Nat.{◌≤◌}
use lib.ListN.{length}
use Rattle.json_strings.specs.Decoded.{weight}
use Rattle.to_card_members.proofs.Pointers.{Far}
use Rattle.to_card_members.proofs.pen_pointer.Given as goal

abbrev pub invariant-loop-b : goal.invariant-loop-b
invariant-loop-b l = (l.i ≤ length l.s) × Far l.s l.at l.initial.out l.column l.n l.k l.ok l.i l.h l.out

abbrev pub decreases-loop-b : goal.decreases-loop-b
decreases-loop-b l = weight l.s l.i l.h
