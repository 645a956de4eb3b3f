-- Every definition of this layer and of those below it opened, for worked examples by computation: a proof says `unfolding text-opened`.
use Rattle.text.specs.Bytes.{between, any, all, same, among, distinct, begins, lower, upper, lowered, uppered, on_head, parts, joined, flat, keep, each}
use Rattle.text.specs.Decimal.{digits_before, decimal, value_from, number}
use Rattle.text.specs.Listed.{bytes_that, changes}
use Rattle.text.specs.Reader.{on, when, turns, loop, taken, past, one, some_of, run_of}
use Rattle.text.specs.Utf8.{by_row, lead, next, run, utf8, encode, encoded}

unfoldable pub text-opened : Unit {0}
unfolding between any all same among distinct begins lower upper lowered uppered on_head parts joined flat keep each digits_before decimal value_from number bytes_that changes on when turns loop taken past one some_of run_of by_row lead next run utf8 encode encoded
text-opened = tt
