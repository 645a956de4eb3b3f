use native.Mathlib.Omega.{arith}
use mathlib.Core.Path.{refl}
use Rattle.line_text.proofs.Reading.{onward}
use Rattle.convert_values.proofs.Noting.{print-on, print-bad, print-end}
use Rattle.convert_values.proofs.print_text.Goals as goal

pub loop-c-init : goal.loop-c-init
loop-c-init c = record { good = c.requires; below = omega arith; is = refl }

pub stirred-p-requires : goal.stirred-p-requires
stirred-p-requires c = c.loop-c.invariant.below

pub loop-c-smaller : goal.loop-c-smaller
loop-c-smaller c = omega (arith, onward _ _ _ c.next_char.ensures _ _ c.in-Byte.is)

pub loop-c-preserved : goal.loop-c-preserved
loop-c-preserved c = print-on c.loop-c.invariant _ c.next_char.ensures _ _ _ c.in-Byte.is c.stirred-p.ensures.value c.stirred-p.ensures.upper_bound

pub returns-in-Bad : goal.returns-in-Bad
returns-in-Bad c = print-bad c.loop-c.invariant _ c.next_char.ensures c.in-Bad.is

pub overflow_cast-result : goal.overflow_cast-result
overflow_cast-result c = omega (arith, c.loop-c.invariant.below)

pub returns-in-End : goal.returns-in-End
returns-in-End c = print-end c.loop-c.invariant _ c.next_char.ensures c.in-End.is
