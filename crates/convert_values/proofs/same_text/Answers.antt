use mathlib.Core.Path.{refl}
use native.Mathlib.Omega.{arith}
use Rattle.line_text.proofs.Reading.{onward}
use Rattle.convert_values.proofs.Texts.{compare-on, compare-no, compare-bad, compare-end}
use Rattle.convert_values.proofs.same_text.Goals as goal

pub loop-c-init : goal.loop-c-init
loop-c-init c = record { upto = omega arith; first = c.requires.0; other = c.requires.1; is = refl }

pub next_is-f-requires : goal.next_is-f-requires
next_is-f-requires c = c.loop-c.invariant.other

pub returns-then-f-eq0 : goal.returns-then-f-eq0
returns-then-f-eq0 c = compare-no c.loop-c.invariant _ c.next_char.ensures _ _ _ c.in-Byte.is c.next_is-f.ensures c.if-f-eq0.true

pub loop-c-smaller : goal.loop-c-smaller
loop-c-smaller c = omega (arith, onward _ _ _ c.next_char.ensures _ _ c.in-Byte.is)

pub loop-c-preserved : goal.loop-c-preserved
loop-c-preserved c = compare-on c.loop-c.invariant _ c.next_char.ensures _ _ _ c.in-Byte.is c.next_is-f.ensures c.if-f-eq0.false

pub returns-in-Bad : goal.returns-in-Bad
returns-in-Bad c = compare-bad c.loop-c.invariant _ c.next_char.ensures c.in-Bad.is

pub returns-in-End : goal.returns-in-End
returns-in-End c = compare-end c.loop-c.invariant _ c.next_char.ensures c.in-End.is
