use native.Mathlib.Omega.{arith}
use Rattle.convert_pointer.proofs.Pointers.{tilde-within, next-tilde, next-plain}
use Rattle.convert_pointer.proofs.pointer_next.Goals as goal

pub bounds-p-i : goal.bounds-p-i
bounds-p-i c = omega (arith, c.requires.1)

pub overflow_add-result : goal.overflow_add-result
overflow_add-result c = omega (arith, tilde-within c.args.p.now c.args.i c.requires.0 c.requires.1 c.if-p-i-eq126.true, c.well_formed.0.0)

pub returns-then-p-i-eq126 : goal.returns-then-p-i-eq126
returns-then-p-i-eq126 c = next-tilde c.args.p.now c.args.i c.requires.0 c.requires.1 c.if-p-i-eq126.true

pub overflow_add-result-2 : goal.overflow_add-result-2
overflow_add-result-2 c = omega (arith, c.requires.1, c.well_formed.0.0)

pub returns : goal.returns
returns c = next-plain c.args.p.now c.args.i c.requires.0 c.requires.1 c.if-p-i-eq126.false
