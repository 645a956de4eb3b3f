use native.Mathlib.Omega.{arith}
use Rattle.convert_pointer.proofs.Pointers.{tilde-within, byte-plain, byte-slash, byte-tilde}
use Rattle.convert_pointer.proofs.pointer_byte.Goals as goal

pub bounds-p-i : goal.bounds-p-i
bounds-p-i c = omega (arith, c.requires.1)

pub returns-then-c-ne126 : goal.returns-then-c-ne126
returns-then-c-ne126 c = byte-plain c.args.p.now c.args.i c.requires.0 c.requires.1 c.if-c-ne126.true

pub overflow_add-i : goal.overflow_add-i
overflow_add-i c = omega (arith, c.requires.1, c.well_formed.0.0)

pub bounds-p-i-2 : goal.bounds-p-i-2
bounds-p-i-2 c = tilde-within c.args.p.now c.args.i c.requires.0 c.requires.1 c.if-c-ne126.false

pub returns-then-p-i-eq49 : goal.returns-then-p-i-eq49
returns-then-p-i-eq49 c = byte-slash c.args.p.now c.args.i c.requires.0 c.requires.1 c.if-c-ne126.false c.if-p-i-eq49.true

pub returns : goal.returns
returns c = byte-tilde c.args.p.now c.args.i c.requires.0 c.requires.1 c.if-c-ne126.false c.if-p-i-eq49.false
