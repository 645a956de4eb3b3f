use mathlib.Core.Path.{sym, ◌∙◌}
use native.Mathlib.Omega.{arith}
use borrow.Author.Tests.{eq-eqb, ne_eqb, le-ltb, lt-ltb}
use Rattle.class_properties.proofs.Numbers.{types-is}
use Rattle.class_properties.proofs.types_of.Goals as goal

pub returns-then-i-eq-MAP : goal.returns-then-i-eq-MAP
returns-then-i-eq-MAP c = sym (types-is c.args.i ∙ rw (eq-eqb c.args.i 2 c.if-i-eq-MAP.true))

pub returns-then-i-gt-MAP : goal.returns-then-i-gt-MAP
returns-then-i-gt-MAP c = sym (types-is c.args.i ∙ rw (ne_eqb c.args.i 2 c.if-i-eq-MAP.false, le-ltb c.args.i 4 (omega (arith, c.if-i-gt-MAP.true))))

pub returns : goal.returns
returns c = sym (types-is c.args.i ∙ rw (ne_eqb c.args.i 2 c.if-i-eq-MAP.false, lt-ltb c.args.i 4 (omega (arith, c.if-i-gt-MAP.false))))
