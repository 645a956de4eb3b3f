use mathlib.Core.Path.{sym, ◌∙◌}
use native.Mathlib.Omega.{arith}
use borrow.Author.Tests.{eq-eqb, ne_eqb}
use Rattle.class_properties.proofs.Numbers.{form-is}
use Rattle.class_properties.proofs.form_of.Goals as goal

pub returns-then-i-eq-MAP : goal.returns-then-i-eq-MAP
returns-then-i-eq-MAP c = (sym (form-is c.args.i ∙ rw (eq-eqb c.args.i 0 c.if-i-eq-MAP.true)), omega arith)

pub returns-then-i-eq-MAP-2 : goal.returns-then-i-eq-MAP-2
returns-then-i-eq-MAP-2 c = (sym (form-is c.args.i ∙ rw (ne_eqb c.args.i 0 c.if-i-eq-MAP.false, eq-eqb c.args.i 2 c.if-i-eq-MAP-2.true)), omega arith)

pub returns-then-i-eq-MAP-3 : goal.returns-then-i-eq-MAP-3
returns-then-i-eq-MAP-3 c = (
  sym (form-is c.args.i ∙ rw (
    ne_eqb c.args.i 0 c.if-i-eq-MAP.false,
    ne_eqb
        c.args.i 2 c.if-i-eq-MAP-2.false,
    eq-eqb c.args.i 3 c.if-i-eq-MAP-3.true,
  )),
  omega arith,
)

pub returns-then-i-eq-MAP-4 : goal.returns-then-i-eq-MAP-4
returns-then-i-eq-MAP-4 c = (
  sym (form-is c.args.i ∙ rw (
    ne_eqb c.args.i 0 c.if-i-eq-MAP.false,
    ne_eqb
        c.args.i 2 c.if-i-eq-MAP-2.false,
    ne_eqb c.args.i 3 c.if-i-eq-MAP-3.false,
    eq-eqb
        c.args.i 6 c.if-i-eq-MAP-4.true,
  )),
  omega arith,
)

pub returns : goal.returns
returns c = (
  sym (form-is c.args.i ∙ rw (
    ne_eqb c.args.i 0 c.if-i-eq-MAP.false,
    ne_eqb
        c.args.i 2 c.if-i-eq-MAP-2.false,
    ne_eqb c.args.i 3 c.if-i-eq-MAP-3.false,
    ne_eqb
        c.args.i 6 c.if-i-eq-MAP-4.false,
  )),
  omega arith,
)
