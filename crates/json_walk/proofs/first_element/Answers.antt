use mathlib.Core.Path.{sym, ◌∙◌}
use native.Mathlib.Omega.{arith}
use Rattle.json_walk.proofs.Marks.{none-past, none_here, opens-here}
use Rattle.json_walk.proofs.Steps.{element-first, element-none, no-array}
use Rattle.json_walk.proofs.first_element.Goals as goal

pub returns-then-at-s : goal.returns-then-at-s
returns-then-at-s c = record { element_in = tt; first_element_of = no-array c.args.s.now c.args.at (none-past c.args.s.now c.args.at c.if-at-s.true 91 (λ z. omega arith)) }

pub returns-then-look-ne-LEFT_BRACKET : goal.returns-then-look-ne-LEFT_BRACKET
returns-then-look-ne-LEFT_BRACKET c =
    let n = none_here c.args.s.now c.args.at c.skip_space-i.result c.look.result c.skip_space-i.ensures c.look.ensures.0 91 c.if-look-ne-LEFT_BRACKET.true in
    record { element_in = tt; first_element_of = no-array c.args.s.now c.args.at n }

pub returns-then-look-eq-RIGHT_BRACKET : goal.returns-then-look-eq-RIGHT_BRACKET
returns-then-look-eq-RIGHT_BRACKET c =
    let args = c.args in
    let look = c.look in
    let look2 = c.look-2 in
    let i = c.skip_space-i in
    let j = c.skip_space-j in
    let o = opens-here args.s.now args.at i.result look.result i.ensures look.ensures.0 91 c.if-look-ne-LEFT_BRACKET.false j.result j.ensures in
    record {
      element_in = ((λ l. omega (arith, i.ensures.from, j.ensures.from)), omega (arith, look2.ensures.1, c.if-look-eq-RIGHT_BRACKET.true));
      first_element_of = element-none args.s.now args.at j.result o (sym look2.ensures.0 ∙ c.if-look-eq-RIGHT_BRACKET.true);
    }

pub returns : goal.returns
returns c =
    let args = c.args in
    let look = c.look in
    let i = c.skip_space-i in
    let j = c.skip_space-j in
    let o = opens-here args.s.now args.at i.result look.result i.ensures look.ensures.0 91 c.if-look-ne-LEFT_BRACKET.false j.result j.ensures in
    record {
      element_in = (omega (arith, i.ensures.from, j.ensures.from), j.ensures.to);
      first_element_of = element-first args.s.now args.at j.result o (λ x. c.if-look-eq-RIGHT_BRACKET.false (c.look-2.ensures.0 ∙ x));
    }
