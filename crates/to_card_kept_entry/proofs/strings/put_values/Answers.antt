use mathlib.Core.Path.{refl}
use Rattle.to_card_kept_entry.proofs.strings.Whole.{values_one, values-none, values-many}
use Rattle.to_card_kept_entry.proofs.strings.put_values.Goals as goal

pub returns-then-look-ne-LEFT_BRACKET : goal.returns-then-look-ne-LEFT_BRACKET
returns-then-look-ne-LEFT_BRACKET c =
    let args = c.args in
    let skip-space = c.skip_space-i in
    let look = c.look in
    let if1 = c.if-look-ne-LEFT_BRACKET in
    record {
      bounds = c.put_value.ensures.bounds;
      rows_in = c.put_value.ensures.rows_in;
      adds_values = values_one args.b.now args.n args.t.now args.m args.a args.e args.s.now args.at skip-space.result look.result skip-space.ensures look.ensures.0 if1.true c.put_value.result _ _ c.put_value.ensures.adds_value;
    }

pub returns-then-look-eq-RIGHT_BRACKET : goal.returns-then-look-eq-RIGHT_BRACKET
returns-then-look-eq-RIGHT_BRACKET c =
    let args = c.args in
    let skip-space = c.skip_space-i in
    let look = c.look in
    let if1 = c.if-look-ne-LEFT_BRACKET in
    let skip-space2 = c.skip_space-j in
    let look2 = c.look-2 in record {
      bounds = record { long = refl; wide = refl };
      rows_in = tt;
      adds_values = values-none args.b.now args.n args.t.now args.m args.a args.e args.s.now args.at skip-space.result look.result skip-space.ensures look.ensures.0 if1.false skip-space2.result look2.result skip-space2.ensures look2.ensures.0 c.if-look-eq-RIGHT_BRACKET.true;
    }

pub returns : goal.returns
returns c =
    let args = c.args in
    let skip-space = c.skip_space-i in
    let look = c.look in
    let if1 = c.if-look-ne-LEFT_BRACKET in
    let skip-space2 = c.skip_space-j in
    let look2 = c.look-2 in
    let if2 = c.if-look-eq-RIGHT_BRACKET in
    record {
      bounds = c.put_elements.ensures.bounds;
      rows_in = c.put_elements.ensures.rows_in;
      adds_values = values-many args.b.now args.n args.t.now args.m args.a args.e args.s.now args.at skip-space.result look.result skip-space.ensures look.ensures.0 if1.false skip-space2.result look2.result skip-space2.ensures look2.ensures.0 if2.false c.put_elements.result _ _ c.put_elements.ensures.adds_from;
    }
