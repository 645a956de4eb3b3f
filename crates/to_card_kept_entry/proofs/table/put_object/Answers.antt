use native.Mathlib.Omega.{arith}
use mathlib.Core.Path.{refl}
use Rattle.to_card_kept_entry.proofs.table.Members.{object-none, object-empty, object-all}
use Rattle.to_card_kept_entry.proofs.table.put_object.Goals as goal

pub returns-then-look-ne-LEFT_BRACE : goal.returns-then-look-ne-LEFT_BRACE
returns-then-look-ne-LEFT_BRACE c =
    let args = c.args in
    let skip-space = c.skip_space-i in
    let look = c.look in record {
      bounds = record { long = refl; wide = refl };
      step_in = tt;
      puts_object = object-none args.b.now args.n args.t.now args.s.now args.at skip-space.result look.result skip-space.ensures look.ensures.0 c.if-look-ne-LEFT_BRACE.true;
    }

pub returns-then-look-eq-RIGHT_BRACE : goal.returns-then-look-eq-RIGHT_BRACE
returns-then-look-eq-RIGHT_BRACE c =
    let args = c.args in
    let skip-space = c.skip_space-i in
    let look = c.look in
    let if1 = c.if-look-ne-LEFT_BRACE in
    let skip-space2 = c.skip_space-j in
    let look2 = c.look-2 in record {
      bounds = record { long = refl; wide = refl };
      step_in = (omega arith, c.requires.n_in_bounds, omega arith, omega arith);
      puts_object = object-empty args.b.now args.n args.t.now args.s.now args.at skip-space.result look.result skip-space.ensures look.ensures.0 if1.false skip-space2.result look2.result skip-space2.ensures look2.ensures.0 c.requires.n_in_bounds c.if-look-eq-RIGHT_BRACE.true;
    }

pub returns : goal.returns
returns c =
    let args = c.args in
    let skip-space = c.skip_space-i in
    let look = c.look in
    let if1 = c.if-look-ne-LEFT_BRACE in
    let skip-space2 = c.skip_space-j in
    let look2 = c.look-2 in
    let if2 = c.if-look-eq-RIGHT_BRACE in
    record {
      bounds = c.put_from.ensures.bounds;
      step_in = c.put_from.ensures.step_in;
      puts_object = object-all args.b.now args.n args.t.now args.s.now args.at skip-space.result look.result skip-space.ensures look.ensures.0 if1.false skip-space2.result look2.result skip-space2.ensures look2.ensures.0 if2.false c.put_from.result _ _ c.put_from.ensures.puts_from;
    }
