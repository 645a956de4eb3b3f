use Rattle.to_card_value.proofs.Units.{units-absent, units-past, units-none, units-empty, units-full}
use mathlib.Core.Path.{refl}
use native.Mathlib.Omega.{arith}
use Rattle.to_card_value.proofs.put_units.Goals as goal

pub returns-then-slot-eq0 : goal.returns-then-slot-eq0
returns-then-slot-eq0 c = record { ink_in = omega arith; out_len_unchanged = refl; tells_units = units-absent c.args.s.now c.args.slot _ _ c.if-slot-eq0.true }

pub returns-then-slot-s : goal.returns-then-slot-s
returns-then-slot-s c = record { ink_in = tt; out_len_unchanged = refl; tells_units = units-past c.args.s.now c.args.slot _ _ c.if-slot-eq0.false _ c.if-slot-s.true }

pub returns-then-look-ne-LEFT_BRACKET : goal.returns-then-look-ne-LEFT_BRACKET
returns-then-look-ne-LEFT_BRACKET c =
    let args = c.args in
    let if1 = c.if-slot-eq0 in record {
      ink_in = tt;
      out_len_unchanged = refl;
      tells_units = units-none args.s.now args.slot _ _ if1.false _ _ c.skip_space-i.ensures c.look.ensures.0 _ c.if-look-ne-LEFT_BRACKET.true;
    }

pub returns-then-look-eq-RIGHT_BRACKET : goal.returns-then-look-eq-RIGHT_BRACKET
returns-then-look-eq-RIGHT_BRACKET c =
    let args = c.args in
    let if1 = c.if-slot-eq0 in
    let skip-space = c.skip_space-i in
    let look = c.look in
    let if3 = c.if-look-ne-LEFT_BRACKET in record {
      ink_in = omega arith;
      out_len_unchanged = refl;
      tells_units = units-empty args.s.now args.slot _ _ if1.false _ _ skip-space.ensures look.ensures.0 if3.false _ _ c.skip_space-j.ensures c.look-2.ensures.0 c.if-look-eq-RIGHT_BRACKET.true;
    }

pub returns : goal.returns
returns c =
    let args = c.args in
    let if1 = c.if-slot-eq0 in
    let skip-space = c.skip_space-i in
    let look = c.look in
    let if3 = c.if-look-ne-LEFT_BRACKET in
    let skip-space2 = c.skip_space-j in
    let look2 = c.look-2 in
    let if4 = c.if-look-eq-RIGHT_BRACKET in
    record {
      ink_in = c.put_units_from.ensures.ink_in;
      out_len_unchanged = c.put_units_from.ensures.out_len_unchanged;
      tells_units = units-full args.s.now args.slot _ _ if1.false _ _ skip-space.ensures look.ensures.0 if3.false _ _ skip-space2.ensures look2.ensures.0 if4.false _ _ c.put_units_from.ensures.units_from;
    }
