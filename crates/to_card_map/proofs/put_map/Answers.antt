use mathlib.Core.Path.{refl}
use native.Mathlib.Omega.{arith}
use Rattle.to_card_map.proofs.Slots.{map-absent, map-past, map_other, map-empty, map-full}
use Rattle.to_card_map.proofs.put_map.Goals as goal

pub returns-then-slot-eq0 : goal.returns-then-slot-eq0
returns-then-slot-eq0 c =
    let args = c.args in record {
      lines_in = (omega arith, omega arith);
      out_len_unchanged = refl;
      puts_map = map-absent args.s.now args.slot args.names.now args.kinds.now args.count args.heads.now args.form _ c.if-slot-eq0.true;
    }

pub returns-then-slot-s : goal.returns-then-slot-s
returns-then-slot-s c =
    let args = c.args in record {
      lines_in = tt;
      out_len_unchanged = refl;
      puts_map = map-past args.s.now args.slot args.names.now args.kinds.now args.count args.heads.now args.form _ c.if-slot-eq0.false c.if-slot-s.true;
    }

pub returns-then-look-ne-LEFT_BRACE : goal.returns-then-look-ne-LEFT_BRACE
returns-then-look-ne-LEFT_BRACE c =
    let args = c.args in
    let if1 = c.if-slot-eq0 in record {
      lines_in = tt;
      out_len_unchanged = refl;
      puts_map = map_other args.s.now args.slot args.names.now args.kinds.now args.count args.heads.now args.form _ if1.false _ _ c.skip_space-i.ensures c.look.ensures.0 c.if-look-ne-LEFT_BRACE.true;
    }

pub returns-then-look-eq-RIGHT_BRACE : goal.returns-then-look-eq-RIGHT_BRACE
returns-then-look-eq-RIGHT_BRACE c =
    let args = c.args in
    let if1 = c.if-slot-eq0 in
    let skip-space = c.skip_space-i in
    let look = c.look in
    let if3 = c.if-look-ne-LEFT_BRACE in record {
      lines_in = (omega arith, omega arith);
      out_len_unchanged = refl;
      puts_map = map-empty args.s.now args.slot args.names.now args.kinds.now args.count args.heads.now args.form _ if1.false _ _ skip-space.ensures look.ensures.0 if3.false _ _ c.skip_space-j.ensures c.look-2.ensures.0 c.if-look-eq-RIGHT_BRACE.true;
    }

pub put_from-requires : goal.put_from-requires
put_from-requires c = record { at_in_bounds = c.skip_space-j.ensures.to; names_len = c.requires }

pub returns : goal.returns
returns c =
    let args = c.args in
    let if1 = c.if-slot-eq0 in
    let skip-space = c.skip_space-i in
    let look = c.look in
    let if3 = c.if-look-ne-LEFT_BRACE in
    let skip-space2 = c.skip_space-j in
    let look2 = c.look-2 in
    let if4 = c.if-look-eq-RIGHT_BRACE in
    record {
      lines_in = c.put_from.ensures.lines_in;
      out_len_unchanged = c.put_from.ensures.out_len_unchanged;
      puts_map = map-full args.s.now args.slot args.names.now args.kinds.now args.count args.heads.now args.form _ if1.false _ _ skip-space.ensures look.ensures.0 if3.false _ _ skip-space2.ensures look2.ensures.0 if4.false _ _ c.put_from.ensures.puts_from;
    }
