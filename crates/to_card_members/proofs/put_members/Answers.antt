use native.Mathlib.Omega.{arith}
use mathlib.Core.Path.{refl}
use Rattle.to_card_members.proofs.Loop.{members-other, members-empty, members-full}
use Rattle.to_card_members.proofs.put_members.Goals as goal

pub returns-then-look-ne-LEFT_BRACE : goal.returns-then-look-ne-LEFT_BRACE
returns-then-look-ne-LEFT_BRACE c = record {
  lines_in = tt;
  out_len_unchanged = refl;
  puts_members = members-other c.args.s.now c.args.out.now _ _ c.skip_space-i.ensures c.look.ensures.0 c.if-look-ne-LEFT_BRACE.true _;
}

pub returns-then-look-eq-RIGHT_BRACE : goal.returns-then-look-eq-RIGHT_BRACE
returns-then-look-eq-RIGHT_BRACE c =
    let args = c.args in
    let skip-space = c.skip_space-i in
    let look = c.look in
    let if1 = c.if-look-ne-LEFT_BRACE in record {
      lines_in = omega arith;
      out_len_unchanged = refl;
      puts_members = members-empty args.s.now args.out.now _ _ skip-space.ensures look.ensures.0 if1.false _ _ c.skip_space-j.ensures c.look-2.ensures.0 c.if-look-eq-RIGHT_BRACE.true;
    }

pub returns : goal.returns
returns c =
    let args = c.args in
    let skip-space = c.skip_space-i in
    let look = c.look in
    let if1 = c.if-look-ne-LEFT_BRACE in
    let skip-space2 = c.skip_space-j in
    let look2 = c.look-2 in
    let if2 = c.if-look-eq-RIGHT_BRACE in
    record {
      lines_in = c.put_from.ensures.lines_in;
      out_len_unchanged = c.put_from.ensures.out_len_unchanged;
      puts_members = members-full args.s.now args.out.now _ _ skip-space.ensures look.ensures.0 if1.false _ _ skip-space2.ensures look2.ensures.0 if2.false _ _ c.put_from.ensures.puts_from;
    }
