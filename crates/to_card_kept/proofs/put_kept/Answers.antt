use mathlib.Core.Path.{refl}
use native.Mathlib.Omega.{arith}
use Rattle.to_card_kept.proofs.Whole.{kept-absent, kept-past, kept-other, kept-empty, kept_full}
use Rattle.to_card_kept.proofs.put_kept.Goals as goal

pub returns-then-at-eq0 : goal.returns-then-at-eq0
returns-then-at-eq0 c =
    let args = c.args in
    record { lines_in = omega arith; out_len_unchanged = refl; puts_kept = kept-absent args.s.now args.slots.now args.full args.parts args.out.now c.if-at-eq0.true }

pub returns-then-at-s : goal.returns-then-at-s
returns-then-at-s c =
    let args = c.args in record {
      lines_in = tt;
      out_len_unchanged = refl;
      puts_kept = kept-past args.s.now args.slots.now args.full args.parts args.out.now _ refl c.if-at-eq0.false c.if-at-s.true _;
    }

pub returns-then-look-ne-LEFT_BRACKET : goal.returns-then-look-ne-LEFT_BRACKET
returns-then-look-ne-LEFT_BRACKET c =
    let args = c.args in
    let if1 = c.if-at-eq0 in record {
      lines_in = tt;
      out_len_unchanged = refl;
      puts_kept = kept-other args.s.now args.slots.now args.full args.parts args.out.now _ refl if1.false _ _ c.skip_space-i.ensures c.look.ensures.0 c.if-look-ne-LEFT_BRACKET.true _;
    }

pub returns-then-look-eq-RIGHT_BRACKET : goal.returns-then-look-eq-RIGHT_BRACKET
returns-then-look-eq-RIGHT_BRACKET c =
    let args = c.args in
    let if1 = c.if-at-eq0 in
    let skip-space = c.skip_space-i in
    let look = c.look in
    let if3 = c.if-look-ne-LEFT_BRACKET in record {
      lines_in = omega arith;
      out_len_unchanged = refl;
      puts_kept = kept-empty args.s.now args.slots.now args.full args.parts args.out.now _ refl if1.false _ _ skip-space.ensures look.ensures.0 if3.false _ _ c.skip_space-j.ensures c.look-2.ensures.0 c.if-look-eq-RIGHT_BRACKET.true;
    }

pub returns : goal.returns
returns c =
    let args = c.args in
    let if1 = c.if-at-eq0 in
    let skip-space = c.skip_space-i in
    let look = c.look in
    let if3 = c.if-look-ne-LEFT_BRACKET in
    let skip-space2 = c.skip_space-j in
    let look2 = c.look-2 in
    let if4 = c.if-look-eq-RIGHT_BRACKET in
    record {
      lines_in = c.put_from.ensures.lines_in;
      out_len_unchanged = c.put_from.ensures.out_len_unchanged;
      puts_kept = kept_full args.s.now args.slots.now args.full args.parts args.out.now _ refl if1.false _ _ skip-space.ensures look.ensures.0 if3.false _ _ skip-space2.ensures look2.ensures.0 if4.false c.put_from.result _ c.put_from.ensures.puts_from;
    }
