use native.Mathlib.Omega.{arith}
use Rattle.json_escapes.proofs.Laws.{tells_as}
use Rattle.json_sound.proofs.Escapes.{follows-below, follows-above, follows-pair}
use Rattle.json_sound.proofs.escape_end.Goals as goal

pub returns-then-u-lt-FIRST_HIGH : goal.returns-then-u-lt-FIRST_HIGH
returns-then-u-lt-FIRST_HIGH c =
    let args = c.args in
    let look = c.look in
    let w = (tells_as c.escape_at.ensures c.in-Ok.is).within in record {
      lower_bound = (omega (arith, w.0), w.1);
      follows = follows-below args.s.now args.at look.result look.ensures.0 c.if-look-ne-BACKSLASH.false c.escape_at.ensures _ c.in-Ok.is (omega (arith, c.if-u-lt-FIRST_HIGH.true));
    }

pub returns-then-u-gt-LAST_LOW : goal.returns-then-u-gt-LAST_LOW
returns-then-u-gt-LAST_LOW c =
    let args = c.args in
    let look = c.look in
    let w = (tells_as c.escape_at.ensures c.in-Ok.is).within in record {
      lower_bound = (omega (arith, w.0), w.1);
      follows = follows-above args.s.now args.at look.result look.ensures.0 c.if-look-ne-BACKSLASH.false c.escape_at.ensures _ c.in-Ok.is (omega (arith, c.if-u-gt-LAST_LOW.true));
    }

pub low_end-k-requires : goal.low_end-k-requires
low_end-k-requires c = (tells_as c.escape_at.ensures c.in-Ok.is).within.1

pub returns-else-k-e : goal.returns-else-k-e
returns-else-k-e c =
    let args = c.args in
    let look = c.look in
    let w = (tells_as c.escape_at.ensures c.in-Ok.is).within in record {
      lower_bound = (omega (arith, w.0, c.low_end-k.ensures.lower_bound.0), c.low_end-k.ensures.lower_bound.1);
      follows = follows-pair args.s.now args.at look.result look.ensures.0 c.if-look-ne-BACKSLASH.false c.escape_at.ensures _ c.in-Ok.is (omega (arith, c.if-u-lt-FIRST_HIGH.false)) (omega (arith, c.if-u-ge-FIRST_LOW.false))
          c.low_end-k.result (omega (arith, c.low_end-k.ensures.lower_bound.0, c.if-k-e.false)) c.low_end-k.ensures.low;
    }
