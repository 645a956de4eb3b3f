use native.Mathlib.Omega.{arith}
use Rattle.json_escapes.proofs.Laws.{tells_as}
use Rattle.json_sound.proofs.Escapes.{low-none, low-here}
use Rattle.json_sound.proofs.low_end.Goals as goal

pub returns-then-look-ne-BACKSLASH : goal.returns-then-look-ne-BACKSLASH
returns-then-look-ne-BACKSLASH c = record { lower_bound = (omega arith, c.requires); low = low-none c.args.s.now c.args.at }

pub returns-then-u-lt-FIRST_LOW : goal.returns-then-u-lt-FIRST_LOW
returns-then-u-lt-FIRST_LOW c = record { lower_bound = (omega arith, c.requires); low = low-none c.args.s.now c.args.at }

pub returns-then-u-gt-LAST_LOW : goal.returns-then-u-gt-LAST_LOW
returns-then-u-gt-LAST_LOW c = record { lower_bound = (omega arith, c.requires); low = low-none c.args.s.now c.args.at }

pub returns-in-Err : goal.returns-in-Err
returns-in-Err c = record { lower_bound = (omega arith, c.requires); low = low-none c.args.s.now c.args.at }

pub returns-else-u-gt-LAST_LOW : goal.returns-else-u-gt-LAST_LOW
returns-else-u-gt-LAST_LOW c =
    let args = c.args in
    let look = c.look in
    let w = (tells_as c.escape_at.ensures c.in-Ok.is).within in record {
      lower_bound = (omega (arith, w.0), w.1);
      low = low-here args.s.now args.at look.result look.ensures.0 c.if-look-ne-BACKSLASH.false c.escape_at.ensures _ c.in-Ok.is (omega (arith, c.if-u-lt-FIRST_LOW.false)) (omega (arith, c.if-u-gt-LAST_LOW.false));
    }
