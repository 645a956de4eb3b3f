use mathlib.Core.Path.{refl}
use native.Mathlib.Omega.{arith}
use lib.ListN.{length-set}
use Rattle.from_card_classes.proofs.pass_line.Goals as goal

pub returns : goal.returns
returns c =
    record {
      ready = record {
        table = c.settle-r.ensures.table;
        few = omega (arith, c.settle-r.ensures.few, c.requires.1.few);
        keys = simp length-set (omega (arith, c.settle-r.auto.ids, c.requires.1.keys));
        printed = simp length-set (omega (arith, c.settle-r.auto.prints, c.requires.1.printed));
      };
      judged = refl;
      settled = c.settle-r.result;
      settles = c.settle-r.ensures;
      stored = refl;
      full = refl;
      parts = refl;
      count = refl;
    }
