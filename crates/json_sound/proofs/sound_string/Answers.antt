use native.Mathlib.Omega.{arith}
use Prim.Native.Nat.{◌+◌}
use lib.ListN.{length}
use Rattle.std.specs.Prelude.{Ok}
use Rattle.json_sound.specs.declared.Sounded.TheVariants.{Sound}
use Rattle.json_sound.proofs.Judging.{onward-up}
use Rattle.json_sound.proofs.Plain.{chars-end}
use Rattle.json_sound.proofs.sound_string.Goals as goal

pub returns-then-look-eq-QUOTE : goal.returns-then-look-eq-QUOTE
returns-then-look-eq-QUOTE c =
    let args = c.args in
    let look = c.look in
    let i = c.raw_end-i.result in record {
      judged = c.raw_end-i.ensures.to_chars (Ok (Sound (i + 1))) (chars-end args.s.now i look.result look.ensures.0 c.if-look-eq-QUOTE.true);
      onward = (omega (arith, c.raw_end-i.ensures.lower_bound), omega (arith, look.ensures.1, c.if-look-eq-QUOTE.true));
    }

pub returns : goal.returns
returns c =
    let args = c.args in
    record {
      judged = c.raw_end-i.ensures.to_chars c.sound_rest.result c.sound_rest.ensures.judged;
      onward = onward-up args.at c.raw_end-i.result (length args.s.now) c.sound_rest.result c.raw_end-i.ensures.lower_bound.0 c.sound_rest.ensures.onward;
    }
