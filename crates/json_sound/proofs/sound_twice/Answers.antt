use mathlib.Core.Path.{sym, ◌∙◌}
use lib.ListN.{drop}
use Rattle.std.specs.Prelude.{Ok}
use Rattle.text.proofs.Places.{at-bad}
use Rattle.json_text.specs.Syntax.{characters}
use Rattle.json_text.proofs.Fine.{characters-fine}
use Rattle.json_sound.proofs.Judging.{onward-fine, bad-handed}
use Rattle.json_sound.proofs.Plain.{chars-alone, chars-paired}
use Rattle.json_sound.proofs.sound_twice.Goals as goal

pub returns-in_err-e : goal.returns-in_err-e
returns-in_err-e c =
    let g = c.in_err-e.ensures in
    let h = bad-handed _ _ _ _ _ _ c.from_residual.ensures.1 (at-bad (characters (drop c.args.at c.args.s.now)) g) g.within in
    record { judged = h.0; onward = h.1 }

pub returns-then-not-is_paired : goal.returns-then-not-is_paired
returns-then-not-is_paired c =
    let g = c.in_ok-e.ensures in
    record {
      judged = chars-alone c.args.s.now c.args.at (Ok c.in_ok-e.e) g (sym c.is_paired.ensures ∙ c.if-not-is_paired.true);
      onward = onward-fine characters characters-fine c.args.s.now c.args.at c.requires (Ok c.in_ok-e.e) g;
    }

pub returns : goal.returns
returns c =
    let g = c.in_ok-e.ensures in
    record {
      judged = chars-paired c.args.s.now c.args.at (Ok c.in_ok-e.e) g (sym c.is_paired.ensures ∙ c.if-not-is_paired.false);
      onward = onward-fine characters characters-fine c.args.s.now c.args.at c.requires (Ok c.in_ok-e.e) g;
    }
