use mathlib.Core.Path.{ap, ◌∙◌}
use Rattle.std.specs.Prelude.{Ok}
use lib.ListN.{length}
use Rattle.json_text.specs.Syntax.{value}
use Rattle.json_sound.specs.Sound.{is_sound}
use Rattle.json_sound.proofs.Judging.{judged-as, onward-as}
use Rattle.json_read.proofs.Laws.{read-bad, read-sound, read-unsound}
use Rattle.json_read.proofs.verdict_on.Goals as goal

pub returns-in-Err : goal.returns-in-Err
returns-in-Err c d judged =
    let s = c.args.s.now in
    read-bad d s c.in-Err.b (onward-as 0 (length s) c.requires c.in-Err.is).1 (judged-as s (value d s) is_sound judged c.in-Err.is)

pub returns-in-Unsound : goal.returns-in-Unsound
returns-in-Unsound c d judged =
    let s = c.args.s.now in
    c.ended.ensures ∙ read-unsound d s c.in-Unsound.e (judged-as s (value d s) is_sound judged (c.in-Ok.is ∙ ap Ok c.in-Unsound.is))

pub returns-in-Sound : goal.returns-in-Sound
returns-in-Sound c d judged =
    let s = c.args.s.now in
    c.ended-in-Sound.ensures ∙ read-sound d s c.in-Sound.e (judged-as s (value d s) is_sound judged (c.in-Ok.is ∙ ap Ok c.in-Sound.is))
