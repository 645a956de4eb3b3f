use mathlib.Core.Path.{sym, ap, ◌∙◌}
use Rattle.class_member.proofs.Values.{never-full, written, soundly, judged-text}
use Rattle.class_member.proofs.is_json.Goals as goal

pub returns-in_default : goal.returns-in_default
returns-in_default c =
    absurd (never-full c.args.v.now
    c.args.scratch.now c.requires.fits
    (sym c.read_text.ensures.said ∙ c.in_default.is))

pub slice_bounds-read-end : goal.slice_bounds-read-end
slice_bounds-read-end c = (written c.in-Ok.n c.read_text.ensures c.in-Ok.is).0

pub returns-in-Ok-read : goal.returns-in-Ok-read
returns-in-Ok-read c =
    sym (ap soundly c.in-Ok-read.is) ∙ judged-text c.args.v.now _ c.read.result
    c.requires.small (written c.in-Ok.n c.read_text.ensures c.in-Ok.is).1 c.read.ensures.value

pub returns-in-Err : goal.returns-in-Err
returns-in-Err c =
    sym (ap soundly c.in-Err.is) ∙ judged-text c.args.v.now _ c.read.result
    c.requires.small (written c.in-Ok.n c.read_text.ensures c.in-Ok.is).1 c.read.ensures.value
