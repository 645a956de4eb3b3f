use mathlib.Core.Path.{refl}
use Rattle.class_line.proofs.Lines.{numbered}
use Rattle.class_line.proofs.class_line.Goals as goal

pub class_numbered-requires : goal.class_numbered-requires
class_numbered-requires c = (
  c.requires.0,
  c.requires.1,
  numbered c.args.s.now
      c.args.t.now c.name_code-k.result _
      c.name_code-k.ensures refl,
)
