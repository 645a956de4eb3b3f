use Rattle.from_card_stem.proofs.Stems.{no-stem, long-stem, stem-all}
use mathlib.Core.Path.{sym, ◌∙◌}
use Rattle.from_card_stem.proofs.is_stem.Goals as goal

pub returns-then-stem-eq0 : goal.returns-then-stem-eq0
returns-then-stem-eq0 c = sym (no-stem c.args.stem.now c.if-stem-eq0.true)

pub returns-then-stem-gt-STEM : goal.returns-then-stem-gt-STEM
returns-then-stem-gt-STEM c = sym (long-stem c.args.stem.now c.if-stem-gt-STEM.true)

pub returns : goal.returns
returns c = c.all_of.ensures ∙ sym (stem-all c.args.stem.now c.if-stem-eq0.false c.if-stem-gt-STEM.false)
