use mathlib.Core.Path.{sym, ◌∙◌}
use Rattle.convert_tests.proofs.Values.{no_key, long-key, key_of}
use Rattle.convert_tests.proofs.is_key.Goals as goal

pub returns-then-v-eq0 : goal.returns-then-v-eq0
returns-then-v-eq0 c = sym (no_key _ c.if-v-eq0.true)

pub returns-then-v-gt-KEY : goal.returns-then-v-gt-KEY
returns-then-v-gt-KEY c = sym (long-key _ c.if-v-gt-KEY.true)

pub returns : goal.returns
returns c = c.all_of.ensures ∙ sym (key_of _ c.if-v-eq0.false c.if-v-gt-KEY.false)
