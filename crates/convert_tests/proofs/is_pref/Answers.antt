use mathlib.Core.Path.{sym}
use Rattle.convert_tests.proofs.Values.{pref-1, pref-2, pref-3, pref-other}
use Rattle.convert_tests.proofs.is_pref.Goals as goal

pub returns-then-v-eq1 : goal.returns-then-v-eq1
returns-then-v-eq1 c = sym (pref-1 _ c.if-v-eq1.true)

pub returns-then-v-eq2 : goal.returns-then-v-eq2
returns-then-v-eq2 c = sym (pref-2 _ c.if-v-eq2.true)

pub returns-then-v-eq3 : goal.returns-then-v-eq3
returns-then-v-eq3 c = sym (pref-3 _ c.if-v-eq3.true)

pub returns : goal.returns
returns c = sym (pref-other _ c.if-v-eq1.false c.if-v-eq2.false c.if-v-eq3.false)
