use mathlib.Core.Path.{sym, ◌∙◌}
use Rattle.convert_tests.proofs.Used.{other-map, same_map}
use Rattle.convert_tests.proofs.is_id.Goals as goal

pub returns-then-i-j : goal.returns-then-i-j
returns-then-i-j c = sym (other-map _ _ _ _ c.if-i-j.true)

pub returns : goal.returns
returns c = c.same_bytes.ensures ∙ sym (same_map _ _ _ _ c.if-i-j.false)
