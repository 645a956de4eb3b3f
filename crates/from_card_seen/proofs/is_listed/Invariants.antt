use mathlib.Core.Path.{◌≡◌}
use Rattle.text.specs.Bytes.{any}
use Rattle.convert.specs.Classify.{is_id}
use Rattle.from_card_seen.specs.Ids.{ids_at}
use Rattle.from_card_seen.proofs.is_listed.Given as goal

abbrev pub invariant-loop-k : goal.invariant-loop-k
invariant-loop-k l = any (is_id l.i l.key) (ids_at l.bytes l.ids l.k) ≡ any (is_id l.i l.key) (ids_at l.bytes l.ids l.n)
