use lib.ListN.{drop}
use Rattle.text.specs.Bytes.{lowered}
use Rattle.json_text.specs.Compact.{spelled_all}
use Rattle.output.specs.Put.{Rest}
use Rattle.to_json_kept_values.proofs.spell_lower.Given as goal

abbrev pub invariant-loop-b : goal.invariant-loop-b
invariant-loop-b l = Rest l.initial.out (spelled_all (lowered l.s)) (spelled_all (lowered (drop l.b-index l.s))) l.at l.out
