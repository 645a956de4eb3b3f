use Rattle.json_text.specs.Compact.{spelled_all}
use Rattle.json_strings.specs.Decoded.{text_at, weight}
use Rattle.json_write.proofs.Runs.{Ahead}
use Rattle.json_write.proofs.put_respelled.Given as goal

abbrev pub invariant-loop-m : goal.invariant-loop-m
invariant-loop-m l = Ahead l.s l.i l.h l.initial.out (spelled_all (text_at l.s l.from)) l.at l.out

abbrev pub decreases-loop-m : goal.decreases-loop-m
decreases-loop-m l = weight l.s l.i l.h
