use mathlib.Core.Path.{◌≡◌}
use lib.ListN.{drop}
use Rattle.text.specs.Choice.{is_some}
use Rattle.convert.specs.Pointer.{pointed, pointed_from}
use Rattle.class_member.proofs.is_pointer.Given as goal

abbrev pub invariant-loop-c : goal.invariant-loop-c
invariant-loop-c l = is_some (pointed_from l.tilde (drop l.c-index l.p)) ≡ is_some (pointed l.p)
