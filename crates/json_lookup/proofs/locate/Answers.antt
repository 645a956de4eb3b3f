use native.Mathlib.Omega.{arith}
use Rattle.json_lookup.proofs.Laws.{is-sound, not_sound, no-fault}
use Rattle.json_lookup.proofs.locate.Goals as goal

pub returns-in-Ok : goal.returns-in-Ok
returns-in-Ok c = record {
  bounds = c.find_in.ensures.bounds;
  value = is-sound c.args.s.now c.args.name.now c.read.result c.read.ensures.value c.in-Ok.is c.find_in.result c.find_in.ensures.finds_in;
}

pub returns-in-Err : goal.returns-in-Err
returns-in-Err c = record {
  bounds = record { ordered = omega arith; inside = omega arith };
  value = not_sound c.args.s.now c.args.name.now c.read.result c.read.ensures.value (no-fault c.in-Err.is);
}
