use native.Mathlib.Omega.{arith}
use mathlib.Core.Path.{refl, ◌∙◌}
use Rattle.convert_values.proofs.Noting.{walk_start, walk-room, walk_rows, walk_end, walk-on}
use Rattle.convert_values.proofs.note_values.Goals as goal

pub loop-n-init : goal.loop-n-init
loop-n-init c = (walk_start c.args.o.now c.args.places.now c.args.prints.now c.requires.readable c.requires.o_len_bound_2.0 c.requires.o_len_bound_2.1, refl, refl)

pub note_value-n-requires : goal.note_value-n-requires
note_value-n-requires c =
    let loop = c.loop-n in
    let part-end = c.part_end-e in record {
      readable = (loop.invariant.0.good, part-end.ensures, part-end.ensures.within loop.invariant.0.upto, c.requires.o_len_bound);
      n_in_bounds = walk-room loop.invariant.0 part-end.result part-end.ensures;
      noting = loop.invariant.0.noting;
    }

pub shape_of-places-then-e-o : goal.shape_of-places-then-e-o
shape_of-places-then-e-o c = c.places-1.given ∙ c.loop-n.invariant.1

pub shape_of-prints-then-e-o : goal.shape_of-prints-then-e-o
shape_of-prints-then-e-o c = c.prints-1.given ∙ c.loop-n.invariant.2

pub returns-then-e-o : goal.returns-then-e-o
returns-then-e-o c =
    let loop = c.loop-n in
    let part-end = c.part_end-e in
    let places = c.places-1 in
    let prints = c.prints-1 in (
      walk_rows loop.invariant.0 _ part-end.ensures _ c.note_value-n.ensures.value _ _ places.given prints.given c.note_value-n.ensures.noting_2,
      walk_end loop.invariant.0 _ part-end.ensures _ c.note_value-n.ensures.value _ _ places.given prints.given c.note_value-n.ensures.noting_2
          c.if-e-o.true,
    )

pub overflow_add-i : goal.overflow_add-i
overflow_add-i c = omega (arith, c.if-e-o.false, c.well_formed.0.0)

pub loop-n-smaller : goal.loop-n-smaller
loop-n-smaller c = omega (arith, c.if-e-o.false, c.part_end-e.ensures.from)

pub loop-n-preserved : goal.loop-n-preserved
loop-n-preserved c =
    let loop = c.loop-n in
    let part-end = c.part_end-e in
    let places = c.places-1 in
    let prints = c.prints-1 in (
      walk-on loop.invariant.0 _ part-end.ensures _ c.note_value-n.ensures.value _ _ places.given prints.given c.note_value-n.ensures.noting_2
          c.if-e-o.false,
      places.given ∙ loop.invariant.1,
      prints.given ∙ loop.invariant.2,
    )
