use mathlib.Core.Path.{refl, sym, ◌∙◌}
use native.Mathlib.Omega.{arith}
use lib.ListN.{length}
use Rattle.json_walk.proofs.Laws.{in-text, less-ahead, is-over}
use Rattle.to_card_kept_names.proofs.Noting.{noted-as, noting-first, noting-on, noting-last}
use Rattle.to_card_kept_names.proofs.note_names.Goals as goal

pub loop-m-init : goal.loop-m-init
loop-m-init c =
    let a = c.args in
    ((a.at, c.first_member-m.ensures.member_in), c.requires, refl, refl, omega arith, noting-first a.depth a.s.now a.at a.places.now a.prints.now c.first_member-m.result c.first_member-m.ensures.first_of)

pub shape_of-places-in_default : goal.shape_of-places-in_default
shape_of-places-in_default c = c.loop-m.invariant.2

pub shape_of-prints-in_default : goal.shape_of-prints-in_default
shape_of-prints-in_default c = c.loop-m.invariant.3

pub returns-in_default : goal.returns-in_default
returns-in_default c =
    let a = c.args in
    let l = c.loop-m in
    record {
      noted_in = omega (arith, l.invariant.2, l.invariant.4);
      notes_names = noting-last a.depth a.s.now a.at l.places l.prints l.k l.m l.invariant.5 (is-over l.m c.in_default.not-At);
    }

pub note_name-requires : goal.note_name-requires
note_name-requires c =
    record { at_in_bounds = (in-text (length c.args.s.now) c.loop-m.m c.in-At.q c.in-At.a c.in-At.is c.loop-m.invariant.0).0; places_len = c.loop-m.invariant.1 }

pub shape_of-places-then-not-note_name : goal.shape_of-places-then-not-note_name
shape_of-places-then-not-note_name c = c.note_name.auto.places ∙ c.loop-m.invariant.2

pub shape_of-prints-then-not-note_name : goal.shape_of-prints-then-not-note_name
shape_of-prints-then-not-note_name c = c.note_name.auto.prints ∙ c.loop-m.invariant.3

pub returns-then-not-note_name : goal.returns-then-not-note_name
returns-then-not-note_name c = record { noted_in = tt; notes_names = λ v e. tt }

pub overflow_add-k : goal.overflow_add-k
overflow_add-k c =
    let a = c.args in
    let l = c.loop-m in
    let n = c.note_name in
    let v = noted-as a.s.now c.in-At.q l.k l.places l.prints _ _ n.result n.ensures c.if-not-note_name.false in
    omega (arith, v.0)

pub loop-m-smaller : goal.loop-m-smaller
loop-m-smaller c =
    let loop = c.loop-m in
    less-ahead (length c.args.s.now) loop.m c.next_member-m.result c.in-At.q c.in-At.a c.skip_value-e.result c.in-At.is loop.invariant.0 c.skip_value-e.ensures.lower_bound.0 c.next_member-m.ensures.member_in

pub loop-m-preserved : goal.loop-m-preserved
loop-m-preserved c =
    let a = c.args in
    let l = c.loop-m in
    let v = noted-as a.s.now c.in-At.q l.k l.places l.prints _ _ c.note_name.result c.note_name.ensures c.if-not-note_name.false in (
      (c.skip_value-e.result, c.next_member-m.ensures.member_in),
      c.note_name.auto.places ∙ l.invariant.1 ∙ sym c.note_name.auto.prints,
      c.note_name.auto.places ∙ l.invariant.2,
      c.note_name.auto.prints ∙ l.invariant.3,
      omega (arith, v.0, c.note_name.auto.places),
      noting-on a.depth a.s.now a.at l.places l.prints l.k l.m l.invariant.5 c.in-At.q c.in-At.a c.in-At.is _ _ v c.skip_value-e.result (c.skip_value-e.ensures.skips a.depth) c.next_member-m.result c.next_member-m.ensures.next_of,
    )
