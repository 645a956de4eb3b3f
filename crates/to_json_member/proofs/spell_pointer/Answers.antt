use Rattle.output.proofs.Laws.{failed}
use mathlib.Core.Path.{ap}
use native.Mathlib.Nat.{le_refl}
use native.Mathlib.Omega.{arith}
use Rattle.json_text.specs.Compact.{spelled_all}
use Rattle.output.proofs.Rests.{rest_all, rest-as, rest-next, rest-stop, rest-done, rest_in, rest-fit, rest-same}
use Rattle.convert_pointer.proofs.Pointers.{moved}
use Rattle.to_json_member.proofs.Pointers.{spelled-to, spelled-end}
use Rattle.to_json_member.proofs.spell_pointer.Goals as goal

pub loop-i-init : goal.loop-i-init
loop-i-init c = (omega arith, c.requires, rest_all _ _)

pub pointer_byte-b-requires : goal.pointer_byte-b-requires
pointer_byte-b-requires c = (c.loop-i.invariant.1, c.loop-i-test.true)

pub slice_bounds-put_byte_spelled-count : goal.slice_bounds-put_byte_spelled-count
slice_bounds-put_byte_spelled-count c = rest_in c.loop-i.invariant.2

pub slice_bounds-put_byte_spelled-start : goal.slice_bounds-put_byte_spelled-start
slice_bounds-put_byte_spelled-start c = rest_in c.loop-i.invariant.2

pub slice_bounds-put_byte_spelled-end : goal.slice_bounds-put_byte_spelled-end
slice_bounds-put_byte_spelled-end c = le_refl _

pub returns-in_err-n : goal.returns-in_err-n
returns-in_err-n c =
    failed c.from_residual.ensures.0
    (rest-stop _ (rest-as (spelled-to c.args.p.now c.loop-i.i c.loop-i.invariant.1 c.loop-i-test.true c.pointer_byte-b.result c.pointer_byte-b.ensures) c.loop-i.invariant.2) c.put_byte_spelled.ensures c.in_err-n.was)

pub overflow_add-at : goal.overflow_add-at
overflow_add-at c =
    rest-fit (rest-next _ (rest-as (spelled-to c.args.p.now c.loop-i.i c.loop-i.invariant.1 c.loop-i-test.true c.pointer_byte-b.result c.pointer_byte-b.ensures) c.loop-i.invariant.2) c.put_byte_spelled.ensures c.in_ok-n.was) c.well_formed.0.0

pub pointer_next-i-requires : goal.pointer_next-i-requires
pointer_next-i-requires c = (c.loop-i.invariant.1, c.loop-i-test.true)

pub loop-i-smaller : goal.loop-i-smaller
loop-i-smaller c =
    let h = moved c.args.p.now c.loop-i.i c.loop-i.invariant.1 c.loop-i-test.true c.pointer_next-i.result c.pointer_next-i.ensures in omega (arith, h.0, h.1)

pub loop-i-preserved : goal.loop-i-preserved
loop-i-preserved c =
    let h = moved c.args.p.now c.loop-i.i c.loop-i.invariant.1 c.loop-i-test.true
    c.pointer_next-i.result c.pointer_next-i.ensures in (
      h.1,
      h.2,
      rest-as (ap spelled_all h.3) (rest-next _ (rest-as (spelled-to c.args.p.now c.loop-i.i c.loop-i.invariant.1 c.loop-i-test.true c.pointer_byte-b.result c.pointer_byte-b.ensures) c.loop-i.invariant.2) c.put_byte_spelled.ensures c.in_ok-n.was),
    )

pub shape_of-out : goal.shape_of-out
shape_of-out c = rest-same c.loop-i.invariant.2

pub returns : goal.returns
returns c = rest-done (spelled-end c.args.p.now c.loop-i.i (omega (arith, c.loop-i-test.false))) c.loop-i.invariant.2
