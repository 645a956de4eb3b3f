use Rattle.output.proofs.Laws.{failed}
use borrow.Author.Rules.{rules}
use mathlib.Core.Path.{refl}
use native.Mathlib.Nat.{le_refl}
use native.Mathlib.Omega.{arith}
use Rattle.output.proofs.Rests.{rest_all, rest-as, rest-next, rest-stop, rest-done, rest_in, rest-fit, rest-same}
use Rattle.convert.specs.Table.{maps}
use Rattle.to_json_maps.proofs.Whole.{all_maps, maps-bytes, maps-step, maps-end}
use Rattle.to_json_maps.proofs.put_maps.Goals as goal

pub loop-i-init : goal.loop-i-init
loop-i-init c = (omega arith, refl, λ cs h. rest-as (maps-bytes 0 maps cs) (rest_all c.args.out.now (all_maps cs)))

pub slice_bounds-put_map-count : goal.slice_bounds-put_map-count
slice_bounds-put_map-count c = rest_in (c.loop-i.invariant.2 c.requires.1.0 c.requires.1.1)

pub slice_bounds-put_map-start : goal.slice_bounds-put_map-start
slice_bounds-put_map-start c = rest_in (c.loop-i.invariant.2 c.requires.1.0 c.requires.1.1)

pub slice_bounds-put_map-end : goal.slice_bounds-put_map-end
slice_bounds-put_map-end c = le_refl _

pub put_map-requires : goal.put_map-requires
put_map-requires c = (omega (arith, c.loop-i.invariant.1, c.requires.0), c.requires.1, c.loop-i-test.true)

pub returns-in_err-m : goal.returns-in_err-m
returns-in_err-m c =
    let loop = c.loop-i in
    let loop-test = c.loop-i-test in
    let put_map = c.put_map in
    λ cs h. failed c.from_residual.ensures.0
    (rest-stop _ (rest-as (maps-step loop.i cs loop-test.true) (loop.invariant.2 cs h)) (put_map.ensures cs h) c.in_err-m.was)

pub overflow_add-at : goal.overflow_add-at
overflow_add-at c =
    let pre = c.requires in
    let good = c.well_formed in
    let loop = c.loop-i in
    let loop-test = c.loop-i-test in
    let put_map = c.put_map in
    rest-fit
    (rest-next _ (rest-as (maps-step loop.i pre.1.0 loop-test.true) (loop.invariant.2 pre.1.0 pre.1.1))
    (put_map.ensures pre.1.0 pre.1.1) c.in_ok-m.was)
    good.0.0

pub loop-i-preserved : goal.loop-i-preserved
loop-i-preserved c =
    let loop = c.loop-i in
    let loop-test = c.loop-i-test in
    let put_map = c.put_map in (
      omega arith,
      search rules,
      λ cs h. rest-next _ (rest-as (maps-step loop.i cs loop-test.true) (loop.invariant.2 cs h)) (put_map.ensures cs h) c.in_ok-m.was,
    )

pub shape_of-out : goal.shape_of-out
shape_of-out c = rest-same (c.loop-i.invariant.2 c.requires.1.0 c.requires.1.1)

pub shape_of-t : goal.shape_of-t
shape_of-t c = c.loop-i.invariant.1

pub returns : goal.returns
returns c = λ cs h. rest-done (maps-end c.loop-i.i cs (omega arith)) (c.loop-i.invariant.2 cs h)
