use Rattle.output.proofs.Laws.{failed}
use borrow.Author.Rules.{rules}
use mathlib.Core.Path.{refl, ◌∙◌}
use mathlib.Core.List.{[]}
use Prim.Native.Nat.{◌-◌}
use native.Mathlib.Nat.{le_refl}
use native.Mathlib.Omega.{arith}
use Rattle.output.proofs.Rests.{rest-as, rest-next, rest-stop, rest-done, rest_in, rest-fit, rest-same}
use Rattle.output.proofs.Rows.{length-puts}
use Rattle.to_json_sections.proofs.Props.{end_none, end-some, from-nil}
use Rattle.to_json_sections.proofs.Lines.{props-start, props-end, props-skip, has_kept, props-stop, props-next}
use Rattle.to_json_sections.proofs.put_props.Goals as goal

pub loop-k-init : goal.loop-k-init
loop-k-init c = (omega arith, refl, λ cs h. props-start h c.args.out.now)

pub bounds-lines-k : goal.bounds-lines-k
bounds-lines-k c = omega (arith, c.requires.1.1.wide, c.loop-k-test.true)

pub loop-k-preserved-then-not-is_of : goal.loop-k-preserved-then-not-is_of
loop-k-preserved-then-not-is_of c =
    let loop = c.loop-k in
    let loop-test = c.loop-k-test in
    let is-of = c.is_of in (
      omega arith,
      loop.invariant.1,
      λ cs h. props-skip h loop.begun loop.k loop-test.true is-of.result is-of.ensures c.if-not-is_of.true (loop.invariant.2 cs h),
    )

pub slice_bounds-put_prop-count : goal.slice_bounds-put_prop-count
slice_bounds-put_prop-count c = rest_in (c.loop-k.invariant.2 c.requires.1.0 c.requires.1.1)

pub slice_bounds-put_prop-start : goal.slice_bounds-put_prop-start
slice_bounds-put_prop-start c = rest_in (c.loop-k.invariant.2 c.requires.1.0 c.requires.1.1)

pub slice_bounds-put_prop-end : goal.slice_bounds-put_prop-end
slice_bounds-put_prop-end c = le_refl _

pub put_prop-requires : goal.put_prop-requires
put_prop-requires c =
    let pre = c.requires in
    let loop = c.loop-k in
    let loop-test = c.loop-k-test in
    let is-of = c.is_of in (
      omega (arith, loop.invariant.1, pre.0),
      has_kept pre.1.1 loop.k loop-test.true is-of.result is-of.ensures c.if-not-is_of.false c.line_at-s.ensures,
    )

pub returns-in_err-m : goal.returns-in_err-m
returns-in_err-m c =
    let loop = c.loop-k in
    let loop-test = c.loop-k-test in
    let is-of = c.is_of in
    let line_at_lem = c.line_at-s in
    let put-prop = c.put_prop in
    λ cs h. failed c.from_residual.ensures.0
    (props-stop h loop.k loop-test.true is-of.result is-of.ensures c.if-not-is_of.false loop.begun (loop.invariant.2 cs h)
    line_at_lem.ensures put-prop.ensures c.in_err-m.was)

pub overflow_add-at : goal.overflow_add-at
overflow_add-at c =
    let pre = c.requires in
    let good = c.well_formed in
    let loop = c.loop-k in
    let loop-test = c.loop-k-test in
    let is-of = c.is_of in
    let line_at_lem = c.line_at-s in
    let put-prop = c.put_prop in
    rest-fit
    (props-next pre.1.1 loop.k loop-test.true is-of.result is-of.ensures c.if-not-is_of.false loop.begun
    (loop.invariant.2 pre.1.0 pre.1.1) line_at_lem.ensures put-prop.ensures _ c.in_ok-m.was)
    good.0.0

pub loop-k-preserved : goal.loop-k-preserved
loop-k-preserved c =
    let loop = c.loop-k in
    let loop-test = c.loop-k-test in
    let is-of = c.is_of in
    let line_at_lem = c.line_at-s in
    let put-prop = c.put_prop in (
      omega arith,
      search rules,
      λ cs h. props-next h loop.k loop-test.true is-of.result is-of.ensures c.if-not-is_of.false loop.begun (loop.invariant.2 cs h) line_at_lem.ensures put-prop.ensures _ c.in_ok-m.was,
    )

pub shape_of-out-then-not-begun : goal.shape_of-out-then-not-begun
shape_of-out-then-not-begun c = rest-same (c.loop-k.invariant.2 c.requires.1.0 c.requires.1.1)

pub shape_of-t-then-not-begun : goal.shape_of-t-then-not-begun
shape_of-t-then-not-begun c = c.loop-k.invariant.1

pub returns-then-not-begun : goal.returns-then-not-begun
returns-then-not-begun c = λ cs h. rest-done (end_none _ c.if-not-begun.true) (rest-as (props-end h c.loop-k.begun c.loop-k.k c.loop-k-test.false ∙ from-nil c.loop-k.begun) (c.loop-k.invariant.2 cs h))

pub slice_bounds-put_byte-count : goal.slice_bounds-put_byte-count
slice_bounds-put_byte-count c = rest_in (c.loop-k.invariant.2 c.requires.1.0 c.requires.1.1)

pub slice_bounds-put_byte-start : goal.slice_bounds-put_byte-start
slice_bounds-put_byte-start c = rest_in (c.loop-k.invariant.2 c.requires.1.0 c.requires.1.1)

pub slice_bounds-put_byte-end : goal.slice_bounds-put_byte-end
slice_bounds-put_byte-end c = le_refl _

pub returns-in_err-m-2 : goal.returns-in_err-m-2
returns-in_err-m-2 c =
    let loop = c.loop-k in
    let loop-test = c.loop-k-test in
    let put_byte = c.put_byte in
    λ cs h. failed c.from_residual-in_err-m-2.ensures.0
    (rest-stop []
    (rest-as (end-some _ c.if-not-begun.false)
    (rest-as (props-end h loop.begun loop.k loop-test.false ∙ from-nil loop.begun) (loop.invariant.2 cs h)))
    put_byte.ensures c.in_err-m-2.was)

pub overflow_add-all : goal.overflow_add-all
overflow_add-all c =
    let pre = c.requires in
    let good = c.well_formed in
    let loop = c.loop-k in
    let loop-test = c.loop-k-test in
    let put_byte = c.put_byte in
    rest-fit
    (rest-next []
    (rest-as (end-some _ c.if-not-begun.false)
    (rest-as (props-end pre.1.1 loop.begun loop.k loop-test.false ∙ from-nil loop.begun)
    (loop.invariant.2 pre.1.0 pre.1.1)))
    put_byte.ensures c.in_ok-m-2.was)
    good.0.0

pub shape_of-out : goal.shape_of-out
shape_of-out c =
    let pre = c.requires in
    let loop = c.loop-k in
    let loop-test = c.loop-k-test in
    let put_byte = c.put_byte in
    rest-same
    (rest-next []
    (rest-as (end-some _ c.if-not-begun.false)
    (rest-as (props-end pre.1.1 loop.begun loop.k loop-test.false ∙ from-nil loop.begun)
    (loop.invariant.2 pre.1.0 pre.1.1)))
    put_byte.ensures c.in_ok-m-2.was)

pub shape_of-t : goal.shape_of-t
shape_of-t c = c.loop-k.invariant.1

pub returns : goal.returns
returns c =
    let loop = c.loop-k in
    let loop-test = c.loop-k-test in
    let put_byte = c.put_byte in
    λ cs h. rest-done refl
    (rest-next []
    (rest-as (end-some _ c.if-not-begun.false)
    (rest-as (props-end h loop.begun loop.k loop-test.false ∙ from-nil loop.begun) (loop.invariant.2 cs h)))
    put_byte.ensures c.in_ok-m-2.was)
