use Rattle.output.proofs.Laws.{failed}
use borrow.Author.Rules.{rules}
use mathlib.Core.Path.{refl, ◌∙◌}
use mathlib.Core.List.{[]}
use native.Mathlib.Nat.{le_refl}
use native.Mathlib.Omega.{arith}
use Rattle.output.proofs.Rests.{rest-as, rest-next, rest-stop, rest-done, rest_in, rest-fit, rest-same}
use Rattle.convert_put.proofs.Writing.{closed, opened}
use Rattle.to_json_maps.proofs.Heads.{prefixes, prefix-short}
use Rattle.to_json_maps.proofs.Turns.{mapping-start, mapping-end, mapping-other, has-turn, mapping-stop, mapping-next}
use Rattle.to_json_maps.proofs.put_entries.Goals as goal

pub loop-k-init : goal.loop-k-init
loop-k-init c = (omega arith, refl, λ cs h. mapping-start h c.args.out.now c.args.prefix.now c.args.i)

pub bounds-lines-k : goal.bounds-lines-k
bounds-lines-k c = omega (arith, c.requires.1.lines.1.wide, c.loop-k-test.true)

pub loop-k-preserved-then-not-is_of : goal.loop-k-preserved-then-not-is_of
loop-k-preserved-then-not-is_of c =
    let args = c.args in
    let loop = c.loop-k in
    let loop-test = c.loop-k-test in
    let is-of = c.is_of in (
      omega arith,
      loop.invariant.1,
      λ cs h. mapping-other h args.out.now args.prefix.now args.i loop.k loop-test.true is-of.result is-of.ensures (loop.invariant.2 cs h) c.if-not-is_of.true,
    )

pub slice_bounds-put_turn-count : goal.slice_bounds-put_turn-count
slice_bounds-put_turn-count c =
    let pre = c.requires in
    let loop = c.loop-k in
    rest_in (loop.invariant.2 pre.1.lines.0 pre.1.lines.1).rest

pub slice_bounds-put_turn-start : goal.slice_bounds-put_turn-start
slice_bounds-put_turn-start c =
    let pre = c.requires in
    let loop = c.loop-k in
    rest_in (loop.invariant.2 pre.1.lines.0 pre.1.lines.1).rest

pub slice_bounds-put_turn-end : goal.slice_bounds-put_turn-end
slice_bounds-put_turn-end c = le_refl _

pub put_turn-requires : goal.put_turn-requires
put_turn-requires c =
    let args = c.args in
    let pre = c.requires in
    let loop = c.loop-k in
    let loop-test = c.loop-k-test in
    let is-of = c.is_of in (
      omega (arith, loop.invariant.1, pre.0),
      has-turn pre.1.lines.1 args.out.now args.prefix.now args.i loop.k loop-test.true is-of.result is-of.ensures
          (loop.invariant.2 pre.1.lines.0 pre.1.lines.1) c.if-not-is_of.false (omega (arith, pre.1.small)) args.row.now args.taken
          (pre.1.ids pre.1.lines.0 pre.1.lines.1) c.line_at-s.ensures
          (prefix-short args.i args.prefix.now pre.1.small pre.1.is),
    )

pub returns-in_err-put : goal.returns-in_err-put
returns-in_err-put c =
    let args = c.args in
    let pre = c.requires in
    let loop = c.loop-k in
    let loop-test = c.loop-k-test in
    let is-of = c.is_of in
    let line_at_lem = c.line_at-s in
    λ cs h. failed c.from_residual.ensures.0 (mapping-stop h args.out.now args.prefix.now args.i loop.k loop-test.true is-of.result is-of.ensures
    (loop.invariant.2 cs h) c.if-not-is_of.false (omega (arith, pre.1.small)) args.row.now args.taken (pre.1.ids cs h) line_at_lem.ensures
    (pre.1.is ∙ prefixes args.i) c.put_turn.result c.put_turn.new.out c.put_turn.ensures c.in_err-put.was)

pub overflow_add-at : goal.overflow_add-at
overflow_add-at c =
    let args = c.args in
    let pre = c.requires in
    let good = c.well_formed in
    let loop = c.loop-k in
    let loop-test = c.loop-k-test in
    let is-of = c.is_of in
    let line_at_lem = c.line_at-s in
    rest-fit
    (mapping-next pre.1.lines.1 args.out.now args.prefix.now args.i loop.k loop-test.true is-of.result
    is-of.ensures (loop.invariant.2 pre.1.lines.0 pre.1.lines.1) c.if-not-is_of.false (omega (arith, pre.1.small))
    args.row.now args.taken (pre.1.ids pre.1.lines.0 pre.1.lines.1) line_at_lem.ensures (pre.1.is ∙ prefixes args.i)
    c.put_turn.result c.put_turn.new.out c.put_turn.ensures _ c.in_ok-put.was).rest
    good.0.0

pub loop-k-preserved : goal.loop-k-preserved
loop-k-preserved c =
    let args = c.args in
    let pre = c.requires in
    let loop = c.loop-k in
    let loop-test = c.loop-k-test in
    let is-of = c.is_of in
    let line_at_lem = c.line_at-s in (
      omega arith,
      search rules,
      λ cs h. mapping-next h args.out.now args.prefix.now args.i loop.k loop-test.true is-of.result is-of.ensures
          (loop.invariant.2 cs h) c.if-not-is_of.false (omega (arith, pre.1.small)) args.row.now args.taken (pre.1.ids cs h) line_at_lem.ensures
          (pre.1.is ∙ prefixes args.i) c.put_turn.result c.put_turn.new.out c.put_turn.ensures _ c.in_ok-put.was,
    )

pub shape_of-out-then-not-begun : goal.shape_of-out-then-not-begun
shape_of-out-then-not-begun c = rest-same (c.loop-k.invariant.2 c.requires.1.lines.0 c.requires.1.lines.1).rest

pub shape_of-t-then-not-begun : goal.shape_of-t-then-not-begun
shape_of-t-then-not-begun c = c.loop-k.invariant.1

pub returns-then-not-begun : goal.returns-then-not-begun
returns-then-not-begun c =
    let args = c.args in
    λ cs h. rest-done (closed _ c.if-not-begun.true)
    (mapping-end h args.out.now args.prefix.now args.i c.loop-k-test.false (c.loop-k.invariant.2 cs h))

pub slice_bounds-put_byte-count : goal.slice_bounds-put_byte-count
slice_bounds-put_byte-count c = rest_in (c.loop-k.invariant.2 c.requires.1.lines.0 c.requires.1.lines.1).rest

pub slice_bounds-put_byte-start : goal.slice_bounds-put_byte-start
slice_bounds-put_byte-start c = rest_in (c.loop-k.invariant.2 c.requires.1.lines.0 c.requires.1.lines.1).rest

pub slice_bounds-put_byte-end : goal.slice_bounds-put_byte-end
slice_bounds-put_byte-end c = le_refl _

pub returns-in_err-m : goal.returns-in_err-m
returns-in_err-m c =
    let args = c.args in
    let loop = c.loop-k in
    let loop-test = c.loop-k-test in
    let put_byte = c.put_byte in
    λ cs h. failed c.from_residual-in_err-m.ensures.0 (rest-stop []
    (rest-as (opened _ c.if-not-begun.false)
    (mapping-end h args.out.now args.prefix.now args.i loop-test.false (loop.invariant.2 cs h)))
    put_byte.ensures c.in_err-m.was)

pub overflow_add-all : goal.overflow_add-all
overflow_add-all c =
    let args = c.args in
    let pre = c.requires in
    let good = c.well_formed in
    let loop = c.loop-k in
    let loop-test = c.loop-k-test in
    let put_byte = c.put_byte in
    rest-fit
    (rest-next []
    (rest-as (opened _ c.if-not-begun.false)
    (mapping-end pre.1.lines.1 args.out.now args.prefix.now args.i loop-test.false
    (loop.invariant.2 pre.1.lines.0 pre.1.lines.1)))
    put_byte.ensures c.in_ok-m.was)
    good.0.0

pub shape_of-out : goal.shape_of-out
shape_of-out c =
    let args = c.args in
    let pre = c.requires in
    let loop = c.loop-k in
    let loop-test = c.loop-k-test in
    let put_byte = c.put_byte in
    rest-same
    (rest-next []
    (rest-as (opened _ c.if-not-begun.false)
    (mapping-end pre.1.lines.1 args.out.now args.prefix.now args.i loop-test.false
    (loop.invariant.2 pre.1.lines.0 pre.1.lines.1)))
    put_byte.ensures c.in_ok-m.was)

pub shape_of-t : goal.shape_of-t
shape_of-t c = c.loop-k.invariant.1

pub returns : goal.returns
returns c =
    let args = c.args in
    let loop = c.loop-k in
    let loop-test = c.loop-k-test in
    let put_byte = c.put_byte in
    λ cs h. rest-done refl
    (rest-next []
    (rest-as (opened _ c.if-not-begun.false)
    (mapping-end h args.out.now args.prefix.now args.i loop-test.false (loop.invariant.2 cs h)))
    put_byte.ensures c.in_ok-m.was)
