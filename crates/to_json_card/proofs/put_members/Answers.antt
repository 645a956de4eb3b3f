use Rattle.output.proofs.Laws.{failed}
use borrow.Author.Rules.{rules}
use mathlib.Core.Path.{refl, ap}
use Prim.Native.Nat.{◌-◌}
use native.Mathlib.Nat.{le_refl}
use native.Mathlib.Omega.{arith}
use lib.ListN.{length}
use Rattle.output.proofs.Rests.{rest-done, rest_in, rest-fit, rest-same}
use Rattle.output.proofs.Rows.{length-puts}
use Rattle.to_json_card.proofs.Members.{members-start, members-end, members-skip, has-member, members-stop, members-next, line-short}
use Rattle.to_json_card.proofs.put_members.Goals as goal

pub loop-k-init : goal.loop-k-init
loop-k-init c = (omega arith, refl, refl, λ cs h. members-start h c.args.out.now)

pub bounds-lines-k : goal.bounds-lines-k
bounds-lines-k c = omega (arith, c.requires.lines.1.wide, c.loop-k-test.true)

pub loop-k-preserved-then-not-is_of : goal.loop-k-preserved-then-not-is_of
loop-k-preserved-then-not-is_of c =
    let loop = c.loop-k in
    let loop-test = c.loop-k-test in
    let is-of = c.is_of in (
      omega arith,
      loop.invariant.1,
      loop.invariant.2,
      λ cs h. members-skip h loop.k loop-test.true is-of.result is-of.ensures c.if-not-is_of.true (loop.invariant.3 cs h),
    )

pub slice_bounds-put_member_turn-count : goal.slice_bounds-put_member_turn-count
slice_bounds-put_member_turn-count c =
    let pre = c.requires in
    let loop = c.loop-k in
    rest_in (loop.invariant.3 pre.lines.0 pre.lines.1)

pub slice_bounds-put_member_turn-start : goal.slice_bounds-put_member_turn-start
slice_bounds-put_member_turn-start c =
    let pre = c.requires in
    let loop = c.loop-k in
    rest_in (loop.invariant.3 pre.lines.0 pre.lines.1)

pub slice_bounds-put_member_turn-end : goal.slice_bounds-put_member_turn-end
slice_bounds-put_member_turn-end c = le_refl _

pub put_member_turn-requires : goal.put_member_turn-requires
put_member_turn-requires c =
    let args = c.args in
    let pre = c.requires in
    let loop = c.loop-k in
    let loop-test = c.loop-k-test in
    let is-of = c.is_of in
    let line_at_lem = c.line_at-s in (
      omega (arith, loop.invariant.1, pre.parts),
      omega (arith, ap length line_at_lem.ensures, line-short args.lines.scratch.now args.lines.starts.now loop.k (length args.text.now) pre.room, loop.invariant.2),
      has-member pre.lines.1 loop.k loop-test.true is-of.result is-of.ensures c.if-not-is_of.false line_at_lem.ensures,
    )

pub returns-in_err-m : goal.returns-in_err-m
returns-in_err-m c =
    let loop = c.loop-k in
    let loop-test = c.loop-k-test in
    let is-of = c.is_of in
    let line_at_lem = c.line_at-s in
    let put-member-turn = c.put_member_turn in
    λ cs h. failed c.from_residual.ensures.0
    (members-stop h loop.k loop-test.true is-of.result is-of.ensures c.if-not-is_of.false (loop.invariant.3 cs h)
    line_at_lem.ensures put-member-turn.ensures c.in_err-m.was)

pub overflow_add-at : goal.overflow_add-at
overflow_add-at c =
    let good = c.well_formed in
    let pre = c.requires in
    let loop = c.loop-k in
    let loop-test = c.loop-k-test in
    let is-of = c.is_of in
    let line_at_lem = c.line_at-s in
    let put-member-turn = c.put_member_turn in
    rest-fit
    (members-next pre.lines.1 loop.k loop-test.true is-of.result is-of.ensures c.if-not-is_of.false
    (loop.invariant.3 pre.lines.0 pre.lines.1) line_at_lem.ensures put-member-turn.ensures _ c.in_ok-m.was)
    good.0.0

pub loop-k-preserved : goal.loop-k-preserved
loop-k-preserved c =
    let loop = c.loop-k in
    let loop-test = c.loop-k-test in
    let is-of = c.is_of in
    let line_at_lem = c.line_at-s in
    let put-member-turn = c.put_member_turn in (
      omega arith,
      search rules,
      search rules,
      λ cs h. members-next h loop.k loop-test.true is-of.result is-of.ensures c.if-not-is_of.false (loop.invariant.3 cs h) line_at_lem.ensures put-member-turn.ensures _ c.in_ok-m.was,
    )

pub shape_of-out : goal.shape_of-out
shape_of-out c = rest-same (c.loop-k.invariant.3 c.requires.lines.0 c.requires.lines.1)

pub shape_of-t : goal.shape_of-t
shape_of-t c = c.loop-k.invariant.1

pub shape_of-text : goal.shape_of-text
shape_of-text c = c.loop-k.invariant.2

pub returns : goal.returns
returns c = λ cs h. rest-done (members-end h c.loop-k.k c.loop-k-test.false) (c.loop-k.invariant.3 cs h)
