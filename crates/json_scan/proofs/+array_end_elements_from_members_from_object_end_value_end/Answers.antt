use native.Mathlib.Omega.{arith}
use Rattle.text.proofs.Handed.{handed}
use Rattle.text.proofs.Places.{turn-as, turn-bad, turn-next}
use Rattle.text.proofs.Runs.{begin, onward, ended}
use Rattle.json_text.specs.Syntax.{item, pair, value}
use Rattle.json_scan.proofs.Laws.{elements-none, elements-from as elements-begin, pairs-none, pairs-from, item-sep, pair-sep, value-flat, value-array, value-object, value-scalar}
use Rattle.json_scan.proofs.+array_end_elements_from_members_from_object_end_value_end.Goals as goal

pub array_end-returns-then-look-eq-RIGHT_BRACKET : goal.array_end-returns-then-look-eq-RIGHT_BRACKET
array_end-returns-then-look-eq-RIGHT_BRACKET t c =
    let args = c.args in
    let skip-space = c.skip_space-from in
    let look = c.look in
    elements-none (value args.depth) skip-space.ensures look.result look.ensures.0 c.if-look-eq-RIGHT_BRACKET.true (omega arith)

pub array_end-returns : goal.array_end-returns
array_end-returns t c =
    let args = c.args in
    let skip-space = c.skip_space-from in
    let look = c.look in
    elements-begin (value args.depth) skip-space.ensures look.result look.ensures.0 c.if-look-eq-RIGHT_BRACKET.false c.elements_from.ensures

pub elements_from-loop-e-init : goal.elements_from-loop-e-init
elements_from-loop-e-init t c =
    let args = c.args in
    begin (item (value args.depth)) args.s.now args.at (omega arith)

pub elements_from-returns-in_err-e : goal.elements_from-returns-in_err-e
unfolding item pair
elements_from-returns-in_err-e t c = handed c.from_residual.ensures.1 (ended c.loop-e.invariant (turn-bad _ c.in_err-e.ensures))

pub elements_from-loop-e-smaller : goal.elements_from-loop-e-smaller
elements_from-loop-e-smaller t c =
    let g = c.in_ok-e.ensures in
    let h = turn-as c.separator.ensures c.in-Continue.is in
    omega (arith, g.within.0, h.within.0, h.within.1)

pub elements_from-loop-e-preserved : goal.elements_from-loop-e-preserved
elements_from-loop-e-preserved t c =
    onward c.loop-e.invariant (item-sep (value c.args.depth) c.in_ok-e.ensures (turn-as c.separator.ensures c.in-Continue.is))

pub elements_from-returns-in-Break : goal.elements_from-returns-in-Break
elements_from-returns-in-Break t c =
    ended c.loop-e.invariant (item-sep (value c.args.depth) c.in_ok-e.ensures (turn-as c.separator.ensures c.in-Break.is))

pub members_from-loop-v-init : goal.members_from-loop-v-init
members_from-loop-v-init t c =
    let args = c.args in
    begin (pair (value args.depth)) args.s.now args.at (omega arith)

pub members_from-returns-in_err-v : goal.members_from-returns-in_err-v
unfolding item pair
members_from-returns-in_err-v t c = handed c.from_residual.ensures.1 (ended c.loop-v.invariant (turn-bad _ c.in_err-v.ensures))

pub members_from-returns-in_err-e : goal.members_from-returns-in_err-e
unfolding item pair
members_from-returns-in_err-e t c =
    handed c.from_residual-in_err-e.ensures.1 (ended c.loop-v.invariant (turn-next _ c.in_ok-v.ensures λ k. turn-bad _ c.in_err-e.ensures))

pub members_from-loop-v-smaller : goal.members_from-loop-v-smaller
members_from-loop-v-smaller t c =
    let f = c.in_ok-v.ensures in
    let g = c.in_ok-e.ensures in
    let h = turn-as c.separator.ensures c.in-Continue.is in
    omega (arith, f.within.0, g.within.0, h.within.0, h.within.1)

pub members_from-loop-v-preserved : goal.members_from-loop-v-preserved
members_from-loop-v-preserved t c =
    onward c.loop-v.invariant (pair-sep (value c.args.depth) c.in_ok-v.ensures c.in_ok-e.ensures (turn-as c.separator.ensures c.in-Continue.is))

pub members_from-returns-in-Break : goal.members_from-returns-in-Break
members_from-returns-in-Break t c =
    ended c.loop-v.invariant (pair-sep (value c.args.depth) c.in_ok-v.ensures c.in_ok-e.ensures (turn-as c.separator.ensures c.in-Break.is))

pub object_end-returns-then-look-eq-RIGHT_BRACE : goal.object_end-returns-then-look-eq-RIGHT_BRACE
object_end-returns-then-look-eq-RIGHT_BRACE t c =
    let args = c.args in
    let skip-space = c.skip_space-from in
    let look = c.look in
    pairs-none (value args.depth) skip-space.ensures look.result look.ensures.0 c.if-look-eq-RIGHT_BRACE.true (omega arith)

pub object_end-returns : goal.object_end-returns
object_end-returns t c =
    let args = c.args in
    let skip-space = c.skip_space-from in
    let look = c.look in
    pairs-from (value args.depth) skip-space.ensures look.result look.ensures.0 c.if-look-eq-RIGHT_BRACE.false c.members_from.ensures

pub value_end-returns-then-depth-eq0 : goal.value_end-returns-then-depth-eq0
value_end-returns-then-depth-eq0 t c =
    let args = c.args in
    let skip-space = c.skip_space-i in
    value-flat skip-space.ensures args.depth c.if-depth-eq0.true c.scalar_end.ensures

pub value_end-returns-then-b-eq-LEFT_BRACKET : goal.value_end-returns-then-b-eq-LEFT_BRACKET
value_end-returns-then-b-eq-LEFT_BRACKET t c =
    let args = c.args in
    let skip-space = c.skip_space-i in
    let if1 = c.if-depth-eq0 in
    let look = c.look-b in
    value-array skip-space.ensures look.result look.ensures.0 args.depth if1.false c.if-b-eq-LEFT_BRACKET.true c.array_end.ensures

pub value_end-returns-then-b-eq-LEFT_BRACE : goal.value_end-returns-then-b-eq-LEFT_BRACE
value_end-returns-then-b-eq-LEFT_BRACE t c =
    let args = c.args in
    let skip-space = c.skip_space-i in
    let if1 = c.if-depth-eq0 in
    let look = c.look-b in
    let if2 = c.if-b-eq-LEFT_BRACKET in
    value-object skip-space.ensures look.result look.ensures.0 args.depth if1.false if2.false c.if-b-eq-LEFT_BRACE.true c.object_end.ensures

pub value_end-returns : goal.value_end-returns
value_end-returns t c =
    let args = c.args in
    let skip-space = c.skip_space-i in
    let look = c.look-b in
    let if2 = c.if-b-eq-LEFT_BRACKET in
    value-scalar skip-space.ensures look.result look.ensures.0 args.depth if2.false c.if-b-eq-LEFT_BRACE.false c.scalar_end-2.ensures
