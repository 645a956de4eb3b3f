use borrow.Author.Rules.{rules}
use native.Mathlib.Omega.{arith}
use Rattle.line_table.proofs.Filling.{params-start, params-end, params-off, params-many, params-bad, param-laid, params-on}
use Rattle.line_table.proofs.fill_params.Goals as goal

pub loop-at-init : goal.loop-at-init
loop-at-init c = params-start c.args.s.now c.args.at c.args.t.now c.requires.1

pub look-b-requires : goal.look-b-requires
look-b-requires c = c.loop-at.invariant.reading.to

pub overflow_add-result : goal.overflow_add-result
overflow_add-result c = omega (arith, c.look-b.ensures.1, c.if-b-eq-COLON.true)

pub shape_of-t-then-b-eq-COLON : goal.shape_of-t-then-b-eq-COLON
shape_of-t-then-b-eq-COLON c = c.loop-at.invariant.long

pub returns-then-b-eq-COLON : goal.returns-then-b-eq-COLON
returns-then-b-eq-COLON c = params-end c.loop-at.invariant c.look-b.ensures.0 c.if-b-eq-COLON.true (omega (arith, c.look-b.ensures.1, c.if-b-eq-COLON.true))

pub shape_of-t-then-b-ne-SEMICOLON : goal.shape_of-t-then-b-ne-SEMICOLON
shape_of-t-then-b-ne-SEMICOLON c = c.loop-at.invariant.long

pub returns-then-b-ne-SEMICOLON : goal.returns-then-b-ne-SEMICOLON
returns-then-b-ne-SEMICOLON c = params-off c.loop-at.invariant c.look-b.ensures.0 c.if-b-eq-COLON.false c.if-b-ne-SEMICOLON.true

pub shape_of-t-then-k-ge-PARAMS : goal.shape_of-t-then-k-ge-PARAMS
shape_of-t-then-k-ge-PARAMS c = c.loop-at.invariant.long

pub returns-then-k-ge-PARAMS : goal.returns-then-k-ge-PARAMS
returns-then-k-ge-PARAMS c = params-many c.loop-at.invariant c.look-b.ensures.0 c.if-b-ne-SEMICOLON.false (omega (arith, c.if-k-ge-PARAMS.true))

pub overflow_add-i : goal.overflow_add-i
overflow_add-i c = omega (arith, c.look-b.ensures.1, c.if-b-ne-SEMICOLON.false)

pub fill_param-requires : goal.fill_param-requires
fill_param-requires c =
    let loop = c.loop-at in
    (omega (arith, loop.invariant.long, c.requires.0), omega (arith, c.look-b.ensures.1, c.if-b-ne-SEMICOLON.false))

pub returns-in_err-laid : goal.returns-in_err-laid
returns-in_err-laid c =
    let loop = c.loop-at in
    let look = c.look-b in
    let if2 = c.if-b-ne-SEMICOLON in
    let fill-param = c.fill_param in
    rw c.from_residual.ensures (params-bad loop.invariant look.ensures.0 if2.false _ _ fill-param.ensures c.in_err-laid.was)

pub overflow_add-k : goal.overflow_add-k
overflow_add-k c = omega (arith, c.if-k-ge-PARAMS.false)

pub loop-at-smaller : goal.loop-at-smaller
loop-at-smaller c =
    let loop = c.loop-at in
    let look = c.look-b in
    let if2 = c.if-b-ne-SEMICOLON in
    let fill-param = c.fill_param in
    let v = param-laid loop.invariant look.ensures.0 if2.false _ _ fill-param.ensures c.in_ok-laid.was in
    omega (arith, v.from, v.within)

pub loop-at-preserved : goal.loop-at-preserved
loop-at-preserved c =
    let loop = c.loop-at in
    let look = c.look-b in
    let if2 = c.if-b-ne-SEMICOLON in
    let fill-param = c.fill_param in
    let if3 = c.if-k-ge-PARAMS in
    params-on loop.invariant look.ensures.0 if2.false _ _ fill-param.ensures c.in_ok-laid.was (search rules) (omega (arith, if3.false))
