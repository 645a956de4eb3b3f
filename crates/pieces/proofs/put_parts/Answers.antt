use Rattle.output.proofs.Laws.{failed}
use Rattle.std.proofs.Common.{sym, ap, rules}
use Rattle.output.proofs.Rests.{rest_all, rest-as, rest-next, rest-stop, rest-done, rest-fit}
use Rattle.output.proofs.Laws.{puts-as}
use Rattle.pieces.specs.Given.{written}
use Rattle.pieces.proofs.Writing.{left-all, left_one, left_out}
use Rattle.pieces.proofs.put_parts.Goals as goal

pub loop-k-init : goal.loop-k-init
loop-k-init c = rest-as (sym (left-all c.args.bytes.now c.args.starts.now c.args.writer c.args.n)) (rest_all _ _)

pub returns-in_err-m : goal.returns-in_err-m
returns-in_err-m c =
    failed c.from_residual.ensures.0
    (rest-stop _ (rest-as (left_one c.args.bytes.now c.args.starts.now c.args.writer c.loop-k.k c.args.n c.loop-k-test.true) c.loop-k.invariant)
    (puts-as (ap (written c.args.writer) c.line_at.ensures) c.put_part.ensures) c.in_err-m.was)

pub overflow_add-at : goal.overflow_add-at
overflow_add-at c =
    rest-fit
    (rest-next _ (rest-as (left_one c.args.bytes.now c.args.starts.now c.args.writer c.loop-k.k c.args.n c.loop-k-test.true) c.loop-k.invariant)
    (puts-as (ap (written c.args.writer) c.line_at.ensures) c.put_part.ensures) c.in_ok-m.was)
    (search rules)

pub loop-k-preserved : goal.loop-k-preserved
loop-k-preserved c =
    rest-next _ (rest-as (left_one c.args.bytes.now c.args.starts.now c.args.writer c.loop-k.k c.args.n c.loop-k-test.true) c.loop-k.invariant)
    (puts-as (ap (written c.args.writer) c.line_at.ensures) c.put_part.ensures) c.in_ok-m.was

pub returns : goal.returns
returns c = rest-done (left_out c.args.bytes.now c.args.starts.now c.args.writer c.loop-k.k c.args.n c.loop-k-test.false) c.loop-k.invariant
