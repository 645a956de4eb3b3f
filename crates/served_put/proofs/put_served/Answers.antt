use Rattle.served_put.proofs.Serving.{lent-long, serves-refused, serves-written, never-full}
use Rattle.served_put.proofs.put_served.Goals as goal

pub returns-then-text-out : goal.returns-then-text-out
returns-then-text-out c =
    serves-refused c.args.out.now _ 14 0 (lent-long _ c.args.text.now c.if-text-out.true)

pub returns-in_default : goal.returns-in_default
returns-in_default c = never-full _ _ _ _ c.put_text.ensures c.in_default.is c.if-text-out.false

pub returns : goal.returns
returns c =
    serves-written c.args.out.now c.args.text.now _ _ _ c.if-text-out.false c.put_text.ensures c.in-Ok.is
