use Rattle.output.proofs.Laws.{puts-as}
use Rattle.convert_put.proofs.Writing.{head-open, head-contexts, head-features}
use Rattle.convert_put.proofs.put_flag_head.Goals as goal

pub returns-then-begun : goal.returns-then-begun
returns-then-begun c = puts-as (head-open _ _ c.if-begun.true) c.put_byte.ensures

pub returns-then-c-lt-CONTEXTS : goal.returns-then-c-lt-CONTEXTS
returns-then-c-lt-CONTEXTS c = puts-as (head-contexts _ _ c.if-begun.false c.if-c-lt-CONTEXTS.true) c.put_text.ensures

pub returns : goal.returns
returns c = puts-as (head-features _ _ c.if-begun.false c.if-c-lt-CONTEXTS.false) c.put_text-2.ensures
