use Rattle.output.proofs.Laws.{puts-as, start, done}
use Rattle.to_json_items.proofs.Pieces.{head-begun, head-named, head_first, head-none}
use Rattle.to_json_items.proofs.put_item_head.Goals as goal

pub returns-then-begun : goal.returns-then-begun
returns-then-begun c = puts-as (head-begun c.args.begun c.args.k c.if-begun.true) c.put_byte.ensures

pub returns-then-k-eq-UNITS_AFTER : goal.returns-then-k-eq-UNITS_AFTER
returns-then-k-eq-UNITS_AFTER c = puts-as (head-named c.args.begun c.args.k c.if-begun.false c.if-k-eq-UNITS_AFTER.true) c.put_text.ensures

pub returns-then-k-eq-UNITS_ALONE : goal.returns-then-k-eq-UNITS_ALONE
returns-then-k-eq-UNITS_ALONE c = puts-as (head_first c.args.begun c.args.k c.if-begun.false c.if-k-eq-UNITS_ALONE.true) c.put_text-then-k-eq-UNITS_ALONE.ensures

pub returns : goal.returns
returns c = puts-as (head-none c.args.begun c.args.k c.if-begun.false c.if-k-eq-UNITS_AFTER.false c.if-k-eq-UNITS_ALONE.false) (done (start _))
