use Rattle.line_pen.proofs.Laws.{pens-as}
use Rattle.to_card_members.proofs.Pointers.{pointed-tilde, pointed-slash, pointed-other}
use Rattle.to_card_members.proofs.pen_pointed.Goals as goal

pub returns-then-c-eq126 : goal.returns-then-c-eq126
returns-then-c-eq126 c = pens-as (pointed-tilde c.args.c c.if-c-eq126.true) c.pen_bytes.ensures

pub returns-then-c-eq47 : goal.returns-then-c-eq47
returns-then-c-eq47 c = pens-as (pointed-slash c.args.c c.if-c-eq126.false c.if-c-eq47.true) c.pen_bytes-then-c-eq47.ensures

pub returns : goal.returns
returns c = pens-as (pointed-other c.args.c c.if-c-eq126.false c.if-c-eq47.false) c.pen_byte.ensures
