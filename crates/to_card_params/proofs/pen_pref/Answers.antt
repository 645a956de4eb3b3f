use Rattle.to_card_params.proofs.Prefs.{pens-no-pref, span-past, span_none, pref-piece}
use Rattle.line_pen.proofs.Laws.{pens-as, pens-then}
use Rattle.to_card_params.proofs.pen_pref.Goals as goal

pub returns-then-e-s : goal.returns-then-e-s
returns-then-e-s c = pens-no-pref _ (span-past c.args.s.now c.args.a c.args.e c.if-e-s.true)

pub returns-then-a-e : goal.returns-then-a-e
returns-then-a-e c = pens-no-pref _ (span_none c.args.s.now c.args.a c.args.e c.if-e-s.false c.if-a-e.true)

pub returns : goal.returns
returns c =
    let args = c.args in
    let if1 = c.if-e-s in
    let if2 = c.if-a-e in
    let pen-bytes = c.pen_bytes-p in
    let pen-bytes2 = c.pen_bytes-q in
    pens-as (pref-piece args.s.now args.a args.e if1.false if2.false) (pens-then pen-bytes.ensures pen-bytes2.ensures)
