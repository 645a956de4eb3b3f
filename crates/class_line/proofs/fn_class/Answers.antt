use Rattle.class_line.proofs.Answers.{of-full, of-dropped, of-kept-full}
use Rattle.class_line.proofs.fn_class.Goals as goal

pub returns-then-k-eq-FULL : goal.returns-then-k-eq-FULL
returns-then-k-eq-FULL c =
    of-full c.args.s.now c.args.t.now
    c.requires.1 c.args.full
    c.full_class-k.result c.full_class-k.ensures c.if-k-eq-FULL.true

pub returns-then-k-eq-DROPPED : goal.returns-then-k-eq-DROPPED
returns-then-k-eq-DROPPED c =
    of-dropped c.args.s.now
    c.args.t.now c.requires.1
    c.args.full c.full_class-k.result c.full_class-k.ensures
    c.if-k-eq-DROPPED.true

pub returns : goal.returns
returns c =
    of-kept-full c.args.s.now
    c.args.t.now c.requires.1
    c.args.full c.full_class-k.result c.full_class-k.ensures
    c.if-k-eq-FULL.false c.if-k-eq-DROPPED.false
