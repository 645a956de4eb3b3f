use Rattle.class_line.proofs.Answers.{of_parts, of-kept-parts}
use Rattle.class_line.proofs.n_class.Goals as goal

pub returns-then-k-eq-PARTS : goal.returns-then-k-eq-PARTS
returns-then-k-eq-PARTS c =
    of_parts c.args.s.now c.args.t.now
    c.requires.1 c.args.parts
    c.parts_class-k.result c.parts_class-k.ensures c.if-k-eq-PARTS.true

pub returns : goal.returns
returns c =
    of-kept-parts c.args.s.now c.args.t.now
    c.requires.1 c.args.parts
    c.parts_class-k.result c.parts_class-k.ensures c.if-k-eq-PARTS.false
