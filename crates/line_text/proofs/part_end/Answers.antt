use native.Mathlib.Omega.{arith}
use Rattle.line_text.proofs.Splitting.{part-here, part_out, part-on, char-onward}
use Rattle.line_text.proofs.part_end.Goals as goal

pub loop-i-init : goal.loop-i-init
loop-i-init c = c.joined_end-i.ensures.on

pub returns-then-c-d : goal.returns-then-c-d
returns-then-c-d c = c.loop-i.invariant _ (part-here _ c.args.s.now c.loop-i.i c.loop-i-test.true c.if-c-d.true)

pub loop-i-smaller : goal.loop-i-smaller
loop-i-smaller c = omega (arith, char-onward c.args.s.now c.loop-i.i _ c.loop-i-test.true c.char_end-e.ensures, c.joined_end-i-in-loop-i.ensures.from)

pub loop-i-preserved : goal.loop-i-preserved
loop-i-preserved c = λ e p.
    c.loop-i.invariant e (part-on _ c.args.s.now c.loop-i.i _ e c.loop-i-test.true c.if-c-d.false c.char_end-e.ensures (c.joined_end-i-in-loop-i.ensures.on e p))

pub returns : goal.returns
returns c = c.loop-i.invariant _ (part_out _ c.args.s.now c.loop-i.i c.loop-i-test.false)
