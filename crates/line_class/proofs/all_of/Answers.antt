use mathlib.Core.Path.{refl, sym, ◌∙◌}
use Rattle.line_class.proofs.Runs.{all-not, all-later, all-out}
use Rattle.line_class.proofs.Agree.{all-by-class}
use Rattle.line_class.proofs.all_of.Goals as goal

pub loop-b-init : goal.loop-b-init
loop-b-init c = refl

pub returns-then-not-marked : goal.returns-then-not-marked
returns-then-not-marked c =
    let args = c.args in
    let shared-slice-known = c.shared_slice_known-1 in
    let classes = c.classes-table in
    let bit = c.bit-mask in
    let loop = c.loop-b in
    let loop-test = c.loop-b-test in
    sym (all-not _ args.s.now loop.b-index loop-test.true (sym c.marked.ensures ∙ c.if-not-marked.true)) ∙ loop.invariant ∙
    all-by-class _ classes.ensures args.class _ bit.ensures args.s.now shared-slice-known.given

pub loop-b-preserved : goal.loop-b-preserved
loop-b-preserved c =
    let args = c.args in
    let loop = c.loop-b in
    let loop-test = c.loop-b-test in
    sym (all-later _ args.s.now loop.b-index loop-test.true (sym c.marked.ensures ∙ c.if-not-marked.false)) ∙ loop.invariant

pub returns : goal.returns
returns c =
    sym (all-out _ c.args.s.now c.loop-b.b-index c.loop-b-test.false) ∙ c.loop-b.invariant
    ∙ all-by-class _ c.classes-table.ensures c.args.class _ c.bit-mask.ensures c.args.s.now c.type_inv.s
