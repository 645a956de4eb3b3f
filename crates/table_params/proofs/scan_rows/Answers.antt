use borrow.Author.Rules.{rules}
use mathlib.Core.Path.{refl}
use native.Mathlib.Omega.{arith}
use Rattle.table_params.proofs.Notes.{going_start, going_on, going-all}
use Rattle.table_params.proofs.scan_rows.Goals as goal

pub loop-k-init : goal.loop-k-init
loop-k-init c = going_start c.args.s.now c.args.t.now c.requires.0

pub note_row-requires : goal.note_row-requires
note_row-requires c =
    let kind-of = c.kind_of-m in
    (kind-of.ensures.1, c.loop-k.invariant.wide, omega (arith, c.loop-k.invariant.few kind-of.result, c.loop-k-test.true, c.requires.1.few))

pub loop-k-preserved : goal.loop-k-preserved
loop-k-preserved c =
    let pre = c.requires.1 in
    let loop = c.loop-k in
    going_on loop.invariant pre c.loop-k-test.true _ c.kind_of-m.ensures.0 c.note_row.ensures refl (pre.rows.value loop.k c.loop-k-test.true)
    (search rules) (search rules) (search rules)

pub shape_of-counts : goal.shape_of-counts
shape_of-counts c = c.loop-k.invariant.counts

pub shape_of-froms : goal.shape_of-froms
shape_of-froms c = c.loop-k.invariant.froms

pub shape_of-tos : goal.shape_of-tos
shape_of-tos c = c.loop-k.invariant.tos

pub returns : goal.returns
returns c = going-all c.args.s.now c.args.t.now c.loop-k.invariant (omega (arith, c.loop-k-test.false, c.loop-k.auto.k-end))
