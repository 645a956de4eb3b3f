use Rattle.stream_reader.proofs.Run.{feed-all, turn_end, turn-go, turn-halt}
use Rattle.line_frame.proofs.Physical.{lf-from, lf-within}
use native.Mathlib.Omega.{arith}
use borrow.Author.Tests.{eqb-true, eqb-false}
use mathlib.Core.Path.{refl, sym, ap, ◌∙◌}
use Rattle.stream_reader.proofs.State.feed.Goals as goal

pub loop-i-init : goal.loop-i-init
loop-i-init c = (omega arith, refl, refl)

pub slice_bounds-copy_in-count : goal.slice_bounds-copy_in-count
slice_bounds-copy_in-count c = lf-from c.args.piece.now c.loop-i.i _ c.lf_at-e.ensures

pub slice_bounds-copy_in-start : goal.slice_bounds-copy_in-start
slice_bounds-copy_in-start c = lf-from c.args.piece.now c.loop-i.i _ c.lf_at-e.ensures

pub slice_bounds-copy_in-end : goal.slice_bounds-copy_in-end
slice_bounds-copy_in-end c = lf-within c.args.piece.now c.loop-i.i _ c.lf_at-e.ensures c.loop-i-test.true

pub slice_bounds-along-count : goal.slice_bounds-along-count
slice_bounds-along-count c = lf-from c.args.piece.now c.loop-i.i _ c.lf_at-e.ensures

pub slice_bounds-along-start : goal.slice_bounds-along-start
slice_bounds-along-start c = lf-from c.args.piece.now c.loop-i.i _ c.lf_at-e.ensures

pub slice_bounds-along-end : goal.slice_bounds-along-end
slice_bounds-along-end c =
    let args = c.args in
    let loop = c.loop-i in
    let loop-test = c.loop-i-test in
    let lf-at = c.lf_at-e in
    lf-within args.piece.now loop.i _ lf-at.ensures loop-test.true

pub shape_of-card-then-e-piece : goal.shape_of-card-then-e-piece
shape_of-card-then-e-piece c = c.copy_in.auto.card ∙ c.loop-i.invariant.1

pub returns-then-e-piece : goal.returns-then-e-piece
returns-then-e-piece c =
    let args = c.args in
    let loop = c.loop-i in
    let lf-at = c.lf_at-e in
    let copy-in = c.copy_in in
    let e = turn_end args.self args.card.now args.piece.now loop.s loop.card loop.i loop.invariant.2 _ lf-at.ensures _
    copy-in.ensures _ c.along-s.ensures c.if-e-piece.true in record { value = ap (λ x. x.0) e; card_after = ap (λ x. x.1) e }

pub overflow_add-i : goal.overflow_add-i
overflow_add-i c = omega (arith, c.if-e-piece.false, c.well_formed.1)

pub shape_of-card-then-not-is_more : goal.shape_of-card-then-not-is_more
shape_of-card-then-not-is_more c =
    let loop = c.loop-i in
    let copy-in = c.copy_in in
    let end_line = c.end_line in
    end_line.auto.card ∙ copy-in.auto.card ∙ loop.invariant.1

pub returns-then-not-is_more : goal.returns-then-not-is_more
returns-then-not-is_more c =
    let args = c.args in
    let loop = c.loop-i in
    let lf-at = c.lf_at-e in
    let copy-in = c.copy_in in
    let along = c.along-s in
    let if1 = c.if-e-piece in
    let kind = c.kind-k in
    let verdict = c.verdict-w in
    let bump = c.bump-l in
    let end_line = c.end_line in
    let e = turn-halt args.self args.card.now args.piece.now loop.s loop.card loop.i loop.invariant.2 _ lf-at.ensures _
    copy-in.ensures _ along.ensures if1.false _ kind.ensures _ verdict.ensures _ end_line.ensures _
    c.next_line-s.ensures (eqb-false _ _ (sym c.is_more.ensures ∙ c.if-not-is_more.true)) _ bump.ensures _ c.told.ensures in record { value = ap (λ x. x.0) e; card_after = ap (λ x. x.1) e }

pub loop-i-smaller : goal.loop-i-smaller
loop-i-smaller c =
    let args = c.args in
    let loop = c.loop-i in
    let loop-test = c.loop-i-test in
    let lf-at = c.lf_at-e in
    let if1 = c.if-e-piece in
    omega (arith, if1.false, loop-test.true, lf-from args.piece.now loop.i _ lf-at.ensures)

pub loop-i-preserved : goal.loop-i-preserved
loop-i-preserved c =
    let args = c.args in
    let loop = c.loop-i in
    let lf-at = c.lf_at-e in
    let copy-in = c.copy_in in
    let along = c.along-s in
    let if1 = c.if-e-piece in
    let kind = c.kind-k in
    let verdict = c.verdict-w in
    let end_line = c.end_line in (
      omega (arith, if1.false),
      end_line.auto.card ∙ copy-in.auto.card ∙ loop.invariant.1,
      turn-go args.self args.card.now args.piece.now loop.s loop.card loop.i loop.invariant.2 _ lf-at.ensures _ copy-in.ensures _ along.ensures if1.false _ kind.ensures _ verdict.ensures _ end_line.ensures _ c.next_line-s.ensures (eqb-true _ _ (sym c.is_more.ensures ∙ c.if-not-is_more.false)),
    )

pub shape_of-card : goal.shape_of-card
shape_of-card c = c.loop-i.invariant.1

pub returns : goal.returns
returns c =
    let e = feed-all c.args.self c.args.card.now c.args.piece.now c.loop-i.s c.loop-i.card c.loop-i.i c.loop-i.invariant.2 c.loop-i-test.false in
    record { value = ap (λ x. x.0) e; card_after = ap (λ x. x.1) e }
