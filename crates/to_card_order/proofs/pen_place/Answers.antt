use native.Mathlib.Omega.{arith}
use Rattle.line_pen.proofs.Laws.{pens-length}
use Rattle.to_card_order.proofs.Places.{inks-semi, inks-low, inks-high, inks-unmarked, inks-values}
use Rattle.to_card_order.proofs.pen_place.Goals as goal

pub shape_of-out-then-place-eq59 : goal.shape_of-out-then-place-eq59
shape_of-out-then-place-eq59 c = pens-length c.pen_byte-p.ensures

pub returns-then-place-eq59 : goal.returns-then-place-eq59
returns-then-place-eq59 c =
    let args = c.args in
    let if1 = c.if-place-eq59 in
    let pen-byte = c.pen_byte-p in
    inks-semi args.s.now args.at args.marks.now args.style args.mark args.place args.begun args.out.now args.column
    if1.true pen-byte.result _ pen-byte.ensures

pub returns-then-place-lt48 : goal.returns-then-place-lt48
returns-then-place-lt48 c =
    let args = c.args in
    inks-low args.s.now args.at args.marks.now args.style args.mark args.place args.begun args.out.now args.column
    c.if-place-eq59.false c.if-place-lt48.true

pub returns-then-kind-ge-COUNT : goal.returns-then-kind-ge-COUNT
returns-then-kind-ge-COUNT c =
    let args = c.args in
    inks-high args.s.now args.at args.marks.now args.style args.mark args.place args.begun args.out.now args.column
    c.if-place-eq59.false c.if-place-lt48.false c.if-kind-ge-COUNT.true

pub returns-then-marks-kind-eq0 : goal.returns-then-marks-kind-eq0
returns-then-marks-kind-eq0 c =
    let args = c.args in
    let if1 = c.if-place-eq59 in
    let if2 = c.if-place-lt48 in
    inks-unmarked args.s.now args.at args.marks.now args.style args.mark args.place args.begun args.out.now
    args.column if1.false if2.false (omega (arith, c.if-kind-ge-COUNT.false)) c.if-marks-kind-eq0.true

pub pen_listed-requires : goal.pen_listed-requires
pen_listed-requires c =
    record { at_in_bounds = c.requires.at_in_bounds; in_bounds = c.requires.in_bounds; in_bounds_2 = c.requires.in_bounds_2; rows_from = c.requires.rows_from }

pub shape_of-out : goal.shape_of-out
shape_of-out c = pens-length c.pen_listed.ensures.pens

pub returns : goal.returns
returns c =
    let args = c.args in
    let if1 = c.if-place-eq59 in
    let if2 = c.if-place-lt48 in
    let if3 = c.if-kind-ge-COUNT in
    let pen-listed = c.pen_listed in
    inks-values args.s.now args.at args.marks.now args.style args.mark args.place args.begun args.out.now args.column
    if1.false if2.false (omega (arith, if3.false)) pen-listed.result _ pen-listed.ensures
