use Rattle.to_card_name.proofs.Members.{apart-no-one, apart-no-other, apart-told}
use Rattle.to_card_name.proofs.apart_in.Goals as goal

pub returns-then-marks-one-eq0 : goal.returns-then-marks-one-eq0
returns-then-marks-one-eq0 c =
    let args = c.args in
    apart-no-one args.s.now args.at args.marks.now args.one args.other c.requires.one_lt_part_count c.if-marks-one-eq0.true

pub returns-then-marks-other-eq0 : goal.returns-then-marks-other-eq0
returns-then-marks-other-eq0 c =
    let args = c.args in
    apart-no-other args.s.now args.at args.marks.now args.one args.other c.requires.other_lt_part_count c.if-marks-other-eq0.true

pub are_apart-requires : goal.are_apart-requires
are_apart-requires c =
    record { at_in_bounds = c.requires.at_in_bounds; in_bounds = c.requires.in_bounds; in_bounds_2 = c.requires.in_bounds_2; rows_from = c.requires.rows_from }

pub returns : goal.returns
returns c =
    let args = c.args in
    apart-told args.s.now args.at args.marks.now args.one args.other c.are_apart.result c.are_apart.ensures
