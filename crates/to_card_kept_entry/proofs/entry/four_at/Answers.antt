use Rattle.text.proofs.Places.{turn-as}
use Rattle.to_card_kept_entry.proofs.entry.Fours.{four-other, four-empty, opens, by-elems, four-1, four-2, four-3, four-more, four-here, four-inside}
use Rattle.to_card_kept_entry.proofs.entry.four_at.Goals as goal
use Rattle.std.specs.Prelude.{None}

pub returns-then-look-ne-LEFT_BRACKET : goal.returns-then-look-ne-LEFT_BRACKET
returns-then-look-ne-LEFT_BRACKET c =
    record { four_in = tt; tells_four = four-other c.args.s.now c.args.at _ _ c.skip_space-i.ensures c.look.ensures.0 c.if-look-ne-LEFT_BRACKET.true }

pub returns-then-look-eq-RIGHT_BRACKET : goal.returns-then-look-eq-RIGHT_BRACKET
returns-then-look-eq-RIGHT_BRACKET c =
    let a = c.args in
    let h = c.skip_space-i.ensures in
    let k = c.skip_space-j.ensures in
    record { four_in = tt; tells_four = four-empty a.s.now a.at _ _ h c.look.ensures.0 c.if-look-ne-LEFT_BRACKET.false _ _ k c.look-2.ensures.0 c.if-look-eq-RIGHT_BRACKET.true }

pub returns-in_default : goal.returns-in_default
returns-in_default c =
    let a = c.args in
    let s = a.s.now in
    let o = opens s a.at _ _ c.skip_space-i.ensures c.look.ensures.0 c.if-look-ne-LEFT_BRACKET.false _ _ c.skip_space-j.ensures c.look-2.ensures.0 c.if-look-eq-RIGHT_BRACKET.false in
    record {
      four_in = tt;
      tells_four = by-elems o None (four-1 s _ c.element_at-p.result (c.element_at-p.ensures.inside, c.element_at-p.ensures.tells_element) _ (turn-as c.separator.ensures c.in_default.is));
    }

pub returns-in_default-separator : goal.returns-in_default-separator
returns-in_default-separator c =
    let a = c.args in
    let s = a.s.now in
    let o = opens s a.at _ _ c.skip_space-i.ensures c.look.ensures.0 c.if-look-ne-LEFT_BRACKET.false _ _ c.skip_space-j.ensures c.look-2.ensures.0 c.if-look-eq-RIGHT_BRACKET.false in
    let w1 = turn-as c.separator.ensures c.in-Continue.is in
    record {
      four_in = tt;
      tells_four = by-elems o None (four-2 s _ c.element_at-p.result (c.element_at-p.ensures.inside, c.element_at-p.ensures.tells_element) _ w1 c.element_at-p2.result (c.element_at-p2.ensures.inside, c.element_at-p2.ensures.tells_element) _ (turn-as c.separator-2.ensures c.in_default-separator.is));
    }

pub returns-in_default-separator-2 : goal.returns-in_default-separator-2
returns-in_default-separator-2 c =
    let a = c.args in
    let s = a.s.now in
    let o = opens s a.at _ _ c.skip_space-i.ensures c.look.ensures.0 c.if-look-ne-LEFT_BRACKET.false _ _ c.skip_space-j.ensures c.look-2.ensures.0 c.if-look-eq-RIGHT_BRACKET.false in
    let w1 = turn-as c.separator.ensures c.in-Continue.is in
    let w2 = turn-as c.separator-2.ensures c.in-Continue-separator.is in
    record {
      four_in = tt;
      tells_four = by-elems o None (four-3 s _ c.element_at-p.result (c.element_at-p.ensures.inside, c.element_at-p.ensures.tells_element) _ w1 c.element_at-p2.result (c.element_at-p2.ensures.inside, c.element_at-p2.ensures.tells_element) _ w2 c.element_at-p3.result (c.element_at-p3.ensures.inside, c.element_at-p3.ensures.tells_element) _ (turn-as c.separator-3.ensures c.in_default-separator-2.is));
    }

pub returns-in_default-separator-3 : goal.returns-in_default-separator-3
returns-in_default-separator-3 c =
    let a = c.args in
    let s = a.s.now in
    let o = opens s a.at _ _ c.skip_space-i.ensures c.look.ensures.0 c.if-look-ne-LEFT_BRACKET.false _ _ c.skip_space-j.ensures c.look-2.ensures.0 c.if-look-eq-RIGHT_BRACKET.false in
    let w1 = turn-as c.separator.ensures c.in-Continue.is in
    let w2 = turn-as c.separator-2.ensures c.in-Continue-separator.is in
    let w3 = turn-as c.separator-3.ensures c.in-Continue-separator-2.is in
    record {
      four_in = tt;
      tells_four = by-elems o None (four-more s _ c.element_at-p.result (c.element_at-p.ensures.inside, c.element_at-p.ensures.tells_element) _ w1 c.element_at-p2.result (c.element_at-p2.ensures.inside, c.element_at-p2.ensures.tells_element) _ w2 c.element_at-p3.result (c.element_at-p3.ensures.inside, c.element_at-p3.ensures.tells_element) _ w3 c.element_at-p4.result (c.element_at-p4.ensures.inside, c.element_at-p4.ensures.tells_element) _ (turn-as c.separator-4.ensures c.in_default-separator-3.is));
    }

pub returns : goal.returns
returns c =
    let a = c.args in
    let s = a.s.now in
    let o = opens s a.at _ _ c.skip_space-i.ensures c.look.ensures.0 c.if-look-ne-LEFT_BRACKET.false _ _ c.skip_space-j.ensures c.look-2.ensures.0 c.if-look-eq-RIGHT_BRACKET.false in
    let w1 = turn-as c.separator.ensures c.in-Continue.is in
    let w2 = turn-as c.separator-2.ensures c.in-Continue-separator.is in
    let w3 = turn-as c.separator-3.ensures c.in-Continue-separator-2.is in
    let w4 = turn-as c.separator-4.ensures c.in-Break.is in
    let here = four-here s _ c.element_at-p.result (c.element_at-p.ensures.inside, c.element_at-p.ensures.tells_element) _ w1 c.element_at-p2.result (c.element_at-p2.ensures.inside, c.element_at-p2.ensures.tells_element) _ w2 c.element_at-p3.result (c.element_at-p3.ensures.inside, c.element_at-p3.ensures.tells_element) _ w3 c.element_at-p4.result (c.element_at-p4.ensures.inside, c.element_at-p4.ensures.tells_element) _ w4 _ c.place-end.ensures in
    let inside = four-inside s _ c.element_at-p.result (c.element_at-p.ensures.inside, c.element_at-p.ensures.tells_element) _ w1 c.element_at-p2.result (c.element_at-p2.ensures.inside, c.element_at-p2.ensures.tells_element) _ w2 c.element_at-p3.result (c.element_at-p3.ensures.inside, c.element_at-p3.ensures.tells_element) _ w3 c.element_at-p4.result (c.element_at-p4.ensures.inside, c.element_at-p4.ensures.tells_element) _ w4 _ c.place-end.ensures o in
    record { four_in = inside; tells_four = by-elems o _ here }
