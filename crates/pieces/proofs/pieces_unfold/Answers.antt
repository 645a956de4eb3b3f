use Rattle.pieces.proofs.Unfolding.{body, no-starts, no_bytes, not-one, too_many, lines-laid}
use Rattle.pieces.proofs.pieces_unfold.Goals as goal

pub returns-then-starts-lt-STARTS : goal.returns-then-starts-lt-STARTS
returns-then-starts-lt-STARTS c = no-starts _ _ _ _ _ c.if-starts-lt-STARTS.true

pub returns-then-out-card : goal.returns-then-out-card
returns-then-out-card c = no_bytes _ _ _ _ _ c.if-out-card.true

pub returns-in_default : goal.returns-in_default
returns-in_default c = not-one _ _ _ _ _ c.if-starts-lt-STARTS.false c.if-out-card.false c.frame_of.result c.in_default.is c.frame_of.ensures

pub returns-in_default-unfold : goal.returns-in_default-unfold
returns-in_default-unfold c =
    let f = body c.args.card.now c.frame_of.result c.in-Some.body c.in-Some.is c.frame_of.ensures in
    too_many _ _ _ _ _ c.if-starts-lt-STARTS.false c.if-out-card.false _ f.2 c.unfold.result c.unfold.ensures _ c.in_default-unfold.is

pub returns : goal.returns
returns c =
    let f = body c.args.card.now c.frame_of.result c.in-Some.body c.in-Some.is c.frame_of.ensures in
    lines-laid _ _ _ _ _ c.if-starts-lt-STARTS.false c.if-out-card.false _ f.2 c.unfold.result c.unfold.ensures _ c.in-Ok.is
