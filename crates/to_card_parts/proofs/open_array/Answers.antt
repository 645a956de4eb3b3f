use Rattle.to_card_parts.proofs.Components.{opens_not, opens-empty, opens_at}
use borrow.Author.Rules.{rules}
use Rattle.to_card_parts.proofs.open_array.Goals as goal

pub returns-then-look-ne-LEFT_BRACKET : goal.returns-then-look-ne-LEFT_BRACKET
returns-then-look-ne-LEFT_BRACKET c = record {
  array_in = tt;
  opens_as = opens_not c.args.s.now c.args.at _ _ c.skip_space-i.ensures c.look.ensures.0 c.if-look-ne-LEFT_BRACKET.true;
}

pub returns-then-look-eq-RIGHT_BRACKET : goal.returns-then-look-eq-RIGHT_BRACKET
returns-then-look-eq-RIGHT_BRACKET c =
    let args = c.args in
    let skip-space = c.skip_space-i in
    let look = c.look in
    let if1 = c.if-look-ne-LEFT_BRACKET in record {
      array_in = tt;
      opens_as = opens-empty args.s.now args.at _ _ skip-space.ensures look.ensures.0 if1.false _ _ c.skip_space-j.ensures c.look-2.ensures.0 c.if-look-eq-RIGHT_BRACKET.true;
    }

pub returns : goal.returns
returns c =
    let args = c.args in
    let skip-space = c.skip_space-i in
    let look = c.look in
    let if1 = c.if-look-ne-LEFT_BRACKET in record {
      array_in = search rules;
      opens_as = opens_at args.s.now args.at _ _ skip-space.ensures look.ensures.0 if1.false _ _ c.skip_space-j.ensures c.look-2.ensures.0 c.if-look-eq-RIGHT_BRACKET.false;
    }
