use Rattle.text.proofs.Places.{turn-as}
use Rattle.to_card_kept_entry.proofs.strings.Whole.{sole-one, sole_none, sole-many, sole-elem}
use Rattle.to_card_kept_entry.proofs.strings.sole_string.Goals as goal

pub returns-then-look-ne-LEFT_BRACKET : goal.returns-then-look-ne-LEFT_BRACKET
returns-then-look-ne-LEFT_BRACKET c =
    let args = c.args in
    let skip-space = c.skip_space-i in
    let look = c.look in
    sole-one args.s.now args.at skip-space.result look.result skip-space.ensures look.ensures.0 c.if-look-ne-LEFT_BRACKET.true
    c.string_in.result c.string_in.ensures

pub returns-then-look-eq-RIGHT_BRACKET : goal.returns-then-look-eq-RIGHT_BRACKET
returns-then-look-eq-RIGHT_BRACKET c =
    let args = c.args in
    let skip-space = c.skip_space-i in
    let look = c.look in
    let if1 = c.if-look-ne-LEFT_BRACKET in
    let skip-space2 = c.skip_space-j in
    let look2 = c.look-2 in
    sole_none args.s.now args.at skip-space.result look.result skip-space.ensures look.ensures.0 if1.false
    skip-space2.result look2.result skip-space2.ensures look2.ensures.0 c.if-look-eq-RIGHT_BRACKET.true

pub returns-in-Continue : goal.returns-in-Continue
returns-in-Continue c =
    let args = c.args in
    let skip-space = c.skip_space-i in
    let look = c.look in
    let if1 = c.if-look-ne-LEFT_BRACKET in
    let skip-space2 = c.skip_space-j in
    let look2 = c.look-2 in
    let if2 = c.if-look-eq-RIGHT_BRACKET in
    let separator = c.separator in
    sole-many args.s.now args.at skip-space.result look.result skip-space.ensures look.ensures.0 if1.false
    skip-space2.result look2.result skip-space2.ensures look2.ensures.0 if2.false c.element_at-p.result c.element_at-p.ensures.tells_element _
    (turn-as separator.ensures c.in-Continue.is)

pub returns-in-Break : goal.returns-in-Break
returns-in-Break c =
    let args = c.args in
    let skip-space = c.skip_space-i in
    let look = c.look in
    let if1 = c.if-look-ne-LEFT_BRACKET in
    let skip-space2 = c.skip_space-j in
    let look2 = c.look-2 in
    let if2 = c.if-look-eq-RIGHT_BRACKET in
    let separator = c.separator in
    sole-elem args.s.now args.at skip-space.result look.result skip-space.ensures look.ensures.0 if1.false
    skip-space2.result look2.result skip-space2.ensures look2.ensures.0 if2.false c.element_at-p.result c.element_at-p.ensures.tells_element _
    (turn-as separator.ensures c.in-Break.is) c.string_in-in-Break.result c.string_in-in-Break.ensures
