use Rattle.json_access.proofs.First.{is-array, is-object, is-string, is_true, is_false, is-null, is_number}
use Rattle.json_access.proofs.Past.{kind-past}
use Rattle.json_access.proofs.kind_at.Goals as goal

pub returns-then-at-s : goal.returns-then-at-s
returns-then-at-s c = kind-past c.args.s.now c.args.at c.if-at-s.true _

pub returns-then-b-eq-LEFT_BRACKET : goal.returns-then-b-eq-LEFT_BRACKET
returns-then-b-eq-LEFT_BRACKET c = is-array c.args.s.now c.args.at c.skip_space-i.result c.look-b.result c.skip_space-i.ensures c.look-b.ensures.0 c.if-b-eq-LEFT_BRACKET.true

pub returns-then-b-eq-LEFT_BRACE : goal.returns-then-b-eq-LEFT_BRACE
returns-then-b-eq-LEFT_BRACE c =
    let args = c.args in
    let skip-space = c.skip_space-i in
    let look = c.look-b in
    is-object args.s.now args.at skip-space.result look.result skip-space.ensures look.ensures.0 c.if-b-eq-LEFT_BRACKET.false
    c.if-b-eq-LEFT_BRACE.true

pub returns-then-b-eq-QUOTE : goal.returns-then-b-eq-QUOTE
returns-then-b-eq-QUOTE c =
    let args = c.args in
    let skip-space = c.skip_space-i in
    let look = c.look-b in
    is-string args.s.now args.at skip-space.result look.result skip-space.ensures look.ensures.0 c.if-b-eq-LEFT_BRACKET.false
    c.if-b-eq-LEFT_BRACE.false c.if-b-eq-QUOTE.true

pub returns-then-b-eq-LETTER_T : goal.returns-then-b-eq-LETTER_T
returns-then-b-eq-LETTER_T c =
    let args = c.args in
    let skip-space = c.skip_space-i in
    let look = c.look-b in
    let if2 = c.if-b-eq-LEFT_BRACKET in
    is_true args.s.now args.at skip-space.result look.result skip-space.ensures look.ensures.0 if2.false
    c.if-b-eq-LEFT_BRACE.false c.if-b-eq-QUOTE.false c.if-b-eq-LETTER_T.true

pub returns-then-b-eq-LETTER_F : goal.returns-then-b-eq-LETTER_F
returns-then-b-eq-LETTER_F c =
    let args = c.args in
    let skip-space = c.skip_space-i in
    let look = c.look-b in
    let if2 = c.if-b-eq-LEFT_BRACKET in
    let if3 = c.if-b-eq-LEFT_BRACE in
    is_false args.s.now args.at skip-space.result look.result skip-space.ensures look.ensures.0 if2.false if3.false
    c.if-b-eq-QUOTE.false c.if-b-eq-LETTER_T.false c.if-b-eq-LETTER_F.true

pub returns-then-b-eq-LETTER_N : goal.returns-then-b-eq-LETTER_N
returns-then-b-eq-LETTER_N c =
    let args = c.args in
    let skip-space = c.skip_space-i in
    let look = c.look-b in
    let if2 = c.if-b-eq-LEFT_BRACKET in
    let if3 = c.if-b-eq-LEFT_BRACE in
    let if4 = c.if-b-eq-QUOTE in
    is-null args.s.now args.at skip-space.result look.result skip-space.ensures look.ensures.0 if2.false if3.false
    if4.false c.if-b-eq-LETTER_T.false c.if-b-eq-LETTER_F.false c.if-b-eq-LETTER_N.true

pub returns : goal.returns
returns c =
    let args = c.args in
    let skip-space = c.skip_space-i in
    let look = c.look-b in
    let if2 = c.if-b-eq-LEFT_BRACKET in
    let if3 = c.if-b-eq-LEFT_BRACE in
    let if4 = c.if-b-eq-QUOTE in
    is_number args.s.now args.at skip-space.result look.result skip-space.ensures look.ensures.0 if2.false if3.false
    if4.false c.if-b-eq-LETTER_T.false c.if-b-eq-LETTER_F.false c.if-b-eq-LETTER_N.false
