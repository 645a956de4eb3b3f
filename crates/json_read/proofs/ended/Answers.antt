use Rattle.json_read.proofs.Laws.{ends, goes_on}
use Rattle.json_read.proofs.ended.Goals as goal

pub returns-then-look-eq256 : goal.returns-then-look-eq256
returns-then-look-eq256 c =
    let args = c.args in
    let skip-space = c.skip_space-i in
    let look = c.look in
    ends args.s.now args.at skip-space.result skip-space.ensures look.result look.ensures.0 args.v c.if-look-eq256.true

pub returns : goal.returns
returns c =
    let args = c.args in
    let skip-space = c.skip_space-i in
    let look = c.look in
    goes_on args.s.now args.at skip-space.result skip-space.ensures look.result look.ensures.0 args.v c.if-look-eq256.false
