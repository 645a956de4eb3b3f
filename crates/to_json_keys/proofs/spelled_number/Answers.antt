use native.Mathlib.Omega.{arith}
use Rattle.to_json_keys.proofs.Spelled.{spells-empty, spells-low, spells-high, spells-below, spells-above, spells-longer, spells-over, spells-it, one-read, digit-read}
use Rattle.to_json_keys.proofs.spelled_number.Goals as goal

pub returns-then-d-eq0 : goal.returns-then-d-eq0
returns-then-d-eq0 c = spells-empty c.args.d.now c.if-d-eq0.true

pub returns-then-first-lt49 : goal.returns-then-first-lt49
returns-then-first-lt49 c = spells-low c.args.d.now c.if-first-lt49.true

pub returns-then-first-gt57 : goal.returns-then-first-gt57
returns-then-first-gt57 c = spells-high c.args.d.now c.if-first-gt57.true

pub digit-n-requires : goal.digit-n-requires
digit-n-requires c = omega arith

pub loop-i-init : goal.loop-i-init
loop-i-init c = (omega arith, omega (arith, c.digit-n.ensures), omega (arith, c.digit-n.ensures), one-read c.args.d.now c.digit-n.result (omega arith) c.digit-n.ensures (omega (arith, c.digit-n.ensures)))

pub returns-then-b-lt48 : goal.returns-then-b-lt48
returns-then-b-lt48 c = spells-below c.args.d.now c.loop-i.i c.loop-i-test.true c.if-b-lt48.true

pub returns-then-b-gt57 : goal.returns-then-b-gt57
returns-then-b-gt57 c = spells-above c.args.d.now c.loop-i.i c.loop-i-test.true c.if-b-gt57.true

pub returns-then-n-gt-TENTH : goal.returns-then-n-gt-TENTH
returns-then-n-gt-TENTH c =
    let args = c.args in
    let loop = c.loop-i in
    let loop-test = c.loop-i-test in
    spells-longer args.d.now loop.n loop.i loop.invariant.3 loop-test.true c.if-n-gt-TENTH.true

pub overflow_mul-n : goal.overflow_mul-n
overflow_mul-n c = omega arith

pub digit-requires : goal.digit-requires
digit-requires c = omega arith

pub overflow_add-n : goal.overflow_add-n
overflow_add-n c = omega (arith, c.digit.ensures)

pub loop-i-preserved : goal.loop-i-preserved
loop-i-preserved c =
    let args = c.args in
    let loop = c.loop-i in
    let loop-test = c.loop-i-test in (
      omega arith,
      omega arith,
      omega (arith, c.digit.ensures),
      digit-read args.d.now loop.n c.digit.result loop.i loop.invariant.3 loop.invariant.1 loop-test.true c.digit.ensures (omega (arith, c.digit.ensures)),
    )

pub returns-then-n-gt-LAST : goal.returns-then-n-gt-LAST
returns-then-n-gt-LAST c = spells-over c.args.d.now c.loop-i.n c.loop-i.i c.loop-i.invariant.3 (omega arith) c.if-n-gt-LAST.true

pub returns : goal.returns
returns c = spells-it c.args.d.now c.loop-i.n c.loop-i.i c.loop-i.invariant.3 (omega arith) (omega arith)
