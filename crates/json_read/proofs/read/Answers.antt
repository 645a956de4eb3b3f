use native.Mathlib.Omega.{arith}
use Rattle.json_read.proofs.Words.{answered}
use Rattle.json_read.proofs.Laws.{too_large, fits}
use Rattle.json_read.proofs.read.Goals as goal

pub returns-then-s-gt-ROOM : goal.returns-then-s-gt-ROOM
returns-then-s-gt-ROOM c =
    let both = answered c.args.depth c.args.s.now (λ i. omega (arith, c.type_inv.s i)) (too_large c.args.depth c.args.s.now c.if-s-gt-ROOM.true) in
    record { value = both.0; in_words = both.1 }

pub returns-then-s-le-SHORT : goal.returns-then-s-le-SHORT
returns-then-s-le-SHORT c =
    let both = answered c.args.depth c.args.s.now (λ i. omega (arith, c.type_inv.s i)) (fits c.args.depth c.args.s.now c.if-s-gt-ROOM.false c.read_sized.ensures) in
    record { value = both.0; in_words = both.1 }

pub returns : goal.returns
returns c =
    let both = answered c.args.depth c.args.s.now (λ i. omega (arith, c.type_inv.s i)) (fits c.args.depth c.args.s.now c.if-s-gt-ROOM.false c.read_sized-2.ensures) in
    record { value = both.0; in_words = both.1 }
