use native.Mathlib.Omega.{arith}
use Rattle.json_read.proofs.Laws.{too_large, fits}
use Rattle.json_read.proofs.Words.{answered}
use Rattle.json_open.proofs.read_indexed.Goals as goal

pub returns-then-s-gt-ROOM : goal.returns-then-s-gt-ROOM
returns-then-s-gt-ROOM c =
    let s = c.args.s.now in
    let said = answered 16 s (λ i. omega (arith, c.type_inv.s i)) (too_large 16 s c.if-s-gt-ROOM.true) in
    record { result_value = said.0; in_words = said.1; opens = tt }

pub returns : goal.returns
returns c =
    let s = c.args.s.now in
    let said = answered 16 s (λ i. omega (arith, c.type_inv.s i)) (fits 16 s c.if-s-gt-ROOM.false c.read_in.ensures.result_value) in
    record { result_value = said.0; in_words = said.1; opens = c.read_in.ensures.opens }
