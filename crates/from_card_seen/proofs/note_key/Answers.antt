use native.Mathlib.Omega.{arith}
use Rattle.from_card_seen.proofs.Keys.{cut-span}
use Rattle.from_card_seen.proofs.Settling.{notes-not, notes-one}
use Rattle.from_card_seen.proofs.note_key.Goals as goal

pub returns-then-is_used : goal.returns-then-is_used
returns-then-is_used c = notes-not c.requires.0 c.is_used.result c.is_used.ensures c.if-is_used.true

pub overflow_add-at : goal.overflow_add-at
overflow_add-at c =
    let w = cut-span c.requires.4 c.requires.3 in omega (arith, w.ordered, w.within)

pub overflow_add-at-2 : goal.overflow_add-at-2
overflow_add-at-2 c =
    let w = cut-span c.requires.4 c.requires.3 in omega (arith, w.ordered, w.within)

pub returns : goal.returns
returns c =
    notes-one c.requires.0 c.is_used.result c.is_used.ensures c.if-is_used.false c.requires.1 c.args.at c.print_of-p.result c.requires.4 c.requires.3 c.print_of-p.ensures _ _ _ c.put_id.ensures.0 c.put_id.ensures.1 c.put_id.ensures.2
