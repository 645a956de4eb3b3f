use borrow.Author.Rules.{rules}
use mathlib.Core.Path.{refl}
use Rattle.text.specs.Bytes.{between}
use Rattle.text.specs.Utf8.{start, due, broken, by_row, lead}
use Rattle.utf8.proofs.Steps.{by_row_lem}
use Rattle.utf8.proofs.due_after.Goals as goal

pub returns-then-c-lt128 : goal.returns-then-c-lt128
unfolding lead by_row between
returns-then-c-lt128 c = by_row_lem (start) 0 128 c.args.c refl (search rules) (search rules)

pub returns-then-c-lt194 : goal.returns-then-c-lt194
unfolding lead by_row between
returns-then-c-lt194 c = by_row_lem (broken) 0x80 66 c.args.c refl (search rules) (search rules)

pub returns-then-c-lt224 : goal.returns-then-c-lt224
unfolding lead by_row between
returns-then-c-lt224 c = by_row_lem (due 0x80 0xbf 0) 0xc2 30 c.args.c refl (search rules) (search rules)

pub returns-then-c-lt225 : goal.returns-then-c-lt225
unfolding lead by_row between
returns-then-c-lt225 c = by_row_lem (due 0xa0 0xbf 1) 0xe0 1 c.args.c refl (search rules) (search rules)

pub returns-then-c-lt237 : goal.returns-then-c-lt237
unfolding lead by_row between
returns-then-c-lt237 c = by_row_lem (due 0x80 0xbf 1) 0xe1 12 c.args.c refl (search rules) (search rules)

pub returns-then-c-lt238 : goal.returns-then-c-lt238
unfolding lead by_row between
returns-then-c-lt238 c = by_row_lem (due 0x80 0x9f 1) 0xed 1 c.args.c refl (search rules) (search rules)

pub returns-then-c-lt240 : goal.returns-then-c-lt240
unfolding lead by_row between
returns-then-c-lt240 c = by_row_lem (due 0x80 0xbf 1) 0xee 2 c.args.c refl (search rules) (search rules)

pub returns-then-c-lt241 : goal.returns-then-c-lt241
unfolding lead by_row between
returns-then-c-lt241 c = by_row_lem (due 0x90 0xbf 2) 0xf0 1 c.args.c refl (search rules) (search rules)

pub returns-then-c-lt244 : goal.returns-then-c-lt244
unfolding lead by_row between
returns-then-c-lt244 c = by_row_lem (due 0x80 0xbf 2) 0xf1 3 c.args.c refl (search rules) (search rules)

pub returns-then-c-lt245 : goal.returns-then-c-lt245
unfolding lead by_row between
returns-then-c-lt245 c = by_row_lem (due 0x80 0x8f 2) 0xf4 1 c.args.c refl (search rules) (search rules)

pub returns : goal.returns
unfolding lead by_row between
returns c = by_row_lem (broken) 0xf5 11 c.args.c refl (search rules) (search rules)
