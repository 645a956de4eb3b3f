use mathlib.Core.Path.{sym}
use Rattle.line_class.proofs.Odd.{or-none}
use Rattle.from_card_garbled.proofs.is_garbled_in.Goals as goal

pub returns-then-clean : goal.returns-then-clean
returns-then-clean c = rw (c.if-clean.true, c.is_utf8.ensures) (sym (or-none _))

pub returns : goal.returns
returns c = rw c.if-clean.false c.is_garbled.ensures
