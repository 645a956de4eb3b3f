use Rattle.convert_values.proofs.Texts.{next-byte, next-end, next-bad}
use Rattle.convert_values.proofs.next_is.Goals as goal

pub returns-in-Byte : goal.returns-in-Byte
returns-in-Byte c =
    next-byte c.args.s.now c.args.at c.args.c c.in-Byte.d c.in-Byte.e _ _ c.next_char.ensures c.requires c.in-Byte.is c.next_if.ensures

pub returns-in-Bad : goal.returns-in-Bad
returns-in-Bad c = next-bad c.args.s.now c.args.at c.args.c _ c.next_char.ensures c.requires c.in-Bad.is

pub returns-in-End : goal.returns-in-End
returns-in-End c = next-end c.args.s.now c.args.at c.args.c _ c.next_char.ensures c.in-End.is
