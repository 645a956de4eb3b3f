use mathlib.Core.Path.{refl}
use Rattle.convert_entry.proofs.Entry.{clear-eight}
use Rattle.class_line.proofs.Lines.{numbered}
use Rattle.from_card_classes.proofs.Names.{coded}
use Rattle.from_card_classes.proofs.Passing.{next-line}
use borrow.Author.Rules.{rules}
use Rattle.from_card_classes.proofs.next_line.Goals as goal

pub scan_rows-a-requires : goal.scan_rows-a-requires
scan_rows-a-requires c = (clear-eight, c.requires.4)

pub judge_line-judged-requires : goal.judge_line-judged-requires
judge_line-judged-requires c =
    (c.requires.0, record { wide = record { counts = search rules; froms = search rules; tos = search rules }; row = c.scan_rows-a.ensures; sound = c.requires.4 }, coded c.args.s.now c.args.t.now c.name_code-code.result c.name_code-code.ensures)

pub class_numbered-class-requires : goal.class_numbered-class-requires
class_numbered-class-requires c =
    (record { wide = record { counts = search rules; froms = search rules; tos = search rules }; row = c.scan_rows-a.ensures; sound = c.requires.4 }, c.requires.5, numbered c.args.s.now c.args.t.now c.name_code-code.result _ c.name_code-code.ensures refl)

pub pass_line-requires : goal.pass_line-requires
pass_line-requires c =
    (c.requires.1, c.requires.2, c.requires.3, c.class_numbered-class.ensures.within)

pub returns : goal.returns
returns c =
    next-line (coded c.args.s.now c.args.t.now c.name_code-code.result c.name_code-code.ensures) c.judge_line-judged.ensures c.class_numbered-class.ensures c.pass_line.ensures c.requires.1
