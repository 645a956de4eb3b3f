use Rattle.convert_entry.proofs.Entry.{clear-eight}
use Rattle.to_card_kept.proofs.Entry.{tells-kept}
use native.Mathlib.Omega.{arith}
use borrow.Author.Rules.{rules}
use Rattle.to_card_kept.proofs.is_kept_line.Goals as goal

pub scan_rows-requires : goal.scan_rows-requires
scan_rows-requires c = (clear-eight, c.requires.sound.0)

pub class_line-class-requires : goal.class_line-class-requires
class_line-class-requires c =
    let scan-rows = c.scan_rows in
    (record { wide = record { counts = search rules; froms = search rules; tos = search rules }; row = scan-rows.ensures; sound = c.requires.sound.0 }, c.requires.sound.1)

pub is_kept_class-kept-requires : goal.is_kept_class-kept-requires
is_kept_class-kept-requires c =
    record {
      map_slots_in_bounds = (omega (arith, c.requires.sound.2), omega (arith, c.requires.sound.1.fits, c.class_line-class.auto.scratch), c.class_line-class.ensures.within);
      indexes = c.requires.indexes;
    }

pub returns : goal.returns
returns c =
    let class-line = c.class_line-class in
    let is-kept-class = c.is_kept_class-kept in
    record { tells_kept = tells-kept is-kept-class.result class-line.ensures is-kept-class.ensures; asked_bound = c.questions-asked.ensures }
