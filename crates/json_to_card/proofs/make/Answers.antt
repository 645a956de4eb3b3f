use mathlib.Core.Path.{refl, sym, subst}
use Rattle.to_card_card.proofs.Names.{clear-fourteen}
use Rattle.json_to_card.specs.Making.{Makes}
use borrow.Author.Rules.{rules}
use Rattle.json_to_card.proofs.make.Goals as goal

pub open_members-requires : goal.open_members-requires
open_members-requires c = record { slots_len = refl; clear = clear-fourteen; json_len_bound = c.requires.json_len_bound; prints_len = c.requires.prints_len }

pub convert-requires : goal.convert-requires
convert-requires c =
    let o = c.in_default.ensures in
    record { reads = o.reads; res_in_bounds = c.requires.res_in_bounds; lent = record { all = c.requires.lent_text; index = search rules }; indexes = o.indexes }

pub returns : goal.returns
returns c = subst (λ x. Makes x c.args.res.now c.convert.result c.convert.new.res) (sym c.in_default.ensures.by_members) c.convert.ensures
