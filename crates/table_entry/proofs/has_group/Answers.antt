use mathlib.Core.Path.{sym, ap, ◌∙◌}
use mathlib.Core.Bool.{not}
use lib.Dec.{ltb}
use lib.ListN.{get_or}
use Rattle.text.proofs.Cases.{by_bool, tests}
use Rattle.table_entry.proofs.Entry.{group-some, group-none}
use Rattle.table_entry.proofs.has_group.Goals as goal

pub returns : goal.returns
returns c =
    let args = c.args in
    by_bool (ltb (get_or args.t.now 0 0) (get_or args.t.now 1 0))
    (λ e. group-some args.s.now args.t.now (omega (tests, e)) c.requires.group.within ∙ sym (ap not e))
    (λ e. group-none args.s.now args.t.now (omega (tests, e)) ∙ sym (ap not e))
