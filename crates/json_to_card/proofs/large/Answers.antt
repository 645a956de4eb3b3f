use native.Mathlib.Omega.{arith}
use mathlib.Core.Path.{refl, sym, subst}
use lib.ListN.{length}
use Rattle.text.proofs.Handed.{same-error}
use Rattle.served.specs.Served.{Serves}
use Rattle.to_card_card.proofs.Names.{clear-fourteen}
use Rattle.json_to_card.specs.Inner.{becomes, fit}
use Rattle.json_to_card.proofs.Serving.{served-no, served-as}
use borrow.Author.Rules.{rules}
use Rattle.json_to_card.proofs.large.Goals as goal

pub open_members-requires : goal.open_members-requires
open_members-requires c = record { slots_len = refl; clear = clear-fourteen; json_len_bound = omega (arith, c.requires); prints_len = search rules }

pub returns-in_err-open_members : goal.returns-in_err-open_members
returns-in_err-open_members c =
    let out = c.args.out.now in
    let s = c.args.json.now in
    subst (λ r. Serves out (fit (length out) (becomes s)) r out) (sym (same-error c.from_residual.result c.from_residual.ensures.1))
    (served-no out s _ _ c.in_err-open_members.ensures)

pub convert_long-requires : goal.convert_long-requires
convert_long-requires c =
    let o = c.in_ok-open_members.ensures in
    record { reads = o.reads; json_len_bound = c.requires; in_bounds = search rules; indexes = o.indexes }

pub returns : goal.returns
returns c =
    let made = c.convert_long in
    served-as c.args.out.now _ _ made.result _ c.in_ok-open_members.ensures.by_members made.ensures
