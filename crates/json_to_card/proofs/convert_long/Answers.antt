use mathlib.Core.Path.{ap, ◌∙◌}
use lib.ListN.{replicate}
use borrow.Author.Rules.{rules}
use native.Mathlib.Omega.{arith}
use lib.ListN.{length-take, length-drop}
use Rattle.json_text.specs.Read.{reading}
use Rattle.std.specs.Prelude.{Err}
use Rattle.json_to_card.specs.Inner.{inner}
use Rattle.json_to_card.proofs.Serving.{of-refused, of-full, of-card, card-fits}
use Rattle.json_to_card.proofs.convert_long.Goals as goal

pub convert-requires : goal.convert-requires
convert-requires c =
    record { reads = c.requires.reads; res_in_bounds = search rules; lent = record { all = record { small = omega (arith, c.requires.json_len_bound); buffer = simp (length-take, length-drop) (omega arith); table = search rules; text = search rules }; index = c.requires.in_bounds }; indexes = c.requires.indexes }

pub returns-in-Err-Refused : goal.returns-in-Err-Refused
returns-in-Err-Refused c =
    let a = c.args in
    rw c.in-Err-Refused.r-is
    (of-refused a.out.now (inner (reading 16 a.json.now)) (replicate 32769 0) c.convert.result c.convert.new.res c.convert.ensures _ _ (c.in-Err-Refused.is ∙ ap Err c.in-Err-Refused.field-0-is))

pub returns-in-Err-Full : goal.returns-in-Err-Full
returns-in-Err-Full c =
    let a = c.args in
    of-full a.out.now (inner (reading 16 a.json.now)) (replicate 32769 0) c.convert.result c.convert.new.res c.convert.ensures (c.in-Err-Full.is ∙ ap Err c.in-Err-Full.field-0-is) (search rules)

pub slice_bounds-put_served-end : goal.slice_bounds-put_served-end
slice_bounds-put_served-end c =
    let a = c.args in
    card-fits a.out.now (inner (reading 16 a.json.now)) (replicate 32769 0) c.convert.result c.convert.new.res c.convert.ensures _ c.in-Ok.is

pub returns-in-Ok : goal.returns-in-Ok
returns-in-Ok c =
    let a = c.args in
    let p = c.put_served in
    of-card a.out.now (inner (reading 16 a.json.now)) (replicate 32769 0) c.convert.result c.convert.new.res c.convert.ensures _ c.in-Ok.is p.result _ (search rules) p.ensures
