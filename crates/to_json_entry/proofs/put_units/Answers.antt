use Rattle.output.proofs.Laws.{failed}
use mathlib.Core.Path.{sym, ap, ◌∙◌}
use mathlib.Core.Bool.{false}
use native.Mathlib.Nat.{le_refl}
use native.Mathlib.Omega.{arith}
use Rattle.text.specs.Bytes.{keep}
use Rattle.convert.specs.Value.{filled}
use Rattle.output.proofs.Laws.{puts-as, first, first-full, next, stop, more, done, within}
use Rattle.convert_values.specs.Values.{texts_of}
use Rattle.to_json_items.specs.Items.{listed}
use Rattle.to_json_entry.proofs.Org.{units-more, units-none, units-some}
use Rattle.convert_values.proofs.Texts.{nothing-readable}
use Rattle.to_json_items.proofs.Own.{own-none}
use Rattle.to_json_entry.proofs.put_units.Goals as goal

pub slice_bounds-put_items-count : goal.slice_bounds-put_items-count
slice_bounds-put_items-count c = omega arith

pub slice_bounds-put_items-start : goal.slice_bounds-put_items-start
slice_bounds-put_items-start c = omega arith

pub slice_bounds-put_items-end : goal.slice_bounds-put_items-end
slice_bounds-put_items-end c = omega arith

pub put_items-requires : goal.put_items-requires
put_items-requires c = (c.requires, nothing-readable)

pub returns-in_err-n : goal.returns-in_err-n
returns-in_err-n c =
    failed c.from_residual.ensures.0
    (let us = texts_of 59 c.args.v.now in puts-as (units-more c.args.k (keep filled us)) (more _ (puts-as (ap (listed c.args.k false) (own-none us)) (first-full c.put_items.ensures c.in_err-n.was))))

pub shape_of-out-then-n-eq0 : goal.shape_of-out-then-n-eq0
shape_of-out-then-n-eq0 c = let h = first c.put_items.ensures c.in_ok-n.was in h.same

pub returns-then-n-eq0 : goal.returns-then-n-eq0
returns-then-n-eq0 c =
    let us = texts_of 59 c.args.v.now in let h = first (puts-as (ap (listed c.args.k false) (own-none us)) c.put_items.ensures) c.in_ok-n.was in puts-as (units-none c.args.k (keep filled us) (sym h.is ∙ c.if-n-eq0.true)) (done h)

pub slice_bounds-put_byte-count : goal.slice_bounds-put_byte-count
slice_bounds-put_byte-count c = within (first c.put_items.ensures c.in_ok-n.was)

pub slice_bounds-put_byte-start : goal.slice_bounds-put_byte-start
slice_bounds-put_byte-start c = within (first c.put_items.ensures c.in_ok-n.was)

pub slice_bounds-put_byte-end : goal.slice_bounds-put_byte-end
slice_bounds-put_byte-end c = le_refl _

pub returns-in_err-m : goal.returns-in_err-m
returns-in_err-m c =
    failed c.from_residual-in_err-m.ensures.0
    (let us = texts_of 59 c.args.v.now in let h = first (puts-as (ap (listed c.args.k false) (own-none us)) c.put_items.ensures) c.in_ok-n.was in puts-as (units-some c.args.k (keep filled us) (λ z. c.if-n-eq0.false (h.is ∙ z))) (stop h c.put_byte.ensures c.in_err-m.was))

pub overflow_add-nm : goal.overflow_add-nm
overflow_add-nm c =
    let h = next (first c.put_items.ensures c.in_ok-n.was) c.put_byte.ensures c.in_ok-m.was in omega (arith, h.fits, c.well_formed.0.0)

pub shape_of-out : goal.shape_of-out
shape_of-out c = let h = next (first c.put_items.ensures c.in_ok-n.was) c.put_byte.ensures c.in_ok-m.was in h.same

pub returns : goal.returns
returns c =
    let us = texts_of 59 c.args.v.now in let h = first (puts-as (ap (listed c.args.k false) (own-none us)) c.put_items.ensures) c.in_ok-n.was in puts-as (units-some c.args.k (keep filled us) (λ z. c.if-n-eq0.false (h.is ∙ z))) (done (next h c.put_byte.ensures c.in_ok-m.was))
