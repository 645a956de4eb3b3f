use Rattle.output.proofs.Laws.{failed}
use mathlib.Core.Path.{◌≡◌, refl, sym, ap, subst}
use lib.ListN.{length}
use Rattle.text.specs.Bytes.{Bytes, keep}
use Rattle.text.proofs.Cases.{not-both}
use Rattle.output.specs.Put.{Puts}
use Rattle.output.specs.Put.{Wrote}
use Rattle.output.proofs.Laws.{puts-as}
use Rattle.convert_values.specs.Values.{texts_of}
use Rattle.to_json_items.specs.Items.{listed, is_own}
use Rattle.to_json_items.proofs.Own.{long-fits}
use Rattle.to_json_items.proofs.put_items.Goals as goal

pub put_noted-requires : goal.put_noted-requires
put_noted-requires c = (c.requires.0, c.requires.1, long-fits (length c.args.o.now) c.if-o.true)

pub returns-then-begun : goal.returns-then-begun
returns-then-begun c =
    let args = c.args in
    let if2 = c.if-begun in
    puts-as (ap (λ b. listed args.k b (keep (is_own (texts_of 44 args.o.now)) (texts_of args.d args.v.now))) (sym if2.true))
    c.put_noted.ensures

pub put_noted-requires-then-o : goal.put_noted-requires-then-o
put_noted-requires-then-o c = (c.requires.0, c.requires.1, long-fits (length c.args.o.now) c.if-o.true)

pub returns-then-o : goal.returns-then-o
returns-then-o c =
    let args = c.args in
    let if2 = c.if-begun in
    puts-as (ap (λ b. listed args.k b (keep (is_own (texts_of 44 args.o.now)) (texts_of args.d args.v.now))) (sym if2.false))
    c.put_noted-then-o.ensures

pub put_own-requires : goal.put_own-requires
put_own-requires c = (c.requires.0, c.requires.1, λ e. not-both e refl)

answered : {room bs after : Bytes} {r w : Wrote} → r ≡ w → Puts room bs r after → Puts room bs w after
answered {room} {bs} {after} e p = subst (λ (u : Wrote). Puts room bs u after) e p

pub returns-in_err-n : goal.returns-in_err-n
returns-in_err-n c =
    failed c.from_residual.ensures.0
    (answered c.in_err-n.was c.put_own.ensures)

pub returns : goal.returns
returns c = answered c.in_ok-n.was c.put_own.ensures
