use native.Mathlib.Omega.{arith}
use mathlib.Core.Path.{refl}
use Prim.Native.Nat.{◌+◌, ◌<◌}
use lib.ListN.{length}
use Rattle.json_compact.proofs.Stands.{deletes-as, stands-none, stands-string}
use Rattle.json_compact.proofs.string_run.Goals as goal

pub returns-then-look-ne-QUOTE : goal.returns-then-look-ne-QUOTE
returns-then-look-ne-QUOTE c = stands-none c.args.s.now c.args.at (omega (arith, c.requires.at_in_bounds))

pub returns-then-has_delete : goal.returns-then-has_delete
returns-then-has_delete c = stands-none c.args.s.now c.args.at (omega (arith, c.requires.at_in_bounds))

pub returns : goal.returns
returns c =
    let args = c.args in
    let look = c.look in
    let s = args.s.now in
    let e = c.text_end-e.result in
    let within : e < length s = omega (arith, look.ensures.1, c.if-look-ne-QUOTE.false) in
    stands-string s args.at c.requires.at_in_bounds _ refl e within look.result look.ensures.0 c.if-look-ne-QUOTE.false c.requires.at_value c.text_end-e.ensures.lower_bound.0 c.text_end-e.ensures.to_end
    c.text_end-e.ensures.unmarked (deletes-as s (args.at + 1) e c.has_delete.ensures c.if-has_delete.false)
