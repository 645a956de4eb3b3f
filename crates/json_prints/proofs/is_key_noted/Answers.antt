use native.Mathlib.Omega.{arith}
use mathlib.Core.Path.{◌≡◌, sym, ap, ◌∙◌}
use mathlib.Core.Bool.{true, false}
use mathlib.Core.Option.{some}
use Prim.Native.Nat.{ℕ}
use lib.ListN.{get_or}
use Rattle.json_strings.specs.Decoded.{decoded_at, spells}
use Rattle.json_prints.proofs.Prints.{clear-absent, agree-spells, clear-on, key-yes, key-no}
use Rattle.json_prints.proofs.is_key_noted.Goals as goal

pub print_of-p-requires : goal.print_of-p-requires
print_of-p-requires c = omega arith

pub next_print-k-requires : goal.next_print-k-requires
next_print-k-requires c = record { from_le_to = omega arith; to_in_bounds = omega arith }

pub loop-k-init : goal.loop-k-init
loop-k-init c =
    let args = c.args in (
      c.next_print-k.ensures.1,
      clear-absent args.s.now (some args.key.now) args.places.now args.prints.now c.print_of-p.result 0
          c.next_print-k.result c.print_of-p.ensures c.next_print-k.ensures.2,
    )

pub bounds-places-k : goal.bounds-places-k
bounds-places-k c = omega (arith, c.loop-k-test.true, c.requires)

pub returns-then-equals : goal.returns-then-equals
returns-then-equals c =
    let args = c.args in
    let pre = c.requires in
    let loop = c.loop-k in
    let s = args.s.now in
    let key = args.key.now in
    let ps = args.places.now in
    let x = decoded_at s (get_or ps loop.k 0) in
    let w : spells x key ≡ true = sym (ap (λ (i : ℕ). spells (decoded_at s i) key) c.wide.ensures) ∙ sym c.equals.ensures ∙ c.if-equals.true in
    key-yes s key ps args.prints.now pre loop.k (omega (arith, c.loop-k-test.true, pre)) (agree-spells key x ∙ w)

pub overflow_add-k : goal.overflow_add-k
overflow_add-k c = omega (arith, c.loop-k-test.true)

pub next_print-k-requires-in-loop-k : goal.next_print-k-requires-in-loop-k
next_print-k-requires-in-loop-k c = record { from_le_to = omega (arith, c.loop-k-test.true); to_in_bounds = omega arith }

pub loop-k-smaller : goal.loop-k-smaller
loop-k-smaller c = omega (arith, c.loop-k-test.true, c.next_print-k-in-loop-k.ensures.0, c.next_print-k-in-loop-k.ensures.1)

pub loop-k-preserved : goal.loop-k-preserved
loop-k-preserved c =
    let args = c.args in
    let print-of = c.print_of-p in
    let loop = c.loop-k in
    let s = args.s.now in
    let key = args.key.now in
    let ps = args.places.now in
    let x = decoded_at s (get_or ps loop.k 0) in
    let w : spells x key ≡ false = sym (ap (λ (i : ℕ). spells (decoded_at s i) key) c.wide.ensures) ∙ sym c.equals.ensures ∙
    c.if-equals.false in (
      c.next_print-k-in-loop-k.ensures.1,
      clear-on s (some key) ps args.prints.now print-of.result loop.k c.next_print-k-in-loop-k.result print-of.ensures
          (agree-spells key x ∙ w) c.next_print-k-in-loop-k.ensures.2 loop.invariant.1,
    )

pub returns : goal.returns
returns c =
    let args = c.args in
    let pre = c.requires in
    key-no args.s.now args.key.now args.places.now args.prints.now pre c.loop-k.k (omega (arith, c.loop-k-test.false, pre)) c.loop-k.invariant.1
