use native.Mathlib.Omega.{arith}
use mathlib.Core.Path.{◌≡◌, sym, ap, ◌∙◌}
use mathlib.Core.Bool.{true, false}
use Prim.Native.Nat.{ℕ}
use lib.ListN.{get_or}
use Rattle.json_strings.specs.Decoded.{decoded_at, agree}
use Rattle.json_prints.proofs.Prints.{clear-absent, clear-on, sought-yes, sought-no}
use Rattle.json_prints.proofs.is_noted.Goals as goal

pub next_print-k-requires : goal.next_print-k-requires
next_print-k-requires c = record { from_le_to = omega arith; to_in_bounds = c.requires.count_in_bounds_2 }

pub loop-k-init : goal.loop-k-init
loop-k-init c =
    let args = c.args in
    let s = args.s.now in (
      c.next_print-k.ensures.1,
      clear-absent s (decoded_at s args.at) args.places.now args.prints.now args.p 0 c.next_print-k.result c.requires.p_value
          c.next_print-k.ensures.2,
    )

pub returns-then-same_text : goal.returns-then-same_text
returns-then-same_text c =
    let args = c.args in
    let loop = c.loop-k in
    let s = args.s.now in
    let o = decoded_at s args.at in
    let ps = args.places.now in
    let w : agree o (decoded_at s (get_or ps loop.k 0)) ≡ true = sym (ap (λ (i : ℕ). agree o (decoded_at s i)) c.wide.ensures) ∙ sym
    c.same_text.ensures ∙ c.if-same_text.true in
    sought-yes s o ps args.prints.now args.count c.requires.count_in_bounds loop.k c.loop-k-test.true w

pub overflow_add-k : goal.overflow_add-k
overflow_add-k c = omega (arith, c.loop-k-test.true)

pub next_print-k-requires-in-loop-k : goal.next_print-k-requires-in-loop-k
next_print-k-requires-in-loop-k c = record { from_le_to = omega (arith, c.loop-k-test.true); to_in_bounds = c.requires.count_in_bounds_2 }

pub loop-k-smaller : goal.loop-k-smaller
loop-k-smaller c = omega (arith, c.loop-k-test.true, c.next_print-k-in-loop-k.ensures.0, c.next_print-k-in-loop-k.ensures.1)

pub loop-k-preserved : goal.loop-k-preserved
loop-k-preserved c =
    let args = c.args in
    let loop = c.loop-k in
    let s = args.s.now in
    let o = decoded_at s args.at in
    let ps = args.places.now in
    let w : agree o (decoded_at s (get_or ps loop.k 0)) ≡ false = sym (ap (λ (i : ℕ). agree o (decoded_at s i)) c.wide.ensures) ∙ sym
    c.same_text.ensures ∙ c.if-same_text.false in (
      c.next_print-k-in-loop-k.ensures.1,
      clear-on s o ps args.prints.now args.p loop.k c.next_print-k-in-loop-k.result c.requires.p_value w c.next_print-k-in-loop-k.ensures.2 loop.invariant.1,
    )

pub returns : goal.returns
returns c =
    let args = c.args in
    let s = args.s.now in
    sought-no s (decoded_at s args.at) args.places.now args.prints.now args.count c.requires.count_in_bounds
    c.loop-k.k (omega (arith, c.loop-k-test.false)) c.loop-k.invariant.1
