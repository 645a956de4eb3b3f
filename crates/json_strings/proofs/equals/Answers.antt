use borrow.Author.Rules.{rules}
use native.Mathlib.Omega.{arith}
use mathlib.Core.Path.{refl, sym, ap, ◌∙◌}
use mathlib.Core.Option.{Option}
use Rattle.text.specs.Bytes.{Bytes}
use Rattle.json_strings.specs.Decoded.{spells}
use Rattle.json_strings.proofs.Laws.{decoded-past}
use Rattle.json_strings.proofs.Equal.{bytes-end, quote-early, bare-other, control-spells, bare-same}
use Rattle.json_strings.proofs.equals.Goals as goal

pub returns-then-at-s : goal.returns-then-at-s
returns-then-at-s c = sym (ap (λ (x : Option Bytes). spells x c.args.bytes.now) (decoded-past c.args.s.now c.args.at c.if-at-s.true))

pub loop-at-init : goal.loop-at-init
loop-at-init c = (omega (arith, c.if-at-s.false), search rules, refl)

pub look-b-requires : goal.look-b-requires
look-b-requires c = c.loop-at.invariant.0

pub equals_from-requires : goal.equals_from-requires
equals_from-requires c = record { at_in_bounds = c.loop-at.invariant.0; from_in_bounds = c.loop-at.invariant.1 }

pub returns-then-b-eq-BACKSLASH : goal.returns-then-b-eq-BACKSLASH
returns-then-b-eq-BACKSLASH c = c.equals_from.ensures ∙ sym c.loop-at.invariant.2

pub returns-then-k-bytes : goal.returns-then-k-bytes
returns-then-k-bytes c =
    let args = c.args in
    let loop = c.loop-at in
    bytes-end args.s.now loop.i c.look-b.result c.look-b.ensures.0 c.if-b-eq-BACKSLASH.false args.bytes.now loop.k c.if-k-bytes.true ∙ sym loop.invariant.2

pub bounds-bytes-k : goal.bounds-bytes-k
bounds-bytes-k c = omega (arith, c.loop-at.invariant.1, c.if-k-bytes.false)

pub overflow_cast-bytes : goal.overflow_cast-bytes
overflow_cast-bytes c = omega (arith, c.type_inv.bytes c.loop-at.k)

pub returns-then-b-bytes : goal.returns-then-b-bytes
returns-then-b-bytes c =
    let args = c.args in
    let loop = c.loop-at in
    let look = c.look-b in
    sym (loop.invariant.2 ∙ bare-other args.s.now loop.i look.result look.ensures.0 c.if-b-eq-BACKSLASH.false args.bytes.now loop.k (omega (arith, loop.invariant.1, c.if-k-bytes.false)) c.if-b-bytes.true)

pub returns-then-b-eq-QUOTE : goal.returns-then-b-eq-QUOTE
returns-then-b-eq-QUOTE c =
    let args = c.args in
    let loop = c.loop-at in
    let look = c.look-b in
    sym (loop.invariant.2 ∙ quote-early args.s.now loop.i look.result look.ensures.0 c.if-b-eq-BACKSLASH.false args.bytes.now loop.k (omega (arith, loop.invariant.1, c.if-k-bytes.false)) c.if-b-eq-QUOTE.true)

pub returns-then-b-lt32 : goal.returns-then-b-lt32
returns-then-b-lt32 c =
    let args = c.args in
    let loop = c.loop-at in
    let look = c.look-b in
    let if2 = c.if-b-eq-BACKSLASH in
    sym (loop.invariant.2 ∙ control-spells args.s.now loop.i look.result look.ensures.0 if2.false args.bytes.now loop.k (omega (arith, loop.invariant.1, c.if-k-bytes.false)) c.if-b-lt32.true)

pub overflow_add-k : goal.overflow_add-k
overflow_add-k c = omega (arith, c.loop-at.invariant.1, c.if-k-bytes.false)

pub overflow_add-i : goal.overflow_add-i
overflow_add-i c = omega (arith, c.type_inv.bytes c.loop-at.k, c.if-b-bytes.false, c.look-b.ensures.1, c.loop-at.invariant.0)

pub loop-at-smaller : goal.loop-at-smaller
loop-at-smaller c = omega (arith, c.type_inv.bytes c.loop-at.k, c.if-b-bytes.false, c.look-b.ensures.1, c.loop-at.invariant.0)

pub loop-at-preserved : goal.loop-at-preserved
loop-at-preserved c =
    let args = c.args in
    let loop = c.loop-at in
    let look = c.look-b in
    let if2 = c.if-b-eq-BACKSLASH in
    let if3 = c.if-k-bytes in
    let shared-slice-known3 = c.shared_slice_known-in-loop-at-1 in
    let if4 = c.if-b-bytes in (
      omega (arith, shared-slice-known3.given loop.k, if4.false, look.ensures.1, loop.invariant.0),
      omega (arith, loop.invariant.1, if3.false),
      loop.invariant.2 ∙ bare-same args.s.now loop.i look.result look.ensures.0 if2.false args.bytes.now loop.k (omega (arith, loop.invariant.1, if3.false)) c.if-b-eq-QUOTE.false (omega (arith, c.if-b-lt32.false)) (omega (arith, shared-slice-known3.given loop.k, if4.false)) if4.false,
    )
