use native.Mathlib.Omega.{arith}
use mathlib.Core.Path.{sym, ap, ◌∙◌}
use mathlib.Core.Option.{Option}
use lib.ListN.{drop}
use Rattle.text.specs.Bytes.{Bytes}
use Rattle.json_strings.specs.Decoded.{spells}
use Rattle.json_strings.proofs.Laws.{left-none}
use Rattle.json_strings.proofs.NextByte.{byte-in, is-alone, is-end}
use Rattle.json_strings.proofs.Equal.{spells-end, one-short, one-other, one_same}
use Rattle.json_strings.proofs.equals_from.Goals as goal

pub loop-b-init : goal.loop-b-init
loop-b-init c = (c.requires.at_in_bounds, c.requires.from_in_bounds, ap (λ (x : Option Bytes). spells x (drop c.args.from c.args.bytes.now)) (sym (left-none c.args.s.now c.args.at)))

pub next_byte-requires : goal.next_byte-requires
next_byte-requires c = c.loop-b.invariant.0

pub returns-in-Alone : goal.returns-in-Alone
returns-in-Alone c = sym (c.loop-b.invariant.2 ∙ ap (λ (x : Option Bytes). spells x (drop c.loop-b.k c.args.bytes.now)) (is-alone c.args.s.now c.next_byte.ensures.0 c.in-Alone.is))

pub returns-in-End : goal.returns-in-End
returns-in-End c =
    let args = c.args in
    let loop = c.loop-b in
    let bytes' = args.bytes.now in
    sym (loop.invariant.2 ∙ ap (λ (x : Option Bytes). spells x (drop loop.k bytes')) (is-end args.s.now c.next_byte.ensures.0 c.in-End.is) ∙ sym (spells-end bytes' loop.k loop.invariant.1))

pub returns-then-k-bytes : goal.returns-then-k-bytes
returns-then-k-bytes c =
    let args = c.args in
    let loop = c.loop-b in
    sym (loop.invariant.2 ∙ one-short args.s.now c.next_byte.ensures.0 c.in-One.is args.bytes.now loop.k c.if-k-bytes.true)

pub bounds-bytes-k : goal.bounds-bytes-k
bounds-bytes-k c = omega (arith, c.loop-b.invariant.1, c.if-k-bytes.false)

pub returns-then-bytes-k : goal.returns-then-bytes-k
returns-then-bytes-k c =
    let args = c.args in
    let loop = c.loop-b in
    let next-byte = c.next_byte in
    sym (loop.invariant.2 ∙ one-other args.s.now next-byte.ensures.0 c.in-One.is args.bytes.now loop.k (omega (arith, loop.invariant.1, c.if-k-bytes.false)) c.if-bytes-k.true)

pub overflow_add-k : goal.overflow_add-k
overflow_add-k c = omega (arith, c.loop-b.invariant.1, c.if-k-bytes.false)

pub loop-b-smaller : goal.loop-b-smaller
loop-b-smaller c = (byte-in c.args.s.now c.loop-b.i c.loop-b.h c.next_byte.ensures.1 c.in-One.is).1

pub loop-b-preserved : goal.loop-b-preserved
loop-b-preserved c =
    let args = c.args in
    let loop = c.loop-b in
    let next-byte = c.next_byte in
    let s' = args.s.now in (
      (byte-in s' loop.i loop.h next-byte.ensures.1 c.in-One.is).0,
      omega (arith, loop.invariant.1, c.if-k-bytes.false),
      loop.invariant.2 ∙ one_same s' next-byte.ensures.0 c.in-One.is args.bytes.now loop.k (omega (arith, loop.invariant.1, c.if-k-bytes.false)) c.if-bytes-k.false,
    )
