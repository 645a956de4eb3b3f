use native.Mathlib.Omega.{arith}
use mathlib.Core.Path.{sym, ap, ◌∙◌}
use mathlib.Core.Option.{Option}
use Rattle.text.specs.Bytes.{Bytes}
use Rattle.json_strings.specs.Decoded.{decoded_at, left, agree}
use Rattle.json_strings.proofs.Laws.{left-none, decoded-past}
use Rattle.json_strings.proofs.NextByte.{byte-in, is-alone, is-end}
use Rattle.json_strings.proofs.Equal.{agree-none, agree-ends, both-other, both-same}
use Rattle.json_strings.proofs.same_text.Goals as goal

pub returns-then-a-s : goal.returns-then-a-s
returns-then-a-s c = sym (ap (λ (x : Option Bytes). agree x (decoded_at c.args.s.now c.args.b)) (decoded-past c.args.s.now c.args.a c.if-a-s.true))

pub returns-then-b-s : goal.returns-then-b-s
returns-then-b-s c =
    let args = c.args in
    sym
    (ap (agree (decoded_at args.s.now args.a)) (decoded-past args.s.now args.b c.if-b-s.true) ∙ agree-none
    (decoded_at args.s.now args.a))

pub loop-x-init : goal.loop-x-init
loop-x-init c = (omega (arith, c.if-a-s.false), omega (arith, c.if-b-s.false), rw (left-none c.args.s.now c.args.a, left-none c.args.s.now c.args.b))

pub next_byte-requires : goal.next_byte-requires
next_byte-requires c = c.loop-x.invariant.0

pub returns-in-Alone : goal.returns-in-Alone
returns-in-Alone c =
    let args = c.args in
    let loop = c.loop-x in
    sym
    (loop.invariant.2 ∙ ap (λ (x : Option Bytes). agree x (left args.s.now loop.j loop.h))
    (is-alone args.s.now c.next_byte.ensures.0 c.in-Alone.is))

pub ends-requires : goal.ends-requires
ends-requires c = c.loop-x.invariant.1

pub returns-in-End : goal.returns-in-End
returns-in-End c =
    let args = c.args in
    let loop = c.loop-x in
    let next-byte = c.next_byte in
    sym
    (loop.invariant.2 ∙ ap (λ (x : Option Bytes). agree x (left args.s.now loop.j loop.h))
    (is-end args.s.now next-byte.ensures.0 c.in-End.is) ∙ sym c.ends.ensures)

pub next_byte-requires-in-One : goal.next_byte-requires-in-One
next_byte-requires-in-One c = c.loop-x.invariant.1

pub returns-in-Alone-next_byte : goal.returns-in-Alone-next_byte
returns-in-Alone-next_byte c =
    let args = c.args in
    let loop = c.loop-x in
    sym
    (loop.invariant.2 ∙ ap (agree (left args.s.now loop.i loop.g))
    (is-alone args.s.now c.next_byte-in-One.ensures.0 c.in-Alone-next_byte.is) ∙ agree-none
    (left args.s.now loop.i loop.g))

pub returns-in-End-next_byte : goal.returns-in-End-next_byte
returns-in-End-next_byte c =
    let args = c.args in
    let loop = c.loop-x in
    let next-byte = c.next_byte in
    sym
    (loop.invariant.2 ∙ ap (agree (left args.s.now loop.i loop.g))
    (is-end args.s.now c.next_byte-in-One.ensures.0 c.in-End-next_byte.is) ∙ agree-ends args.s.now
    next-byte.ensures.0 c.in-One.is)

pub returns-then-x-y : goal.returns-then-x-y
returns-then-x-y c =
    let args = c.args in
    let loop = c.loop-x in
    let next-byte = c.next_byte in
    let next-byte2 = c.next_byte-in-One in
    sym
    (loop.invariant.2 ∙ both-other args.s.now next-byte.ensures.0 c.in-One.is next-byte2.ensures.0 c.in-One-next_byte.is
    c.if-x-y.true)

pub loop-x-smaller : goal.loop-x-smaller
loop-x-smaller c =
    let args = c.args in
    let loop = c.loop-x in
    let next-byte = c.next_byte in
    (byte-in args.s.now loop.i loop.g next-byte.ensures.1 c.in-One.is).1

pub loop-x-preserved : goal.loop-x-preserved
loop-x-preserved c =
    let args = c.args in
    let loop = c.loop-x in
    let next-byte = c.next_byte in
    let next-byte2 = c.next_byte-in-One in (
      (byte-in args.s.now loop.i loop.g next-byte.ensures.1 c.in-One.is).0,
      (byte-in args.s.now loop.j loop.h next-byte2.ensures.1 c.in-One-next_byte.is).0,
      loop.invariant.2 ∙ both-same args.s.now next-byte.ensures.0 c.in-One.is next-byte2.ensures.0 c.in-One-next_byte.is c.if-x-y.false,
    )
