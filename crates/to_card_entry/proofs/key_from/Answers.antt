use borrow.Author.Rules.{rules}
use native.Mathlib.Omega.{arith}
use mathlib.Core.Path.{sym, ap, ◌∙◌}
use Rattle.json_strings.specs.Decoded.{left}
use Rattle.json_strings.proofs.Laws.{left-none}
use Rattle.json_strings.proofs.NextByte.{byte-in, is-alone, is-end, is_one}
use Rattle.to_card_entry.specs.Rows.{key_from}
use Rattle.to_card_entry.proofs.Keys.{key-first, key-end, key-bad, key-long, key-on}
use Rattle.to_card_entry.proofs.key_from.Goals as goal

pub loop-b-init : goal.loop-b-init
loop-b-init c = (search rules, omega arith, key-first _ _ (left-none c.args.s.now c.args.at))

pub next_byte-requires : goal.next_byte-requires
next_byte-requires c = c.loop-b.invariant.0

pub returns-in-Alone : goal.returns-in-Alone
returns-in-Alone c = sym (c.loop-b.invariant.2 ∙ ap (key_from c.loop-b.k) (is-alone c.args.s.now c.next_byte.ensures.0 c.in-Alone.is))

pub returns-in-End : goal.returns-in-End
returns-in-End c =
    let args = c.args in
    let loop = c.loop-b in
    key-end loop.k loop.invariant.1 ∙ sym
    (loop.invariant.2 ∙ ap (key_from loop.k) (is-end args.s.now c.next_byte.ensures.0 c.in-End.is))

pub returns-then-not-is_key : goal.returns-then-not-is_key
returns-then-not-is_key c =
    let args = c.args in
    let loop = c.loop-b in
    let next-byte = c.next_byte in
    key-bad loop.k c.in-One.b (left args.s.now c.in-One.j c.in-One.g)
    (sym c.is_key.ensures ∙ c.if-not-is_key.true) ∙ sym
    (loop.invariant.2 ∙ ap (key_from loop.k) (is_one args.s.now next-byte.ensures.0 c.in-One.is))

pub returns-then-k-ge-KEY : goal.returns-then-k-ge-KEY
returns-then-k-ge-KEY c =
    let args = c.args in
    let loop = c.loop-b in
    let next-byte = c.next_byte in
    key-long loop.k c.in-One.b (left args.s.now c.in-One.j c.in-One.g) (omega (arith, c.if-k-ge-KEY.true)) ∙ sym
    (loop.invariant.2 ∙ ap (key_from loop.k) (is_one args.s.now next-byte.ensures.0 c.in-One.is))

pub overflow_add-k : goal.overflow_add-k
overflow_add-k c = omega (arith, c.if-k-ge-KEY.false)

pub loop-b-smaller : goal.loop-b-smaller
loop-b-smaller c =
    let args = c.args in
    let loop = c.loop-b in
    let next-byte = c.next_byte in
    (byte-in args.s.now loop.i loop.h next-byte.ensures.1 c.in-One.is).1

pub loop-b-preserved : goal.loop-b-preserved
loop-b-preserved c =
    let args = c.args in
    let loop = c.loop-b in
    let next-byte = c.next_byte in (
      (byte-in args.s.now loop.i loop.h next-byte.ensures.1 c.in-One.is).0,
      omega (arith, c.if-k-ge-KEY.false),
      loop.invariant.2 ∙ ap (key_from loop.k) (is_one args.s.now next-byte.ensures.0 c.in-One.is) ∙ key-on loop.k c.in-One.b (left args.s.now c.in-One.j c.in-One.g) (sym c.is_key.ensures ∙ c.if-not-is_key.false),
    )
