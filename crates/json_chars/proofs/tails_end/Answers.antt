use borrow.Author.Rules.{rules}
use native.Mathlib.Omega.{arith}
use mathlib.Core.Path.{sym, ◌∙◌}
use Rattle.text.specs.Bytes.{between}
use Rattle.text.proofs.Places.{inside-at}
use Rattle.json_text.proofs.Fine.{tail-256}
use Rattle.json_chars.proofs.Laws.{tails-more, tails-bad, tails-none}
use Rattle.json_chars.proofs.tails_end.Goals as goal

pub loop-left-init : goal.loop-left-init
loop-left-init c = (search rules, λ r h. h)

pub returns-then-not-in_range : goal.returns-then-not-in_range
returns-then-not-in_range c =
    let args = c.args in
    let loop = c.loop-left in
    let loop-test = c.loop-left-test in
    let look = c.look in
    loop.invariant.1 _
    (tails-bad args.s.now loop.i look.result loop.left loop.invariant.0 look.ensures.0
    (sym c.in_range.ensures ∙ c.if-not-in_range.true) loop-test.true)

pub loop-left-preserved : goal.loop-left-preserved
loop-left-preserved c =
    let args = c.args in
    let loop = c.loop-left in
    let loop-test = c.loop-left-test in
    let look = c.look in
    let t = sym c.in_range.ensures ∙ c.if-not-in_range.false in let l = inside-at (between 0x80 0xbf) args.s.now loop.i
    look.result tail-256 loop.invariant.0 look.ensures.0 t in (
      omega arith,
      λ r x. loop.invariant.1 r (tails-more args.s.now loop.i look.result loop.left r look.ensures.0 t loop-test.true x),
    )

pub returns : goal.returns
returns c = c.loop-left.invariant.1 _ (tails-none c.args.s.now c.loop-left.i c.loop-left.left c.loop-left.invariant.0 (omega arith))
