use mathlib.Core.Path.{sym, ◌∙◌}
use native.Mathlib.Omega.{arith}
use borrow.Author.Tests.{eq-eqb, ne_eqb}
use Rattle.text.specs.Bytes.{is, between}
use Rattle.text.proofs.Places.{here, bad-here, by-on, not_on, by-under}
use Rattle.json_text.specs.Grammar.{is_space}
use Rattle.json_compact.specs.Squeezed.{piece}
use Rattle.json_compact.proofs.piece_end.Goals as goal

pub returns-then-is_space : goal.returns-then-is_space
unfolding piece
returns-then-is_space c = by-on is_space _ _ c.look-b.ensures.0 (sym c.is_space.ensures ∙ c.if-is_space.true) (here _ _ (omega (arith, c.requires)))

pub returns-then-b-eq-QUOTE : goal.returns-then-b-eq-QUOTE
unfolding piece
returns-then-b-eq-QUOTE c =
    let look = c.look-b in
    let is-space = c.is_space in
    not_on is_space _ _ look.ensures.0 (sym is-space.ensures ∙ c.if-is_space.false)
    (by-on (is 34) _ _ look.ensures.0 (eq-eqb _ _ c.if-b-eq-QUOTE.true) (by-under _ c.string_end.ensures))

pub returns-then-in_range : goal.returns-then-in_range
unfolding piece
returns-then-in_range c =
    let pre = c.requires in
    let look = c.look-b in
    let is-space = c.is_space in
    let if1 = c.if-is_space in
    not_on is_space _ _ look.ensures.0 (sym is-space.ensures ∙ if1.false)
    (not_on (is 34) _ _ look.ensures.0 (ne_eqb _ _ c.if-b-eq-QUOTE.false)
    (by-on (between 0 255) _ _ look.ensures.0 (sym c.in_range.ensures ∙ c.if-in_range.true) (here _ _ (omega (arith, pre)))))

pub returns : goal.returns
unfolding piece
returns c =
    let pre = c.requires in
    let look = c.look-b in
    let is-space = c.is_space in
    let if1 = c.if-is_space in
    not_on is_space _ _ look.ensures.0 (sym is-space.ensures ∙ if1.false)
    (not_on (is 34) _ _ look.ensures.0 (ne_eqb _ _ c.if-b-eq-QUOTE.false)
    (not_on (between 0 255) _ _ look.ensures.0 (sym c.in_range.ensures ∙ c.if-in_range.false)
    (bad-here _ (omega (arith, pre)))))
