use mathlib.Core.Path.{sym, ◌∙◌}
use native.Mathlib.Omega.{arith}
use Rattle.convert_entry.proofs.Tests.{first_kind}
use Rattle.from_card_refusals.proofs.Lines.{value_none, value-many, value-one}
use Rattle.from_card_refusals.proofs.value_fits.Goals as goal

pub returns-then-k-eq0 : goal.returns-then-k-eq0
returns-then-k-eq0 c = λ ps r. sym (value_none r c.if-k-eq0.true)

pub returns-then-k-ne1 : goal.returns-then-k-ne1
returns-then-k-ne1 c = λ ps r. sym (value-many r c.if-k-eq0.false c.if-k-ne1.true)

pub slice_bounds-is_word-count : goal.slice_bounds-is_word-count
slice_bounds-is_word-count c = let f = first_kind c.requires.1.1 c.if-k-eq0.false in f.ordered

pub slice_bounds-is_word-start : goal.slice_bounds-is_word-start
slice_bounds-is_word-start c =
    let f = first_kind c.requires.1.1 c.if-k-eq0.false in omega (arith, f.ordered, f.within)

pub slice_bounds-is_word-end : goal.slice_bounds-is_word-end
slice_bounds-is_word-end c =
    let f = first_kind c.requires.1.1 c.if-k-eq0.false in omega (arith, f.ordered, f.within)

pub returns : goal.returns
returns c = λ ps r. c.is_word.ensures ∙ sym (value-one r c.if-k-ne1.false)
