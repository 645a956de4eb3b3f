use mathlib.Core.Path.{sym, ◌∙◌}
use Rattle.convert_entry.proofs.Tests.{pref-none, pref-several, pref-one, first-pref}
use Rattle.convert_entry.proofs.pref_fits.Goals as goal

pub returns-then-k-eq0 : goal.returns-then-k-eq0
returns-then-k-eq0 c = λ ps r. sym (pref-none r c.if-k-eq0.true)

pub returns-then-k-ne1 : goal.returns-then-k-ne1
returns-then-k-ne1 c = λ ps r. sym (pref-several r c.if-k-eq0.false c.if-k-ne1.true)

pub slice_bounds-is_pref-count : goal.slice_bounds-is_pref-count
slice_bounds-is_pref-count c = (first-pref c.requires.1.1 c.if-k-eq0.false).ordered

pub slice_bounds-is_pref-start : goal.slice_bounds-is_pref-start
slice_bounds-is_pref-start c = (first-pref c.requires.1.1 c.if-k-eq0.false).ordered

pub slice_bounds-is_pref-end : goal.slice_bounds-is_pref-end
slice_bounds-is_pref-end c = (first-pref c.requires.1.1 c.if-k-eq0.false).within

pub returns : goal.returns
returns c = λ ps r. c.is_pref.ensures ∙ sym (pref-one r c.if-k-ne1.false)
