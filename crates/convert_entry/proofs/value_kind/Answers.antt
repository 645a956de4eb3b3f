use mathlib.Core.Path.{sym, ◌∙◌}
use Rattle.convert_entry.proofs.Tests.{kind-none, kind-unknown, kind-uri, kind-other, first_kind}
use Rattle.convert_entry.proofs.value_kind.Goals as goal

pub returns-then-rows-eq0 : goal.returns-then-rows-eq0
returns-then-rows-eq0 c = λ ps r. sym (kind-none r c.if-rows-eq0.true)

pub slice_bounds-is_named-count : goal.slice_bounds-is_named-count
slice_bounds-is_named-count c = (first_kind c.requires.1.1 c.if-rows-eq0.false).ordered

pub slice_bounds-is_named-start : goal.slice_bounds-is_named-start
slice_bounds-is_named-start c = (first_kind c.requires.1.1 c.if-rows-eq0.false).ordered

pub slice_bounds-is_named-end : goal.slice_bounds-is_named-end
slice_bounds-is_named-end c = (first_kind c.requires.1.1 c.if-rows-eq0.false).within

pub returns-then-is_named : goal.returns-then-is_named
returns-then-is_named c = λ ps r. sym (kind-unknown r c.if-rows-eq0.false (sym c.is_named.ensures ∙ c.if-is_named.true))

pub slice_bounds-is_named-count-2 : goal.slice_bounds-is_named-count-2
slice_bounds-is_named-count-2 c = (first_kind c.requires.1.1 c.if-rows-eq0.false).ordered

pub slice_bounds-is_named-start-2 : goal.slice_bounds-is_named-start-2
slice_bounds-is_named-start-2 c = (first_kind c.requires.1.1 c.if-rows-eq0.false).ordered

pub slice_bounds-is_named-end-3 : goal.slice_bounds-is_named-end-3
slice_bounds-is_named-end-3 c = (first_kind c.requires.1.1 c.if-rows-eq0.false).within

pub returns-then-is_named-2 : goal.returns-then-is_named-2
returns-then-is_named-2 c = λ ps r. sym (kind-uri r c.if-rows-eq0.false (sym c.is_named.ensures ∙ c.if-is_named.false) (sym c.is_named-2.ensures ∙ c.if-is_named-2.true))

pub returns : goal.returns
returns c = λ ps r. sym (kind-other r c.if-rows-eq0.false (sym c.is_named.ensures ∙ c.if-is_named.false) (sym c.is_named-2.ensures ∙ c.if-is_named-2.false))
