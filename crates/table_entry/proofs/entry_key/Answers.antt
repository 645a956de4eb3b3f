use mathlib.Core.Path.{ap, ◌∙◌}
use mathlib.Core.Bool.{not}
use Rattle.table_entry.proofs.Entry.{grouped, others, untaken, unpreferred, untyped, unread, by_key, reads}
use Rattle.table_entry.proofs.entry_key.Goals as goal

pub returns-then-has_group : goal.returns-then-has_group
returns-then-has_group c =
    let args = c.args in
    grouped args.s.now args.t.now args.types args.form (c.has_group.ensures ∙ ap not c.if-has_group.true)

pub returns-then-not-only_of : goal.returns-then-not-only_of
returns-then-not-only_of c =
    let args = c.args in
    let pre = c.requires in
    let has-group = c.has_group in
    others args.s.now args.t.now args.types args.form (has-group.ensures ∙ ap not c.if-has_group.false) args.rows pre.row _
    c.only_of.ensures c.if-not-only_of.true

pub returns-then-not-takes_kind : goal.returns-then-not-takes_kind
returns-then-not-takes_kind c =
    let args = c.args in
    let pre = c.requires in
    let has-group = c.has_group in
    let if1 = c.if-has_group in
    let only_of = c.only_of in
    untaken args.s.now args.t.now args.types args.form (has-group.ensures ∙ ap not if1.false) args.rows pre.row _ only_of.ensures
    c.if-not-only_of.false _ (c.value_kind-kind.ensures _ pre.row) _ c.takes_kind.ensures c.if-not-takes_kind.true

pub returns-then-not-pref_fits : goal.returns-then-not-pref_fits
returns-then-not-pref_fits c =
    let args = c.args in
    let pre = c.requires in
    let has-group = c.has_group in
    let if1 = c.if-has_group in
    let only_of = c.only_of in
    let value-kind = c.value_kind-kind in
    let takes-kind = c.takes_kind in
    unpreferred args.s.now args.t.now args.types args.form (has-group.ensures ∙ ap not if1.false) args.rows pre.row _ only_of.ensures
    c.if-not-only_of.false _ (value-kind.ensures _ pre.row) _ takes-kind.ensures c.if-not-takes_kind.false _
    (c.pref_fits.ensures _ pre.row) c.if-not-pref_fits.true

pub returns-then-not-types_fit : goal.returns-then-not-types_fit
returns-then-not-types_fit c =
    let args = c.args in
    let pre = c.requires in
    let has-group = c.has_group in
    let if1 = c.if-has_group in
    let only_of = c.only_of in
    let value-kind = c.value_kind-kind in
    let takes-kind = c.takes_kind in
    let pref-fits = c.pref_fits in
    untyped args.s.now args.t.now args.types args.form (has-group.ensures ∙ ap not if1.false) args.rows pre.row _ only_of.ensures
    c.if-not-only_of.false _ (value-kind.ensures _ pre.row) _ takes-kind.ensures c.if-not-takes_kind.false _
    (pref-fits.ensures _ pre.row) c.if-not-pref_fits.false _ c.types_fit.ensures c.if-not-types_fit.true

pub returns-then-not-reads_as : goal.returns-then-not-reads_as
returns-then-not-reads_as c =
    let args = c.args in
    let pre = c.requires in
    let has-group = c.has_group in
    let if1 = c.if-has_group in
    let only_of = c.only_of in
    let value-kind = c.value_kind-kind in
    let takes-kind = c.takes_kind in
    let pref-fits = c.pref_fits in
    let types-fit = c.types_fit in
    unread args.s.now args.t.now args.types args.form (has-group.ensures ∙ ap not if1.false) args.rows pre.row _ only_of.ensures
    c.if-not-only_of.false _ (value-kind.ensures _ pre.row) _ takes-kind.ensures c.if-not-takes_kind.false _
    (pref-fits.ensures _ pre.row) c.if-not-pref_fits.false _ types-fit.ensures c.if-not-types_fit.false _
    (reads args.s.now args.t.now args.types args.form _ _ (value-kind.ensures _ pre.row) c.reads_as.ensures)
    c.if-not-reads_as.true

pub returns : goal.returns
returns c =
    let args = c.args in
    let pre = c.requires in
    let has-group = c.has_group in
    let if1 = c.if-has_group in
    let only_of = c.only_of in
    let value-kind = c.value_kind-kind in
    let takes-kind = c.takes_kind in
    let pref-fits = c.pref_fits in
    let types-fit = c.types_fit in
    by_key args.s.now args.t.now args.types args.form (has-group.ensures ∙ ap not if1.false) args.rows pre.row _ only_of.ensures
    c.if-not-only_of.false _ (value-kind.ensures _ pre.row) _ takes-kind.ensures c.if-not-takes_kind.false _
    (pref-fits.ensures _ pre.row) c.if-not-pref_fits.false _ types-fit.ensures c.if-not-types_fit.false _
    (reads args.s.now args.t.now args.types args.form _ _ (value-kind.ensures _ pre.row)
    c.reads_as.ensures)
    c.if-not-reads_as.false _ c.key_of.ensures
