use native.Mathlib.Omega.{arith}
use Rattle.convert_entry.proofs.Entry.{clear-eight}
use Rattle.convert_entry.proofs.Tests.{first-id}
use Rattle.to_json_maps.proofs.Marking.{filled-holds, filled_none, unread, line-dashless, line-free, line-keyed}
use Rattle.to_json_maps.proofs.mark_line.Goals as goal

pub returns-then-not-has_dash : goal.returns-then-not-has_dash
returns-then-not-has_dash c =
    let args = c.args in
    line-dashless args.prefix.now args.s.now args.row.now (c.has_dash.ensures c.if-not-has_dash.true)

pub returns-then-not-fill : goal.returns-then-not-fill
returns-then-not-fill c =
    let args = c.args in
    let fill = c.fill in
    unread args.prefix.now args.s.now args.row.now (filled_none _ _ fill.result fill.ensures c.if-not-fill.true)

pub scan_rows-k-requires : goal.scan_rows-k-requires
scan_rows-k-requires c =
    let fill = c.fill in
    (clear-eight, (filled-holds fill.result fill.ensures c.if-not-fill.false).sound)

pub returns-then-k-eq0 : goal.returns-then-k-eq0
returns-then-k-eq0 c =
    let args = c.args in
    line-free args.prefix.now args.s.now c.fill.new.t c.scan_rows-k.new.counts c.scan_rows-k.new.froms c.scan_rows-k.new.tos
    args.row.now (filled-holds c.fill.result c.fill.ensures c.if-not-fill.false) c.scan_rows-k.ensures c.if-k-eq0.true

pub slice_bounds-mark_key-count : goal.slice_bounds-mark_key-count
slice_bounds-mark_key-count c = let v = first-id c.scan_rows-k.ensures c.if-k-eq0.false in omega (arith, v.ordered, v.within)

pub slice_bounds-mark_key-start : goal.slice_bounds-mark_key-start
slice_bounds-mark_key-start c = let v = first-id c.scan_rows-k.ensures c.if-k-eq0.false in omega (arith, v.ordered, v.within)

pub slice_bounds-mark_key-end : goal.slice_bounds-mark_key-end
slice_bounds-mark_key-end c = let v = first-id c.scan_rows-k.ensures c.if-k-eq0.false in omega (arith, v.ordered, v.within)

pub returns : goal.returns
returns c =
    let args = c.args in
    let if3 = c.if-k-eq0 in
    line-keyed args.prefix.now args.s.now c.fill.new.t c.scan_rows-k.new.counts c.scan_rows-k.new.froms c.scan_rows-k.new.tos
    args.row.now (filled-holds c.fill.result c.fill.ensures c.if-not-fill.false) c.scan_rows-k.ensures c.mark_key.new.row if3.false
    c.mark_key.ensures
