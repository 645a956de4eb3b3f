use native.Mathlib.Omega.{arith}
use Rattle.table_entry.proofs.Entry.{key-free, key-many, key-invalid, key-valid, id-span}
use Rattle.table_entry.proofs.key_of.Goals as goal

pub returns-then-k-eq0 : goal.returns-then-k-eq0
returns-then-k-eq0 c =
    let args = c.args in
    key-free args.s.now args.rows c.if-k-eq0.true

pub returns-then-k-ne1 : goal.returns-then-k-ne1
returns-then-k-ne1 c =
    let args = c.args in
    key-many args.s.now args.rows c.if-k-eq0.false c.if-k-ne1.true

pub slice_bounds-is_key-count : goal.slice_bounds-is_key-count
slice_bounds-is_key-count c = let v = id-span c.requires.1.1 c.if-k-eq0.false in omega (arith, v.ordered, v.within)

pub slice_bounds-is_key-start : goal.slice_bounds-is_key-start
slice_bounds-is_key-start c = let v = id-span c.requires.1.1 c.if-k-eq0.false in omega (arith, v.ordered, v.within)

pub slice_bounds-is_key-end : goal.slice_bounds-is_key-end
slice_bounds-is_key-end c = let v = id-span c.requires.1.1 c.if-k-eq0.false in omega (arith, v.ordered, v.within)

pub returns-then-not-is_key : goal.returns-then-not-is_key
returns-then-not-is_key c =
    let args = c.args in
    let if2 = c.if-k-ne1 in
    key-invalid args.s.now args.rows if2.false _ c.is_key.ensures
    c.if-not-is_key.true

pub returns : goal.returns
returns c =
    let pre = c.requires in
    let args = c.args in
    let if1 = c.if-k-eq0 in
    let if2 = c.if-k-ne1 in
    key-valid args.s.now args.rows if2.false _ c.is_key.ensures
    c.if-not-is_key.false (id-span pre.1.1 if1.false)
