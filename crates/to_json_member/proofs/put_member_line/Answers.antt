use Rattle.output.proofs.Laws.{failed}
use native.Mathlib.Omega.{arith}
use lib.ListN.{get_or}
use Rattle.output.proofs.Laws.{puts-as}
use Rattle.line_table.specs.Table.{part, line_in}
use Rattle.to_json_member.proofs.Lines.{pointed-of, first-pointer, pointing-here, member-bytes, never-full, value-fits, scratch-holds}
use Rattle.to_json_member.proofs.put_member_line.Goals as goal

pub bounds-t-4 : goal.bounds-t-4
bounds-t-4 c = omega (arith, c.requires.0.rowed.sound.wide)

pub bounds-t-5 : goal.bounds-t-5
bounds-t-5 c = omega (arith, c.requires.0.rowed.sound.wide)

pub slice_bounds-read_text-count : goal.slice_bounds-read_text-count
slice_bounds-read_text-count c = let v = c.requires.0.rowed.sound.value in omega (arith, v.ordered, v.within)

pub slice_bounds-read_text-start : goal.slice_bounds-read_text-start
slice_bounds-read_text-start c = let v = c.requires.0.rowed.sound.value in omega (arith, v.ordered, v.within)

pub slice_bounds-read_text-end : goal.slice_bounds-read_text-end
slice_bounds-read_text-end c = let v = c.requires.0.rowed.sound.value in omega (arith, v.ordered, v.within)

pub returns-in_err-k : goal.returns-in_err-k
returns-in_err-k c =
    λ seen n j x. failed c.from_residual.ensures.0
    (never-full c.args.scratch.now (part c.args.s.now (get_or c.args.t.now 4 0) (get_or c.args.t.now 5 0)) c.read_text.ensures (value-fits c.args.s.now (get_or c.args.t.now 4 0) (get_or c.args.t.now 5 0) c.requires.1) c.in_err-k.was)

pub slice_bounds-put_pointed-count : goal.slice_bounds-put_pointed-count
slice_bounds-put_pointed-count c =
    let m = c.requires.0 in let f = first-pointer c.args.s.now c.args.t.now m.rowed.row (pointed-of m.seen (line_in c.args.s.now c.args.t.now) m.name m.value m.is) in omega (arith, f.ordered, f.within)

pub slice_bounds-put_pointed-start : goal.slice_bounds-put_pointed-start
slice_bounds-put_pointed-start c =
    let m = c.requires.0 in let f = first-pointer c.args.s.now c.args.t.now m.rowed.row (pointed-of m.seen (line_in c.args.s.now c.args.t.now) m.name m.value m.is) in omega (arith, f.ordered, f.within)

pub slice_bounds-put_pointed-end : goal.slice_bounds-put_pointed-end
slice_bounds-put_pointed-end c =
    let m = c.requires.0 in let f = first-pointer c.args.s.now c.args.t.now m.rowed.row (pointed-of m.seen (line_in c.args.s.now c.args.t.now) m.name m.value m.is) in omega (arith, f.ordered, f.within)

pub slice_bounds-put_pointed-count-2 : goal.slice_bounds-put_pointed-count-2
slice_bounds-put_pointed-count-2 c =
    let h = scratch-holds c.args.scratch.now (part c.args.s.now (get_or c.args.t.now 4 0) (get_or c.args.t.now 5 0)) _ c.read_text.ensures c.in_ok-k.was in omega (arith, h.1)

pub slice_bounds-put_pointed-start-2 : goal.slice_bounds-put_pointed-start-2
slice_bounds-put_pointed-start-2 c =
    let h = scratch-holds c.args.scratch.now (part c.args.s.now (get_or c.args.t.now 4 0) (get_or c.args.t.now 5 0)) _ c.read_text.ensures c.in_ok-k.was in omega (arith, h.1)

pub slice_bounds-put_pointed-end-2 : goal.slice_bounds-put_pointed-end-2
slice_bounds-put_pointed-end-2 c =
    let h = scratch-holds c.args.scratch.now (part c.args.s.now (get_or c.args.t.now 4 0) (get_or c.args.t.now 5 0)) _ c.read_text.ensures c.in_ok-k.was in omega (arith, h.1)

pub put_pointed-requires : goal.put_pointed-requires
put_pointed-requires c =
    let m = c.requires.0 in pointing-here c.args.s.now c.args.t.now m.rowed.row (pointed-of m.seen (line_in c.args.s.now c.args.t.now) m.name m.value m.is)

pub returns : goal.returns
returns c =
    λ seen n j x. let h = scratch-holds c.args.scratch.now (part c.args.s.now (get_or c.args.t.now 4 0) (get_or c.args.t.now 5 0)) _ c.read_text.ensures c.in_ok-k.was in puts-as (member-bytes c.args.s.now c.args.t.now c.requires.0.rowed.row (pointed-of seen (line_in c.args.s.now c.args.t.now) n j x) _ h.0) c.put_pointed.ensures
