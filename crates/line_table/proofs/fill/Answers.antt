use native.Mathlib.Omega.{arith}
use Rattle.line.specs.Class.{is_name}
use Rattle.line_scan.proofs.Reading.{run-within, run-from}
use Rattle.line_scan.proofs.WholeLines.{no_word, ungrouped, no_name, after-group}
use Rattle.line_table.proofs.fill.Goals as goal

pub returns-then-e-eq0 : goal.returns-then-e-eq0
returns-then-e-eq0 c = no_word c.args.s.now _ c.run_end-e.ensures c.if-e-eq0.true

pub look-requires : goal.look-requires
look-requires c = run-within is_name c.args.s.now 0 _ c.run_end-e.ensures (omega arith)

pub returns-then-b-a : goal.returns-then-b-a
returns-then-b-a c =
    let s = c.args.s.now in
    let run-end = c.run_end-e in
    let if1 = c.if-e-eq0 in
    let look = c.look in
    no_name s _ run-end.ensures _ if1.false look.ensures.0 _ c.run_end-b.ensures c.if-look-eq-DOT.true c.if-b-a.true

pub fill_rest-requires : goal.fill_rest-requires
fill_rest-requires c =
    let s = c.args.s.now in
    let pre = c.requires in
    let run-end = c.run_end-e in
    let if1 = c.if-e-eq0 in
    let look = c.look in
    let if2 = c.if-look-eq-DOT in
    let run-end2 = c.run_end-b in record {
      table_length_in_bounds = (pre, omega (arith, look.ensures.1, if2.true), run-from is_name s _ _ run-end2.ensures, run-within is_name s _ _ run-end2.ensures (omega (arith, look.ensures.1, if2.true)));
      read_from = after-group s _ run-end.ensures _ if1.false look.ensures.0 _ run-end2.ensures if2.true c.if-b-a.false;
    }

pub fill_rest-requires-2 : goal.fill_rest-requires-2
fill_rest-requires-2 c =
    let s = c.args.s.now in
    let run-end = c.run_end-e in
    let if1 = c.if-e-eq0 in record {
      table_length_in_bounds = (c.requires, omega arith, omega arith, run-within is_name s 0 _ run-end.ensures (omega arith));
      read_from = ungrouped s _ run-end.ensures _ if1.false c.look.ensures.0 c.if-look-eq-DOT.false;
    }
