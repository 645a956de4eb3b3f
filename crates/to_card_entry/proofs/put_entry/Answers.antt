use mathlib.Core.Path.{ap}
use Rattle.to_card_pen.proofs.Refusal.{refused}
use mathlib.Core.Bool.{not}
use Rattle.to_card_entry.proofs.Putting.{put_in, clear-seven, puts-key, puts-object, puts-bad, puts-line, puts-as}
use mathlib.Core.Path.{refl}
use native.Mathlib.Omega.{arith}
use Rattle.to_card_entry.proofs.put_entry.Goals as goal

pub returns-then-not-key_fits : goal.returns-then-not-key_fits
returns-then-not-key_fits c =
    let a = c.args in
    let k = c.key_fits in
    record {
      entered_in = tt;
      out_len_unchanged = refl;
      puts = puts-key a.s.now a.key a.value a.names.now a.kinds.now a.count a.heads.now a.form _ k.result k.ensures _ (ap not c.if-not-key_fits.true);
    }

pub index_to_end-end-requires : goal.index_to_end-end-requires
index_to_end-end-requires c = record { at_in_bounds = c.requires.value_in_bounds; names_in_bounds = omega (arith, c.requires.names_len); clear = clear-seven }

pub returns-then-end-eq0 : goal.returns-then-end-eq0
returns-then-end-eq0 c =
    let a = c.args in
    let k = c.key_fits in
    record {
      entered_in = tt;
      out_len_unchanged = refl;
      puts = puts-object a.s.now a.key a.value a.names.now a.kinds.now a.count a.heads.now a.form _ k.result k.ensures _ c.index_to_end-end.result c.index_to_end-end.ensures.indexes _ c.if-end-eq0.true;
    }

pub returns-in_err-judged : goal.returns-in_err-judged
returns-in_err-judged c =
    let e = refused c.from_residual.result c.from_residual.ensures.0 in
    let a = c.args in
    let k = c.key_fits in
    let b = (ap not c.if-not-key_fits.false) in
    let q = c.if-end-eq0.false in
    record {
      entered_in = rw e tt;
      out_len_unchanged = refl;
      puts = rw e (puts-bad a.s.now a.key a.value a.names.now a.kinds.now a.count a.heads.now a.form _ k.result k.ensures _ c.index_to_end-end.result c.index_to_end-end.ensures.indexes b q _ c.judge.result c.judge.ensures.judges_slots _ c.in_err-judged.was);
    }

pub returns-in_err-line : goal.returns-in_err-line
returns-in_err-line c =
    let e = refused c.from_residual-in_err-line.result c.from_residual-in_err-line.ensures.0 in
    let a = c.args in
    let k = c.key_fits in
    let b = (ap not c.if-not-key_fits.false) in
    let q = c.if-end-eq0.false in
    let l = puts-line a.s.now a.key a.value a.names.now a.kinds.now a.count a.heads.now a.form _ k.result k.ensures _ c.index_to_end-end.result c.index_to_end-end.ensures.indexes b q _ c.judge.result c.judge.ensures.judges_slots _ _ _ c.in_ok-judged.was _ _ c.put_line.ensures.tells_line in
    record {
      entered_in = rw e tt;
      out_len_unchanged = c.put_line.ensures.out_len_unchanged;
      puts = rw e (puts-as a.s.now a.key a.value a.names.now a.kinds.now a.count a.heads.now a.form _ _ l c.in_err-line.was);
    }

pub returns : goal.returns
returns c =
    let a = c.args in
    let k = c.key_fits in
    let b = (ap not c.if-not-key_fits.false) in
    let q = c.if-end-eq0.false in
    let l = puts-line a.s.now a.key a.value a.names.now a.kinds.now a.count a.heads.now a.form _ k.result k.ensures _ c.index_to_end-end.result c.index_to_end-end.ensures.indexes b q _ c.judge.result c.judge.ensures.judges_slots _ _ _ c.in_ok-judged.was _ _ c.put_line.ensures.tells_line in
    record {
      entered_in = (put_in c.put_line.ensures.put_in c.in_ok-line.was, c.index_to_end-end.ensures.value_ends q);
      out_len_unchanged = c.put_line.ensures.out_len_unchanged;
      puts = puts-as a.s.now a.key a.value a.names.now a.kinds.now a.count a.heads.now a.form _ _ l c.in_ok-line.was;
    }
