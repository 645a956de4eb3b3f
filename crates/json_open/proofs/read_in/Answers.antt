use native.Mathlib.Omega.{arith}
use Prim.Native.Nat.{◌+◌}
use lib.ListN.{length}
use Rattle.json_sound.proofs.Judging.{onward-up}
use Rattle.json_open.proofs.Laws.{read-object, read-other}
use Rattle.json_open.proofs.read_in.Goals as goal

pub sound_members-r-requires : goal.sound_members-r-requires
sound_members-r-requires c =
    let l = c.look.ensures.1 in
    record {
      at_in_bounds = omega (arith, l, c.if-look-eq-LEFT_BRACE.true);
      s_len_bound = c.requires.s_len_bound;
      s_len_bound_2 = omega (arith, c.requires.s_len_bound_2);
      prints_len = c.requires.prints_len;
      names_in_bounds = c.requires.names_in_bounds;
      clear = c.requires.clear;
    }

pub verdict_on-requires : goal.verdict_on-requires
verdict_on-requires c =
    let sp = c.skip_space-i in
    let a = c.args in
    onward-up 0 (sp.result + 1) (length a.s.now) c.sound_members-r.result (omega arith) c.sound_members-r.ensures.onward

pub returns-then-look-eq-LEFT_BRACE : goal.returns-then-look-eq-LEFT_BRACE
returns-then-look-eq-LEFT_BRACE c =
    let a = c.args in
    let k = c.skip_space-i in
    let l = c.look in
    let v = c.verdict_on in
    let r = c.answer in
    let both = read-object a.s.now a.names.now c.sound_members-r.new.slots k.result l.result k.ensures l.ensures.0 v.result r.result c.if-look-eq-LEFT_BRACE.true c.sound_members-r.result c.sound_members-r.ensures.judged c.sound_members-r.ensures.onward c.sound_members-r.ensures.indexed_if v.ensures r.ensures in record {
      result_value = both.0;
      opens = both.1;
    }

pub verdict_on-requires-2 : goal.verdict_on-requires-2
verdict_on-requires-2 c = c.sound_value-r.ensures.onward

pub returns : goal.returns
returns c =
    let a = c.args in
    let k = c.skip_space-i in
    let l = c.look in
    let v = c.verdict_on-2 in
    let r = c.answer-2 in
    let both = read-other a.s.now a.names.now a.slots.now k.result l.result k.ensures l.ensures.0 v.result r.result c.if-look-eq-LEFT_BRACE.false (v.ensures 16 c.sound_value-r.ensures.judged) r.ensures in record {
      result_value = both.0;
      opens = both.1;
    }
