use native.Mathlib.Omega.{arith}
use Rattle.std.specs.Prelude.{Ok}
use Rattle.to_card_pen.proofs.Refusal.{refused}
use Rattle.to_card_lines.specs.Lines.{Laid}
use mathlib.Core.Path.{refl, ap, subst}
use lib.ListN.{length}
use Rattle.to_card_lines.proofs.Laws.{lines-in}
use Rattle.to_card_name.specs.Name.{PutsName}
use Rattle.to_card_name.proofs.Whole.{clear-four, names-are, name-absent, name-past, name-object, name-slots}
use Rattle.to_card_name.proofs.Fulls.{full-absent, full-told}
use Rattle.to_card_name.proofs.put_name.Goals as goal

pub returns-then-slot-eq0 : goal.returns-then-slot-eq0
returns-then-slot-eq0 c =
    let args = c.args in
    let put-alone = c.put_alone-lines in
    record {
      lines_in = put-alone.ensures.lines_in;
      out_len_unchanged = put-alone.ensures.out_len_unchanged;
      puts_name = name-absent args.s.now args.slot args.out.now c.if-slot-eq0.true (Ok put-alone.result) put-alone.new.out put-alone.ensures.puts_alone;
      says_full = full-absent args.s.now args.slot c.if-slot-eq0.true;
    }

pub returns-then-slot-s : goal.returns-then-slot-s
returns-then-slot-s c =
    let args = c.args in
    record { lines_in = tt; out_len_unchanged = refl; puts_name = name-past args.s.now args.slot args.out.now c.if-slot-eq0.false c.if-slot-s.true _; says_full = tt }

pub index_object-requires : goal.index_object-requires
index_object-requires c = record { at_in_bounds = omega (arith, c.if-slot-s.false); names_in_bounds = omega (arith, ap length names-are); clear = clear-four }

pub returns-then-not-index_object : goal.returns-then-not-index_object
returns-then-not-index_object c =
    let args = c.args in
    let index-object = c.index_object in
    record {
      lines_in = tt;
      out_len_unchanged = refl;
      puts_name = name-object args.s.now args.slot args.out.now c.if-slot-eq0.false _ index-object.result index-object.ensures c.if-not-index_object.true _;
      says_full = tt;
    }

pub returns-in_err-lines : goal.returns-in_err-lines
returns-in_err-lines c =
    let args = c.args in
    let e = refused c.from_residual.result c.from_residual.ensures.0 in
    let if1 = c.if-slot-eq0 in
    let puts = name-slots args.s.now args.slot args.out.now if1.false c.index_object.new.slots c.index_object.result c.index_object.ensures c.if-not-index_object.false c.put_slots.result c.put_slots.new.out c.put_slots.ensures.puts_slots in
    let said = subst (λ (x : Laid). PutsName args.s.now args.slot args.out.now x c.put_slots.new.out) c.in_err-lines.was puts in
    record { lines_in = rw e tt; out_len_unchanged = c.put_slots.ensures.out_len_unchanged; puts_name = rw e said; says_full = rw e tt }

pub returns : goal.returns
returns c =
    let args = c.args in
    let if1 = c.if-slot-eq0 in
    let puts = name-slots args.s.now args.slot args.out.now if1.false c.index_object.new.slots c.index_object.result c.index_object.ensures c.if-not-index_object.false c.put_slots.result c.put_slots.new.out c.put_slots.ensures.puts_slots in
    let said = subst (λ (x : Laid). PutsName args.s.now args.slot args.out.now x c.put_slots.new.out) c.in_ok-lines.was puts in
    let full = full-told args.s.now args.slot if1.false c.index_object.new.slots c.index_object.result c.index_object.ensures in
    record { lines_in = lines-in c.put_slots.ensures.lines_in c.in_ok-lines.was; out_len_unchanged = c.put_slots.ensures.out_len_unchanged; puts_name = said; says_full = full }
