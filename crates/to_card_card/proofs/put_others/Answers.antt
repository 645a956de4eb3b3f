use native.Mathlib.Omega.{arith}
use mathlib.Core.Path.{refl}
use Rattle.to_card_card.proofs.Others.{others-none, others-some}
use Rattle.to_card_card.proofs.put_others.Goals as goal

pub returns-then-slots-eq0 : goal.returns-then-slots-eq0
returns-then-slots-eq0 c = record { lines_in = omega arith; out_len_unchanged = refl; puts_others = others-none c.args.s.now c.args.slots.now c.args.out.now c.if-slots-eq0.true }

pub returns : goal.returns
returns c =
    let args = c.args in
    record {
      lines_in = c.put_members.ensures.lines_in;
      out_len_unchanged = c.put_members.ensures.out_len_unchanged;
      puts_others = others-some args.s.now args.slots.now args.out.now c.put_members.result _ c.put_members.ensures.puts_members;
    }
