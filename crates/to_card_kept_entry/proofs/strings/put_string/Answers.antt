use mathlib.Core.Path.{refl}
use Rattle.to_card_kept_entry.proofs.strings.Putting.{puts-long, puts-within, no-string, a-string}
use Rattle.to_card_kept_entry.proofs.strings.put_string.Goals as goal

pub returns-then-q-eq0 : goal.returns-then-q-eq0
returns-then-q-eq0 c =
    let args = c.args in
    let string-in = c.string_in-q in
    record { b_len_unchanged = refl; within = tt; puts_at = no-string args.b.now args.n args.s.now args.at string-in.result string-in.ensures c.if-q-eq0.true _ }

pub returns : goal.returns
returns c =
    let args = c.args in
    let string-in = c.string_in-q in
    let if1 = c.if-q-eq0 in
    let put-decoded = c.put_decoded in record {
      b_len_unchanged = puts-long args.b.now args.n _ put-decoded.result _ put-decoded.ensures;
      within = puts-within args.b.now args.n _ put-decoded.result _ put-decoded.ensures;
      puts_at = a-string args.b.now args.n args.s.now args.at string-in.result string-in.ensures if1.false put-decoded.result _ put-decoded.ensures;
    }
