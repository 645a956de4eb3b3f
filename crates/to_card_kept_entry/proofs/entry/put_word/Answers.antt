use native.Mathlib.Omega.{arith}
use mathlib.Core.Path.{sym, ◌∙◌}
use Rattle.json_strings.specs.Decoded.{text_at}
use Rattle.to_card_kept_entry.proofs.strings.Putting.{puts-long}
use Rattle.to_card_kept_entry.proofs.entry.Words.{word-full, word_in, word-other, word-is}
use Rattle.to_card_kept_entry.proofs.entry.put_word.Goals as goal

pub returns-in_err-k-clause-puts_word : goal.returns-in_err-k-clause-puts_word
returns-in_err-k-clause-puts_word c =
    let args = c.args in
    let pre = c.requires in
    let put-decoded = c.put_decoded in rw c.from_residual.ensures (word-full args.b.now args.n args.s.now args.q (pre) put-decoded.result _ put-decoded.ensures c.in_err-k.was)

pub returns-then-not-is_word : goal.returns-then-not-is_word
returns-then-not-is_word c =
    let args = c.args in
    let pre = c.requires in
    let put-decoded = c.put_decoded in
    record {
      b_len_unchanged = puts-long args.b.now args.n (text_at args.s.now args.q) put-decoded.result _ put-decoded.ensures;
      within = tt;
      puts_word = word-other args.b.now args.n args.s.now args.q (pre) put-decoded.result _ put-decoded.ensures _ c.in_ok-k.was (sym c.is_word.ensures ∙ c.if-not-is_word.true);
    }

pub returns : goal.returns
returns c =
    let args = c.args in
    let pre = c.requires in
    let put-decoded = c.put_decoded in
    let g = word_in args.b.now args.n args.s.now args.q (pre) put-decoded.result _ put-decoded.ensures _ c.in_ok-k.was in record {
      b_len_unchanged = puts-long args.b.now args.n (text_at args.s.now args.q) put-decoded.result _ put-decoded.ensures;
      within = (omega (arith, g.to), g.within);
      puts_word = word-is args.b.now args.n args.s.now args.q (pre) put-decoded.result _ put-decoded.ensures _ c.in_ok-k.was (sym c.is_word.ensures ∙ c.if-not-is_word.false);
    }
