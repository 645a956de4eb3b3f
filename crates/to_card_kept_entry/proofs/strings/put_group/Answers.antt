use native.Mathlib.Omega.{arith}
use mathlib.Core.Path.{refl, sym, ◌∙◌}
use Rattle.json_strings.specs.Decoded.{text_at}
use Rattle.to_card_kept_entry.proofs.strings.Putting.{puts-long}
use Rattle.to_card_kept_entry.proofs.strings.Whole.{no-group, group-full, group-in, group-other, group-is}
use Rattle.to_card_kept_entry.proofs.strings.put_group.Goals as goal

pub returns-then-q-eq0 : goal.returns-then-q-eq0
returns-then-q-eq0 c =
    let args = c.args in
    let sole-string = c.sole_string-q in
    record { b_len_unchanged = refl; within = tt; puts_group = no-group args.b.now args.n args.s.now args.at sole-string.result sole-string.ensures c.if-q-eq0.true _ }

pub returns-in_err-k-clause-puts_group : goal.returns-in_err-k-clause-puts_group
returns-in_err-k-clause-puts_group c =
    let args = c.args in
    let sole-string = c.sole_string-q in
    let if1 = c.if-q-eq0 in
    let put-decoded = c.put_decoded in rw c.from_residual.ensures (group-full args.b.now args.n args.s.now args.at sole-string.result sole-string.ensures if1.false put-decoded.result _ put-decoded.ensures c.in_err-k.was)

pub returns-then-not-is_word : goal.returns-then-not-is_word
returns-then-not-is_word c =
    let args = c.args in
    let sole-string = c.sole_string-q in
    let if1 = c.if-q-eq0 in
    let put-decoded = c.put_decoded in
    record {
      b_len_unchanged = puts-long args.b.now args.n (text_at args.s.now sole-string.result) put-decoded.result _ put-decoded.ensures;
      within = tt;
      puts_group = group-other args.b.now args.n args.s.now args.at sole-string.result sole-string.ensures if1.false put-decoded.result _ put-decoded.ensures _ c.in_ok-k.was c.requires.n_in_bounds (sym c.is_word.ensures ∙ c.if-not-is_word.true);
    }

pub returns : goal.returns
returns c =
    let args = c.args in
    let sole-string = c.sole_string-q in
    let if1 = c.if-q-eq0 in
    let put-decoded = c.put_decoded in
    let g = group-in args.b.now args.n args.s.now args.at sole-string.result sole-string.ensures if1.false
    put-decoded.result _ put-decoded.ensures _ c.in_ok-k.was in record {
      b_len_unchanged = puts-long args.b.now args.n (text_at args.s.now sole-string.result) put-decoded.result _ put-decoded.ensures;
      within = (omega (arith, g.to), g.within);
      puts_group = group-is args.b.now args.n args.s.now args.at sole-string.result sole-string.ensures if1.false put-decoded.result _ put-decoded.ensures _ c.in_ok-k.was c.requires.n_in_bounds (sym c.is_word.ensures ∙ c.if-not-is_word.false);
    }
