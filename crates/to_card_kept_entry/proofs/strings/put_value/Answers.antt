use mathlib.Core.Path.{refl, ap, ◌∙◌}
use lib.ListN.{length}
use Rattle.to_card_kept_entry.proofs.strings.Values.{value-over, value_none, value-one, value-rows, stored-long}
use Rattle.to_card_kept_entry.proofs.strings.put_value.Goals as goal

pub returns-then-m-ge-VALUES : goal.returns-then-m-ge-VALUES
returns-then-m-ge-VALUES c =
    let args = c.args in record {
      bounds = record { long = refl; wide = refl };
      rows_in = tt;
      adds_value = value-over args.b.now args.n args.t.now args.m args.a args.e args.s.now args.at c.if-m-ge-VALUES.true;
    }

pub returns-in_err-k-clause-adds_value : goal.returns-in_err-k-clause-adds_value
returns-in_err-k-clause-adds_value c =
    let args = c.args in
    let if1 = c.if-m-ge-VALUES in
    rw c.from_residual.ensures (value_none args.b.now args.n args.t.now args.m args.a args.e args.s.now args.at if1.false c.put_string.result _ c.put_string.ensures.puts_at c.in_err-k.was)

pub returns : goal.returns
returns c =
    let args = c.args in
    let if1 = c.if-m-ge-VALUES in
    let put-row = c.put_row-rows in record {
      bounds = record { long = c.put_string.ensures.b_len_unchanged; wide = ap length put-row.ensures.1 ∙ stored-long args.t.now args.m args.a args.e args.n _ };
      rows_in = value-rows args.n (length args.b.now) _ args.m c.put_string.result c.put_string.ensures.within c.in_ok-k.was if1.false
          put-row.result put-row.ensures.0;
      adds_value = value-one args.b.now args.n args.t.now args.m args.a args.e args.s.now args.at if1.false
          c.put_string.result _ c.put_string.ensures.puts_at c.requires.table_length_in_bounds _ c.in_ok-k.was c.requires.n_in_bounds put-row.ensures.0 put-row.ensures.1;
    }
