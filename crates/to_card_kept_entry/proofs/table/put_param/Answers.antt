use native.Mathlib.Omega.{arith}
use mathlib.Core.Path.{refl, sym, ◌∙◌}
use lib.ListN.{length}
use Rattle.json_strings.specs.Decoded.{text_at}
use Rattle.to_card_kept_entry.proofs.strings.Putting.{puts-long}
use Rattle.to_card_kept_entry.proofs.table.Params.{param-full, name_in, param-other, param-value, param-all, rows-lower}
use Rattle.to_card_kept_entry.proofs.table.put_param.Goals as goal

pub returns-in_err-k-clause-puts_param : goal.returns-in_err-k-clause-puts_param
returns-in_err-k-clause-puts_param c =
    let args = c.args in
    let put-decoded = c.put_decoded in rw c.from_residual.ensures (param-full args.b.now args.n args.t.now args.m args.s.now args.q args.at c.requires.n_in_bounds put-decoded.result _ put-decoded.ensures c.in_err-k.was)

pub returns-then-not-is_word : goal.returns-then-not-is_word
returns-then-not-is_word c =
    let args = c.args in
    let put-decoded = c.put_decoded in
    record {
      bounds = record { long = puts-long args.b.now args.n (text_at args.s.now args.q) put-decoded.result _ put-decoded.ensures; wide = refl };
      rows_in = tt;
      puts_param = param-other args.b.now args.n args.t.now args.m args.s.now args.q args.at c.requires.n_in_bounds put-decoded.result _ put-decoded.ensures _ c.in_ok-k.was (sym c.is_word.ensures ∙ c.if-not-is_word.true);
    }

pub returns-then-equals : goal.returns-then-equals
returns-then-equals c =
    let args = c.args in
    let put-decoded = c.put_decoded in
    record {
      bounds = record { long = puts-long args.b.now args.n (text_at args.s.now args.q) put-decoded.result _ put-decoded.ensures; wide = refl };
      rows_in = tt;
      puts_param = param-value args.b.now args.n args.t.now args.m args.s.now args.q args.at c.requires.n_in_bounds put-decoded.result _ put-decoded.ensures _ c.in_ok-k.was (sym c.equals.ensures ∙ c.if-equals.true);
    }

pub put_values-requires : goal.put_values-requires
put_values-requires c =
    let args = c.args in
    let put-decoded = c.put_decoded in
    let g = name_in args.b.now args.n args.t.now args.m args.s.now args.q args.at c.requires.n_in_bounds put-decoded.result _
    put-decoded.ensures _ c.in_ok-k.was in record {
      n_in_bounds = omega (arith, g.within, g.long);
      table_length_in_bounds = c.requires.table_length_in_bounds;
      at_in_bounds = c.requires.at_in_bounds;
    }

pub returns : goal.returns
returns c =
    let args = c.args in
    let put-decoded = c.put_decoded in
    let is_word = c.is_word in
    let equals = c.equals in
    let if2 = c.if-equals in
    let g = name_in args.b.now args.n args.t.now args.m args.s.now args.q args.at c.requires.n_in_bounds put-decoded.result _
    put-decoded.ensures _ c.in_ok-k.was in record {
      bounds = record { long = c.put_values.ensures.bounds.long ∙ g.long; wide = c.put_values.ensures.bounds.wide };
      rows_in = rows-lower args.n _ _ (length args.b.now) c.put_values.result (omega (arith, g.to)) g.long c.put_values.ensures.rows_in;
      puts_param = param-all args.b.now args.n args.t.now args.m args.s.now args.q args.at c.requires.n_in_bounds put-decoded.result _
          put-decoded.ensures _ c.in_ok-k.was (sym is_word.ensures ∙ c.if-not-is_word.false) (sym equals.ensures ∙ if2.false) c.put_values.result
          _ _ c.put_values.ensures.adds_values;
    }
