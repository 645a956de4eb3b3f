use native.Mathlib.Omega.{arith}
use mathlib.Core.Path.{refl, sym, ◌∙◌}
use Rattle.text.specs.Bytes.{ascii}
use Rattle.to_card_kept_entry.proofs.strings.Putting.{part_same, grew, no_room}
use Rattle.to_card_kept_entry.proofs.strings.Values.{rows_in}
use Rattle.to_card_kept_entry.proofs.entry.Types.{typed-full, typed-rows, typed_wrong, typed-other, typed-all}
use Rattle.to_card_kept_entry.proofs.entry.put_typed.Goals as goal

pub returns-in_default : goal.returns-in_default
returns-in_default c =
    let args = c.args in
    let put-text = c.put_text in
    let z = no_room args.b.now args.n c.requires.n_in_bounds (ascii "value") _ put-text.result put-text.ensures c.in_default.is in record {
      bounds = record { long = z.0; wide = refl };
      rows_in = tt;
      puts_typed = typed-full args.b.now args.n args.t.now args.m args.s.now args.at z.1 _ _;
    }

pub overflow_add-a : goal.overflow_add-a
overflow_add-a c =
    let good = c.well_formed in
    let args = c.args in
    let put-text = c.put_text in
    record {
      fits = let g = grew args.b.now args.n c.requires.n_in_bounds (ascii "value") _ put-text.result put-text.ensures c.in-Ok.is
          in omega (arith, g.within, good.0.0);
    }

pub put_value-requires : goal.put_value-requires
put_value-requires c =
    let args = c.args in
    let put-text = c.put_text in
    let g = grew args.b.now args.n c.requires.n_in_bounds (ascii "value") _ put-text.result put-text.ensures c.in-Ok.is in
    record { n_in_bounds = omega (arith, g.within, g.long); table_length_in_bounds = c.requires.table_length_in_bounds }

pub returns-in_err-rows-clause-puts_typed : goal.returns-in_err-rows-clause-puts_typed
returns-in_err-rows-clause-puts_typed c =
    let args = c.args in
    let put-text = c.put_text in
    rw c.from_residual.ensures (typed_wrong args.b.now args.n args.t.now args.m args.s.now args.at c.requires.n_in_bounds _ _
    (grew args.b.now args.n c.requires.n_in_bounds (ascii "value") _ put-text.result put-text.ensures c.in-Ok.is) c.put_value.result _ _
    c.put_value.ensures.adds_value c.in_err-rows.was)

pub returns-then-not-is_word : goal.returns-then-not-is_word
returns-then-not-is_word c =
    let args = c.args in
    let put-text = c.put_text in
    record {
      bounds = record { long = c.put_value.ensures.bounds.long ∙ part_same args.b.now args.n c.requires.n_in_bounds (ascii "value") _ put-text.result put-text.ensures; wide = c.put_value.ensures.bounds.wide };
      rows_in = tt;
      puts_typed = typed-other args.b.now args.n args.t.now args.m args.s.now args.at c.requires.n_in_bounds _ _
          (grew args.b.now args.n c.requires.n_in_bounds (ascii "value") _ put-text.result put-text.ensures c.in-Ok.is) c.put_value.result _ _
          c.put_value.ensures.adds_value _ _ c.in_ok-rows.was (sym c.is_word.ensures ∙ c.if-not-is_word.true);
    }

pub returns : goal.returns
returns c =
    let args = c.args in
    let put-text = c.put_text in
    let g = grew args.b.now args.n c.requires.n_in_bounds (ascii "value") _ put-text.result put-text.ensures c.in-Ok.is in record {
      bounds = record { long = c.put_value.ensures.bounds.long ∙ part_same args.b.now args.n c.requires.n_in_bounds (ascii "value") _ put-text.result put-text.ensures; wide = c.put_value.ensures.bounds.wide };
      rows_in = typed-rows g (rows_in c.put_value.ensures.rows_in c.in_ok-rows.was);
      puts_typed = typed-all args.b.now args.n args.t.now args.m args.s.now args.at c.requires.n_in_bounds _ _
          (grew args.b.now args.n c.requires.n_in_bounds (ascii "value") _ put-text.result put-text.ensures c.in-Ok.is) c.put_value.result _ _
          c.put_value.ensures.adds_value _ _ c.in_ok-rows.was (sym c.is_word.ensures ∙ c.if-not-is_word.false);
    }
