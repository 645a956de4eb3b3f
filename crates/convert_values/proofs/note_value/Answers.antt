use borrow.Author.Rules.{rules}
use native.Mathlib.Omega.{arith}
use Rattle.convert_values.proofs.Texts.{part-good}
use Rattle.convert_values.proofs.Noting.{noted-not, noted_more, counted-on, counted-off}
use borrow.Author.Rules.{rules}
use Rattle.convert_values.proofs.note_value.Goals as goal

pub returns-then-i-e : goal.returns-then-i-e
returns-then-i-e c =
    let args = c.args in
    record {
      value = counted-off args.i args.e args.n c.if-i-e.true;
      noting_2 = noted-not args.o.now args.i args.e c.requires.readable.1 args.places.now args.prints.now args.n c.requires.noting c.if-i-e.true;
    }

pub print_text-p-requires : goal.print_text-p-requires
print_text-p-requires c =
    let args = c.args in
    part-good 44 args.o.now args.i args.e c.requires.readable.1 c.requires.readable.0

pub offset_bounds-places-n : goal.offset_bounds-places-n
offset_bounds-places-n c = let l = (c.requires.n_in_bounds c.if-i-e.false).0 in search rules

pub bounds-places-n : goal.bounds-places-n
bounds-places-n c = (c.requires.n_in_bounds c.if-i-e.false).0

pub offset_bounds-prints-n : goal.offset_bounds-prints-n
offset_bounds-prints-n c = let l = (c.requires.n_in_bounds c.if-i-e.false).1 in search rules

pub bounds-prints-n : goal.bounds-prints-n
bounds-prints-n c = (c.requires.n_in_bounds c.if-i-e.false).1

pub overflow_add-result : goal.overflow_add-result
overflow_add-result c = let l = (c.requires.n_in_bounds c.if-i-e.false).0 in search rules

pub returns : goal.returns
returns c =
    let args = c.args in
    let if1 = c.if-i-e in record {
      value = counted-on args.i args.e args.n if1.false;
      noting_2 = noted_more args.o.now args.i args.e c.requires.readable.1 args.places.now args.prints.now args.n c.requires.noting
          (omega (arith, if1.false, c.requires.readable.2)) c.requires.readable.0 (c.requires.n_in_bounds if1.false).0 (c.requires.n_in_bounds if1.false).1 c.print_text-p.result
          c.print_text-p.ensures;
    }
