use native.Mathlib.Omega.{arith}
use mathlib.Core.Path.{refl, sym, ◌∙◌}
use Rattle.to_card_kept_entry.proofs.entry.Types.{type-none, unknown-many, unknown-fits, value-many, value-typed}
use Rattle.to_card_kept_entry.proofs.entry.put_type.Goals as goal

pub returns-then-q-eq0 : goal.returns-then-q-eq0
returns-then-q-eq0 c =
    let args = c.args in
    let string-in = c.string_in-q in record {
      bounds = record { long = refl; wide = refl };
      rows_in = tt;
      puts_type = type-none args.b.now args.n args.t.now args.m args.count args.s.now args.at string-in.result string-in.ensures c.requires.n_in_bounds c.if-q-eq0.true _ _;
    }

pub returns-then-count-gt-PARAMS : goal.returns-then-count-gt-PARAMS
returns-then-count-gt-PARAMS c =
    let args = c.args in
    let string-in = c.string_in-q in
    let if1 = c.if-q-eq0 in record {
      bounds = record { long = refl; wide = refl };
      rows_in = tt;
      puts_type = unknown-many args.b.now args.n args.t.now args.m args.count args.s.now args.at string-in.result string-in.ensures c.requires.n_in_bounds if1.false (sym c.equals.ensures ∙ c.if-equals.true) c.if-count-gt-PARAMS.true;
    }

pub returns-then-equals : goal.returns-then-equals
returns-then-equals c =
    let args = c.args in
    let string-in = c.string_in-q in
    let if1 = c.if-q-eq0 in record {
      bounds = record { long = refl; wide = refl };
      rows_in = (omega arith, c.requires.n_in_bounds, c.requires.m_bound);
      puts_type = unknown-fits args.b.now args.n args.t.now args.m args.count args.s.now args.at string-in.result string-in.ensures c.requires.n_in_bounds if1.false (sym c.equals.ensures ∙ c.if-equals.true) c.if-count-gt-PARAMS.false;
    }

pub returns-then-count-ge-PARAMS : goal.returns-then-count-ge-PARAMS
returns-then-count-ge-PARAMS c =
    let args = c.args in
    let string-in = c.string_in-q in
    let if1 = c.if-q-eq0 in record {
      bounds = record { long = refl; wide = refl };
      rows_in = tt;
      puts_type = value-many args.b.now args.n args.t.now args.m args.count args.s.now args.at string-in.result string-in.ensures c.requires.n_in_bounds if1.false (sym c.equals.ensures ∙ c.if-equals.false) c.if-count-ge-PARAMS.true;
    }

pub returns : goal.returns
returns c =
    let args = c.args in
    let string-in = c.string_in-q in
    let if1 = c.if-q-eq0 in
    let equals = c.equals in
    let if2 = c.if-equals in
    let if4 = c.if-count-ge-PARAMS in
    record {
      bounds = c.put_typed.ensures.bounds;
      rows_in = c.put_typed.ensures.rows_in;
      puts_type = value-typed args.b.now args.n args.t.now args.m args.count args.s.now args.at string-in.result string-in.ensures c.requires.n_in_bounds if1.false (sym equals.ensures ∙ if2.false) if4.false c.put_typed.result _ _ c.put_typed.ensures.puts_typed;
    }
