use native.Mathlib.Omega.{arith}
use mathlib.Core.Path.{sym, ap, ◌∙◌}
use Rattle.json_strings.proofs.Laws.{quote-at}
use Rattle.json_prints.specs.Prints.{print_of}
use Rattle.json_prints.proofs.Prints.{print-end}
use Rattle.json_sound.proofs.print_rest.Goals as goal

pub returns-then-look-eq-QUOTE : goal.returns-then-look-eq-QUOTE
returns-then-look-eq-QUOTE c =
    let args = c.args in
    let look = c.look in record {
      value = sym (ap (print_of args.from) (quote-at args.s.now args.at look.result look.ensures.0 c.if-look-eq-QUOTE.true) ∙ print-end args.from);
      upper_bound = omega arith;
    }

pub returns : goal.returns
returns c = record { value = c.print_from.ensures.value; upper_bound = c.print_from.ensures.upper_bound }
