use native.Mathlib.Omega.{arith}
use mathlib.Core.Path.{sym, ap, ◌∙◌}
use Rattle.json_strings.proofs.Laws.{left-none}
use Rattle.json_strings.proofs.NextByte.{byte-in, is-alone, is-end}
use Rattle.json_prints.specs.Prints.{print_of}
use Rattle.json_prints.proofs.Prints.{print-one, print-end}
use Rattle.json_prints.proofs.print_from.Goals as goal

pub loop-b-init : goal.loop-b-init
loop-b-init c = (omega arith, omega arith, ap (print_of c.args.from) (sym (left-none c.args.s.now c.args.at)))

pub next_byte-requires : goal.next_byte-requires
next_byte-requires c = c.loop-b.invariant.0

pub returns-in-Alone : goal.returns-in-Alone
returns-in-Alone c =
    let loop = c.loop-b in
    record { value = sym (loop.invariant.2 ∙ ap (print_of loop.p) (is-alone c.args.s.now c.next_byte.ensures.0 c.in-Alone.is)); upper_bound = omega arith }

pub returns-in-End : goal.returns-in-End
returns-in-End c =
    let args = c.args in
    let loop = c.loop-b in record {
      value = sym (loop.invariant.2 ∙ ap (print_of loop.p) (is-end args.s.now c.next_byte.ensures.0 c.in-End.is) ∙ print-end loop.p);
      upper_bound = omega (arith, loop.invariant.1);
    }

pub stirred-p-requires : goal.stirred-p-requires
stirred-p-requires c = c.loop-b.invariant.1

pub loop-b-smaller : goal.loop-b-smaller
loop-b-smaller c =
    let args = c.args in
    let loop = c.loop-b in
    (byte-in args.s.now loop.i loop.h c.next_byte.ensures.1 c.in-One.is).1

pub loop-b-preserved : goal.loop-b-preserved
loop-b-preserved c =
    let args = c.args in
    let loop = c.loop-b in
    let next-byte = c.next_byte in (
      (byte-in args.s.now loop.i loop.h next-byte.ensures.1 c.in-One.is).0,
      c.stirred-p.ensures.upper_bound,
      loop.invariant.2 ∙ print-one args.s.now next-byte.ensures.0 c.in-One.is loop.p c.stirred-p.result c.stirred-p.ensures.value,
    )
