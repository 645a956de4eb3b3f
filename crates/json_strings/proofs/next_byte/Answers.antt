use native.Mathlib.Omega.{arith}
use mathlib.Core.Path.{ap, ◌∙◌}
use lib.ListN.{length}
use Rattle.json_strings.specs.Decoded.{left, letter_of}
use Rattle.json_strings.proofs.Laws.{letter-in, left-none, left-held, left-raw, left-code, weight-falls}
use Rattle.json_strings.proofs.next_byte.Goals as goal

pub returns-then-hold-ne0 : goal.returns-then-hold-ne0
returns-then-hold-ne0 c = let h = left-held c.args.s.now c.args.at c.args.hold (omega arith) c.if-hold-ne0.true in (h.0, (c.requires, h.1))

pub lead_of-requires : goal.lead_of-requires
lead_of-requires c = (letter-in c.args.at (length c.args.s.now) c.letter_at.ensures.1 c.in-Code.is).2

pub rest_of-requires : goal.rest_of-requires
rest_of-requires c = (letter-in c.args.at (length c.args.s.now) c.letter_at.ensures.1 c.in-Code.is).2

pub returns-in-End : goal.returns-in-End
returns-in-End c =
    let args = c.args in
    let if1 = c.if-hold-ne0 in (
      ap (left args.s.now args.at) if1.false ∙ left-none args.s.now args.at ∙ c.letter_at.ensures.0 ∙ ap (letter_of args.s.now) c.in-End.is,
      tt,
    )

pub returns-in-Alone : goal.returns-in-Alone
returns-in-Alone c =
    let args = c.args in
    let if1 = c.if-hold-ne0 in (
      ap (left args.s.now args.at) if1.false ∙ left-none args.s.now args.at ∙ c.letter_at.ensures.0 ∙ ap (letter_of args.s.now) c.in-Alone.is,
      tt,
    )

pub returns-in-Raw : goal.returns-in-Raw
returns-in-Raw c =
    let args = c.args in
    let if1 = c.if-hold-ne0 in
    let letter_at = c.letter_at in
    let w = letter-in args.at (length args.s.now) letter_at.ensures.1 c.in-Raw.is in (
      ap (left args.s.now args.at) if1.false ∙ left-raw args.s.now args.at _ _ (letter_at.ensures.0 ∙ ap (letter_of args.s.now) c.in-Raw.is),
      (w.1, weight-falls args.s.now args.at _ args.hold 0 w.0 w.1),
    )

pub returns-in-Code : goal.returns-in-Code
returns-in-Code c =
    let args = c.args in
    let if1 = c.if-hold-ne0 in
    let letter_at = c.letter_at in
    let w = letter-in args.at (length args.s.now) letter_at.ensures.1 c.in-Code.is in (
      ap (left args.s.now args.at) if1.false ∙ rw (c.lead_of.ensures, c.rest_of.ensures) (left-code args.s.now args.at _ _ (letter_at.ensures.0 ∙ ap (letter_of args.s.now) c.in-Code.is)),
      (w.1, weight-falls args.s.now args.at _ args.hold c.rest_of.result w.0 w.1),
    )
