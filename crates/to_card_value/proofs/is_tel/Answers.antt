use Rattle.to_card_value.proofs.Pieces.{tel_seen, tel-first, tel-end, tel-bad, tel-more, no-form, the_form}
use Rattle.to_card_value.specs.Values.{tel_of}
use Rattle.json_strings.proofs.NextByte.{byte-in, is-alone, is-end, is_one}
use Rattle.json_strings.proofs.Laws.{left-none, decoded-past}
use Rattle.json_strings.specs.Decoded.{left}
use borrow.Author.Tests.{eq-eqb, ne_eqb}
use mathlib.Core.Path.{sym, ap, ◌∙◌}
use Rattle.to_card_value.proofs.is_tel.Goals as goal

pub returns-then-form-ne-FORM_BYTE : goal.returns-then-form-ne-FORM_BYTE
returns-then-form-ne-FORM_BYTE c = no-form _ (ne_eqb _ _ c.if-form-ne-FORM_BYTE.true)

pub returns-then-at-s : goal.returns-then-at-s
returns-then-at-s c = the_form (eq-eqb _ _ c.if-form-ne-FORM_BYTE.false) (sym (ap tel_of (decoded-past c.args.s.now c.args.at c.if-at-s.true)))

pub loop-b-init : goal.loop-b-init
loop-b-init c = (c.if-at-s.false, tel-first _ _ (left-none c.args.s.now c.args.at))

pub byte_at-requires : goal.byte_at-requires
byte_at-requires c = c.loop-b.invariant.0

pub returns-in-Alone : goal.returns-in-Alone
returns-in-Alone c =
    let args = c.args in
    let if1 = c.if-form-ne-FORM_BYTE in
    let loop = c.loop-b in
    the_form (eq-eqb _ _ if1.false)
    (sym (loop.invariant.1 ∙ ap (tel_seen loop.k) (is-alone args.s.now c.byte_at.ensures.0 c.in-Alone.is)))

pub returns-in-End : goal.returns-in-End
returns-in-End c =
    let args = c.args in
    let if1 = c.if-form-ne-FORM_BYTE in
    let loop = c.loop-b in
    the_form (eq-eqb _ _ if1.false)
    (tel-end loop.k ∙ sym
    (loop.invariant.1 ∙ ap (tel_seen loop.k) (is-end args.s.now c.byte_at.ensures.0 c.in-End.is)))

pub returns-then-not-fits_tel : goal.returns-then-not-fits_tel
returns-then-not-fits_tel c =
    let args = c.args in
    let if1 = c.if-form-ne-FORM_BYTE in
    let loop = c.loop-b in
    let byte_at = c.byte_at in
    the_form (eq-eqb _ _ if1.false)
    (tel-bad loop.k c.in-One.b (left args.s.now c.in-One.j c.in-One.g)
    (sym c.fits_tel.ensures ∙ c.if-not-fits_tel.true) ∙ sym
    (loop.invariant.1 ∙ ap (tel_seen loop.k) (is_one args.s.now byte_at.ensures.0 c.in-One.is)))

pub loop-b-smaller : goal.loop-b-smaller
loop-b-smaller c =
    let args = c.args in
    let loop = c.loop-b in
    let byte_at = c.byte_at in
    (byte-in args.s.now loop.i loop.h byte_at.ensures.1 c.in-One.is).1

pub loop-b-preserved : goal.loop-b-preserved
loop-b-preserved c =
    let args = c.args in
    let loop = c.loop-b in
    let byte_at = c.byte_at in (
      (byte-in args.s.now loop.i loop.h byte_at.ensures.1 c.in-One.is).0,
      loop.invariant.1 ∙ ap (tel_seen loop.k) (is_one args.s.now byte_at.ensures.0 c.in-One.is) ∙ tel-more loop.k c.in-One.b (left args.s.now c.in-One.j c.in-One.g) (sym c.fits_tel.ensures ∙ c.if-not-fits_tel.false) c.onward-k.ensures,
    )
