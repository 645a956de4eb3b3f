use Rattle.to_card_value.proofs.Whole.{value-org, value_none, value-tel, value-raw, value-text}
use Rattle.line_pen.proofs.Laws.{pens-in, pens-length}
use mathlib.Core.Path.{refl}
use Rattle.to_card_value.proofs.put_value.Goals as goal

pub returns-then-form-eq-FORM_BYTE : goal.returns-then-form-eq-FORM_BYTE
returns-then-form-eq-FORM_BYTE c =
    let args = c.args in
    let if1 = c.if-form-eq-FORM_BYTE in
    record {
      put_in = c.put_organization.ensures.put_in;
      out_len_unchanged = c.put_organization.ensures.out_len_unchanged;
      tells_value = value-org args.s.now args.content args.units args.form _ _ _ _ if1.true c.put_organization.ensures.tells_org;
    }

pub returns-then-q-eq0 : goal.returns-then-q-eq0
returns-then-q-eq0 c =
    let args = c.args in
    let text_in = c.text_in-q in record {
      put_in = tt;
      out_len_unchanged = refl;
      tells_value = value_none args.s.now args.content args.units args.form _ _ _ c.if-form-eq-FORM_BYTE.false text_in.result text_in.ensures c.if-q-eq0.true;
    }

pub returns-then-is_tel : goal.returns-then-is_tel
returns-then-is_tel c =
    let args = c.args in
    let if1 = c.if-form-eq-FORM_BYTE in
    let text_in = c.text_in-q in
    let if2 = c.if-q-eq0 in
    let is-tel = c.is_tel in
    let if3 = c.if-is_tel in
    let pen-text = c.pen_text-t in record {
      put_in = pens-in pen-text.ensures.pens;
      out_len_unchanged = pens-length pen-text.ensures.pens;
      tells_value = value-tel args.s.now args.content args.units args.form _ _ _ if1.false text_in.result text_in.ensures if2.false is-tel.result is-tel.ensures pen-text.result if3.true pen-text.ensures;
    }

pub returns-then-form-eq-FORM_BYTE-2 : goal.returns-then-form-eq-FORM_BYTE-2
returns-then-form-eq-FORM_BYTE-2 c =
    let args = c.args in
    let if1 = c.if-form-eq-FORM_BYTE in
    let text_in = c.text_in-q in
    let if2 = c.if-q-eq0 in
    let is-tel = c.is_tel in
    let if3 = c.if-is_tel in
    let if4 = c.if-form-eq-FORM_BYTE-2 in
    let pen-text2 = c.pen_text-t-then-form-eq-FORM_BYTE-2 in record {
      put_in = pens-in pen-text2.ensures.pens;
      out_len_unchanged = pens-length pen-text2.ensures.pens;
      tells_value = value-raw args.s.now args.content args.units args.form _ _ _ if1.false text_in.result text_in.ensures if2.false is-tel.result is-tel.ensures pen-text2.result if3.false if4.true pen-text2.ensures;
    }

pub returns : goal.returns
returns c =
    let args = c.args in
    let if1 = c.if-form-eq-FORM_BYTE in
    let text_in = c.text_in-q in
    let if2 = c.if-q-eq0 in
    let is-tel = c.is_tel in
    let if3 = c.if-is_tel in
    let if4 = c.if-form-eq-FORM_BYTE-2 in
    let pen-text3 = c.pen_text-t-2 in record {
      put_in = pens-in pen-text3.ensures.pens;
      out_len_unchanged = pens-length pen-text3.ensures.pens;
      tells_value = value-text args.s.now args.content args.units args.form _ _ _ if1.false text_in.result text_in.ensures if2.false is-tel.result is-tel.ensures pen-text3.result if3.false if4.false pen-text3.ensures;
    }
