use mathlib.Core.Path.{ap}
use Rattle.to_card_pen.proofs.Refusal.{refused}
use mathlib.Core.Bool.{not}
use Rattle.to_card_entry.proofs.Judging.{two, seven, judged-strange, judged-kind, judged-contexts, judged-features, judged-pref, judged-fit}
use mathlib.Core.Path.{◌∙◌}
use native.Mathlib.Omega.{arith}
use Rattle.to_card_entry.proofs.judge.Goals as goal

pub returns-then-other-ne0 : goal.returns-then-other-ne0
returns-then-other-ne0 c =
    let args = c.args in
    let pre = c.requires in record {
      row_len = pre;
      judges_slots = judged-strange args.s.now args.kind args.contexts args.pref args.features args.other args.kinds.now args.count _ _ c.if-other-ne0.true;
    }

pub returns-in_err-which : goal.returns-in_err-which
returns-in_err-which c =
    let e = refused c.from_residual.result c.from_residual.ensures.0 in
    let pre = c.requires in
    let args = c.args in
    let if1 = c.if-other-ne0 in
    let kind-in = c.kind_in in record {
      row_len = pre;
      judges_slots = rw e (judged-kind args.s.now args.kind args.contexts args.pref args.features args.other args.kinds.now args.count _ if1.false kind-in.result kind-in.ensures _ c.in_err-which.was);
    }

pub flags_in-requires : goal.flags_in-requires
flags_in-requires c = record { count_value = two; count_in_bounds = omega (arith, c.requires) }

pub returns-then-not-flags_in : goal.returns-then-not-flags_in
returns-then-not-flags_in c =
    let args = c.args in
    let pre = c.requires in
    let if1 = c.if-other-ne0 in
    let kind-in = c.kind_in in
    record {
      row_len = c.flags_in.ensures.row_len_unchanged ∙ pre;
      judges_slots = judged-contexts args.s.now args.kind args.contexts args.pref args.features args.other args.kinds.now args.count _ if1.false kind-in.result kind-in.ensures _ c.in_ok-which.was c.flags_in.result _ c.flags_in.ensures.tells_flags _ (ap not c.if-not-flags_in.true);
    }

pub flags_in-requires-2 : goal.flags_in-requires-2
flags_in-requires-2 c = record { count_value = seven; count_in_bounds = omega (arith, c.requires, c.flags_in.ensures.row_len_unchanged) }

pub returns-then-not-flags_in-2 : goal.returns-then-not-flags_in-2
returns-then-not-flags_in-2 c =
    let args = c.args in
    let pre = c.requires in
    let if1 = c.if-other-ne0 in
    let kind-in = c.kind_in in
    record {
      row_len = c.flags_in-2.ensures.row_len_unchanged ∙ c.flags_in.ensures.row_len_unchanged ∙ pre;
      judges_slots = judged-features args.s.now args.kind args.contexts args.pref args.features args.other args.kinds.now args.count _ if1.false kind-in.result kind-in.ensures _ c.in_ok-which.was c.flags_in.result _ c.flags_in.ensures.tells_flags (ap not c.if-not-flags_in.false) c.flags_in-2.result _ c.flags_in-2.ensures.tells_flags _ (ap not c.if-not-flags_in-2.true);
    }

pub returns-in_err-part : goal.returns-in_err-part
returns-in_err-part c =
    let e = refused c.from_residual-in_err-part.result c.from_residual-in_err-part.ensures.0 in
    let pre = c.requires in
    let args = c.args in
    let if1 = c.if-other-ne0 in
    let kind-in = c.kind_in in
    let pref-in = c.pref_in in record {
      row_len = c.flags_in-2.ensures.row_len_unchanged ∙ c.flags_in.ensures.row_len_unchanged ∙ pre;
      judges_slots = rw e (judged-pref args.s.now args.kind args.contexts args.pref args.features args.other args.kinds.now args.count _ if1.false kind-in.result kind-in.ensures _ c.in_ok-which.was c.flags_in.result _ c.flags_in.ensures.tells_flags (ap not c.if-not-flags_in.false) c.flags_in-2.result _ c.flags_in-2.ensures.tells_flags (ap not c.if-not-flags_in-2.false) pref-in.result pref-in.ensures _ c.in_err-part.was);
    }

pub returns : goal.returns
returns c =
    let pre = c.requires in
    let args = c.args in
    let if1 = c.if-other-ne0 in
    let kind-in = c.kind_in in
    let pref-in = c.pref_in in record {
      row_len = c.flags_in-2.ensures.row_len_unchanged ∙ c.flags_in.ensures.row_len_unchanged ∙ pre;
      judges_slots = judged-fit args.s.now args.kind args.contexts args.pref args.features args.other args.kinds.now args.count _ if1.false kind-in.result kind-in.ensures _ c.in_ok-which.was c.flags_in.result _ c.flags_in.ensures.tells_flags (ap not c.if-not-flags_in.false) c.flags_in-2.result _ c.flags_in-2.ensures.tells_flags (ap not c.if-not-flags_in-2.false) pref-in.result pref-in.ensures _ _ c.in_ok-part.was;
    }
