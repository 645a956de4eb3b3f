use Rattle.to_card_params.proofs.Prefs.{pref-absent, pref-other, pref-bad, pref-good}
use mathlib.Core.Path.{sym, ◌∙◌}
use Rattle.to_card_params.proofs.pref_in.Goals as goal

pub returns-then-slot-eq0 : goal.returns-then-slot-eq0
returns-then-slot-eq0 c = pref-absent c.args.s.now c.args.slot c.if-slot-eq0.true

pub returns-then-v-ne-NUMBER : goal.returns-then-v-ne-NUMBER
returns-then-v-ne-NUMBER c =
    let args = c.args in
    let if1 = c.if-slot-eq0 in
    let kind_at = c.kind_at in
    let kind-code = c.kind_code-v in
    pref-other args.s.now args.slot if1.false kind_at.result kind_at.ensures kind-code.result kind-code.ensures c.if-v-ne-NUMBER.true

pub returns-then-not-is_pref : goal.returns-then-not-is_pref
returns-then-not-is_pref c =
    let args = c.args in
    let if1 = c.if-slot-eq0 in
    let kind_at = c.kind_at in
    let kind-code = c.kind_code-v in
    let if2 = c.if-v-ne-NUMBER in
    pref-bad args.s.now args.slot if1.false kind_at.result kind_at.ensures kind-code.result kind-code.ensures if2.false
    c.element_at-p.result c.element_at-p.ensures.tells_element c.element_at-p.ensures.inside (sym c.is_pref.ensures ∙ c.if-not-is_pref.true)

pub returns : goal.returns
returns c =
    let args = c.args in
    let if1 = c.if-slot-eq0 in
    let kind_at = c.kind_at in
    let kind-code = c.kind_code-v in
    let if2 = c.if-v-ne-NUMBER in
    pref-good args.s.now args.slot if1.false kind_at.result kind_at.ensures kind-code.result kind-code.ensures if2.false
    c.element_at-p.result c.element_at-p.ensures.tells_element c.element_at-p.ensures.inside (sym c.is_pref.ensures ∙ c.if-not-is_pref.false)
