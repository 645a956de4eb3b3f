use lib.Dec.{eqb}
use mathlib.Core.Path.{sym, ◌∙◌}
use borrow.Author.Tests.{eqb-true}
use Rattle.text.proofs.Cases.{and_left, and_right}
use Rattle.convert_entry.proofs.Tests.{reads-raw, reads-tel, reads-text, reads-org, single-cut, single-whole}
use Rattle.convert_entry.proofs.reads_as.Goals as goal

pub returns-then-form-eq-RAW : goal.returns-then-form-eq-RAW
returns-then-form-eq-RAW c = λ f t n k. sym (reads-raw f t _ (n ∙ c.if-form-eq-RAW.true))

pub returns-then-form-kind : goal.returns-then-form-kind
returns-then-form-kind c =
    let args = c.args in
    let if2 = c.if-form-kind in
    λ f t n k. c.begins_tel.ensures ∙ sym
    (reads-tel f t _ (n ∙ eqb-true _ _ (and_left (eqb args.form 3) (eqb args.kind 1) if2.true))
    (sym k ∙ eqb-true _ _ (and_right (eqb args.form 3) (eqb args.kind 1) if2.true)))

pub returns-then-part_end-v : goal.returns-then-part_end-v
returns-then-part_end-v c = λ f t n k. sym (single-cut f t _ _ (n ∙ c.if-form-eq-SINGLE.true) c.part_end.ensures c.if-part_end-v.true)

pub returns-then-form-eq-SINGLE : goal.returns-then-form-eq-SINGLE
returns-then-form-eq-SINGLE c = λ f t n k. c.is_text.ensures ∙ sym (single-whole f t _ _ (n ∙ c.if-form-eq-SINGLE.true) c.part_end.ensures c.if-part_end-v.false)

pub returns-then-not-has_other : goal.returns-then-not-has_other
returns-then-not-has_other c = λ f t n k. sym (reads-org f t _ (n ∙ c.if-form-eq-ORGANIZATION.true) ∙ rw (sym c.has_other.ensures ∙ c.if-not-has_other.true))

pub returns-then-form-eq-ORGANIZATION : goal.returns-then-form-eq-ORGANIZATION
returns-then-form-eq-ORGANIZATION c = λ f t n k. sym (reads-org f t _ (n ∙ c.if-form-eq-ORGANIZATION.true) ∙ rw (sym c.has_other.ensures ∙ c.if-not-has_other.false) (sym c.is_text-then-form-eq-ORGANIZATION.ensures))

pub returns : goal.returns
returns c = λ f t n k. c.is_text-2.ensures ∙ sym (reads-text f t _ (λ h. c.if-form-eq-SINGLE.false (sym n ∙ h)) (λ h. c.if-form-eq-RAW.false (sym n ∙ h)) (λ h. c.if-form-eq-ORGANIZATION.false (sym n ∙ h)) (rw (n, sym k) c.if-form-kind.false))
