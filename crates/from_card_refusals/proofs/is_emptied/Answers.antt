use mathlib.Core.Path.{sym, ap, ◌∙◌}
use mathlib.Core.Bool.{not}
use Rattle.line_table.specs.Table.{line_in}
use Rattle.table_entry.proofs.Entry.{value-is}
use Rattle.from_card_refusals.specs.Line.{is_word}
use Rattle.from_card_refusals.proofs.Lines.{uid-emptied, kind-emptied, other-emptied, value-empty}
use Rattle.from_card_refusals.proofs.is_emptied.Goals as goal

pub returns-then-code-eq-UID : goal.returns-then-code-eq-UID
returns-then-code-eq-UID c =
    sym (uid-emptied (line_in c.args.s.now c.args.t.now) c.args.code c.requires.1 c.if-code-eq-UID.true ∙ value-empty c.args.s.now c.args.t.now c.requires.0.value)

pub returns-then-code-eq-KIND : goal.returns-then-code-eq-KIND
returns-then-code-eq-KIND c =
    ap not c.is_word.ensures ∙ sym (kind-emptied (line_in c.args.s.now c.args.t.now) c.args.code c.requires.1 c.if-code-eq-KIND.true ∙ ap (λ v. not (is_word v)) (value-is c.args.s.now c.args.t.now))

pub returns : goal.returns
returns c =
    sym (other-emptied (line_in c.args.s.now c.args.t.now) c.args.code c.requires.1 c.if-code-eq-UID.false c.if-code-eq-KIND.false)
