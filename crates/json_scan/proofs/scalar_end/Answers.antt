use borrow.Author.Tests.{eq-eqb, ne_eqb}
use Rattle.text.specs.Bytes.{is}
use Rattle.text.proofs.Places.{by-on, not_on, by-when, not-when, by-under}
use Rattle.json_text.specs.Tree.{jtrue, jfalse, jnull}
use Rattle.json_text.specs.Syntax.{scalar}
use Rattle.json_scan.proofs.Laws.{four-any}
use Rattle.json_scan.proofs.scalar_end.Goals as goal

pub returns-then-b-eq-QUOTE : goal.returns-then-b-eq-QUOTE
unfolding scalar
returns-then-b-eq-QUOTE c = by-on (is 34) _ _ c.look-b.ensures.0 (eq-eqb _ _ c.if-b-eq-QUOTE.true) (by-under _ c.string_end.ensures)

pub returns-then-b-eq-LETTER_T : goal.returns-then-b-eq-LETTER_T
unfolding scalar
returns-then-b-eq-LETTER_T c = not_on (is 34) _ _ c.look-b.ensures.0 (ne_eqb _ _ c.if-b-eq-QUOTE.false) (by-when (is 116) _ _ c.look-b.ensures.0 (eq-eqb _ _ c.if-b-eq-LETTER_T.true) (four-any 116 114 117 101 jtrue c.four_end.ensures))

pub returns-then-b-eq-LETTER_F : goal.returns-then-b-eq-LETTER_F
unfolding scalar
returns-then-b-eq-LETTER_F c = not_on (is 34) _ _ c.look-b.ensures.0 (ne_eqb _ _ c.if-b-eq-QUOTE.false) (not-when (is 116) _ _ c.look-b.ensures.0 (ne_eqb _ _ c.if-b-eq-LETTER_T.false)
    (by-on (is 102) _ _ c.look-b.ensures.0 (eq-eqb _ _ c.if-b-eq-LETTER_F.true) (four-any 97 108 115 101 jfalse c.four_end-then-b-eq-LETTER_F.ensures)))

pub returns-then-b-eq-LETTER_N : goal.returns-then-b-eq-LETTER_N
unfolding scalar
returns-then-b-eq-LETTER_N c = not_on (is 34) _ _ c.look-b.ensures.0 (ne_eqb _ _ c.if-b-eq-QUOTE.false) (not-when (is 116) _ _ c.look-b.ensures.0 (ne_eqb _ _ c.if-b-eq-LETTER_T.false)
    (not_on (is 102) _ _ c.look-b.ensures.0 (ne_eqb _ _ c.if-b-eq-LETTER_F.false) (by-when (is 110) _ _ c.look-b.ensures.0 (eq-eqb _ _ c.if-b-eq-LETTER_N.true) (four-any 110 117 108 108 jnull c.four_end-then-b-eq-LETTER_N.ensures))))

pub returns : goal.returns
unfolding scalar
returns c = not_on (is 34) _ _ c.look-b.ensures.0 (ne_eqb _ _ c.if-b-eq-QUOTE.false) (not-when (is 116) _ _ c.look-b.ensures.0 (ne_eqb _ _ c.if-b-eq-LETTER_T.false)
    (not_on (is 102) _ _ c.look-b.ensures.0 (ne_eqb _ _ c.if-b-eq-LETTER_F.false) (not-when (is 110) _ _ c.look-b.ensures.0 (ne_eqb _ _ c.if-b-eq-LETTER_N.false) (by-under _ c.number_end.ensures))))
