use native.Mathlib.Omega.{arith}
use borrow.Author.Tests.{eq-eqb, ne_eqb}
use Rattle.json_text.specs.Syntax.{short}
use Rattle.json_escapes.proofs.short_of.Goals as goal

pub returns-then-b-eq-LETTER_B : goal.returns-then-b-eq-LETTER_B
unfolding short
returns-then-b-eq-LETTER_B c = (rw (eq-eqb _ _ c.if-b-eq-LETTER_B.true), omega arith)

pub returns-then-b-eq-LETTER_F : goal.returns-then-b-eq-LETTER_F
unfolding short
returns-then-b-eq-LETTER_F c = (rw (ne_eqb _ _ c.if-b-eq-LETTER_B.false, eq-eqb _ _ c.if-b-eq-LETTER_F.true), omega arith)

pub returns-then-b-eq-LETTER_N : goal.returns-then-b-eq-LETTER_N
unfolding short
returns-then-b-eq-LETTER_N c = (rw (ne_eqb _ _ c.if-b-eq-LETTER_B.false, ne_eqb _ _ c.if-b-eq-LETTER_F.false, eq-eqb _ _ c.if-b-eq-LETTER_N.true), omega arith)

pub returns-then-b-eq-LETTER_R : goal.returns-then-b-eq-LETTER_R
unfolding short
returns-then-b-eq-LETTER_R c = (rw (ne_eqb _ _ c.if-b-eq-LETTER_B.false, ne_eqb _ _ c.if-b-eq-LETTER_F.false, ne_eqb _ _ c.if-b-eq-LETTER_N.false, eq-eqb _ _ c.if-b-eq-LETTER_R.true), omega arith)

pub returns-then-b-eq-LETTER_T : goal.returns-then-b-eq-LETTER_T
unfolding short
returns-then-b-eq-LETTER_T c = (rw (ne_eqb _ _ c.if-b-eq-LETTER_B.false, ne_eqb _ _ c.if-b-eq-LETTER_F.false, ne_eqb _ _ c.if-b-eq-LETTER_N.false, ne_eqb _ _ c.if-b-eq-LETTER_R.false, eq-eqb _ _ c.if-b-eq-LETTER_T.true), omega arith)

pub returns : goal.returns
unfolding short
returns c = (rw (ne_eqb _ _ c.if-b-eq-LETTER_B.false, ne_eqb _ _ c.if-b-eq-LETTER_F.false, ne_eqb _ _ c.if-b-eq-LETTER_N.false, ne_eqb _ _ c.if-b-eq-LETTER_R.false, ne_eqb _ _ c.if-b-eq-LETTER_T.false), omega arith)
