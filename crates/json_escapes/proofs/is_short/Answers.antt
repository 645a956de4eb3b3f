use borrow.Author.Tests.{eq-eqb, ne_eqb}
use Rattle.json_text.specs.Grammar.{is_short}
use Rattle.json_escapes.proofs.is_short.Goals as goal

pub returns-then-b-eq-QUOTE : goal.returns-then-b-eq-QUOTE
unfolding is_short
returns-then-b-eq-QUOTE c = rw (eq-eqb _ _ c.if-b-eq-QUOTE.true)

pub returns-then-b-eq-BACKSLASH : goal.returns-then-b-eq-BACKSLASH
unfolding is_short
returns-then-b-eq-BACKSLASH c = rw (ne_eqb _ _ c.if-b-eq-QUOTE.false, eq-eqb _ _ c.if-b-eq-BACKSLASH.true)

pub returns-then-b-eq-SLASH : goal.returns-then-b-eq-SLASH
unfolding is_short
returns-then-b-eq-SLASH c = rw (ne_eqb _ _ c.if-b-eq-QUOTE.false, ne_eqb _ _ c.if-b-eq-BACKSLASH.false, eq-eqb _ _ c.if-b-eq-SLASH.true)

pub returns-then-b-eq-LETTER_B : goal.returns-then-b-eq-LETTER_B
unfolding is_short
returns-then-b-eq-LETTER_B c = rw (ne_eqb _ _ c.if-b-eq-QUOTE.false, ne_eqb _ _ c.if-b-eq-BACKSLASH.false, ne_eqb _ _ c.if-b-eq-SLASH.false, eq-eqb _ _ c.if-b-eq-LETTER_B.true)

pub returns-then-b-eq-LETTER_F : goal.returns-then-b-eq-LETTER_F
unfolding is_short
returns-then-b-eq-LETTER_F c = rw (ne_eqb _ _ c.if-b-eq-QUOTE.false, ne_eqb _ _ c.if-b-eq-BACKSLASH.false, ne_eqb _ _ c.if-b-eq-SLASH.false, ne_eqb _ _ c.if-b-eq-LETTER_B.false, eq-eqb _ _ c.if-b-eq-LETTER_F.true)

pub returns-then-b-eq-LETTER_N : goal.returns-then-b-eq-LETTER_N
unfolding is_short
returns-then-b-eq-LETTER_N c = rw (ne_eqb _ _ c.if-b-eq-QUOTE.false, ne_eqb _ _ c.if-b-eq-BACKSLASH.false, ne_eqb _ _ c.if-b-eq-SLASH.false, ne_eqb _ _ c.if-b-eq-LETTER_B.false, ne_eqb _ _ c.if-b-eq-LETTER_F.false, eq-eqb _ _ c.if-b-eq-LETTER_N.true)

pub returns-then-b-eq-LETTER_R : goal.returns-then-b-eq-LETTER_R
unfolding is_short
returns-then-b-eq-LETTER_R c = rw (ne_eqb _ _ c.if-b-eq-QUOTE.false, ne_eqb _ _ c.if-b-eq-BACKSLASH.false, ne_eqb _ _ c.if-b-eq-SLASH.false, ne_eqb _ _ c.if-b-eq-LETTER_B.false, ne_eqb _ _ c.if-b-eq-LETTER_F.false, ne_eqb _ _ c.if-b-eq-LETTER_N.false, eq-eqb _ _ c.if-b-eq-LETTER_R.true)

pub returns : goal.returns
unfolding is_short
returns c = rw (ne_eqb _ _ c.if-b-eq-QUOTE.false, ne_eqb _ _ c.if-b-eq-BACKSLASH.false, ne_eqb _ _ c.if-b-eq-SLASH.false, ne_eqb _ _ c.if-b-eq-LETTER_B.false, ne_eqb _ _ c.if-b-eq-LETTER_F.false, ne_eqb _ _ c.if-b-eq-LETTER_N.false, ne_eqb _ _ c.if-b-eq-LETTER_R.false)
