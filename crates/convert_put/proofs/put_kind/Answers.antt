use mathlib.Core.Path.{sym, ap}
use Rattle.output.proofs.Laws.{puts-as, start, done}
use Rattle.convert_put.specs.Pieces.{kind_piece}
use Rattle.convert_put.proofs.Writing.{no_kind}
use Rattle.convert_put.proofs.put_kind.Goals as goal

pub returns-then-kind-eq-TITLE : goal.returns-then-kind-eq-TITLE
unfolding kind_piece
returns-then-kind-eq-TITLE c = puts-as (sym (ap kind_piece c.if-kind-eq-TITLE.true)) c.put_text.ensures

pub returns-then-kind-eq-ROLE : goal.returns-then-kind-eq-ROLE
unfolding kind_piece
returns-then-kind-eq-ROLE c = puts-as (sym (ap kind_piece c.if-kind-eq-ROLE.true)) c.put_text-then-kind-eq-ROLE.ensures

pub returns : goal.returns
returns c = puts-as (no_kind _ c.if-kind-eq-TITLE.false c.if-kind-eq-ROLE.false) (done (start _))
