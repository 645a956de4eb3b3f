use mathlib.Core.Path.{sym, ap}
use Rattle.output.proofs.Laws.{puts-as}
use Rattle.convert_put.specs.Pieces.{content_piece}
use Rattle.convert_put.proofs.Writing.{no-content}
use Rattle.json_text.specs.Compact.{spelled, spelled_all, quoted}
use Rattle.convert_put.proofs.put_content.Goals as goal

pub returns-then-i-eq-MAP : goal.returns-then-i-eq-MAP
unfolding content_piece quoted spelled_all spelled
returns-then-i-eq-MAP c = puts-as (sym (ap content_piece c.if-i-eq-MAP.true)) c.put_text.ensures

pub returns-then-i-eq-MAP-2 : goal.returns-then-i-eq-MAP-2
unfolding content_piece quoted spelled_all spelled
returns-then-i-eq-MAP-2 c = puts-as (sym (ap content_piece c.if-i-eq-MAP-2.true)) c.put_text-then-i-eq-MAP-2.ensures

pub returns-then-i-eq-MAP-3 : goal.returns-then-i-eq-MAP-3
unfolding content_piece quoted spelled_all spelled
returns-then-i-eq-MAP-3 c = puts-as (sym (ap content_piece c.if-i-eq-MAP-3.true)) c.put_text-then-i-eq-MAP-3.ensures

pub returns-then-i-eq-MAP-4 : goal.returns-then-i-eq-MAP-4
unfolding content_piece quoted spelled_all spelled
returns-then-i-eq-MAP-4 c = puts-as (sym (ap content_piece c.if-i-eq-MAP-4.true)) c.put_text-then-i-eq-MAP-4.ensures

pub returns : goal.returns
returns c = puts-as (no-content _ c.if-i-eq-MAP.false c.if-i-eq-MAP-2.false c.if-i-eq-MAP-3.false c.if-i-eq-MAP-4.false) c.put_text-2.ensures
