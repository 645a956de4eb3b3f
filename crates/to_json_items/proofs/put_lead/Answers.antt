use mathlib.Core.Path.{sym, ap}
use Rattle.json_text.specs.Compact.{spelled, spelled_all, quoted}
use Rattle.text.specs.Bytes.{flat}
use Rattle.output.proofs.Laws.{puts-as}
use Rattle.to_json_items.specs.Items.{lead}
use Rattle.to_json_items.proofs.Pieces.{no_lead}
use Rattle.to_json_items.proofs.put_lead.Goals as goal

pub returns-then-k-eq-SURNAME : goal.returns-then-k-eq-SURNAME
unfolding lead flat quoted spelled_all spelled
returns-then-k-eq-SURNAME c = puts-as (sym (ap lead c.if-k-eq-SURNAME.true)) c.put_text.ensures

pub returns-then-k-eq-GIVEN : goal.returns-then-k-eq-GIVEN
unfolding lead flat quoted spelled_all spelled
returns-then-k-eq-GIVEN c = puts-as (sym (ap lead c.if-k-eq-GIVEN.true)) c.put_text-then-k-eq-GIVEN.ensures

pub returns-then-k-eq-GIVEN2 : goal.returns-then-k-eq-GIVEN2
unfolding lead flat quoted spelled_all spelled
returns-then-k-eq-GIVEN2 c = puts-as (sym (ap lead c.if-k-eq-GIVEN2.true)) c.put_text-then-k-eq-GIVEN2.ensures

pub returns-then-k-eq-TITLE : goal.returns-then-k-eq-TITLE
unfolding lead flat quoted spelled_all spelled
returns-then-k-eq-TITLE c = puts-as (sym (ap lead c.if-k-eq-TITLE.true)) c.put_text-then-k-eq-TITLE.ensures

pub returns-then-k-eq-CREDENTIAL : goal.returns-then-k-eq-CREDENTIAL
unfolding lead flat quoted spelled_all spelled
returns-then-k-eq-CREDENTIAL c = puts-as (sym (ap lead c.if-k-eq-CREDENTIAL.true)) c.put_text-then-k-eq-CREDENTIAL.ensures

pub returns-then-k-eq-SURNAME2 : goal.returns-then-k-eq-SURNAME2
unfolding lead flat quoted spelled_all spelled
returns-then-k-eq-SURNAME2 c = puts-as (sym (ap lead c.if-k-eq-SURNAME2.true)) c.put_text-then-k-eq-SURNAME2.ensures

pub returns-then-k-eq-GENERATION : goal.returns-then-k-eq-GENERATION
unfolding lead flat quoted spelled_all spelled
returns-then-k-eq-GENERATION c = puts-as (sym (ap lead c.if-k-eq-GENERATION.true)) c.put_text-then-k-eq-GENERATION.ensures

pub returns : goal.returns
returns c =
    puts-as (no_lead c.args.k c.if-k-eq-SURNAME.false c.if-k-eq-GIVEN.false c.if-k-eq-GIVEN2.false c.if-k-eq-TITLE.false c.if-k-eq-CREDENTIAL.false c.if-k-eq-SURNAME2.false c.if-k-eq-GENERATION.false) c.put_text-2.ensures
