use Rattle.output.proofs.Laws.{puts-as}
use Rattle.to_json_entry.proofs.Strings.{org-on, org-off}
use Rattle.to_json_entry.proofs.put_strings.Goals as goal

pub put_org-requires : goal.put_org-requires
put_org-requires c = c.requires.org c.if-form-eq-ORGANIZATION.true

pub returns-then-form-eq-ORGANIZATION : goal.returns-then-form-eq-ORGANIZATION
returns-then-form-eq-ORGANIZATION c =
    puts-as (org-on c.args.i c.args.form c.args.raw c.args.v.now c.if-form-eq-ORGANIZATION.true) c.put_org.ensures

pub put_string_member-requires : goal.put_string_member-requires
put_string_member-requires c = c.requires.plain c.if-form-eq-ORGANIZATION.false

pub returns : goal.returns
returns c =
    puts-as (org-off c.args.i c.args.form c.args.raw c.args.v.now c.if-form-eq-ORGANIZATION.false) c.put_string_member.ensures
