use Rattle.to_json_name.proofs.Parts.{other-family, other-suffix, other_none}
use Rattle.to_json_name.proofs.other_part.Goals as goal

pub returns-then-k-eq-SURNAME : goal.returns-then-k-eq-SURNAME
returns-then-k-eq-SURNAME c = other-family c.args.k c.if-k-eq-SURNAME.true

pub returns-then-k-eq-CREDENTIAL : goal.returns-then-k-eq-CREDENTIAL
returns-then-k-eq-CREDENTIAL c = other-suffix c.args.k c.if-k-eq-CREDENTIAL.true

pub returns : goal.returns
returns c = other_none c.args.k c.if-k-eq-SURNAME.false c.if-k-eq-CREDENTIAL.false
