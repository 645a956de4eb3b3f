use Rattle.to_json_items.proofs.Own.{own-empty, own_alone, own-sought, own-noted}
use Rattle.to_json_items.proofs.is_own.Goals as goal

pub returns-then-u-eq0 : goal.returns-then-u-eq0
returns-then-u-eq0 c = own-empty c.args.u.now c.args.o.now c.requires.0 c.if-u-eq0.true

pub returns-then-o-eq0 : goal.returns-then-o-eq0
returns-then-o-eq0 c = own_alone c.args.u.now c.args.o.now c.requires.0 c.if-u-eq0.false c.if-o-eq0.true

pub is_noted-requires : goal.is_noted-requires
is_noted-requires c = record { u_value = c.requires.0; noted = c.requires.2 c.if-noted.true }

pub returns-then-noted : goal.returns-then-noted
returns-then-noted c =
    let pre = c.requires in
    let args = c.args in
    let if1 = c.if-u-eq0 in
    own-noted args.u.now args.o.now pre.0 if1.false _ c.is_noted.ensures

pub returns : goal.returns
returns c =
    let pre = c.requires in
    let args = c.args in
    let if1 = c.if-u-eq0 in
    own-sought args.u.now args.o.now pre.0 if1.false _ c.is_among.ensures
