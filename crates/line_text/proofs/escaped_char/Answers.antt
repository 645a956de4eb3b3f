use Rattle.line.specs.Text.{escaped}
use Rattle.line_text.proofs.Reading.{escape-is, escape-bad, escape-missing, no-escape}
use Rattle.line_text.proofs.escaped_char.Goals as goal

pub returns-then-at-s : goal.returns-then-at-s
returns-then-at-s c = escape-missing c.args.s.now c.args.at c.if-at-s.true

pub returns-then-c-eq92 : goal.returns-then-c-eq92
unfolding escaped
returns-then-c-eq92 c = escape-is c.args.s.now c.args.at _ c.if-at-s.false (λ r. rw c.if-c-eq92.true)

pub returns-then-c-eq44 : goal.returns-then-c-eq44
unfolding escaped
returns-then-c-eq44 c = escape-is c.args.s.now c.args.at _ c.if-at-s.false (λ r. rw c.if-c-eq44.true)

pub returns-then-c-eq59 : goal.returns-then-c-eq59
unfolding escaped
returns-then-c-eq59 c = escape-is c.args.s.now c.args.at _ c.if-at-s.false (λ r. rw c.if-c-eq59.true)

pub returns-then-c-eq110 : goal.returns-then-c-eq110
unfolding escaped
returns-then-c-eq110 c = escape-is c.args.s.now c.args.at _ c.if-at-s.false (λ r. rw c.if-c-eq110.true)

pub returns-then-c-eq78 : goal.returns-then-c-eq78
unfolding escaped
returns-then-c-eq78 c = escape-is c.args.s.now c.args.at _ c.if-at-s.false (λ r. rw c.if-c-eq78.true)

pub returns : goal.returns
returns c =
    let args = c.args in
    let if1 = c.if-at-s in
    let if2 = c.if-c-eq92 in
    let if3 = c.if-c-eq44 in
    escape-bad args.s.now args.at if1.false
    (no-escape _ if2.false if3.false c.if-c-eq59.false c.if-c-eq110.false c.if-c-eq78.false)
