use Rattle.line_pen.proofs.Laws.{pens-as}
use Rattle.to_card_pen.proofs.Styles.{escape-backslash, escape-lf, escape-comma, escape-semi, escape-none}
use Rattle.to_card_pen.proofs.pen_escape.Goals as goal

pub returns-then-c-eq92 : goal.returns-then-c-eq92
returns-then-c-eq92 c = pens-as (escape-backslash c.args.semi _ c.if-c-eq92.true) c.pen_bytes.ensures

pub returns-then-c-eq10 : goal.returns-then-c-eq10
returns-then-c-eq10 c = pens-as (escape-lf c.args.semi _ c.if-c-eq10.true) c.pen_bytes-then-c-eq10.ensures

pub returns-then-c-eq44 : goal.returns-then-c-eq44
returns-then-c-eq44 c = pens-as (escape-comma c.args.semi _ c.if-c-eq44.true) c.pen_bytes-then-c-eq44.ensures

pub returns-then-semi-c : goal.returns-then-semi-c
returns-then-semi-c c =
    let args = c.args in
    let if1 = c.if-c-eq92 in
    let if2 = c.if-c-eq10 in
    let if3 = c.if-c-eq44 in
    let if4 = c.if-semi-c in
    pens-as (escape-semi args.semi _ if1.false if2.false if3.false if4.true) c.pen_bytes-then-semi-c.ensures

pub returns : goal.returns
returns c =
    let args = c.args in
    let if1 = c.if-c-eq92 in
    let if2 = c.if-c-eq10 in
    let if3 = c.if-c-eq44 in
    let if4 = c.if-semi-c in
    pens-as (escape-none args.semi _ if1.false if2.false if3.false if4.false) c.pen_byte.ensures
