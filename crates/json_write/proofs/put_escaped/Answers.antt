use mathlib.Core.Path.{sym, ap}
use Rattle.json_text.specs.Compact.{spelled}
use Rattle.output.proofs.Laws.{puts-as}
use Rattle.json_write.proofs.Spelling.{spelled-coded, spelled-plain}
use Rattle.json_write.proofs.put_escaped.Goals as goal

pub returns-then-c-eq34 : goal.returns-then-c-eq34
unfolding spelled
returns-then-c-eq34 c = puts-as (sym (ap spelled c.if-c-eq34.true)) c.put_text.ensures

pub returns-then-c-eq92 : goal.returns-then-c-eq92
unfolding spelled
returns-then-c-eq92 c = puts-as (sym (ap spelled c.if-c-eq92.true)) c.put_text-then-c-eq92.ensures

pub returns-then-c-eq8 : goal.returns-then-c-eq8
unfolding spelled
returns-then-c-eq8 c = puts-as (sym (ap spelled c.if-c-eq8.true)) c.put_text-then-c-eq8.ensures

pub returns-then-c-eq9 : goal.returns-then-c-eq9
unfolding spelled
returns-then-c-eq9 c = puts-as (sym (ap spelled c.if-c-eq9.true)) c.put_text-then-c-eq9.ensures

pub returns-then-c-eq10 : goal.returns-then-c-eq10
unfolding spelled
returns-then-c-eq10 c = puts-as (sym (ap spelled c.if-c-eq10.true)) c.put_text-then-c-eq10.ensures

pub returns-then-c-eq12 : goal.returns-then-c-eq12
unfolding spelled
returns-then-c-eq12 c = puts-as (sym (ap spelled c.if-c-eq12.true)) c.put_text-then-c-eq12.ensures

pub returns-then-c-eq13 : goal.returns-then-c-eq13
unfolding spelled
returns-then-c-eq13 c = puts-as (sym (ap spelled c.if-c-eq13.true)) c.put_text-then-c-eq13.ensures

pub returns-then-c : goal.returns-then-c
returns-then-c c =
    let if1 = c.if-c-eq34 in
    let if2 = c.if-c-eq92 in
    let if3 = c.if-c-eq8 in
    let if4 = c.if-c-eq9 in
    let if5 = c.if-c-eq10 in
    let if6 = c.if-c-eq12 in
    let if7 = c.if-c-eq13 in
    let if8 = c.if-c in
    puts-as (spelled-coded _ if1.false if2.false if3.false if4.false if5.false if6.false if7.false if8.true)
    c.put_code.ensures

pub returns : goal.returns
returns c =
    let if1 = c.if-c-eq34 in
    let if2 = c.if-c-eq92 in
    let if3 = c.if-c-eq8 in
    let if4 = c.if-c-eq9 in
    let if5 = c.if-c-eq10 in
    let if6 = c.if-c-eq12 in
    let if7 = c.if-c-eq13 in
    let if8 = c.if-c in
    puts-as (spelled-plain _ if1.false if2.false if3.false if4.false if5.false if6.false if7.false if8.false)
    c.put_byte.ensures
