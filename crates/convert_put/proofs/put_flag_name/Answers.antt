use Rattle.convert_put.proofs.Writing.{last-flag}
use mathlib.Core.Path.{sym, ap}
use Rattle.output.proofs.Laws.{puts-as}
use Rattle.convert_put.specs.Pieces.{flag_name}
use Rattle.convert_put.proofs.put_flag_name.Goals as goal

pub returns-then-c-eq-HOME : goal.returns-then-c-eq-HOME
unfolding flag_name
returns-then-c-eq-HOME c = puts-as (sym (ap flag_name c.if-c-eq-HOME.true)) c.put_text.ensures

pub returns-then-c-eq-WORK : goal.returns-then-c-eq-WORK
unfolding flag_name
returns-then-c-eq-WORK c = puts-as (sym (ap flag_name c.if-c-eq-WORK.true)) c.put_text-then-c-eq-WORK.ensures

pub returns-then-c-eq-FAX : goal.returns-then-c-eq-FAX
unfolding flag_name
returns-then-c-eq-FAX c = puts-as (sym (ap flag_name c.if-c-eq-FAX.true)) c.put_text-then-c-eq-FAX.ensures

pub returns-then-c-eq-CELL : goal.returns-then-c-eq-CELL
unfolding flag_name
returns-then-c-eq-CELL c = puts-as (sym (ap flag_name c.if-c-eq-CELL.true)) c.put_text-then-c-eq-CELL.ensures

pub returns-then-c-eq-PAGER : goal.returns-then-c-eq-PAGER
unfolding flag_name
returns-then-c-eq-PAGER c = puts-as (sym (ap flag_name c.if-c-eq-PAGER.true)) c.put_text-then-c-eq-PAGER.ensures

pub returns-then-c-eq-TEXT : goal.returns-then-c-eq-TEXT
unfolding flag_name
returns-then-c-eq-TEXT c = puts-as (sym (ap flag_name c.if-c-eq-TEXT.true)) c.put_text-then-c-eq-TEXT.ensures

pub returns-then-c-eq-TEXTPHONE : goal.returns-then-c-eq-TEXTPHONE
unfolding flag_name
returns-then-c-eq-TEXTPHONE c = puts-as (sym (ap flag_name c.if-c-eq-TEXTPHONE.true)) c.put_text-then-c-eq-TEXTPHONE.ensures

pub returns-then-c-eq-VIDEO : goal.returns-then-c-eq-VIDEO
unfolding flag_name
returns-then-c-eq-VIDEO c = puts-as (sym (ap flag_name c.if-c-eq-VIDEO.true)) c.put_text-then-c-eq-VIDEO.ensures

pub returns : goal.returns
returns c =
    let if1 = c.if-c-eq-HOME in
    let if2 = c.if-c-eq-WORK in
    let if3 = c.if-c-eq-FAX in
    let if4 = c.if-c-eq-CELL in
    let if5 = c.if-c-eq-PAGER in
    let if6 = c.if-c-eq-TEXT in
    let if7 = c.if-c-eq-TEXTPHONE in
    let if8 = c.if-c-eq-VIDEO in
    puts-as (last-flag _ if1.false if2.false if3.false if4.false if5.false if6.false if7.false if8.false)
    c.put_text-2.ensures
