use Rattle.output.proofs.Laws.{puts-as}
use Rattle.to_json_maps.specs.Maps.{map_at}
use Rattle.to_json_maps.proofs.Heads.{head-begun, head_at, head-none, nicknames, emails, phones, links, notes, titles, organizations}
use Rattle.to_json_maps.proofs.put_map_head.Goals as goal

pub returns-then-begun : goal.returns-then-begun
returns-then-begun c = puts-as (head-begun (map_at c.args.i) c.args.begun c.if-begun.true) c.put_byte.ensures

pub returns-then-i-eq-MAP : goal.returns-then-i-eq-MAP
returns-then-i-eq-MAP c =
    let args = c.args in
    let if1 = c.if-begun in
    let if2 = c.if-i-eq-MAP in
    puts-as (head_at args.i 0 args.begun if1.false if2.true nicknames) c.put_text.ensures

pub returns-then-i-eq-MAP-2 : goal.returns-then-i-eq-MAP-2
returns-then-i-eq-MAP-2 c =
    let args = c.args in
    let if1 = c.if-begun in
    let if3 = c.if-i-eq-MAP-2 in
    puts-as (head_at args.i 1 args.begun if1.false if3.true emails) c.put_text-then-i-eq-MAP-2.ensures

pub returns-then-i-eq-MAP-3 : goal.returns-then-i-eq-MAP-3
returns-then-i-eq-MAP-3 c =
    let args = c.args in
    let if1 = c.if-begun in
    let if4 = c.if-i-eq-MAP-3 in
    puts-as (head_at args.i 2 args.begun if1.false if4.true phones) c.put_text-then-i-eq-MAP-3.ensures

pub returns-then-i-eq-MAP-4 : goal.returns-then-i-eq-MAP-4
returns-then-i-eq-MAP-4 c =
    let args = c.args in
    let if1 = c.if-begun in
    let if5 = c.if-i-eq-MAP-4 in
    puts-as (head_at args.i 3 args.begun if1.false if5.true links) c.put_text-then-i-eq-MAP-4.ensures

pub returns-then-i-eq-MAP-5 : goal.returns-then-i-eq-MAP-5
returns-then-i-eq-MAP-5 c =
    let args = c.args in
    let if1 = c.if-begun in
    let if6 = c.if-i-eq-MAP-5 in
    puts-as (head_at args.i 4 args.begun if1.false if6.true notes) c.put_text-then-i-eq-MAP-5.ensures

pub returns-then-i-eq-MAP-6 : goal.returns-then-i-eq-MAP-6
returns-then-i-eq-MAP-6 c =
    let args = c.args in
    let if1 = c.if-begun in
    let if7 = c.if-i-eq-MAP-6 in
    puts-as (head_at args.i 5 args.begun if1.false if7.true titles) c.put_text-then-i-eq-MAP-6.ensures

pub returns-then-i-eq-MAP-7 : goal.returns-then-i-eq-MAP-7
returns-then-i-eq-MAP-7 c =
    let args = c.args in
    let if1 = c.if-begun in
    let if8 = c.if-i-eq-MAP-7 in
    puts-as (head_at args.i 6 args.begun if1.false if8.true organizations) c.put_text-then-i-eq-MAP-7.ensures

pub returns : goal.returns
returns c =
    let args = c.args in
    let if1 = c.if-begun in
    let if2 = c.if-i-eq-MAP in
    let if3 = c.if-i-eq-MAP-2 in
    let if4 = c.if-i-eq-MAP-3 in
    let if5 = c.if-i-eq-MAP-4 in
    let if6 = c.if-i-eq-MAP-5 in
    let if7 = c.if-i-eq-MAP-6 in
    let if8 = c.if-i-eq-MAP-7 in
    puts-as (head-none args.i args.begun if1.false if2.false if3.false if4.false if5.false if6.false if7.false if8.false)
    c.put_text-2.ensures
