-- No loop: a branch for each row of the table of maps. In each, put_map's contract is taken for the map of that row (`nicknames-row` and its like
-- say that the constants of card_table are its names, kinds, properties and form), and `nth-is` turns it to what is asked of row k. The last branch
-- has no test: k is not 0 to 5, so where it is under seven it is six (`nth_last`). `row-six` counts the names of a row.
use Rattle.to_card_maps.proofs.Laws.{row-six, nth-is, nth_last}
use Rattle.to_card_entry.proofs.Rows.{nicknames, nicknames-row, emails, emails-row, phones, phones-row, links, links-row, notes, notes-row, titles, titles-row, organizations, organizations-row}
use Rattle.to_card_maps.proofs.put_nth.Goals as goal

pub put_map-requires : goal.put_map-requires
put_map-requires c = row-six nicknames-row

pub returns-then-k-eq-MAP : goal.returns-then-k-eq-MAP
returns-then-k-eq-MAP c =
    let args = c.args in
    let if1 = c.if-k-eq-MAP in
    record {
      lines_in = c.put_map.ensures.lines_in;
      out_len_unchanged = c.put_map.ensures.out_len_unchanged;
      puts_nth = nth-is args.s.now args.k 0 args.slot _ _ _ if1.true (λ d o h. c.put_map.ensures.puts_map nicknames nicknames-row o h);
    }

pub put_map-requires-then-k-eq-MAP-2 : goal.put_map-requires-then-k-eq-MAP-2
put_map-requires-then-k-eq-MAP-2 c = row-six emails-row

pub returns-then-k-eq-MAP-2 : goal.returns-then-k-eq-MAP-2
returns-then-k-eq-MAP-2 c =
    let args = c.args in
    let if2 = c.if-k-eq-MAP-2 in
    record {
      lines_in = c.put_map-then-k-eq-MAP-2.ensures.lines_in;
      out_len_unchanged = c.put_map-then-k-eq-MAP-2.ensures.out_len_unchanged;
      puts_nth = nth-is args.s.now args.k 1 args.slot _ _ _ if2.true (λ d o h. c.put_map-then-k-eq-MAP-2.ensures.puts_map emails emails-row o h);
    }

pub put_map-requires-then-k-eq-MAP-3 : goal.put_map-requires-then-k-eq-MAP-3
put_map-requires-then-k-eq-MAP-3 c = row-six phones-row

pub returns-then-k-eq-MAP-3 : goal.returns-then-k-eq-MAP-3
returns-then-k-eq-MAP-3 c =
    let args = c.args in
    let if3 = c.if-k-eq-MAP-3 in
    record {
      lines_in = c.put_map-then-k-eq-MAP-3.ensures.lines_in;
      out_len_unchanged = c.put_map-then-k-eq-MAP-3.ensures.out_len_unchanged;
      puts_nth = nth-is args.s.now args.k 2 args.slot _ _ _ if3.true (λ d o h. c.put_map-then-k-eq-MAP-3.ensures.puts_map phones phones-row o h);
    }

pub put_map-requires-then-k-eq-MAP-4 : goal.put_map-requires-then-k-eq-MAP-4
put_map-requires-then-k-eq-MAP-4 c = row-six links-row

pub returns-then-k-eq-MAP-4 : goal.returns-then-k-eq-MAP-4
returns-then-k-eq-MAP-4 c =
    let args = c.args in
    let if4 = c.if-k-eq-MAP-4 in
    record {
      lines_in = c.put_map-then-k-eq-MAP-4.ensures.lines_in;
      out_len_unchanged = c.put_map-then-k-eq-MAP-4.ensures.out_len_unchanged;
      puts_nth = nth-is args.s.now args.k 3 args.slot _ _ _ if4.true (λ d o h. c.put_map-then-k-eq-MAP-4.ensures.puts_map links links-row o h);
    }

pub put_map-requires-then-k-eq-MAP-5 : goal.put_map-requires-then-k-eq-MAP-5
put_map-requires-then-k-eq-MAP-5 c = row-six notes-row

pub returns-then-k-eq-MAP-5 : goal.returns-then-k-eq-MAP-5
returns-then-k-eq-MAP-5 c =
    let args = c.args in
    let if5 = c.if-k-eq-MAP-5 in
    record {
      lines_in = c.put_map-then-k-eq-MAP-5.ensures.lines_in;
      out_len_unchanged = c.put_map-then-k-eq-MAP-5.ensures.out_len_unchanged;
      puts_nth = nth-is args.s.now args.k 4 args.slot _ _ _ if5.true (λ d o h. c.put_map-then-k-eq-MAP-5.ensures.puts_map notes notes-row o h);
    }

pub put_map-requires-then-k-eq-MAP-6 : goal.put_map-requires-then-k-eq-MAP-6
put_map-requires-then-k-eq-MAP-6 c = row-six titles-row

pub returns-then-k-eq-MAP-6 : goal.returns-then-k-eq-MAP-6
returns-then-k-eq-MAP-6 c =
    let args = c.args in
    let if6 = c.if-k-eq-MAP-6 in
    record {
      lines_in = c.put_map-then-k-eq-MAP-6.ensures.lines_in;
      out_len_unchanged = c.put_map-then-k-eq-MAP-6.ensures.out_len_unchanged;
      puts_nth = nth-is args.s.now args.k 5 args.slot _ _ _ if6.true (λ d o h. c.put_map-then-k-eq-MAP-6.ensures.puts_map titles titles-row o h);
    }

pub put_map-requires-2 : goal.put_map-requires-2
put_map-requires-2 c = row-six organizations-row

pub returns : goal.returns
returns c =
    let args = c.args in
    let if1 = c.if-k-eq-MAP in
    let if2 = c.if-k-eq-MAP-2 in
    let if3 = c.if-k-eq-MAP-3 in
    let if4 = c.if-k-eq-MAP-4 in
    let if5 = c.if-k-eq-MAP-5 in
    let if6 = c.if-k-eq-MAP-6 in
    record {
      lines_in = c.put_map-2.ensures.lines_in;
      out_len_unchanged = c.put_map-2.ensures.out_len_unchanged;
      puts_nth = nth_last args.s.now args.k args.slot _ _ _ if1.false if2.false if3.false if4.false if5.false if6.false (λ d o h. c.put_map-2.ensures.puts_map organizations organizations-row o h);
    }
