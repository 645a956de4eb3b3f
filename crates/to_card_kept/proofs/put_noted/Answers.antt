use lib.ListN.{length}
use Rattle.to_card_kept.proofs.Runs.{index-taken, ended-within, ended-puts, no_more}
use Rattle.to_card_kept.proofs.put_noted.Goals as goal

pub put_run-requires : goal.put_run-requires
put_run-requires c =
    let args = c.args in
    record {
      lent = c.requires.lent;
      indexes = index-taken args.s.now args.slots.now c.note_groups-k.new.places c.note_groups-k.new.prints c.note_groups-k.new.ends c.note_groups-k.result c.note_groups-k.ensures.1;
      at_in_bounds = c.requires.at_in_bounds;
    }

pub returns-in-Ended : goal.returns-in-Ended
returns-in-Ended c =
    let args = c.args in
    record {
      lines_within = ended-within (length args.out.now) (length args.s.now) _ c.put_run.ensures.run_in _ c.in-Ended.is;
      out_len_unchanged = c.put_run.ensures.out_len_unchanged;
      puts_from = ended-puts args.s.now args.slots.now args.at args.full args.parts args.out.now c.put_run.result _
          c.put_run.ensures.puts_run _ c.in-Ended.is;
    }

pub returns-in-More : goal.returns-in-More
returns-in-More c =
    let args = c.args in
    record {
      lines_within = tt;
      out_len_unchanged = c.put_run.ensures.out_len_unchanged;
      puts_from = absurd (no_more (length args.out.now) (length args.s.now) c.put_run.ensures.run_in _ _ _ _ c.in-More.is);
    }
