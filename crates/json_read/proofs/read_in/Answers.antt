use Rattle.json_read.proofs.read_in.Goals as goal

pub verdict_on-requires : goal.verdict_on-requires
verdict_on-requires c = c.sound_value.ensures.onward

pub returns : goal.returns
returns c = c.verdict_on.ensures c.args.depth c.sound_value.ensures.judged
