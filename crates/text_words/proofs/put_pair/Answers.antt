use native.Mathlib.Omega.{arith}
use lib.ListN.{length-set}
use Rattle.text_words.proofs.Stores.{stored-two}
use Rattle.text_words.proofs.put_pair.Goals as goal

pub bounds-out-to-2 : goal.bounds-out-to-2
bounds-out-to-2 c = simp length-set (omega (arith, c.requires))

pub returns : goal.returns
returns c = stored-two c.args.w c.args.to c.args.out.now
