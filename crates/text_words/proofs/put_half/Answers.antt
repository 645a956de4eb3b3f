use mathlib.Core.Path.{◌∙◌, ap}
use Prim.Native.Nat.{◌+◌, ◌/◌}
use Rattle.text_words.specs.Words.{stored}
use Rattle.text_words.proofs.Stores.{stored-four}
use Rattle.text_words.proofs.put_half.Goals as goal

pub returns : goal.returns
returns c =
    let second = c.put_pair-2 in
    let args = c.args in
    second.ensures ∙ ap (stored 2 (args.w / 65536) (args.to + 2)) c.put_pair.ensures ∙ stored-four args.w args.to args.out.now
