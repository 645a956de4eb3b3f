use mathlib.Core.Path.{◌∙◌, ap}
use Prim.Native.Nat.{◌+◌, ◌/◌}
use Rattle.text_words.specs.Words.{stored}
use Rattle.text_words.proofs.Stores.{stored-eight}
use Rattle.text_words.proofs.put_word.Goals as goal

pub returns : goal.returns
returns c =
    let second = c.put_half-2 in
    let args = c.args in
    second.ensures ∙ ap (stored 4 (args.w / 4294967296) (args.to + 4)) c.put_half.ensures ∙ stored-eight args.w args.to args.out.now
