use mathlib.Core.Path.{ap, ◌∙◌}
use Prim.Native.Nat.{◌+◌}
use Rattle.text_words.specs.Words.{stored}
use Rattle.json_strings.proofs.Sixteen.{sixteen-copied}
use Rattle.json_strings.proofs.copy_sixteen.Goals as goal

pub returns : goal.returns
returns c =
    sixteen-copied c.args.s.now c.args.at c.args.to c.args.out.now c.word_at-a.ensures.small c.word_at-a.result c.word_at-b.result _
    c.word_at-a.ensures.is c.word_at-b.ensures.is c.requires.at_in_bounds c.requires.to_in_bounds
    (c.put_word-2.ensures ∙ ap (stored 8 c.word_at-b.result (c.args.to + 8)) c.put_word.ensures)
