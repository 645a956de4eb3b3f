-- The lists of bytes hold, by computation over all 256.
use mathlib.Core.Path.{refl}
use Rattle.line.specs.Listed.{ListedLine}
use Rattle.line.proofs.Opened.{line-opened}

pub line-listed : ListedLine
unfolding line-opened
line-listed =
    record {
      names = refl;
      lower-names = refl;
      not-bare = refl;
      not-quotable = refl;
      quoted = refl;
      always-quoted = refl;
      name-alone = refl;
      name-after-group = refl;
      after-name = refl;
      after-grouped = refl;
      before-parameter = refl;
      parameter-name = refl;
      after-parameter-name = refl;
      not-in-a-bare-value = refl;
      not-in-quotes = refl;
      after-quotes = refl;
      not-in-a-value = refl;
      controls = refl;
      blanks = refl;
      keys = refl;
      stems = refl;
      escapes-read = refl;
      escapes-known = refl;
      stands = refl;
      escapes-written = refl;
      escapes-in-parts = refl;
      parameters = refl;
      values = refl;
      frames = refl;
      line-ends = refl;
      sizes = refl;
      begins = refl;
      ends = refl;
      cards = refl;
      merging = refl;
      card-written = refl;
    }
